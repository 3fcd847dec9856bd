-- Searches of the rows from the end back.
use Rattle.std.proofs.Common.{◌≡◌, ℕ, zero, suc, ◌+◌, ◌-◌, ◌<◌, Bool, true, false, cond, eqb, List, [], ◌∷◌, ◌++◌, length, slice_index_or, Some, None, Option, MatchOption, sym, refl, ap, ◌∙◌, subst, arith}
use Rattle.std.proofs.lemmas.Bool.{eqb-true}
use Rattle.std.specs.Option.{option_or, option_map}
use Rattle.std.specs.Iterator.Runs.{Run}
use Rattle.std.proofs.lemmas.List.{append-nil}
use Rattle.store.specs.declared.Version.{Version}
use Rattle.store.specs.Meaning.{last_of}
use Rattle.journal.specs.declared.Row.{Row}
use Rattle.journal.specs.declared.Row.TheVariants.{Staged, Installed}
use Rattle.journal.specs.declared.Held.{Held}
use Rattle.journal.specs.Rows.{version_in, staged_in, versions_of, staged_of, StagedAt, Found}
use Rattle.journal.proofs.Backward.{Gives}

no_last : {P : Type 0} (b : Bool) (v : Version P) → last_of (cond b (v ∷ []) []) ≡ None → cond b (v ∷ []) [] ≡ []
no_last true v e = let z : ◌≡◌ {A = ℕ} 0 1 = cc in absurd (omega arith)
no_last false v e = refl

pub no_version : {P : Type 0} (r : Row P) (k : ℕ) → last_of (version_in r k) ≡ None → version_in r k ≡ []
no_version (Staged i p) k e = refl
no_version (Installed i v) k e = no_last (eqb i k) v e

-- the last row that has a version of the item has its newest one
last_append : {X : Type 0} (xs ys : List X) (y : X) → last_of ys ≡ Some y → last_of (xs ++ ys) ≡ Some y
last_append [] ys y e = e
last_append (x ∷ []) [] y e = let z : ◌≡◌ {A = ℕ} 0 1 = cc in absurd (omega arith)
last_append (x ∷ []) (z ∷ ys) y e = e
last_append (x ∷ w ∷ xs) ys y e = last_append (w ∷ xs) ys y e

pub none_newest : {P : Type 0} (rows : List (Row P)) (k : ℕ) → ((m : ℕ) (d : Row P) → m < length rows → last_of (version_in (slice_index_or rows m d) k) ≡ None) →
    versions_of rows k ≡ []
none_newest [] k n = refl
none_newest (r ∷ rs) k n =
    ap (λ vs. vs ++ versions_of rs k) (no_version r k (n 0 r (omega arith))) ∙ none_newest rs k (λ m d l. n (suc m) d (omega arith))

pub some_newest : {P : Type 0} (rows : List (Row P)) (k j : ℕ) (v : Version P) → j < length rows →
    ((d : Row P) → last_of (version_in (slice_index_or rows j d) k) ≡ Some v) →
    ((m : ℕ) (d : Row P) → j < m → m < length rows → last_of (version_in (slice_index_or rows m d) k) ≡ None) → last_of (versions_of rows k) ≡ Some v
some_newest [] k j v l h n = absurd (omega (arith, l))
some_newest (r ∷ rs) k zero v l h n =
    ap (λ vs. last_of (version_in r k ++ vs)) (none_newest rs k (λ m d l. n (suc m) d (omega arith) (omega arith)))
    ∙ (ap last_of (append-nil (version_in r k)) ∙ h r)
some_newest (r ∷ rs) k (suc j) v l h n =
    last_append (version_in r k) (versions_of rs k) v (some_newest rs k j v (omega (arith, l)) h (λ m d a b. n (suc m) d (omega arith) (omega arith)))

pub none_staged : {P : Type 0} (rows : List (Row P)) (k : ℕ) → ((m : ℕ) (d : Row P) → m < length rows → staged_in (slice_index_or rows m d) k ≡ None) →
    staged_of rows k ≡ None
none_staged [] k n = refl
none_staged (r ∷ rs) k n =
    ap (λ o. option_or o (staged_of rs k)) (n 0 r (omega arith)) ∙ none_staged rs k (λ m d l. n (suc m) d (omega arith))

of_staged : {P : Type 0} (b : Bool) (p q : P) → cond b (Some p) None ≡ Some q → (b ≡ true) × (p ≡ q)
of_staged true p q e = (refl, cc)
of_staged false p q e = let z : ◌≡◌ {A = ℕ} 0 1 = cc in absurd (omega arith)

staged_row : {P : Type 0} (r : Row P) (k : ℕ) (p : P) → staged_in r k ≡ Some p → r ≡ Staged k p
staged_row (Staged i q) k p e =
    let w = of_staged (eqb i k) q p e in
    let n = eqb-true i k w.0 in
    let m = w.1 in cc
staged_row (Installed i v) k p e = let z : ◌≡◌ {A = ℕ} 0 1 = cc in absurd (omega arith)

-- a row with a staged payload of the item is the item's staged row
pub staged_here : {P : Type 0} (rows : List (Row P)) (j k : ℕ) (p : P) → j < length rows → ((d : Row P) → staged_in (slice_index_or rows j d) k ≡ Some p) → StagedAt rows j k p
staged_here [] j k p l f = absurd (omega (arith, l))
staged_here (x ∷ xs) zero k p l f = staged_row x k p (f x)
staged_here (x ∷ xs) (suc j) k p l f = staged_here xs j k p (omega (arith, l)) f

-- what the searches give
pub newest_by : {S X P : Type 0} {steps : S → Option X → S → Type 0} (p : Run steps) (v : X → Row P) (rows : List (Row P)) (k : ℕ) (r : Option (Version P)) →
    MatchOption r ((j : ℕ) (d : Row P) → j < length rows → Gives p (λ x. last_of (version_in (v x) k)) v rows j d None)
    (λ y. (j : ℕ) × (j < length rows) × ((d : Row P) → Gives p (λ x. last_of (version_in (v x) k)) v rows j d (Some y))
    × ((m : ℕ) (d : Row P) → j < m → m < length rows → Gives p (λ x. last_of (version_in (v x) k)) v rows m d None)) →
    r ≡ last_of (versions_of rows k)
newest_by p v rows k None h =
    sym (ap last_of (none_newest rows k (λ m d l. (let w = h m d l in ap (λ r. last_of (version_in r k)) (sym w.read) ∙ w.gave))))
newest_by p v rows k (Some y) (j, l, h, n) =
    sym (some_newest rows k j y l (λ d. (let w = h d in ap (λ r. last_of (version_in r k)) (sym w.read) ∙ w.gave))
    (λ m d s t. (let w = n m d s t in ap (λ r. last_of (version_in r k)) (sym w.read) ∙ w.gave)))

-- the staged row in a numbered item
abbrev pub held_in : {X P : Type 0} → (X → Row P) → ℕ → ℕ × X → Option (Held P)
held_in v k x = option_map (λ p. record { place = x.0; payload = p }) (staged_in (v x.1) k)

held_none : {P : Type 0} (j : ℕ) (o : Option P) → ◌≡◌ {A = Option (Held P)} (option_map (λ p. record { place = j; payload = p }) o) None → o ≡ None
held_none j None e = refl
held_none j (Some p) e = let z : ◌≡◌ {A = ℕ} 0 1 = cc in absurd (omega arith)

held_some : {P : Type 0} (j : ℕ) (o : Option P) (y : Held P) → ◌≡◌ {A = Option (Held P)} (option_map (λ p. record { place = j; payload = p }) o) (Some y) → (j ≡ y.place) × (o ≡ Some y.payload)
held_some j None y e = let z : ◌≡◌ {A = ℕ} 0 1 = cc in absurd (omega arith)
held_some {P = P} j (Some p) y e =
    let f : ◌≡◌ {A = Held P} (record { place = j; payload = p }) y = cc in (ap (λ h. h.place) f, ap (λ h. Some h.payload) f)

any_of : {X : Type 0} (xs : List X) → 0 < length xs → X
any_of [] l = absurd (omega (arith, l))
any_of (x ∷ xs) l = x

placed : {P : Type 0} (rows : List (Row P)) (j k i : ℕ) (y : Held P) (n : ℕ) (s t : Option P) → j < length rows → n + i + 1 ≡ length rows → i ≡ length rows - 1 - j → s ≡ t →
    ◌≡◌ {A = Option (Held P)} (option_map (λ p. record { place = n; payload = p }) s) (Some y) → (j ≡ y.place) × (t ≡ Some y.payload)
placed rows j k i y n s t l a b e g = let w = held_some n s y g in (omega (arith, w.0), sym e ∙ w.1)

pub held_by : {S X P : Type 0} {steps : S → Option (ℕ × X) → S → Type 0} (p : Run steps) (v : X → Row P) (rows : List (Row P)) (k : ℕ) (r : Option (Held P)) →
    ((i : ℕ) (x : ℕ × X) → p.at i ≡ Some x → x.0 + i + 1 ≡ length rows) →
    MatchOption r ((j : ℕ) (d : Row P) → j < length rows → Gives p (held_in v k) (λ x. v x.1) rows j d None)
    (λ y. (j : ℕ) × (j < length rows) × ((d : Row P) → Gives p (held_in v k) (λ x. v x.1) rows j d (Some y))
    × ((m : ℕ) (d : Row P) → j < m → m < length rows → Gives p (held_in v k) (λ x. v x.1) rows m d None)) →
    Found rows k r
held_by p v rows k None c h =
    none_staged rows k (λ m d l. (let w = h m d l in ap (λ r. staged_in r k) (sym w.read) ∙ held_none w.item.0 _ w.gave))
held_by p v rows k (Some y) c (j, l, h, n) =
    let at : (d : Row _) → (j ≡ y.place) × (staged_in (slice_index_or rows j d) k ≡ Some y.payload) = λ d. placed rows j k (length rows - 1 - j) y (h d).item.0 (staged_in (v (h d).item.1) k) (staged_in (slice_index_or rows j d) k) l
    (c (length rows - 1 - j) (h d).item (h d).place) refl (ap (λ r. staged_in r k) (h d).read) (h d).gave in
    let e = (at (any_of rows (omega arith))).0 in
    let Q : ℕ → Type 0 = λ m. (m < length rows) × StagedAt rows m k y.payload in
    subst Q e (l, staged_here rows j k y.payload l (λ d. (at d).1))

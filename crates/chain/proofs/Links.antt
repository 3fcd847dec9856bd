-- Places and links among the rows of a chain store.
use Rattle.std.proofs.Common.{◌≡◌, ℕ, zero, suc, ◌+◌, ◌<◌, Bool, true, false, ◌&&◌, List, [], ◌∷◌, ◌++◌, length, get_or, set, Some, None, Option, sym, refl, ap, ◌∙◌, subst, add-one, arith, length-append}
use borrow.Author.Tests.{clash}
use Rattle.std.proofs.lemmas.Bool.{eqb-true, ne_eqb, and_parts, and_from}
use Rattle.store.specs.declared.Version.{Version}
use Rattle.store.specs.Meaning.{last_of, held}
use Rattle.store.proofs.Rising.{last_more}
use Rattle.chain.specs.declared.Row.{Row}
use Rattle.chain.specs.declared.Row.TheVariants.{Free, Staged, Installed}
use Rattle.chain.specs.Rows.{look, is_free, is_staged, is_installed, next_of, version_at, payload_at, version_of, next_free, linked, along, staged_at, is_kept}

-- the row at a place
pub look_read : {P : Type 0} (rows : List (Row P)) (i : ℕ) (r d : Row P) → i < length rows → r ≡ get_or rows i d → look rows i ≡ Some r
look_read [] i r d h e = absurd (omega (arith, h))
look_read (x ∷ xs) zero r d h e = ap Some (sym e)
look_read (x ∷ xs) (suc i) r d h e = look_read xs i r d (omega (arith, h)) e

pub look_in : {P : Type 0} (is : Option (Row P) → Bool) (rows : List (Row P)) (i : ℕ) → is None ≡ false → is (look rows i) ≡ true → i < length rows
look_in is [] i f h = absurd (clash (sym f ∙ h))
look_in is (x ∷ xs) zero f h = omega arith
look_in is (x ∷ xs) (suc i) f h = let a = look_in is xs i f h in omega arith

pub look_same : {P : Type 0} (rows : List (Row P)) (j : ℕ) (x : Row P) → j < length rows → look (set rows j x) j ≡ Some x
look_same [] j x h = absurd (omega (arith, h))
look_same (y ∷ ys) zero x h = refl
look_same (y ∷ ys) (suc j) x h = look_same ys j x (omega (arith, h))

look_other : {P : Type 0} (rows : List (Row P)) (j i : ℕ) (x : Row P) → (j ≡ i → ⊥) → look (set rows j x) i ≡ look rows i
look_other [] j i x h = refl
look_other (y ∷ ys) zero zero x h = absurd (h refl)
look_other (y ∷ ys) zero (suc i) x h = refl
look_other (y ∷ ys) (suc j) zero x h = refl
look_other (y ∷ ys) (suc j) (suc i) x h = look_other ys j i x (λ e. h (ap suc e))

-- two places of which one is of a kind and the other is not
apart : {P : Type 0} (is : Option (Row P) → Bool) (rows : List (Row P)) (j i : ℕ) → is (look rows j) ≡ false → is (look rows i) ≡ true → j ≡ i → ⊥
apart is rows j i f t e = clash (sym f ∙ (ap (λ n. is (look rows n)) e ∙ t))

-- linked rows stay linked when a row of another kind is written
pub linked_set : {P : Type 0} (is : Option (Row P) → Bool) (rows : List (Row P)) (j : ℕ) (x : Row P) (n : ℕ) (o : Option ℕ) →
    is (look rows j) ≡ false → linked is rows n o ≡ true → linked is (set rows j x) n o ≡ true
linked_set is rows j x zero None f p = refl
linked_set is rows j x zero (Some h) f p = p
linked_set is rows j x (suc n) None f p = p
linked_set is rows j x (suc n) (Some h) f p =
    let ps = and_parts (is (look rows h)) (linked is rows n (next_of (look rows h))) p in
    let Q : Option (Row _) → Type 0 = λ r. (is r && linked is (set rows j x) n (next_of r)) ≡ true in
    subst Q (sym (look_other rows j h x (apart is rows j h f ps.0)))
    (and_from (is (look rows h)) _ ps.0 (linked_set is rows j x n (next_of (look rows h)) f ps.1))

pub along_set : {P : Type 0} (k : ℕ) (rows : List (Row P)) (j : ℕ) (x : Row P) (n : ℕ) (o : Option ℕ) →
    is_installed k (look rows j) ≡ false → linked (is_installed k) rows n o ≡ true → along (set rows j x) n o ≡ along rows n o
along_set k rows j x zero o f p = refl
along_set k rows j x (suc n) None f p = refl
along_set k rows j x (suc n) (Some h) f p =
    let ps = and_parts (is_installed k (look rows h)) (linked (is_installed k) rows n (next_of (look rows h))) p in
    ap (λ r. along (set rows j x) n (next_of r) ++ version_at r) (look_other rows j h x (apart (is_installed k) rows j h f ps.0))
    ∙ ap (λ vs. vs ++ version_at (look rows h)) (along_set k rows j x n (next_of (look rows h)) f ps.1)

-- rows linked from a place are as many as they are
linked_len : {P : Type 0} (is : Option (Row P) → Bool) (rows : List (Row P)) (a b : ℕ) (o : Option ℕ) →
    linked is rows a o ≡ true → linked is rows b o ≡ true → a ≡ b
linked_len is rows zero zero o p q = refl
linked_len is rows zero (suc b) None p q = absurd (clash q)
linked_len is rows zero (suc b) (Some h) p q = absurd (clash p)
linked_len is rows (suc a) zero None p q = absurd (clash p)
linked_len is rows (suc a) zero (Some h) p q = absurd (clash q)
linked_len is rows (suc a) (suc b) None p q = absurd (clash p)
linked_len is rows (suc a) (suc b) (Some h) p q =
    ap suc (linked_len is rows a b (next_of (look rows h)) (and_parts (is (look rows h)) _ p).1 (and_parts (is (look rows h)) _ q).1)

-- so what comes after a row never comes back to it
pub linked_past : {P : Type 0} (is : Option (Row P) → Bool) (rows : List (Row P)) (j : ℕ) (x : Row P) (n m : ℕ) (o : Option ℕ) →
    linked is rows n (Some j) ≡ true → m < n → linked is rows m o ≡ true → linked is (set rows j x) m o ≡ true
linked_past is rows j x n zero None w l p = refl
linked_past is rows j x n zero (Some h) w l p = p
linked_past is rows j x n (suc m) None w l p = p
linked_past is rows j x n (suc m) (Some h) w l p =
    let ps = and_parts (is (look rows h)) (linked is rows m (next_of (look rows h))) p in
    let R : ℕ → Type 0 = λ i. linked is rows n (Some i) ≡ true in
    let ne : j ≡ h → ⊥ = λ e. let s = linked_len is rows n (suc m) (Some h) (subst R e w) p in omega arith in
    let Q : Option (Row _) → Type 0 = λ r. (is r && linked is (set rows j x) m (next_of r)) ≡ true in
    subst Q (sym (look_other rows j h x ne))
    (and_from (is (look rows h)) _ ps.0 (linked_past is rows j x n m (next_of (look rows h)) w (omega arith) ps.1))

pub staged_set : {P : Type 0} (k : ℕ) (rows : List (Row P)) (j : ℕ) (x : Row P) (o : Option ℕ) → is_staged k (look rows j) ≡ false → is_kept rows k o ≡ true →
    (staged_at (set rows j x) o ≡ staged_at rows o) × (is_kept (set rows j x) k o ≡ true)
staged_set k rows j x None f h = (refl, refl)
staged_set k rows j x (Some m) f h =
    let e = look_other rows j m x (apart (is_staged k) rows j m f h) in (ap payload_at e, ap (is_staged k) e ∙ h)

-- kinds of rows
pub staged_uninstalled : {P : Type 0} (i k : ℕ) (o : Option (Row P)) → is_staged i o ≡ true → is_installed k o ≡ false
staged_uninstalled i k None h = refl
staged_uninstalled i k (Some (Free n)) h = refl
staged_uninstalled i k (Some (Staged m p)) h = refl
staged_uninstalled i k (Some (Installed m v b)) h = absurd (clash h)

pub staged_unfree : {P : Type 0} (i : ℕ) (o : Option (Row P)) → is_staged i o ≡ true → is_free o ≡ false
staged_unfree i None h = refl
staged_unfree i (Some (Free n)) h = absurd (clash h)
staged_unfree i (Some (Staged m p)) h = refl
staged_unfree i (Some (Installed m v b)) h = refl

pub staged_once : {P : Type 0} (i k : ℕ) (o : Option (Row P)) → is_staged i o ≡ true → (i ≡ k → ⊥) → is_staged k o ≡ false
staged_once i k None h ne = refl
staged_once i k (Some (Free n)) h ne = refl
staged_once i k (Some (Staged m p)) h ne = ne_eqb m k (λ e. ne (sym (eqb-true m i h) ∙ e))
staged_once i k (Some (Installed m v b)) h ne = refl

pub free_uninstalled : {P : Type 0} (k : ℕ) (o : Option (Row P)) → is_free o ≡ true → is_installed k o ≡ false
free_uninstalled k None h = refl
free_uninstalled k (Some (Free n)) h = refl
free_uninstalled k (Some (Staged m p)) h = refl
free_uninstalled k (Some (Installed m v b)) h = absurd (clash h)

pub free_unstaged : {P : Type 0} (k : ℕ) (o : Option (Row P)) → is_free o ≡ true → is_staged k o ≡ false
free_unstaged k None h = refl
free_unstaged k (Some (Free n)) h = refl
free_unstaged k (Some (Staged m p)) h = absurd (clash h)
free_unstaged k (Some (Installed m v b)) h = refl

pub staged_held : {P : Type 0} (i : ℕ) (o : Option (Row P)) → is_staged i o ≡ true → held (payload_at o) ≡ 1
staged_held i None h = absurd (clash h)
staged_held i (Some (Free n)) h = absurd (clash h)
staged_held i (Some (Staged m p)) h = refl
staged_held i (Some (Installed m v b)) h = absurd (clash h)

-- a row in front of linked ones
pub linked_cons : {P : Type 0} (is : Option (Row P) → Bool) (rows : List (Row P)) (j n : ℕ) (r : Row P) → look rows j ≡ Some r → is (Some r) ≡ true →
    linked is rows n (next_of (Some r)) ≡ true → linked is rows (n + 1) (Some j) ≡ true
linked_cons is rows j n r e t p =
    let Q : Option (Row _) → Type 0 = λ o. (is o && linked is rows n (next_of o)) ≡ true in
    let w : linked is rows (suc n) (Some j) ≡ true = subst Q (sym e) (and_from (is (Some r)) _ t p) in
    ap (λ m. linked is rows m (Some j)) (add-one n) ∙ w

pub linked_head : {P : Type 0} (is : Option (Row P) → Bool) (rows : List (Row P)) (n j : ℕ) → linked is rows n (Some j) ≡ true → (is (look rows j) ≡ true) × (0 < n)
linked_head is rows zero j p = absurd (clash p)
linked_head is rows (suc n) j p = ((and_parts (is (look rows j)) _ p).0, omega arith)

next_free_lem : {P : Type 0} (r : Row P) → is_free (Some r) ≡ true → next_of (Some r) ≡ next_free r
next_free_lem (Free n) h = refl
next_free_lem (Staged i p) h = absurd (clash h)
next_free_lem (Installed i v b) h = absurd (clash h)

pub free_next : {P : Type 0} (rows : List (Row P)) (j n m : ℕ) (x r : Row P) → linked is_free rows n (Some j) ≡ true → suc m ≡ n → look rows j ≡ Some r →
    linked is_free (set rows j x) m (next_free r) ≡ true
free_next rows j n m x r p e f =
    let R : ℕ → Type 0 = λ a. linked is_free rows a (Some j) ≡ true in
    let ps = and_parts (is_free (look rows j)) (linked is_free rows m (next_of (look rows j))) (subst R (sym e) p) in
    linked_past is_free rows j x n m (next_free r) p (omega arith)
    (let Q : Option ℕ → Type 0 = λ o. linked is_free rows m o ≡ true in
    subst Q (ap next_of f ∙ next_free_lem r (ap is_free (sym f) ∙ ps.0)) ps.1)

pub none_left : {P : Type 0} (rows : List (Row P)) (n : ℕ) (o : Option ℕ) → o ≡ None → linked is_free rows n o ≡ true → n ≡ 0
none_left rows zero o e p = refl
none_left rows (suc n) None e p = absurd (clash p)
none_left rows (suc n) (Some h) e p = let z : ◌≡◌ {A = ℕ} 0 1 = cc in absurd (omega arith)

newest_installed : {P : Type 0} (k : ℕ) (vs : List (Version P)) (r : Row P) → is_installed k (Some r) ≡ true → last_of (vs ++ version_at (Some r)) ≡ version_of r
newest_installed k vs (Free n) h = absurd (clash h)
newest_installed k vs (Staged i p) h = absurd (clash h)
newest_installed k vs (Installed i v b) h = last_more vs v

newest_at_lem : {P : Type 0} (k : ℕ) (rows : List (Row P)) (n j : ℕ) (r : Row P) → linked (is_installed k) rows n (Some j) ≡ true → look rows j ≡ Some r →
    last_of (along rows n (Some j)) ≡ version_of r
newest_at_lem k rows zero j r p f = absurd (clash p)
newest_at_lem k rows (suc n) j r p f =
    ap (λ t. last_of (along rows n (next_of (look rows j)) ++ version_at t)) f
    ∙ newest_installed k (along rows n (next_of (look rows j))) r (ap (is_installed k) (sym f) ∙ (and_parts (is_installed k (look rows j)) _ p).0)

pub newest_some : {P : Type 0} (k : ℕ) (rows : List (Row P)) (n j : ℕ) (o : Option ℕ) (r : Row P) → o ≡ Some j → linked (is_installed k) rows n o ≡ true → look rows j ≡ Some r →
    last_of (along rows n o) ≡ version_of r
newest_some k rows n j o r e p f =
    let Q : Option ℕ → Type 0 = λ t. linked (is_installed k) rows n t ≡ true in
    ap (λ t. last_of (along rows n t)) e ∙ newest_at_lem k rows n j r (subst Q e p) f

along_none : {P : Type 0} (rows : List (Row P)) (n : ℕ) → last_of (along rows n None) ≡ None
along_none rows zero = refl
along_none rows (suc n) = refl

pub newest_none : {P : Type 0} (rows : List (Row P)) (n : ℕ) (o : Option ℕ) → o ≡ None → last_of (along rows n o) ≡ None
newest_none rows n o e = ap (λ t. last_of (along rows n t)) e ∙ along_none rows n

one_installed : {P : Type 0} (k : ℕ) (o : Option (Row P)) → is_installed k o ≡ true → length (version_at o) ≡ 1
one_installed k None h = absurd (clash h)
one_installed k (Some (Free n)) h = absurd (clash h)
one_installed k (Some (Staged i p)) h = absurd (clash h)
one_installed k (Some (Installed i v b)) h = refl

pub length_along : {P : Type 0} (k : ℕ) (rows : List (Row P)) (n : ℕ) (o : Option ℕ) → linked (is_installed k) rows n o ≡ true → length (along rows n o) ≡ n
length_along k rows zero o p = refl
length_along k rows (suc n) None p = absurd (clash p)
length_along k rows (suc n) (Some h) p =
    let ps = and_parts (is_installed k (look rows h)) (linked (is_installed k) rows n (next_of (look rows h))) p in
    let a = length_along k rows n (next_of (look rows h)) ps.1 in
    let b = length-append (along rows n (next_of (look rows h))) (version_at (look rows h)) in
    let c = one_installed k (look rows h) ps.0 in omega arith

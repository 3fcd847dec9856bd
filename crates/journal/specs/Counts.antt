-- The rows of a journal are as many as its versions and staged payloads, and so within its capacity.
use Rattle.std.proofs.Common.{◌≡◌, ℕ, zero, suc, ◌+◌, ◌<◌, ◌≤◌, Bool, true, false, cond, not, ◌&&◌, eqb, ltb, List, [], ◌∷◌, ◌++◌, length, Some, None, Option, sym, refl, ap, ◌∙◌, arith}
use Rattle.std.specs.Option.{option_or}
use Rattle.std.proofs.lemmas.Bool.{eqb-true, not-true, and_parts, ltb-true, cond-true, cond-false, lt-ltb, le-ltb}
use Rattle.std.proofs.lemmas.Bool.Decides.{nat_tests}
use Rattle.store.specs.declared.Version.{Version}
use Rattle.store.specs.Meaning.{used, held}
use Rattle.store.proofs.Changing.{used_none}
use Rattle.journal.specs.declared.Row.{Row}
use Rattle.journal.specs.declared.Row.TheVariants.{Staged, Installed}
use Rattle.journal.specs.Rows.{item_of, staged_in, versions_of, staged_of, absent, precedes, sound}

pub sound_parts : {P : Type 0} (n : ℕ) (r : Row P) (rs : List (Row P)) → sound n (r ∷ rs) ≡ true →
    (item_of r < n) × (precedes r rs ≡ true) × (sound n rs ≡ true)
sound_parts n r rs h =
    let a = and_parts (ltb (item_of r) n) (precedes r rs && sound n rs) h in
    let b = and_parts (precedes r rs) (sound n rs) a.1 in
    (ltb-true (item_of r) n a.0, b.0, b.1)

pub absent_parts : {P : Type 0} (k : ℕ) (r : Row P) (rs : List (Row P)) → absent k (r ∷ rs) ≡ true → (eqb (item_of r) k ≡ false) × (absent k rs ≡ true)
absent_parts k r rs a =
    let p = and_parts (not (eqb (item_of r) k)) (absent k rs) a in (not-true (eqb (item_of r) k) p.0, p.1)

-- a row of another item has no staged payload of this one
pub other_staged : {P : Type 0} (r : Row P) (k : ℕ) → eqb (item_of r) k ≡ false → staged_in r k ≡ None
other_staged (Staged i p) k e = cond-false (eqb i k) (Some p) None e
other_staged (Installed i v) k e = refl

pub absent_staged : {P : Type 0} (rows : List (Row P)) (k : ℕ) → absent k rows ≡ true → staged_of rows k ≡ None
absent_staged [] k a = refl
absent_staged (r ∷ rs) k a =
    let p = absent_parts k r rs a in
    ap (λ o. option_or o (staged_of rs k)) (other_staged r k p.0) ∙ absent_staged rs k p.1

staged_one : {P : Type 0} (b : Bool) (p : P) (vs : List (Version P)) (o : Option P) → (b ≡ true → o ≡ None) →
    length vs + held (option_or (cond b (Some p) None) o) ≡ cond b 1 0 + (length vs + held o)
staged_one true p vs o h = let e : held o ≡ 0 = ap held (h refl) in omega arith
staged_one false p vs o h = omega arith

installed_one : {P : Type 0} (b : Bool) (v : Version P) (vs : List (Version P)) (o : Option P) →
    length (cond b (v ∷ []) [] ++ vs) + held o ≡ cond b 1 0 + (length vs + held o)
installed_one true v vs o = omega arith
installed_one false v vs o = omega arith

-- a row is one version or one staged payload of its item
one_row : {P : Type 0} (r : Row P) (rs : List (Row P)) (k : ℕ) → precedes r rs ≡ true →
    length (versions_of (r ∷ rs) k) + held (staged_of (r ∷ rs) k) ≡ cond (eqb (item_of r) k) 1 0 + (length (versions_of rs k) + held (staged_of rs k))
one_row (Staged i p) rs k h =
    staged_one (eqb i k) p (versions_of rs k) (staged_of rs k) (λ e. absent_staged rs k (ap (λ m. absent m rs) (sym (eqb-true i k e)) ∙ h))
one_row (Installed i v) rs k h = installed_one (eqb i k) v (versions_of rs k) (staged_of rs k)

count_step : (a m : ℕ) → cond (ltb a (suc m)) 1 0 ≡ cond (ltb a m) 1 0 + cond (eqb a m) 1 0
count_step a m = grind (arith, nat_tests)

used_cons : {P : Type 0} (r : Row P) (rs : List (Row P)) → precedes r rs ≡ true → (m : ℕ) →
    used (versions_of (r ∷ rs)) (staged_of (r ∷ rs)) m ≡ used (versions_of rs) (staged_of rs) m + cond (ltb (item_of r) m) 1 0
used_cons r rs h zero = ap (λ b. 0 + cond b 1 0) (sym (le-ltb (item_of r) 0 (omega arith)))
used_cons r rs h (suc m) =
    let a = used_cons r rs h m in
    let b = one_row r rs m h in
    let c = count_step (item_of r) m in omega arith

pub used_is : {P : Type 0} (n : ℕ) (rows : List (Row P)) → sound n rows ≡ true → used (versions_of rows) (staged_of rows) n ≡ length rows
used_is {P = P} n [] h = used_none P n
used_is n (r ∷ rs) h =
    let q = sound_parts n r rs h in
    let a = used_cons r rs q.1 n in
    let b = used_is n rs q.2 in
    let c : ◌≡◌ {A = ℕ} (cond (ltb (item_of r) n) 1 0) 1 = cond-true (ltb (item_of r) n) 1 0 (lt-ltb (item_of r) n q.0) in omega arith

-- what the law `fits` says of a journal
pub rows_fit : {P : Type 0} (n : ℕ) (rows : List (Row P)) (len capacity : ℕ) → sound n rows ≡ true → len ≡ length rows → len ≤ capacity →
    used (versions_of rows) (staged_of rows) n ≤ capacity
rows_fit n rows len capacity h e l = let u = used_is n rows h in omega arith

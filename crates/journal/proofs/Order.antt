-- The order of a journal's rows, and what it says of the item of a staged row.
use Rattle.std.proofs.Common.{◌≡◌, ℕ, zero, suc, true, false, eqb, List, [], ◌∷◌, ◌++◌, is_some, Some, None, Option, sym, refl, ap, ◌∙◌, subst, inl, inr}
use borrow.Author.Tests.{clash}
use Rattle.std.specs.Option.{option_or, option_map}
use Rattle.std.proofs.lemmas.Bool.{eq-eqb, cond-true, cond-false}
use Rattle.std.proofs.lemmas.Bool.Decides.{eqb_tells}
use Rattle.journal.specs.declared.Held.{Held}
use Rattle.journal.specs.declared.Row.{Row}
use Rattle.journal.specs.declared.Row.TheVariants.{Staged, Installed}
use Rattle.journal.specs.Counts.{sound_parts, absent_parts}
use Rattle.journal.specs.Rows.{item_of, version_in, staged_in, versions_of, staged_of, absent, precedes, sound, StagedAt, Found}

-- a row of another item has nothing of this one
pub other_version : {P : Type 0} (r : Row P) (k : ℕ) → eqb (item_of r) k ≡ false → version_in r k ≡ []
other_version (Staged i p) k e = refl
other_version (Installed i v) k e = cond-false (eqb i k) (v ∷ []) [] e

pub absent_versions : {P : Type 0} (rows : List (Row P)) (k : ℕ) → absent k rows ≡ true → versions_of rows k ≡ []
absent_versions [] k a = refl
absent_versions (r ∷ rs) k a =
    let p = absent_parts k r rs a in
    ap (λ vs. vs ++ versions_of rs k) (other_version r k p.0) ∙ absent_versions rs k p.1

pub staged_self : {P : Type 0} (k : ℕ) (p : P) → staged_in (Staged k p) k ≡ Some p
staged_self k p = cond-true (eqb k k) (Some p) None (eq-eqb k k refl)

-- an item with a staged row is not absent
present : {P : Type 0} (rows : List (Row P)) (j k : ℕ) (p : P) → absent k rows ≡ true → StagedAt rows j k p → ⊥
present [] j k p a s = s
present (r ∷ rs) zero k p a s = clash (sym (absent_parts k r rs a).0 ∙ (ap (λ x. eqb (item_of x) k) s ∙ eq-eqb k k refl))
present (r ∷ rs) (suc j) k p a s = present rs j k p (absent_parts k r rs a).1 s

-- no row before an item's staged one has a staged payload of it
pub none_before : {P : Type 0} (r : Row P) (rs : List (Row P)) (j k : ℕ) (p : P) → precedes r rs ≡ true → StagedAt rs j k p → staged_in r k ≡ None
none_before (Staged i q) rs j k p h s =
    elim (eqb_tells i k) [ inl w ↦ absurd (present rs j k p (ap (λ m. absent m rs) (sym w.1) ∙ h) s) | inr w ↦ cond-false (eqb i k) (Some q) None w.0 ]
none_before (Installed i v) rs j k p h s = refl

-- no row of the item comes after its staged one
pub none_after : {P : Type 0} (r : Row P) (rs : List (Row P)) (k : ℕ) (p : P) → precedes r rs ≡ true → r ≡ Staged k p → absent k rs ≡ true
none_after r rs k p h e = ap (λ x. precedes x rs) (sym e) ∙ h

-- the item's staged payload is that of its staged row
pub staged_at_lem : {P : Type 0} (n : ℕ) (rows : List (Row P)) (j k : ℕ) (p : P) → sound n rows ≡ true → StagedAt rows j k p → staged_of rows k ≡ Some p
staged_at_lem n [] j k p h s = absurd s
staged_at_lem n (r ∷ rs) zero k p h s =
    ap (λ x. option_or (staged_in x k) (staged_of rs k)) s ∙ ap (λ o. option_or o (staged_of rs k)) (staged_self k p)
staged_at_lem n (r ∷ rs) (suc j) k p h s =
    let q = sound_parts n r rs h in
    ap (λ o. option_or o (staged_of rs k)) (none_before r rs j k p q.1 s) ∙ staged_at_lem n rs j k p q.2 s

pub found_at : {P : Type 0} (rows : List (Row P)) (k : ℕ) (r : Option (Held P)) (x : Held P) → r ≡ Some x → Found rows k r → StagedAt rows x.place k x.payload
found_at rows k r x e f = let Q : Option (Held _) → Type 0 = λ o. Found rows k o in (subst Q e f).1

-- the payload that a search found is the item's
pub found_payload : {P : Type 0} (n : ℕ) (rows : List (Row P)) (k : ℕ) (r : Option (Held P)) → sound n rows ≡ true → Found rows k r → option_map (λ h. h.payload) r ≡ staged_of rows k
found_payload n rows k None h f = sym f
found_payload n rows k (Some x) h f = sym (staged_at_lem n rows x.place k x.payload h f.1)

pub is_staged_lem : {P : Type 0} (n : ℕ) (rows : List (Row P)) (j k : ℕ) (p : P) → sound n rows ≡ true → StagedAt rows j k p → is_some (staged_of rows k) ≡ true
is_staged_lem n rows j k p h s = ap is_some (staged_at_lem n rows j k p h s)

-- A row of versions that grows at its end: the newest one, and rising times.
use Rattle.std.proofs.Common.{◌≡◌, Bool, true, false, cond, ltb, List, [], ◌∷◌, ◌++◌, Some, refl, ◌∙◌}
use borrow.Author.Tests.{clash}
use Rattle.std.proofs.lemmas.Bool.{cond-true}
use Rattle.store.specs.declared.Version.{Version}
use Rattle.store.specs.Meaning.{last_of, later, rising, above}

pub last_more : {X : Type 0} (xs : List X) (x : X) → last_of (xs ++ (x ∷ [])) ≡ Some x
last_more [] x = refl
last_more (y ∷ []) x = refl
last_more (y ∷ z ∷ r) x = last_more (z ∷ r) x

cond_parts : (b a : Bool) → cond b a false ≡ true → (b ≡ true) × (a ≡ true)
cond_parts true a h = (refl, h)
cond_parts false a h = (h, absurd (clash h))

cond_from : (b a : Bool) → b ≡ true → a ≡ true → cond b a false ≡ true
cond_from b a h e = cond-true b a false h ∙ e

above_grow : {P : Type 0} (x : Version P) (xs : List (Version P)) (v : Version P) → above x.time xs ≡ true →
    later (last_of (x ∷ xs)) v.time ≡ true → above x.time (xs ++ (v ∷ [])) ≡ true
above_grow x [] v h l = cond_from (ltb x.time v.time) true l refl
above_grow x (y ∷ ys) v h l =
    let ps = cond_parts (ltb x.time y.time) (above y.time ys) h in
    cond_from (ltb x.time y.time) (above y.time (ys ++ (v ∷ []))) ps.0 (above_grow y ys v ps.1 l)

-- times go on rising under a version later than the newest
pub rising_grow : {P : Type 0} (vs : List (Version P)) (v : Version P) → rising vs ≡ true → later (last_of vs) v.time ≡ true →
    rising (vs ++ (v ∷ [])) ≡ true
rising_grow [] v h l = refl
rising_grow (x ∷ xs) v h l = above_grow x xs v h l

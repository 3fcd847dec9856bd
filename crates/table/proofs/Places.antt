-- What stands at the place of the first record that has a number.
use Rattle.std.proofs.Common.{◌≡◌, ℕ, suc, ◌+◌, Bool, true, false, cond, not, eqb, List, [], ◌∷◌, length, get_or, set, Some, None, refl, ap, ◌∙◌, arith, rules, position, take, zero}
use Rattle.std.specs.List.{remove, position_or_len}
use Rattle.std.proofs.lemmas.List.Folds.{find_at}
use Rattle.std.proofs.lemmas.Option.{slice_get_past, slice_get_read}
use Rattle.table.specs.Contents.{has, find_in, nth_in, without, stepped}

next : (n : ℕ) → 1 + n ≡ suc n
next n = omega arith

without_in : {X : Type 0} (num : X → ℕ) (xs : List X) (n : ℕ) → remove xs (position_or_len (has num n) xs) ≡ without num xs n
without_in num [] n = refl
without_in num (x ∷ xs) n =
    let at = position_or_len (has num n) xs in
    let P : Bool → Type 0 = λ b. remove (x ∷ xs) (cond (not b) (1 + at) 0) ≡ cond b xs (x ∷ without num xs n) in
    elim (eqb (num x) n) as P [ true ↦ refl | false ↦ ap (remove (x ∷ xs)) (next at) ∙ ap (λ ys. x ∷ ys) (without_in num xs n) ]

stepped_in : {X V : Type 0} (num : X → ℕ) (step : X → V → X) (xs : List X) (n : ℕ) (e : V) (d : X) → d ≡ get_or xs (position_or_len (has num n) xs) d →
    set xs (position_or_len (has num n) xs) (step d e) ≡ stepped num step xs n e
stepped_in num step [] n e d q = refl
stepped_in num step (x ∷ xs) n e d q =
    let at = position_or_len (has num n) xs in
    let P : Bool → Type 0 = λ b. d ≡ get_or (x ∷ xs) (cond (not b) (1 + at) 0) d →
    set (x ∷ xs) (cond (not b) (1 + at) 0) (step d e) ≡ cond b (step x e ∷ xs) (x ∷ stepped num step xs n e) in
    let all : (b : Bool) → P b = λ b. elim b as P [
      | true ↦ (λ f. ap (λ y. step y e ∷ xs) f)
      | false ↦ (λ f.
          ap (λ k. set (x ∷ xs) k (step d e)) (next at)
          ∙ ap (λ ys. x ∷ ys) (stepped_in num step xs n e d (f ∙ ap (λ k. get_or (x ∷ xs) k d) (next at))))
    ] in
    all (eqb (num x) n) q

-- where the first record that has the number stands
pub without_at : {X : Type 0} (num : X → ℕ) (xs : List X) (n i : ℕ) → position (has num n) xs ≡ Some i → remove xs i ≡ without num xs n
without_at num xs n i h = grind (arith, h, without_in num xs n)

pub stepped_at : {X V : Type 0} (num : X → ℕ) (step : X → V → X) (xs : List X) (n : ℕ) (e : V) (i : ℕ) (d : X) →
    position (has num n) xs ≡ Some i → d ≡ get_or xs i d → set xs i (step d e) ≡ stepped num step xs n e
stepped_at num step xs n e i d h q = grind (arith, h, q, stepped_in num step xs n e d)

pub found_at : {X : Type 0} (num : X → ℕ) (xs : List X) (n i : ℕ) (d : X) →
    position (has num n) xs ≡ Some i → d ≡ get_or xs i d → find_in num xs n ≡ Some d
found_at num xs n i d h q = grind (arith, h, find_at (has num n) xs, slice_get_read xs (length xs) i d refl, q)

pub found_nth : {X : Type 0} (num : X → ℕ) (xs : List X) (n i : ℕ) → position (has num n) xs ≡ Some i → nth_in xs i ≡ find_in num xs n
found_nth num xs n i h = grind (arith, h, find_at (has num n) xs)

-- where none has it
pub found_none : {X : Type 0} (num : X → ℕ) (xs : List X) (n : ℕ) → position (has num n) xs ≡ None → find_in num xs n ≡ None
found_none num xs n h = grind (arith, h, find_at (has num n) xs, slice_get_past xs (position_or_len (has num n) xs))

unfound : {X : Type 0} (num : X → ℕ) (xs : List X) (n : ℕ) → find_in num xs n ≡ None → xs ≡ without num xs n
unfound num [] n h = refl
unfound num (x ∷ xs) n h = grind (rules, h, unfound num xs n)

unmoved : {X V : Type 0} (num : X → ℕ) (step : X → V → X) (xs : List X) (n : ℕ) (e : V) → find_in num xs n ≡ None → xs ≡ stepped num step xs n e
unmoved num step [] n e h = refl
unmoved num step (x ∷ xs) n e h = grind (rules, h, unmoved num step xs n e)

pub without_none : {X : Type 0} (num : X → ℕ) (xs : List X) (n : ℕ) → position (has num n) xs ≡ None → xs ≡ without num xs n
without_none num xs n h = unfound num xs n (found_none num xs n h)

pub stepped_none : {X V : Type 0} (num : X → ℕ) (step : X → V → X) (xs : List X) (n : ℕ) (e : V) → position (has num n) xs ≡ None → xs ≡ stepped num step xs n e
stepped_none num step xs n e h = unmoved num step xs n e (found_none num xs n h)

pub take_set : {X : Type 0} (n : ℕ) (xs : List X) (i : ℕ) (x : X) → take n (set xs i x) ≡ set (take n xs) i x
take_set zero [] i x = refl
take_set zero (y ∷ ys) i x = refl
take_set (suc n) [] i x = refl
take_set (suc n) (y ∷ ys) zero x = refl
take_set (suc n) (y ∷ ys) (suc i) x = ap (λ zs. y ∷ zs) (take_set n ys i x)

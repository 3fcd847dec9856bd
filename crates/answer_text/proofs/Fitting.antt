-- What fits into a text.
use Rattle.std.proofs.Common.{◌≡◌, ℕ, zero, suc, ◌+◌, ◌<◌, ◌≤◌, true, List, [], ◌∷◌, ◌++◌, length, get_or, take, flat_map, ℤ, pos, negsuc, Ok, Err, Result, IsOk, OnOk, arith, rules, length-append, append-nil, append_assoc, sym, ap, ◌∙◌}
use Rattle.std.specs.Fmt.{signed_decimal}
use Rattle.std.proofs.lemmas.Fmt.{length_signed_le}
use Rattle.pose.specs.Degrees.{in_turn}
use Rattle.pose.proofs.Wholes.{above, below}

-- a piece fits behind those before it where all fit
pub next_fits : {X : Type 0} (f : X → List ℕ) (xs : List X) (i : ℕ) (d : X) → i < length xs → length (flat_map f (take i xs)) + length (f (get_or xs i d)) ≤ length (flat_map f xs)
next_fits f [] i d h = absurd (omega arith)
next_fits f (x ∷ xs) zero d h = omega (arith, length-append (f x) (flat_map f xs))
next_fits f (x ∷ xs) (suc i) d h =
    omega (arith, length-append (f x) (flat_map f xs), length-append (f x) (flat_map f (take i xs)), next_fits f xs i d (omega arith))

-- the pieces with one more
pub one_more : {X : Type 0} (f : X → List ℕ) (xs : List X) (i : ℕ) (d : X) → i < length xs → flat_map f (take i xs) ++ f (get_or xs i d) ≡ flat_map f (take (suc i) xs)
one_more f [] i d h = absurd (omega arith)
one_more f (x ∷ xs) zero d h = sym (append-nil (f x))
one_more f (x ∷ xs) (suc i) d h = append_assoc (f x) (flat_map f (take i xs)) (f (get_or xs i d)) ∙ ap (λ t. f x ++ t) (one_more f xs i d (omega arith))

-- whole degrees take at most four bytes
pub length_degrees : (z : ℤ) → in_turn z ≡ true → length (signed_decimal z) ≤ 4
length_degrees (pos n) h = let l = above n h in length_signed_le 3 (pos n) (omega arith) (omega arith)
length_degrees (negsuc n) h = let l = below n h in length_signed_le 3 (negsuc n) (omega arith) (omega arith)

-- what holds of a success holds where there is one
pub at_success : {T E P : Type 0} (r : Result T E) → IsOk r → OnOk r P → P
at_success (Ok x) h p = p
at_success (Err e) h p = grind (rules, h)

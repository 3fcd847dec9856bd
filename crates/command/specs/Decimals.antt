-- The texts of numbers: each has no space, and two numbers have two texts.
use Rattle.std.specs.Prelude.{◌≡◌, ℕ, suc, ◌^◌, ◌<◌, List, [], ◌∷◌, length, ℤ, pos, negsuc, decimal, FitsSigned, slice_index}
use Rattle.std.specs.Int.{w32, IsInRange}
use Rattle.std.specs.Int.Signed.{mag}
use Rattle.std.proofs.Common.{arith}
use Rattle.std.specs.Fmt.{signed_decimal}
use Rattle.std.proofs.lemmas.Fmt.{decimal_is_IsNumeral, signed_decimal_injective}
use Rattle.std.proofs.lemmas.Int.{ints}
use Rattle.std.proofs.lemmas.Str.Parse.{digit_at}
use Rattle.command.specs.Words.{Spaceless}

spaceless_places : (xs : List ℕ) → ((k : ℕ) → k < length xs → IsInRange 48 57 (slice_index xs k)) → Spaceless xs
spaceless_places [] h = tt
spaceless_places (x ∷ xs) h = ((λ q. let d = h 0 (omega arith) in omega arith), spaceless_places xs (λ k l. h (suc k) (omega arith)))

pub decimal_spaceless : (n : ℕ) → n < 2 ^ 64 → Spaceless (decimal n)
decimal_spaceless n h = spaceless_places (decimal n) (λ k l. digit_at (decimal n) k (decimal_is_IsNumeral n h).0.1 l)

pub signed_spaceless : (z : ℤ) → FitsSigned w32 z → Spaceless (signed_decimal z)
signed_spaceless (pos n) h = decimal_spaceless n (omega (arith, ints))
signed_spaceless (negsuc n) h = ((λ q. omega arith), decimal_spaceless (suc n) (omega (arith, ints)))

pub small : (z : ℤ) → FitsSigned w32 z → mag z < 2 ^ 63
small (pos n) h = omega (arith, ints)
small (negsuc n) h = omega (arith, ints)

pub signed_distinct : (y z : ℤ) → FitsSigned w32 y → FitsSigned w32 z → signed_decimal y ≡ signed_decimal z → y ≡ z
signed_distinct y z h k e = signed_decimal_injective y z (small y h) (small z k) e

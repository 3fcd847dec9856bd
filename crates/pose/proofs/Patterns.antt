-- The bits of an angle, and the angle of bits.
use Rattle.std.proofs.Common.{◌≡◌, ℕ, ◌^◌, ◌<◌, true, false, not, T, sym, refl, ap, ◌∙◌, subst, arith}
use lib.Ieee.{Float, nan, inf, fin, binary32, fits, is_nan, to_bits, of_bits, nan_bits}
use lib.Ieee.Bits.{of_bits-to_bits, to_bits-of_bits, nan_bits_is}
use Rattle.pose.specs.Bits.{angle_bits}

pub bits_are : (x : Float) → angle_bits x ≡ to_bits binary32 x
unfolding is_nan to_bits
bits_are nan = refl
bits_are (inf s) = refl
bits_are (fin s m e) = refl

-- there and back
pub angle_back : (x : Float) → fits binary32 x ≡ true → of_bits binary32 (angle_bits x) ≡ x
angle_back x f = ap (of_bits binary32) (bits_are x) ∙ of_bits-to_bits binary32 x (subst T (sym f) tt)

pub nan_stays : (x : Float) → fits binary32 x ≡ true → nan_bits binary32 (angle_bits x) ≡ is_nan x
nan_stays x f = nan_bits_is binary32 (angle_bits x) ∙ ap is_nan (angle_back x f)

pub bits_back : (n : ℕ) → n < 2 ^ 32 → nan_bits binary32 n ≡ false → angle_bits (of_bits binary32 n) ≡ n
bits_back n l h =
    bits_are (of_bits binary32 n) ∙ to_bits-of_bits binary32 n (omega arith) (subst (λ b. T (not b)) (sym h ∙ nan_bits_is binary32 n) tt)

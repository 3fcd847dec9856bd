-- Whole degrees as angles.
use Rattle.std.specs.Prelude.{◌≡◌, Bool, true, false, cond, ◌&&◌, ℤ, pos, negsuc, Some, None, Option, int_le, Float}
use Rattle.std.specs.Float.{binary32}
use Rattle.std.specs.Float.Ieee.{of_int, to_signed, eq}

-- a whole number from -360 to 360
abbrev pub in_turn : ℤ → Bool
in_turn z = int_le (negsuc 359) z && int_le z (pos 360)

-- its angle
abbrev pub angle_of : ℤ → Option Float
angle_of z = cond (in_turn z) (Some (of_int binary32 z)) None

-- the whole number that an angle is, found by dropping its fraction
abbrev pub whole_of : Float → Option ℤ
whole_of x = cond (in_turn (to_signed 31 x) && eq x (of_int binary32 (to_signed 31 x))) (Some (to_signed 31 x)) None

-- in words: it is in range and equal to the angle, or no number in range is; negative zero equals 0
abbrev pub Whole : Float → Option ℤ → Type 0
Whole x (Some z) = (in_turn z ≡ true) × (eq x (of_int binary32 z) ≡ true)
Whole x None = (z : ℤ) → in_turn z ≡ true → eq x (of_int binary32 z) ≡ false

-- degrees cross to an angle and back exactly
abbrev pub Exact : ℤ → Option Float → Type 0
Exact z None = in_turn z ≡ false
Exact z (Some x) = whole_of x ≡ Some z

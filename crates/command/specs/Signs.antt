-- The text of whole degrees.
use Rattle.std.specs.Prelude.{◌≡◌, true, ℤ, pos, negsuc, Some, None, FitsSigned, Option, refl, Float}
use Rattle.std.specs.Int.{w32}
use Rattle.std.proofs.Common.{sym, ap, ◌∙◌, subst, arith}
use Rattle.std.specs.Float.{binary32}
use Rattle.std.specs.Float.Ieee.{of_int}
use Rattle.std.specs.Fmt.{signed_decimal}
use Rattle.std.proofs.lemmas.Int.{ints}
use Rattle.pose.specs.Degrees.{in_turn, whole_of, Whole}
use Rattle.pose.specs.Texts.{degrees_text, angle_text, PlainAt, Plain}
use Rattle.pose.proofs.Wholes.{above, below, means}
use Rattle.command.specs.Words.{Spaceless}
use Rattle.command.specs.Decimals.{signed_spaceless, signed_distinct}

-- whole degrees fit in 32 bits
pub turn_fits : (z : ℤ) → in_turn z ≡ true → FitsSigned w32 z
turn_fits (pos n) h = let l = above n h in omega (arith, ints)
turn_fits (negsuc n) h = let l = below n h in omega (arith, ints)

-- what a plain angle is
pub record OfDegrees (x : Float) (z : ℤ) : Type 0 where
  pub whole : whole_of x ≡ Some z
  pub angle : x ≡ of_int binary32 z
  pub turn : in_turn z ≡ true

pub degrees_of : (x : Float) → Plain x → (z : ℤ) × OfDegrees x z
degrees_of x p = at (whole_of x) refl p (means x)
  where
    at : (o : Option ℤ) → whole_of x ≡ o → PlainAt x o → Whole x o → (z : ℤ) × OfDegrees x z
    at None e p w = absurd p
    at (Some z) e p w = (z, record { whole = e; angle = p; turn = w.0 })

pub angle_spaceless : (x : Float) → Plain x → Spaceless (angle_text x)
angle_spaceless x p = let d = degrees_of x p in subst (λ o. Spaceless (degrees_text o)) (sym d.1.whole) (signed_spaceless d.0 (turn_fits d.0 d.1.turn))

pub angle_distinct : (x y : Float) → Plain x → Plain y → angle_text x ≡ angle_text y → x ≡ y
angle_distinct x y p q e =
    let d = degrees_of x p in
    let f = degrees_of y q in
    let t : signed_decimal d.0 ≡ signed_decimal f.0 = sym (ap degrees_text d.1.whole) ∙ e ∙ ap degrees_text f.1.whole in
    d.1.angle ∙ ap (of_int binary32) (signed_distinct d.0 f.0 (turn_fits d.0 d.1.turn) (turn_fits f.0 f.1.turn) t) ∙ sym f.1.angle

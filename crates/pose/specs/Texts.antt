-- How angles and poses are written.
use Rattle.std.specs.Prelude.{◌≡◌, ℕ, List, [], ◌∷◌, ◌++◌, ℤ, Some, None, Option, from_bits, Float}
use Rattle.std.specs.Float.{binary32}
use Rattle.std.specs.Float.Ieee.{of_int}
use Rattle.std.specs.Fmt.{signed_decimal}
use Rattle.pose.specs.declared.poses.PoseBits.{PoseBits}
use Rattle.pose.specs.Bits.{angle_bits}
use Rattle.pose.specs.Degrees.{whole_of}

-- whole degrees in decimal with a hyphen for minus, and a question mark for any other angle
abbrev pub degrees_text : Option ℤ → List ℕ
degrees_text (Some z) = signed_decimal z
degrees_text None = 63 ∷ []

abbrev pub angle_text : Float → List ℕ
angle_text x = degrees_text (whole_of x)

abbrev pub joint_text : ℕ → List ℕ
joint_text b = angle_text (from_bits binary32 b)

-- four angles, with single spaces between them
abbrev pub pose_text : PoseBits → List ℕ
pose_text b = joint_text b.joint0 ++ 32 ∷ (joint_text b.joint1 ++ 32 ∷ (joint_text b.joint2 ++ 32 ∷ joint_text b.joint3))

-- an angle that text can give: of whole degrees, and not negative zero
abbrev pub PlainAt : Float → Option ℤ → Type 0
PlainAt x None = ⊥
PlainAt x (Some z) = x ≡ of_int binary32 z

abbrev pub Plain : Float → Type 0
Plain x = PlainAt x (whole_of x)

-- a pose whose bits are those of such angles
abbrev pub PlainJoint : ℕ → Type 0
PlainJoint b = Plain (from_bits binary32 b) × (b ≡ angle_bits (from_bits binary32 b))

abbrev pub PlainPose : PoseBits → Type 0
PlainPose b = PlainJoint b.joint0 × (PlainJoint b.joint1 × (PlainJoint b.joint2 × PlainJoint b.joint3))

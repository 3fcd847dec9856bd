-- A pose and its bits.
use Rattle.std.specs.Prelude.{◌≡◌, ℕ, Bool, true, cond, ◌||◌, Ok, Err, Result, from_bits, is_nan, to_bits, Float}
use Rattle.std.specs.Float.{binary32}
use Rattle.std.specs.Float.Ieee.{nan_bits}
use Rattle.pose.specs.declared.poses.Pose.{Pose}
use Rattle.pose.specs.declared.poses.PoseBits.{PoseBits}
use Rattle.pose.specs.declared.poses.NotANumber.{NotANumber}

-- the bits of an angle; one that is not a number has these
abbrev pub angle_bits : Float → ℕ
angle_bits x = cond (is_nan x) 0x7FC0_0000 (to_bits binary32 x)

-- the angle with given bits, where they are a number
abbrev pub angle_at : ℕ → Result Float NotANumber
angle_at b = cond (nan_bits binary32 b) (Err (record {})) (Ok (from_bits binary32 b))

abbrev pub bits_of : Pose → PoseBits
bits_of p = record { joint0 = angle_bits p.joint0; joint1 = angle_bits p.joint1; joint2 = angle_bits p.joint2; joint3 = angle_bits p.joint3 }

-- whether an angle of a pose is not a number
abbrev pub lacks_angle : Pose → Bool
lacks_angle p = is_nan p.joint0 || (is_nan p.joint1 || (is_nan p.joint2 || is_nan p.joint3))

-- the same by the bits
abbrev pub lacks_number : PoseBits → Bool
lacks_number b = nan_bits binary32 b.joint0 || (nan_bits binary32 b.joint1 || (nan_bits binary32 b.joint2 || nan_bits binary32 b.joint3))

abbrev pub pose_of : PoseBits → Result Pose NotANumber
pose_of b = cond (lacks_number b) (Err (record {})) (Ok (record { joint0 = from_bits binary32 b.joint0; joint1 = from_bits binary32 b.joint1; joint2 = from_bits binary32 b.joint2; joint3 = from_bits binary32 b.joint3 }))

-- the bits of a pose give the pose back, and none where an angle is not a number
abbrev pub ComesBack : Pose → PoseBits → Type 0
ComesBack p b = pose_of b ≡ cond (lacks_angle p) (Err (record {})) (Ok p)

-- a pose that was made of bits has those bits
abbrev pub GoesBack : PoseBits → Result Pose NotANumber → Type 0
GoesBack b (Err e) = lacks_number b ≡ true
GoesBack b (Ok p) = bits_of p ≡ b

-- what turning a pose into bits gives
pub record IsBitsOf (p : Pose) (b : PoseBits) : Type 0 where
  pub value : b ≡ bits_of p
  pub back : ComesBack p b

-- what turning bits into a pose gives
pub record IsPoseOf (b : PoseBits) (r : Result Pose NotANumber) : Type 0 where
  pub value : r ≡ pose_of b
  pub back : GoesBack b r

use Rattle.std.proofs.Common.{◌≡◌, ◌^◌, ◌<◌, false, ap, ◌∙◌, rules}
use lib.Ieee.{binary32, nan_bits}
use Rattle.pose.specs.Bits.{angle_bits}
use Rattle.pose.proofs.Patterns.{bits_back}
use Rattle.pose.proofs.poses.angle_from_bits.Goals as goal

pub returns-clause-back : goal.returns-clause-back
returns-clause-back c =
    let b = c.args.bits in
    let l : b < 2 ^ 32 = search rules in
    let n : nan_bits binary32 b ≡ false = search rules in
    ap angle_bits c.f32_from_bits_with_nan.ensures ∙ bits_back b l n

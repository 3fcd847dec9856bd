use Rattle.std.proofs.Common.{◌≡◌, true, sym, ap, ◌∙◌, rules}
use lib.Ieee.{binary32, fits, of_bits, nan_bits}
use Rattle.pose.proofs.Patterns.{bits_are, angle_back, nan_stays}
use Rattle.pose.proofs.poses.angle_to_bits.Goals as goal

pub returns : goal.returns
returns c =
    let x = c.args.angle in
    let f : fits binary32 x ≡ true = search rules in
    let e = c.f32_to_bits_with_nan.ensures ∙ sym (bits_are x) in
    record { value = e; back = ap (of_bits binary32) e ∙ angle_back x f; number = ap (nan_bits binary32) e ∙ nan_stays x f }

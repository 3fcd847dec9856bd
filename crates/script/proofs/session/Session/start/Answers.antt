use Rattle.std.proofs.Common.{Some, sym, ap, ◌∙◌}
use Rattle.script.specs.Sessions.{OfCounts, OfPoses, kind_after}
use Rattle.script.proofs.session.Session.start.Goals as goal

pub returns-in_ok-new_line-in-Count : goal.returns-in_ok-new_line-in-Count
returns-in_ok-new_line-in-Count c =
    (ap (λ v. OfCounts v) c.in_ok-new_line-in-Count.ensures.0 ∙ ap (λ k. kind_after (Some k)) (sym c.in-Count.is), c.in_ok-new_line-in-Count.ensures.1)

pub returns-in_ok-new_line-in-Pose : goal.returns-in_ok-new_line-in-Pose
returns-in_ok-new_line-in-Pose c =
    (ap (λ v. OfPoses v) c.in_ok-new_line-in-Pose.ensures.0 ∙ ap (λ k. kind_after (Some k)) (sym c.in-Pose.is), c.in_ok-new_line-in-Pose.ensures.1)

use Rattle.command.specs.Joints.{angles_of, angles_stand, pose_read}
use Rattle.command.proofs.payloads.read_pose.Goals as goal

pub returns-in_err-joint0 : goal.returns-in_err-joint0
returns-in_err-joint0 c = rw c.from_residual.ensures (λ b p e. c.in_err-joint0.ensures (angles_of b) (angles_stand b c.args.text.now p e))

pub returns : goal.returns
returns c = pose_read _ c.args.text.now c.in_ok-joint0.field-0 c.in_ok-joint0.ensures

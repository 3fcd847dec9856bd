use Rattle.serial.proofs.Theorem.{does}
use Rattle.line.proofs.parts.Line.deliver.Goals as goal

pub returns : goal.returns
returns g c = does _ _ _ _ c.deliver_step.ensures.value c.deliver_step.ensures.after

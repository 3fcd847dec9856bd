use Rattle.serial.proofs.Theorem.{does}
use Rattle.line.proofs.parts.Line.give_up.Goals as goal

pub returns : goal.returns
returns g c = does _ _ _ _ c.give_up_step.ensures.value c.give_up_step.ensures.after

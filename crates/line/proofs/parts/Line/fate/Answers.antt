use Rattle.std.proofs.Common.{refl}
use Rattle.serial.proofs.Theorem.{does}
use Rattle.line.proofs.parts.Line.fate.Goals as goal

pub returns : goal.returns
returns g c = does _ _ _ _ c.fate_step.ensures refl

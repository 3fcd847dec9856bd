use Rattle.serial.proofs.Theorem.{always_ordered_lem}
use Rattle.serial.proofs.always_ordered.Goals as goal

pub returns : goal.returns
returns g c = always_ordered_lem

use Rattle.serial.proofs.Theorem.{always_bounded_lem}
use Rattle.serial.proofs.always_bounded.Goals as goal

pub returns : goal.returns
returns g c = always_bounded_lem

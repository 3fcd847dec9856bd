use Rattle.serial.proofs.Theorem.{always_voted_lem}
use Rattle.serial.proofs.always_voted.Goals as goal

pub returns : goal.returns
returns g c = always_voted_lem

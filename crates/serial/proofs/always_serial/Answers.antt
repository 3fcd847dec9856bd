use Rattle.serial.proofs.Theorem.{always_serial_lem}
use Rattle.serial.proofs.always_serial.Goals as goal

pub returns : goal.returns
returns g c = always_serial_lem

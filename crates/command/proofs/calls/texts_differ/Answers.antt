use Rattle.command.proofs.Letters.{one_text}
use Rattle.command.proofs.calls.texts_differ.Goals as goal

pub returns : goal.returns
returns g c = one_text g.P.PayloadText.lawful g.P.PayloadText.written g.met.P.PayloadText.distinct

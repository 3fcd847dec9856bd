use Rattle.command.proofs.Letters.{none_written}
use Rattle.command.proofs.calls.write_with.Goals as goal

pub returns-in_err-payload : goal.returns-in_err-payload
returns-in_err-payload g c =
    rw c.from_residual-in_err-payload.ensures
    (none_written g.P.PayloadText.lawful g.P.PayloadText.written c.args.rest.now c.in_ok-tx.field-0 c.words.new.text.now c.in_ok-tx.ensures c.in_err-payload.ensures)

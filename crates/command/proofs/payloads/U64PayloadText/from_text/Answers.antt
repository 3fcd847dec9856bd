use Rattle.std.proofs.Common.{◌^◌, ◌<◌, ◌∷◌, [], decimal}
use Rattle.command.specs.Rows.{one_word, one_read}
use Rattle.command.proofs.payloads.U64PayloadText.from_text.Goals as goal

pub returns-in_err-count : goal.returns-in_err-count
returns-in_err-count c = rw c.from_residual.ensures (λ n p e. c.in_err-count.ensures (n ∷ []) (one_word (λ n. n < 2 ^ 64) decimal c.args.text.now n p e))

pub returns : goal.returns
returns c = one_read (λ n. n < 2 ^ 64) decimal _ c.args.text.now c.in_ok-count.field-0 c.in_ok-count.ensures

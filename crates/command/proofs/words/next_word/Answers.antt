use Rattle.command.specs.Splits.{unread}
use Rattle.command.proofs.words.next_word.Goals as goal

pub returns-in_err-from_word : goal.returns-in_err-from_word
returns-in_err-from_word g c =
    rw c.from_residual-in_err-from_word.ensures
    (unread g.T.Word.lawful g.T.Word.spelled g.met.T.Word.spaceless c.args.text.now c.in_ok-word.word.now c.in_ok-word.rest.now c.in_ok-word.ensures c.in_err-from_word.ensures)

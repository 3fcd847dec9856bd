use Rattle.std.proofs.Common.{◌≡◌, length, take}
use Rattle.command.specs.Words.{Spelled}
use Rattle.command.proofs.words.words.Given as goal

abbrev pub invariant-loop-value : goal.invariant-loop-value
invariant-loop-value g l = (length l.value-items ≡ g.row.N) × Spelled g.T.Word.lawful g.T.Word.spelled l.value-index l.fn.text.now (take l.value-index l.value-items) l.text.now

use Rattle.std.proofs.Common.{◌+◌, ◌<◌, length, take, sym, ◌∙◌, subst, arith, length-set}
use Rattle.std.proofs.lemmas.List.{take_more_set}
use Rattle.command.specs.Words.{Spelled}
use Rattle.command.specs.Rows.{grown, short}
use Rattle.command.proofs.words.words.Goals as goal

pub returns-in_err-value : goal.returns-in_err-value
returns-in_err-value g c =
    rw c.from_residual.ensures
    (short g.T.Word.lawful g.T.Word.spelled g.met.T.Word.spaceless g.met.T.Word.distinct c.loop-value.value-index g.row.N c.args.text.now.now _ c.loop-value.text.now (omega (arith, c.loop-value.invariant.0)) c.loop-value.invariant.1 c.in_err-value.ensures)

pub loop-value-preserved : goal.loop-value-preserved
loop-value-preserved g c =
    let i = c.loop-value.value-index in
    let xs = c.loop-value.value-items in
    let x = c.in_ok-value.field-0-0 in
    let lt : i < length xs = omega arith in (
      length-set xs i x ∙ c.loop-value.invariant.0,
      subst (λ ys. Spelled g.T.Word.lawful g.T.Word.spelled (i + 1) c.args.text.now.now ys c.in_ok-value.field-0-1.now) (sym (take_more_set xs i x lt)) (grown g.T.Word.lawful g.T.Word.spelled i c.args.text.now.now (take i xs) c.loop-value.text.now x c.in_ok-value.field-0-1.now c.loop-value.invariant.1 c.in_ok-value.ensures),
    )

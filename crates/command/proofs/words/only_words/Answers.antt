use Rattle.std.proofs.Common.{List, [], Some, None, subst}
use Rattle.command.specs.Words.{Spelled}
use Rattle.command.specs.Rows.{same_words}
use Rattle.command.proofs.Readings.{kept}
use Rattle.command.proofs.words.only_words.Goals as goal

pub returns : goal.returns
returns g c =
    let s = c.args.text.now in
    let t = c.words.new.text.now in
    let xs = c.in_ok-values.values in
    let f = c.in_ok-values.ensures in
    kept (λ o. elim o [ Some ys ↦ Spelled g.T.Word.lawful g.T.Word.spelled g.row.N s ys [] | None ↦ ((ys : List g.row.T.Denot) → Spelled g.T.Word.lawful g.T.Word.spelled g.row.N s ys [] → ⊥) ]) t c.is_empty.ensures c.then_some.ensures (λ n. subst (Spelled g.T.Word.lawful g.T.Word.spelled g.row.N s xs) n f) (λ n ys h. n (same_words g.T.Word.lawful g.T.Word.spelled g.met.T.Word.spaceless g.met.T.Word.distinct g.row.N s xs ys t [] f h).1)

use Rattle.std.proofs.Common.{◌∷◌, [], Some}
use Rattle.std.proofs.lemmas.Bool.Decides.{Decides-eqb}
use Rattle.std.proofs.lemmas.Slice.Eq.{strip_prefix_is}
use Rattle.command.specs.Splits.{first_word}
use Rattle.command.proofs.words.split_word.Goals as goal

pub returns : goal.returns
returns c =
    let w = c.word_end.ensures in
    let s = c.split_at.ensures in
    let p = strip_prefix_is Decides-eqb c.args.text.now (32 ∷ []) (Some c.in_ok-rest.rest) c.in_ok-rest.ensures.cases in
    first_word c.args.text.now c.in_ok-rest.rest.now _ _ c.word_end.result p w.within w.before w.found s.front s.back s.by_index.0

use Rattle.std.proofs.Common.{◌++◌, [], length, get_or, flat_map, take, ap, ◌∙◌, sym, add-one, arith}
use Rattle.answer_text.proofs.Fitting.{next_fits, one_more, at_success}
use Rattle.answer_text.proofs.pieces.joined.Goals as goal

pub loop-piece-preserved : goal.loop-piece-preserved
loop-piece-preserved g c =
    let ps = c.args.pieces.now in
    let i = c.loop-piece.piece-index in
    let told = c.try_extend_from_slice-fits.ensures in
    let room = told.variant.1 (omega (arith, c.requires.room, ap length c.loop-piece.invariant, next_fits (λ p. p.now) ps i (record { ref_ptr = (0, 0); now = [] }) (omega arith))) in
    at_success _ room told.ok
    ∙ ap (λ t. t ++ (get_or ps i (record { ref_ptr = (0, 0); now = [] })).now) c.loop-piece.invariant
    ∙ one_more (λ p. p.now) ps i (record { ref_ptr = (0, 0); now = [] }) (omega arith)
    ∙ ap (λ k. flat_map (λ p. p.now) (take k ps)) (sym (add-one i))

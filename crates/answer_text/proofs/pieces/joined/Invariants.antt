use Rattle.std.proofs.Common.{◌≡◌, take, flat_map}
use Rattle.answer_text.proofs.pieces.joined.Given as goal

abbrev pub invariant-loop-piece : goal.invariant-loop-piece
invariant-loop-piece g l = l.text.items ≡ flat_map (λ p. p.now) (take l.piece-index l.pieces)

use Rattle.std.proofs.Common.{◌≡◌, vec_items, vec_len, vec_capacity}
use Rattle.chain.specs.Rows.{free_rows}
use Rattle.chain.proofs.fill.Given as goal

abbrev pub invariant-loop-place : goal.invariant-loop-place
invariant-loop-place g l = (vec_items l.rows ≡ free_rows l.place) × (vec_len l.rows ≡ l.place) × (vec_capacity l.rows ≡ vec_capacity l.initial.rows)

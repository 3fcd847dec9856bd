use Rattle.std.proofs.Common.{◌≡◌, ◌≤◌, ◌++◌, length, drop, vec_items, vec_len, vec_capacity}
use Rattle.store_runs.specs.Plain.{meant, answers_to, after_all}
use Rattle.store_runs.proofs.answer_all.Given as goal

-- the calls that are left complete the answers and the meaning
abbrev pub invariant-loop-call : goal.invariant-loop-call
invariant-loop-call g l =
    (vec_items l.answers ++ answers_to (meant g.S.Store l.store) (drop l.call-index l.calls) ≡ answers_to (meant g.S.Store l.initial.store) l.calls)
    × (after_all (meant g.S.Store l.store) (drop l.call-index l.calls) ≡ after_all (meant g.S.Store l.initial.store) l.calls)
    × (vec_len l.answers ≡ l.call-index) × (length l.calls ≤ vec_capacity l.answers)

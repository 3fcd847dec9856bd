use Rattle.std.proofs.Common.{ℕ, ◌+◌, ◌≤◌, List, ◌++◌, length}
use Rattle.script.specs.Sessions.{session_view}
use Rattle.script.specs.Scripts.{LinesOf, Transcript, PrintedFor}
use Rattle.script.proofs.running.run_lines.Given as goal

-- whatever is printed for the lines that are left, it completes what is printed for the script
abbrev pub invariant-loop-text : goal.invariant-loop-text
invariant-loop-text l =
    (l.number + length l.rest ≤ length l.fn.script)
    × ((ls : List (List ℕ)) (bytes : List ℕ) → LinesOf l.rest ls → Transcript (session_view l.session) (l.number + 1) ls bytes → PrintedFor l.fn.script (l.printed.items ++ bytes))

abbrev pub decreases-loop-text : goal.decreases-loop-text
decreases-loop-text l = length l.rest

use Rattle.std.proofs.Common.{◌≡◌, drop}
use Rattle.protocol.specs.Formulas.{greatest}
use Rattle.cohort.specs.Holds.{delays}
use Rattle.cohort.proofs.ballots.greatest_delay.Given as goal

abbrev pub invariant-loop-i : goal.invariant-loop-i
invariant-loop-i l = greatest l.most (delays l.voter.tx l.voter.writes (drop l.i l.cohorts)) ≡ greatest l.last (delays l.voter.tx l.voter.writes l.cohorts)

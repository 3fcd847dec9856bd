-- What the holds of a cell's cohorts refuse and delay.
use Rattle.std.specs.Prelude.{ℕ, min, Bool, true, false, cond, not, ◌&&◌, ◌||◌, List, [], ◌∷◌, Some, None, Option, ◌==◌}
use Rattle.items.specs.declared.ItemSet.{ItemSet}
use Rattle.items.specs.Sets.{has, meeting}
use Rattle.cohort.specs.declared.kinds.State.{State}
use Rattle.cohort.specs.declared.kinds.State.TheVariants.{Active, Voted, Out, Done}
use Rattle.cohort.specs.declared.kinds.Cohort.{Cohort}
use Rattle.cohort.specs.declared.kinds.Mode.{Mode}
use Rattle.cohort.specs.declared.kinds.Mode.TheVariants.{Read, Write}

abbrev pub is_active : State → Bool
is_active (Active s) = true
is_active (Voted g) = false
is_active Out = false
is_active Done = false

abbrev pub writes_in : Mode → Bool
writes_in Read = false
writes_in Write = true

-- LATEST of one that voted yes
abbrev pub latest_in : State → Option ℕ
latest_in (Active s) = None
latest_in (Voted g) = Some g.latest
latest_in Out = None
latest_in Done = None

-- whether a cohort stands in the way of x at the item: it holds the item for writing or, against a write, is Active and holds it
-- for reading
abbrev pub blocking : ℕ → ℕ → Bool → Cohort → Bool
blocking x i for_writing c = not (c.tx == x) && (has c.writes i || (for_writing && (has c.reads i && is_active c.state)))

-- the transactions in the way
abbrev pub blockers : ℕ → ℕ → Bool → List Cohort → List ℕ
blockers x i for_writing [] = []
blockers x i for_writing (c ∷ cs) = cond (blocking x i for_writing c) (c.tx ∷ blockers x i for_writing cs) (blockers x i for_writing cs)

abbrev pub lesser : Option ℕ → ℕ → Option ℕ
lesser None n = Some n
lesser (Some m) n = Some (min m n)

-- the smallest of the numbers, and of m if it is there
abbrev pub smallest : Option ℕ → List ℕ → Option ℕ
smallest m [] = m
smallest m (n ∷ ns) = smallest (lesser m n) ns

abbrev pub with_latest : Option ℕ → List ℕ → List ℕ
with_latest None ns = ns
with_latest (Some l) ns = l ∷ ns

-- LATEST of each transaction that delays x: of those that voted yes, the others that hold for reading what x holds for writing
abbrev pub delays : ℕ → ItemSet → List Cohort → List ℕ
delays x w [] = []
delays x w (c ∷ cs) = cond (not (c.tx == x) && meeting c.reads w) (with_latest (latest_in c.state) (delays x w cs)) (delays x w cs)

abbrev pub only : Cohort → List Cohort
only c = c ∷ []

-- The formulas of votes and of the tally, and what they mean.
use Rattle.std.specs.Prelude.{◌≡◌, ℕ, ◌+◌, ◌<◌, ◌≤◌, min, max, Bool, true, cond, ◌&&◌, List, [], ◌∷◌, Some, None, Option, nat_le}
use Rattle.protocol.specs.declared.messages.Range.{Range}
use Rattle.protocol.specs.declared.messages.Vote.{Vote}
use Rattle.protocol.specs.declared.messages.Vote.TheVariants.{Yes, No}
use Rattle.protocol.specs.declared.messages.Decision.{Decision}
use Rattle.protocol.specs.declared.messages.Decision.TheVariants.{Commit, Abort}
use Rattle.protocol.specs.declared.sites.Site.{Site}
use Rattle.protocol.specs.declared.sites.PerSite.{PerSite}
use Rattle.protocol.specs.Limits.{last_tick}
use Rattle.protocol.specs.Sites.{at}

-- the greatest of m and the numbers
abbrev pub greatest : ℕ → List ℕ → ℕ
greatest m [] = m
greatest m (n ∷ ns) = greatest (max m n) ns

-- CONFLICT: one more than the greatest of LAST and the LATEST of each delaying transaction
abbrev pub conflict : ℕ → List ℕ → ℕ
conflict last delays = greatest last delays + 1

-- EARLIEST
abbrev pub earliest_tick : ℕ → ℕ → ℕ
earliest_tick conflict start = max conflict start

-- LATEST
abbrev pub latest_tick : ℕ → ℕ → ℕ
latest_tick clock spread = min (clock + spread) last_tick

abbrev pub range : ℕ → ℕ → Range
range e l = record { earliest = e; latest = l }

-- yes with EARLIEST and LATEST if they are in order, else no
abbrev pub vote_over : ℕ → ℕ → Vote
vote_over e l = cond (nat_le e l) (Yes (range e l)) No

-- the vote of a transaction that joined at `start`
abbrev pub vote_of : ℕ → List ℕ → ℕ → ℕ → ℕ → Vote
vote_of last delays start clock spread = vote_over (earliest_tick (conflict last delays) start) (latest_tick clock spread)

abbrev pub Each : {X : Type 0} → (X → Type 0) → List X → Type 0
Each p [] = Unit {0}
Each p (x ∷ xs) = p x × Each p xs

-- the ticks that a cell may promise: above LAST, above the LATEST of every delaying transaction, not before the clock at
-- joining, not past the clock plus the spread, and not past the last tick
pub record Open (last : ℕ) (delays : List ℕ) (start clock spread tick : ℕ) : Type 0 where
  pub after_last : last < tick
  pub after_delays : Each (λ d. d < tick) delays
  pub started : start ≤ tick
  pub in_spread : tick ≤ clock + spread
  pub in_time : tick ≤ last_tick

-- a yes votes the least and the greatest of a set of ticks; a no says that there is none
pub record Bounds (ticks : ℕ → Type 0) (g : Range) : Type 0 where
  pub ordered : g.earliest ≤ g.latest
  pub first : ticks g.earliest
  pub least : (t : ℕ) → ticks t → g.earliest ≤ t
  pub last : ticks g.latest
  pub most : (t : ℕ) → ticks t → t ≤ g.latest

abbrev pub Spans : (ℕ → Type 0) → Vote → Type 0
Spans ticks (Yes g) = Bounds ticks g
Spans ticks No = (t : ℕ) → ticks t → ⊥

-- EARLIEST of a recorded vote; one that is missing sets no bound
abbrev pub floor_of : Option Range → ℕ
floor_of None = 0
floor_of (Some g) = g.earliest

-- whether a tick is at most LATEST of a recorded vote; one that is missing sets no bound
abbrev pub under : Option Range → ℕ → Bool
under None t = true
under (Some g) t = nat_le t g.latest

-- TIME: the greatest EARLIEST voted
abbrev pub time_over : PerSite (Option Range) → ℕ
time_over v = max (max (floor_of v.cell0) (floor_of v.cell1)) (max (floor_of v.cell2) (floor_of v.cell3))

-- whether a tick is at most the least LATEST voted, that is, at most each of them
abbrev pub under_all : PerSite (Option Range) → ℕ → Bool
under_all v t = (under v.cell0 t && under v.cell1 t) && (under v.cell2 t && under v.cell3 t)

-- commit at TIME if it is at most the least LATEST voted, else abort
abbrev pub tallied : PerSite (Option Range) → Decision
tallied v = cond (under_all v (time_over v)) (Commit (time_over v)) Abort

-- a tick that lies in every range voted
pub record InEvery (v : PerSite (Option Range)) (tick : ℕ) : Type 0 where
  pub above : (s : Site) (g : Range) → at v s ≡ Some g → g.earliest ≤ tick
  pub below : (s : Site) (g : Range) → at v s ≡ Some g → tick ≤ g.latest

-- with all votes yes: commit at the least tick that lies in every range, or abort where there is none
abbrev pub Tallies : PerSite (Option Range) → Decision → Type 0
Tallies v (Commit t) = InEvery v t × ((u : ℕ) → InEvery v u → t ≤ u)
Tallies v Abort = (u : ℕ) → InEvery v u → ⊥

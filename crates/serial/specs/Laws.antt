-- Laws over whole runs of a line besides serial order, and over each call.
use Rattle.std.specs.Prelude.{◌≡◌, ℕ, ◌≤◌, true, List, length, Some, Option, Err}
use Rattle.protocol.specs.declared.sites.Site.{Site}
use Rattle.protocol.specs.declared.messages.Range.{Range}
use Rattle.protocol.specs.declared.faults.Fault.{Fault}
use Rattle.protocol.specs.declared.calls.Call.{Call}
use Rattle.protocol.specs.Limits.{live_limit, post_limit}
use Rattle.protocol.specs.Sites.{at}
use Rattle.model.specs.Lines.{LineView}
use Rattle.model.specs.Calls.{told, did}
use Rattle.serial.specs.Observer.{Seen}
use Rattle.serial.specs.Order.{time_of, Chosen}
use Rattle.serial.specs.Runs.{Event, Reached, seen}

-- the committed transactions can be put in an order in which times never fall
abbrev pub AlwaysOrdered : Type 0 → Type 0
AlwaysOrdered P = (h : List (Event P)) (v : LineView P) → Reached v h → (xs : List ℕ) × Chosen (seen h) xs

-- how many transactions are live, and how many messages wait
pub record Bounded {P : Type 0} (v : LineView P) : Type 0 where
  pub live : length v.transactions ≤ live_limit
  pub waiting : length v.post ≤ post_limit

abbrev pub AlwaysBounded : Type 0 → Type 0
AlwaysBounded P = (h : List (Event P)) (v : LineView P) → Reached v h → Bounded v

-- a recorded vote whose range holds the tick
abbrev pub Covers : Option Range → ℕ → Type 0
Covers vote t = (g : Range) × (vote ≡ Some g) × (g.earliest ≤ t) × (t ≤ g.latest)

-- every commit time lies in the recorded vote of each joined cell
abbrev pub TimesVoted : {P : Type 0} → Seen P → Type 0
TimesVoted o = (x t : ℕ) (s : Site) → time_of o x ≡ Some t → at (o.transaction x).joined s ≡ true → Covers (at (o.transaction x).votes s) t

abbrev pub AlwaysVoted : Type 0 → Type 0
AlwaysVoted P = (h : List (Event P)) (v : LineView P) → Reached v h → TimesVoted (seen h)

-- a refused call changes nothing
abbrev pub RefusalsKeep : Type 0 → Type 0
RefusalsKeep P = (v : LineView P) (c : Call P) (f : Fault) → told v c ≡ Err f → did v c ≡ v

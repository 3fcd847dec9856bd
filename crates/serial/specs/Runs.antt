-- Whole runs of a line.
use Rattle.std.specs.Prelude.{◌≡◌, ℕ, ◌≤◌, List, [], ◌∷◌, None, Option}
use Rattle.protocol.specs.declared.sites.Site.{Site}
use Rattle.protocol.specs.declared.calls.Call.{Call}
use Rattle.protocol.specs.Limits.{item_limit}
use Rattle.protocol.specs.Sites.{at}
use Rattle.model.specs.Cells.{newest_at}
use Rattle.model.specs.Lines.{LineView}
use Rattle.model.specs.Calls.{Outcome, told, did}
use Rattle.serial.specs.Observer.{Seen, note, nothing}
use Rattle.serial.specs.Order.{SerialOrder}

-- a call with its answer
pub record Event (P : Type 0) : Type 0 where
  pub call : Call P
  pub answer : Outcome P

abbrev pub event : {P : Type 0} → Call P → Outcome P → Event P
event c a = record { call = c; answer = a }

-- a line that was just made, over any four stores
pub record Fresh {P : Type 0} (v : LineView P) : Type 0 where
  pub transactions : v.transactions ≡ []
  pub post : v.post ≡ []
  pub opens : v.opens ≡ 0
  pub narrow : (s : Site) → (at v.cells s).width ≤ item_limit
  pub cohorts : (s : Site) → (at v.cells s).cohorts ≡ []
  pub versions : (s : Site) (i : ℕ) → (at v.cells s).versions i ≡ []
  pub stagings : (s : Site) (i : ℕ) → (at v.cells s).stagings i ≡ None
  pub clock : (s : Site) → (at v.cells s).clock ≡ 0
  pub last : (s : Site) → (at v.cells s).last ≡ 0

-- the events, the newest first, lead from a fresh line to this one
abbrev pub Reached : {P : Type 0} → LineView P → List (Event P) → Type 0
Reached {P} v [] = Fresh v
Reached {P} v (e ∷ h) = (u : LineView P) × (v ≡ did u e.call) × (e.answer ≡ told u e.call) × Reached u h

-- what the observer saw of them
abbrev pub seen : {P : Type 0} → List (Event P) → Seen P
seen [] = nothing
seen (e ∷ h) = note (seen h) e.call e.answer

-- what the stores answer as newest
abbrev pub newest_on : {P : Type 0} → LineView P → Site → ℕ → Option P
newest_on v s i = newest_at (at v.cells s) i

abbrev pub Serial : {P : Type 0} → LineView P → List (Event P) → Type 0
Serial v h = SerialOrder (newest_on v) (seen h)

-- every list of calls from a fresh line is serially ordered
abbrev pub AlwaysSerial : Type 0 → Type 0
AlwaysSerial P = (h : List (Event P)) (v : LineView P) → Reached v h → Serial v h

-- a call goes on with every run that led to it
abbrev pub Onward : {P : Type 0} → LineView P → Call P → Outcome P → LineView P → Type 0
Onward {P} v c a w = (h : List (Event P)) → Reached v h → Reached w (event c a ∷ h) × Serial w (event c a ∷ h)

-- what a call does: its answer, the line after it, and every run that it goes on with
pub record Does {P : Type 0} (v : LineView P) (c : Call P) (a : Outcome P) (w : LineView P) : Type 0 where
  pub answer : a ≡ told v c
  pub after : w ≡ did v c
  pub runs : Onward v c a w

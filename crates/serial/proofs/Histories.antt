-- What holds between a line's tables and what was seen of it, at any time.
use Rattle.std.proofs.Common.{◌≡◌, ℕ, ◌<◌, ◌≤◌, Bool, true, false, cond, not, ◌&&◌, List, [], ◌∷◌, length, is_some, Some, None}
use Rattle.protocol.specs.declared.sites.Site.{Site}
use Rattle.protocol.specs.declared.messages.Range.{Range}
use Rattle.protocol.specs.declared.messages.Vote.TheVariants.{Yes, No}
use Rattle.protocol.specs.declared.messages.Decision.TheVariants.{Commit}
use Rattle.protocol.specs.declared.messages.Order.TheVariants.{Prepare, Decide}
use Rattle.protocol.specs.declared.messages.Report.TheVariants.{Cast, Ack}
use Rattle.protocol.specs.declared.messages.Body.{Body}
use Rattle.protocol.specs.declared.messages.Body.TheVariants.{ToCell, ToCoordinator}
use Rattle.protocol.specs.declared.messages.Message.{Message}
use Rattle.protocol.specs.declared.answers.Stage.{Stage}
use Rattle.protocol.specs.declared.answers.Stage.TheVariants.{Open, Polling, Decided}
use Rattle.protocol.specs.declared.calls.Call.{Call}
use Rattle.protocol.specs.Sites.{at}
use Rattle.coordinator.specs.Steps.{number_in, opened}
use Rattle.model.specs.Cells.{cohort_of}
use Rattle.model.specs.Lines.{LineView, transaction_of}
use Rattle.model.specs.Calls.{told, did}
use Rattle.serial.specs.Observer.{Act, Seen, note}
use Rattle.serial.specs.Order.{acts_at}
use Rattle.serial.specs.Laws.{Covers}
use Rattle.serial.proofs.Lives.{Life, Prepared, is_unknown, is_installed, is_over, hi, Apart, Kept, Within}

-- what was seen, what each transaction is at each cell, and which ones are live
pub record History (P : Type 0) : Type 0 where
  pub seen : Seen P
  pub life : Site → ℕ → Life
  pub live : ℕ → Bool

abbrev pub log_at : {P : Type 0} → Seen P → Site → ℕ → List (Act P)
log_at o s x = acts_at x s o.uses

abbrev pub is_decided : Stage → Bool
is_decided Open = false
is_decided Polling = false
is_decided (Decided k) = true

-- what a message in the post says of its transaction's stage, and of what it is at the cell
abbrev pub Means : Stage → Life → Body → Type 0
Means t p (ToCell Prepare) = is_unknown p ≡ false
Means t p (ToCell (Decide k)) = (is_unknown p ≡ false) × (t ≡ Decided k)
Means t p (ToCoordinator (Cast (Yes g))) = (is_unknown p ≡ false) × (is_decided t ≡ false → p ≡ Prepared g.earliest g.latest)
Means t p (ToCoordinator (Cast No)) = is_unknown p ≡ false
Means t p (ToCoordinator Ack) = is_over p ≡ true

abbrev pub Fits : {P : Type 0} → History P → Message → Type 0
Fits h m = Means (h.seen.transaction m.tx).stage (h.life m.site m.tx) m.body

abbrev pub All : {X : Type 0} → (X → Type 0) → List X → Type 0
All p [] = Unit {0}
All p (x ∷ xs) = p x × All p xs

-- the coordinator, the post and the cells' lives
pub record Sound {P : Type 0} (h : History P) : Type 0 where
  pub joined : (x : ℕ) (s : Site) → at (h.seen.transaction x).joined s ≡ not (is_unknown (h.life s x))
  pub cast : (x : ℕ) (s : Site) (g : Range) → at (h.seen.transaction x).votes s ≡ Some g → is_decided (h.seen.transaction x).stage ≡ false → h.life s x ≡ Prepared g.earliest g.latest
  pub held : (x : ℕ) (s : Site) (t : ℕ) → (h.seen.transaction x).stage ≡ Decided (Commit t) → is_unknown (h.life s x) ≡ false → Within (h.life s x) t
  pub won : (x : ℕ) (s : Site) → is_installed (h.life s x) ≡ true → (h.seen.transaction x).stage ≡ Decided (Commit (hi (h.life s x)))
  pub acks : (x : ℕ) (s : Site) → at (h.seen.transaction x).acks s ≡ true → is_over (h.life s x) ≡ true
  pub voted : (x : ℕ) (s : Site) (t : ℕ) → (h.seen.transaction x).stage ≡ Decided (Commit t) → at (h.seen.transaction x).joined s ≡ true → Covers (at (h.seen.transaction x).votes s) t
  pub settled : (x : ℕ) (s : Site) → h.seen.settled x s ≡ is_over (h.life s x)
  pub mails : All (Fits h) h.seen.post

pub record Good {P : Type 0} (v : LineView P) (h : History P) : Type 0 where
  pub post : v.post ≡ h.seen.post
  pub transactions : (x : ℕ) → transaction_of v x ≡ cond (h.live x) (Some (h.seen.transaction x)) None
  pub lone : Apart number_in v.transactions
  pub few : length v.transactions ≤ 16
  pub light : length v.post ≤ 64
  pub cells : (s : Site) → Kept (at v.cells s) (h.life s) (log_at h.seen s)
  -- a cohort stands in a cell's table exactly for a live transaction that joined it
  pub tabled : (s : Site) (x : ℕ) → is_some (cohort_of (at v.cells s) x) ≡ (h.live x && at (h.seen.transaction x).joined s)
  pub sound : Sound h
  pub unborn : (x : ℕ) → v.opens < x → (h.live x ≡ false) × (h.seen.transaction x ≡ opened x)

-- a line, and a history of it in which this was seen
abbrev pub Next : {P : Type 0} → Seen P → LineView P → Type 0
Next {P} o w = (k : History P) × (k.seen ≡ o) × Good w k

-- a call keeps it
abbrev pub Keeps : {P : Type 0} → Call P → Type 0
Keeps {P} c = (v : LineView P) (h : History P) → Good v h → Next (note h.seen c (told v c)) (did v c)

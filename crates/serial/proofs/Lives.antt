-- A cell as functions of the transaction and the item, and what holds of it at any time. The tables of a cell are like such a cell
-- (`Like`), whose lives and logs are those that were seen.
use Rattle.std.proofs.Common.{◌≡◌, ℕ, ◌<◌, ◌≤◌, Bool, true, false, cond, ltb, ◌⊎◌, List, [], ◌∷◌, is_some, Some, None, Option}
use Rattle.std.specs.Option.{option_or}
use Rattle.items.specs.Sets.{has}
use Rattle.table.specs.Contents.{find_in}
use Rattle.store.specs.declared.Version.{Version}
use Rattle.store.specs.Meaning.{with, last_of}
use Rattle.cohort.specs.declared.kinds.State.{State}
use Rattle.cohort.specs.declared.kinds.State.TheVariants.{Active, Voted, Out, Done}
use Rattle.cohort.specs.declared.kinds.Cohort.{Cohort}
use Rattle.cohort.specs.Steps.{tx_of}
use Rattle.model.specs.Cells.{CellView, cohort_of, payload_of}
use Rattle.serial.specs.Observer.{Act, Got, Put}
use Rattle.serial.specs.Order.{wrote_in, got_in}

-- all that a transaction ever was at a cell: nothing yet, working since a tick, prepared with a range, installed at a tick, left
-- without a vote or with a no, or dropped by an abort
pub data Life : Type 0 where
  Unknown : Life
  Working : ℕ → Life
  Prepared : ℕ → ℕ → Life
  Installed : ℕ → Life
  Left : Life
  Dropped : Life

abbrev pub is_unknown : Life → Bool
is_unknown Unknown = true
is_unknown (Working s) = false
is_unknown (Prepared e l) = false
is_unknown (Installed t) = false
is_unknown Left = false
is_unknown Dropped = false

abbrev pub is_working : Life → Bool
is_working Unknown = false
is_working (Working s) = true
is_working (Prepared e l) = false
is_working (Installed t) = false
is_working Left = false
is_working Dropped = false

abbrev pub is_prepared : Life → Bool
is_prepared Unknown = false
is_prepared (Working s) = false
is_prepared (Prepared e l) = true
is_prepared (Installed t) = false
is_prepared Left = false
is_prepared Dropped = false

abbrev pub is_installed : Life → Bool
is_installed Unknown = false
is_installed (Working s) = false
is_installed (Prepared e l) = false
is_installed (Installed t) = true
is_installed Left = false
is_installed Dropped = false

-- it has holds
abbrev pub is_holding : Life → Bool
is_holding Unknown = false
is_holding (Working s) = true
is_holding (Prepared e l) = true
is_holding (Installed t) = false
is_holding Left = false
is_holding Dropped = false

-- a decision was carried out
abbrev pub is_over : Life → Bool
is_over Unknown = false
is_over (Working s) = false
is_over (Prepared e l) = false
is_over (Installed t) = true
is_over Left = false
is_over Dropped = true

-- it has a prepared interval: the range it voted, or the one tick at which it was installed
abbrev pub has_interval : Life → Bool
has_interval Unknown = false
has_interval (Working s) = false
has_interval (Prepared e l) = true
has_interval (Installed t) = true
has_interval Left = false
has_interval Dropped = false

-- the ends of the interval
abbrev pub lo : Life → ℕ
lo Unknown = 0
lo (Working s) = s
lo (Prepared e l) = e
lo (Installed t) = t
lo Left = 0
lo Dropped = 0

abbrev pub hi : Life → ℕ
hi Unknown = 0
hi (Working s) = 0
hi (Prepared e l) = l
hi (Installed t) = t
hi Left = 0
hi Dropped = 0

-- a cell as functions
pub record Image (P : Type 0) : Type 0 where
  pub life : ℕ → Life
  pub reads : ℕ → ℕ → Bool
  pub writes : ℕ → ℕ → Bool
  pub staged : ℕ → Option P
  pub versions : ℕ → List (Version P)
  pub last : ℕ

-- a cohort is what its transaction is, and holds what it holds
pub record Holds (c : Cohort) (rd wr : ℕ → Bool) : Type 0 where
  pub reads : (i : ℕ) → has c.reads i ≡ rd i
  pub writes : (i : ℕ) → has c.writes i ≡ wr i

pub record Bare (c : Cohort) : Type 0 where
  pub reads : (i : ℕ) → has c.reads i ≡ false
  pub writes : (i : ℕ) → has c.writes i ≡ false

abbrev pub Kin : Cohort → State → Life → (ℕ → Bool) → (ℕ → Bool) → Type 0
Kin c (Active n) p rd wr = (p ≡ Working n) × Holds c rd wr
Kin c (Voted g) p rd wr = (p ≡ Prepared g.earliest g.latest) × Holds c rd wr
Kin c Out p rd wr = (p ≡ Left) × Bare c
Kin c Done p rd wr = (is_over p ≡ true) × Bare c

abbrev pub At : Option Cohort → Life → (ℕ → Bool) → (ℕ → Bool) → Type 0
At None p rd wr = is_holding p ≡ false
At (Some c) p rd wr = Kin c c.state p rd wr

-- the tables of a cell are like a cell of functions
pub record Like {P : Type 0} (v : CellView P) (s : Image P) : Type 0 where
  pub each : (x : ℕ) → At (cohort_of v x) (s.life x) (s.reads x) (s.writes x)
  pub staged : (i : ℕ) → v.stagings i ≡ s.staged i
  pub versions : (i : ℕ) → v.versions i ≡ s.versions i
  pub last : v.last ≡ s.last

abbrev pub Split : Life → Life → Type 0
Split p q = has_interval p ≡ true → has_interval q ≡ true → (hi q < lo p) ⊎ (hi p < lo q)

-- holds, intervals and staged payloads
pub record Inv {P : Type 0} (w : ℕ) (s : Image P) : Type 0 where
  pub within : (x i : ℕ) → s.writes x i ≡ true → i < w
  pub new_r : (x i : ℕ) → is_unknown (s.life x) ≡ true → s.reads x i ≡ false
  pub new_w : (x i : ℕ) → is_unknown (s.life x) ≡ true → s.writes x i ≡ false
  pub whole : (x : ℕ) → has_interval (s.life x) ≡ true → lo (s.life x) ≤ hi (s.life x)
  pub past : (x : ℕ) → has_interval (s.life x) ≡ true → is_prepared (s.life x) ≡ false → hi (s.life x) ≤ s.last
  pub lock_w : (x y i : ℕ) → (x ≡ y → ⊥) → s.writes x i ≡ true → s.writes y i ≡ true → is_holding (s.life x) ≡ true → is_holding (s.life y) ≡ true → ⊥
  pub lock_r : (x y i : ℕ) → (x ≡ y → ⊥) → s.writes x i ≡ true → s.reads y i ≡ true → is_holding (s.life x) ≡ true → is_working (s.life y) ≡ true → ⊥
  pub above_w : (x y i : ℕ) → (x ≡ y → ⊥) → s.writes x i ≡ true → s.writes y i ≡ true → is_prepared (s.life x) ≡ true → has_interval (s.life y) ≡ true → hi (s.life y) < lo (s.life x)
  pub above_r : (x y i : ℕ) → (x ≡ y → ⊥) → s.writes x i ≡ true → s.reads y i ≡ true → is_prepared (s.life x) ≡ true → has_interval (s.life y) ≡ true → hi (s.life y) < lo (s.life x)
  pub apart_w : (x y i : ℕ) → (x ≡ y → ⊥) → s.writes x i ≡ true → s.writes y i ≡ true → Split (s.life x) (s.life y)
  pub apart_r : (x y i : ℕ) → (x ≡ y → ⊥) → s.writes x i ≡ true → s.reads y i ≡ true → Split (s.life x) (s.life y)
  pub stages : (x i : ℕ) → is_holding (s.life x) ≡ true → s.writes x i ≡ true → is_some (s.staged i) ≡ true

-- each newest version was written by one that committed at its time
abbrev pub Written : {P : Type 0} → Image P → Type 0
Written {P} s = (i : ℕ) (u : Version P) → last_of (s.versions i) ≡ Some u → (y : ℕ) × (s.life y ≡ Installed u.time) × (s.writes y i ≡ true)

-- one item's payload after acts, over what it was before
abbrev pub Cellful : Type 0 → Type 0
Cellful P = ℕ → Option P

abbrev pub play : {P : Type 0} → Cellful P → List (Act P) → Cellful P
play m [] = m
play m (Got i q ∷ acts) = play m acts
play m (Put i p ∷ acts) = play (with m i (Some p)) acts

-- each read of the acts gives what it gave
abbrev pub Same : {P : Type 0} → Cellful P → List (Act P) → Type 0
Same m [] = Unit {0}
Same m (Got i q ∷ acts) = (m i ≡ q) × Same m acts
Same m (Put i p ∷ acts) = Same (with m i (Some p)) acts

abbrev pub blank : {P : Type 0} → Cellful P
blank i = None

abbrev pub newest : {P : Type 0} → List (Version P) → Option P
newest vs = payload_of (last_of vs)

-- the newest version before a time
abbrev pub before : {P : Type 0} → List (Version P) → ℕ → Option P
before [] t = None
before (u ∷ vs) t = option_or (before vs t) (cond (ltb u.time t) (Some u.payload) None)

-- y is the last settled writer of i before t
pub record Latest {P : Type 0} (s : Image P) (log : ℕ → List (Act P)) (i t y : ℕ) : Type 0 where
  pub over : is_installed (s.life y) ≡ true
  pub writes : s.writes y i ≡ true
  pub early : hi (s.life y) < t
  pub gave : before (s.versions i) t ≡ play blank (log y) i
  pub top : (z : ℕ) → is_installed (s.life z) ≡ true → s.writes z i ≡ true → hi (s.life z) < t → hi (s.life z) ≤ hi (s.life y)

pub record Nobody {P : Type 0} (s : Image P) (i t : ℕ) : Type 0 where
  pub absent : before (s.versions i) t ≡ None
  pub nobody : (z : ℕ) → is_installed (s.life z) ≡ true → s.writes z i ≡ true → hi (s.life z) < t → ⊥

-- what versions, staged payloads and logs have to do with each other
pub record Ties {P : Type 0} (s : Image P) (log : ℕ → List (Act P)) : Type 0 where
  pub writes : (x i : ℕ) → wrote_in (log x) i ≡ s.writes x i
  pub reads : (x i : ℕ) → got_in (log x) i ≡ s.reads x i
  pub stages : (x i : ℕ) → is_holding (s.life x) ≡ true → s.writes x i ≡ true → s.staged i ≡ play blank (log x) i
  pub now : (x : ℕ) → is_working (s.life x) ≡ true → Same (λ i. newest (s.versions i)) (log x)
  pub then : (x t : ℕ) → has_interval (s.life x) ≡ true → lo (s.life x) ≤ t → t ≤ hi (s.life x) → Same (λ i. before (s.versions i) t) (log x)
  pub version : (i t : ℕ) → ((y : ℕ) × Latest s log i t y) ⊎ Nobody s i t
  pub top : (i t : ℕ) → ((y : ℕ) → is_installed (s.life y) ≡ true → s.writes y i ≡ true → hi (s.life y) < t) → before (s.versions i) t ≡ newest (s.versions i)

-- no number twice
abbrev pub Apart : {X : Type 0} → (X → ℕ) → List X → Type 0
Apart num [] = Unit {0}
Apart num (r ∷ rs) = (find_in num rs (num r) ≡ None) × Apart num rs

-- the cell as functions: lives and holds as they were seen, the rest as it stands in the tables
abbrev pub image : {P : Type 0} → CellView P → (ℕ → Life) → (ℕ → List (Act P)) → Image P
image v life log = record { life = life; reads = λ x i. got_in (log x) i; writes = λ x i. wrote_in (log x) i; staged = v.stagings; versions = v.versions; last = v.last }

-- what holds of a cell at any time
pub record Kept {P : Type 0} (v : CellView P) (life : ℕ → Life) (log : ℕ → List (Act P)) : Type 0 where
  pub narrow : v.width ≤ 64
  pub single : Apart tx_of v.cohorts
  pub like : Like v (image v life log)
  pub inv : Inv v.width (image v life log)
  pub written : Written (image v life log)
  pub ties : Ties (image v life log) log

-- a tick inside the interval
pub record Within (p : Life) (t : ℕ) : Type 0 where
  pub set : has_interval p ≡ true
  pub above : lo p ≤ t
  pub below : t ≤ hi p

-- Serial order, of what an observer saw and of the newest payloads that the stores answer.
use Rattle.std.specs.Prelude.{◌≡◌, ℕ, ◌≤◌, Bool, true, false, cond, ◌&&◌, ◌||◌, List, [], ◌∷◌, Some, None, Option, ◌==◌, ◌≢◌}
use Rattle.protocol.specs.declared.sites.Site.{Site}
use Rattle.protocol.specs.declared.messages.Decision.TheVariants.{Commit, Abort}
use Rattle.protocol.specs.declared.answers.Stage.{Stage}
use Rattle.protocol.specs.declared.answers.Stage.TheVariants.{Open, Polling, Decided}
use Rattle.serial.specs.Observer.{same_site, Act, Got, Put, Use, Seen}

-- the commit time of a transaction, if it committed
abbrev pub time_in : Stage → Option ℕ
time_in Open = None
time_in Polling = None
time_in (Decided (Commit t)) = Some t
time_in (Decided Abort) = None

abbrev pub time_of : {P : Type 0} → Seen P → ℕ → Option ℕ
time_of o x = time_in (o.transaction x).stage

-- what x used, in call order; and what it did at one cell
abbrev pub uses_of : {P : Type 0} → ℕ → List (Use P) → List (Use P)
uses_of x [] = []
uses_of x (u ∷ us) = cond (u.tx == x) (u ∷ uses_of x us) (uses_of x us)

abbrev pub acts_at : {P : Type 0} → ℕ → Site → List (Use P) → List (Act P)
acts_at x s [] = []
acts_at x s (u ∷ us) = cond (u.tx == x && same_site s u.site) (u.act ∷ acts_at x s us) (acts_at x s us)

abbrev pub wrote_in : {P : Type 0} → List (Act P) → ℕ → Bool
wrote_in [] i = false
wrote_in (Got j q ∷ acts) i = wrote_in acts i
wrote_in (Put j p ∷ acts) i = j == i || wrote_in acts i

abbrev pub got_in : {P : Type 0} → List (Act P) → ℕ → Bool
got_in [] i = false
got_in (Got j q ∷ acts) i = j == i || got_in acts i
got_in (Put j p ∷ acts) i = got_in acts i

abbrev pub writes : {P : Type 0} → Seen P → ℕ → Site → ℕ → Bool
writes o x s i = wrote_in (acts_at x s o.uses) i

abbrev pub uses : {P : Type 0} → Seen P → ℕ → Site → ℕ → Bool
uses o x s i = wrote_in (acts_at x s o.uses) i || got_in (acts_at x s o.uses) i

-- a replay: each item of each cell has a payload, or is absent
abbrev pub Memory : Type 0 → Type 0
Memory P = Site → ℕ → Option P

abbrev pub empty : {P : Type 0} → Memory P
empty s i = None

abbrev pub putting : {P : Type 0} → Memory P → Site → ℕ → P → Memory P
putting m s i p z k = cond (same_site s z && i == k) (Some p) (m z k)

-- a write sets the item's payload
abbrev pub acting : {P : Type 0} → Memory P → Site → Act P → Memory P
acting m s (Got i q) = m
acting m s (Put i p) = putting m s i p

-- a read gives what it gave
abbrev pub Gives : {P : Type 0} → Memory P → Site → Act P → Type 0
Gives m s (Got i q) = m s i ≡ q
Gives m s (Put i p) = Unit {0}

abbrev pub replay : {P : Type 0} → Memory P → List (Use P) → Memory P
replay m [] = m
replay m (u ∷ us) = replay (acting m u.site u.act) us

abbrev pub Faithful : {P : Type 0} → Memory P → List (Use P) → Type 0
Faithful m [] = Unit {0}
Faithful m (u ∷ us) = Gives m u.site u.act × Faithful (acting m u.site u.act) us

-- transactions one after the other, each with its reads and writes
abbrev pub replay_all : {P : Type 0} → Seen P → Memory P → List ℕ → Memory P
replay_all o m [] = m
replay_all o m (x ∷ xs) = replay_all o (replay m (uses_of x o.uses)) xs

abbrev pub FaithfulAll : {P : Type 0} → Seen P → Memory P → List ℕ → Type 0
FaithfulAll o m [] = Unit {0}
FaithfulAll o m (x ∷ xs) = Faithful m (uses_of x o.uses) × FaithfulAll o (replay m (uses_of x o.uses)) xs

abbrev pub has : ℕ → List ℕ → Bool
has x [] = false
has x (y ∷ ys) = x == y || has x ys

-- no transaction twice, and times never fall
abbrev pub InOrder : {P : Type 0} → Seen P → List ℕ → Type 0
InOrder o [] = Unit {0}
InOrder o (x ∷ xs) = (has x xs ≡ false) × ((y t u : ℕ) → has y xs ≡ true → time_of o x ≡ Some t → time_of o y ≡ Some u → t ≤ u) × InOrder o xs

-- all committed transactions, in an order in which times never fall
pub record Chosen {P : Type 0} (o : Seen P) (xs : List ℕ) : Type 0 where
  pub only : (x : ℕ) → has x xs ≡ true → (t : ℕ) × (time_of o x ≡ Some t)
  pub all : (x t : ℕ) → time_of o x ≡ Some t → has x xs ≡ true
  pub order : InOrder o xs

-- every committed transaction that wrote the item is settled at its cell
abbrev pub Calm : {P : Type 0} → Seen P → Site → ℕ → Type 0
Calm o s i = (x t : ℕ) → time_of o x ≡ Some t → writes o x s i ≡ true → o.settled x s ≡ true

pub record SerialOrder {P : Type 0} (newest : Site → ℕ → Option P) (o : Seen P) : Type 0 where
  -- two committed transactions that used an item, one writing it, have different times
  pub different : (x y : ℕ) (s : Site) (i t u : ℕ) → (x ≢ y) → time_of o x ≡ Some t → time_of o y ≡ Some u → writes o x s i ≡ true → uses o y s i ≡ true → t ≢ u
  -- in any order in which times never fall, each accepted read gives what it gave
  pub reads : (xs : List ℕ) → Chosen o xs → FaithfulAll o empty xs
  -- and the end is what the stores answer as newest
  pub ends : (xs : List ℕ) → Chosen o xs → (s : Site) (i : ℕ) → Calm o s i → replay_all o empty xs s i ≡ newest s i

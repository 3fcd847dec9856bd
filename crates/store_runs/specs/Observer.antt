-- An observer, who sees calls and answers alone: what it takes to be staged for an item, and to be its newest version.
use Rattle.std.specs.Prelude.{◌≡◌, ℕ, cond, List, [], ◌∷◌, is_err, Some, None, Option, ◌==◌}
use Rattle.store.specs.declared.Version.{Version}
use Rattle.store.specs.Meaning.{last_of}
use Rattle.store_runs.specs.declared.StoreCall.{StoreCall}
use Rattle.store_runs.specs.declared.StoreCall.TheVariants.{Newest, Staged, Stage, Unstage, Install, Clear}
use Rattle.store_runs.specs.Plain.{Plain, Answer}

-- the payload staged last, if it still waits, and the version installed last
pub record Seen (P : Type 0) : Type 0 where
  pub waiting : Option P
  pub latest : Option (Version P)

-- before any call
abbrev pub unseen : {P : Type 0} → Seen P
unseen = record { waiting = None; latest = None }

-- a payload that is installed at a time
abbrev pub stamped : {P : Type 0} → ℕ → Option P → Option (Version P)
stamped t None = None
stamped t (Some p) = Some (record { time = t; payload = p })

-- what an accepted call tells of the item k
abbrev pub told : {P : Type 0} → ℕ → Seen P → StoreCall P → Seen P
told k o (Newest i) = o
told k o (Staged i) = o
told k o (Stage i p) = cond (i == k) (record { waiting = Some p; latest = o.latest }) o
told k o (Unstage i) = cond (i == k) (record { waiting = None; latest = o.latest }) o
told k o (Install i t) = cond (i == k) (record { waiting = None; latest = stamped t o.waiting }) o
told k o Clear = unseen

-- a refused call tells nothing
abbrev pub sees : {P : Type 0} → ℕ → Seen P → StoreCall P → Answer P → Seen P
sees k o c a = cond (is_err a) o (told k o c)

-- what a list of calls with their answers tells
abbrev pub observed : {P : Type 0} → ℕ → Seen P → List (StoreCall P) → List (Answer P) → Seen P
observed k o [] answers = o
observed k o (c ∷ cs) [] = o
observed k o (c ∷ cs) (a ∷ answers) = observed k (sees k o c a) cs answers

-- each item has staged what was staged last and still waits, and its newest version is the one installed last
abbrev pub KnownFrom : {P : Type 0} → List (StoreCall P) → List (Answer P) → Plain P → Type 0
KnownFrom cs answers m =
    (k : ℕ) → (m.pending k ≡ (observed k unseen cs answers).waiting) × (last_of (m.history k) ≡ (observed k unseen cs answers).latest)

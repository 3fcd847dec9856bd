-- What the rows of a journal mean.
use Rattle.std.specs.Prelude.{◌≡◌, ℕ, zero, suc, ◌<◌, Bool, true, cond, not, ◌&&◌, List, [], ◌∷◌, ◌++◌, length, Some, None, Option, ◌==◌, nat_lt}
use Rattle.std.specs.Option.{option_or}
use Rattle.store.specs.declared.Version.{Version}
use Rattle.journal.specs.declared.Held.{Held}
use Rattle.journal.specs.declared.Row.{Row}
use Rattle.journal.specs.declared.Row.TheVariants.{Staged, Installed}

-- the item of a row
abbrev pub item_of : {P : Type 0} → Row P → ℕ
item_of (Staged i p) = i
item_of (Installed i v) = i

-- the version of an item in a row, if any
abbrev pub version_in : {P : Type 0} → Row P → ℕ → List (Version P)
version_in (Staged i p) k = []
version_in (Installed i v) k = cond (i == k) (v ∷ []) []

-- the staged payload of an item in a row, if any
abbrev pub staged_in : {P : Type 0} → Row P → ℕ → Option P
staged_in (Staged i p) k = cond (i == k) (Some p) None
staged_in (Installed i v) k = None

-- an item's versions are its installed rows, in their order
abbrev pub versions_of : {P : Type 0} → List (Row P) → ℕ → List (Version P)
versions_of [] k = []
versions_of (r ∷ rs) k = version_in r k ++ versions_of rs k

-- an item's staged payload is that of its staged row
abbrev pub staged_of : {P : Type 0} → List (Row P) → ℕ → Option P
staged_of [] k = None
staged_of (r ∷ rs) k = option_or (staged_in r k) (staged_of rs k)

-- whether no row is of the item
abbrev pub absent : {P : Type 0} → ℕ → List (Row P) → Bool
absent k [] = true
absent k (r ∷ rs) = not (item_of r == k) && absent k rs

-- whether a row may stand before others: after a staged row comes no other row of its item
abbrev pub precedes : {P : Type 0} → Row P → List (Row P) → Bool
precedes (Staged i p) rs = absent i rs
precedes (Installed i v) rs = true

-- whether each row is of an item below n and may stand where it does
abbrev pub sound : {P : Type 0} → ℕ → List (Row P) → Bool
sound n [] = true
sound n (r ∷ rs) = nat_lt (item_of r) n && (precedes r rs && sound n rs)

-- the row at the place j has the item's staged payload
abbrev pub StagedAt : {P : Type 0} → List (Row P) → ℕ → ℕ → P → Type 0
StagedAt [] j k p = ⊥
StagedAt (r ∷ rs) zero k p = r ≡ Staged k p
StagedAt (r ∷ rs) (suc j) k p = StagedAt rs j k p

-- a search for the item's staged row gives its place and payload, or nothing where nothing is staged
abbrev pub Found : {P : Type 0} → List (Row P) → ℕ → Option (Held P) → Type 0
Found rows k None = staged_of rows k ≡ None
Found rows k (Some x) = (x.place < length rows) × StagedAt rows x.place k x.payload

-- What the rows of a chain store mean, and when they are sound.
use Rattle.std.specs.Prelude.{◌≡◌, ℕ, zero, suc, ◌+◌, Bool, true, false, ◌&&◌, List, [], ◌∷◌, ◌++◌, length, Some, None, Option, ◌==◌, slice_index_or}
use Rattle.store.specs.declared.Version.{Version}
use Rattle.store.specs.Meaning.{used, rising}
use Rattle.chain.specs.declared.Row.{Row}
use Rattle.chain.specs.declared.Row.TheVariants.{Free, Staged, Installed}
use Rattle.chain.specs.declared.Slot.{Slot}

-- the row at a place, or none
abbrev pub look : {P : Type 0} → List (Row P) → ℕ → Option (Row P)
look [] i = None
look (r ∷ rs) zero = Some r
look (r ∷ rs) (suc i) = look rs i

-- whether a row is unused
abbrev pub is_free : {P : Type 0} → Option (Row P) → Bool
is_free None = false
is_free (Some (Free n)) = true
is_free (Some (Staged i p)) = false
is_free (Some (Installed i v b)) = false

-- whether a row has a staged payload of the item k
abbrev pub is_staged : {P : Type 0} → ℕ → Option (Row P) → Bool
is_staged k None = false
is_staged k (Some (Free n)) = false
is_staged k (Some (Staged i p)) = i == k
is_staged k (Some (Installed i v b)) = false

-- whether a row has a version of the item k
abbrev pub is_installed : {P : Type 0} → ℕ → Option (Row P) → Bool
is_installed k None = false
is_installed k (Some (Free n)) = false
is_installed k (Some (Staged i p)) = false
is_installed k (Some (Installed i v b)) = i == k

-- the unused row that an unused one links to
abbrev pub next_free : {P : Type 0} → Row P → Option ℕ
next_free (Free n) = n
next_free (Staged i p) = None
next_free (Installed i v b) = None

-- the version in a row
abbrev pub version_of : {P : Type 0} → Row P → Option (Version P)
version_of (Free n) = None
version_of (Staged i p) = None
version_of (Installed i v b) = Some v

-- the staged payload in a row
abbrev pub payload_of : {P : Type 0} → Row P → Option P
payload_of (Free n) = None
payload_of (Staged i p) = Some p
payload_of (Installed i v b) = None

-- the row that a row links to
abbrev pub next_of : {P : Type 0} → Option (Row P) → Option ℕ
next_of None = None
next_of (Some (Free n)) = n
next_of (Some (Staged i p)) = None
next_of (Some (Installed i v b)) = b

-- exactly n rows are linked from the one at h on, each of them of a kind
abbrev pub linked : {P : Type 0} → (Option (Row P) → Bool) → List (Row P) → ℕ → Option ℕ → Bool
linked is rows zero None = true
linked is rows zero (Some h) = false
linked is rows (suc n) None = false
linked is rows (suc n) (Some h) = is (look rows h) && linked is rows n (next_of (look rows h))

-- the version at a place, as a list
abbrev pub version_at : {P : Type 0} → Option (Row P) → List (Version P)
version_at None = []
version_at (Some (Free n)) = []
version_at (Some (Staged i p)) = []
version_at (Some (Installed i v b)) = v ∷ []

-- the versions in n linked rows, the oldest first
abbrev pub along : {P : Type 0} → List (Row P) → ℕ → Option ℕ → List (Version P)
along rows zero h = []
along rows (suc n) None = []
along rows (suc n) (Some h) = along rows n (next_of (look rows h)) ++ version_at (look rows h)

-- the slot of an item
abbrev pub slot_at : List Slot → ℕ → Slot
slot_at slots k = slice_index_or slots k (record { newest = None; count = 0; staged = None })

-- an item's versions are those linked from its newest on
abbrev pub versions_of : {P : Type 0} → List (Row P) → List Slot → ℕ → List (Version P)
versions_of rows slots k = along rows (slot_at slots k).count (slot_at slots k).newest

-- the staged payload at a place
abbrev pub payload_at : {P : Type 0} → Option (Row P) → Option P
payload_at None = None
payload_at (Some r) = payload_of r

abbrev pub staged_at : {P : Type 0} → List (Row P) → Option ℕ → Option P
staged_at rows None = None
staged_at rows (Some j) = payload_at (look rows j)

-- an item's staged payload is in the row that its slot names
abbrev pub staged_of : {P : Type 0} → List (Row P) → List Slot → ℕ → Option P
staged_of rows slots k = staged_at rows (slot_at slots k).staged

-- the row that a slot names as staged, if any, is so, for the item k
abbrev pub is_kept : {P : Type 0} → List (Row P) → ℕ → Option ℕ → Bool
is_kept rows k None = true
is_kept rows k (Some j) = is_staged k (look rows j)

-- slots and links fit, and with the unused rows the rows in use are all
pub record Sound {P : Type 0} (rows : List (Row P)) (free : Option ℕ) (left : ℕ) (slots : List Slot) (w : ℕ) : Type 0 where
  pub wide : length slots ≡ w
  pub frees : linked is_free rows left free ≡ true
  pub links : (k : ℕ) → linked (is_installed k) rows (slot_at slots k).count (slot_at slots k).newest ≡ true
  pub stages : (k : ℕ) → is_kept rows k (slot_at slots k).staged ≡ true
  pub full : used (versions_of rows slots) (staged_of rows slots) w + left ≡ length rows
  pub rises : (k : ℕ) → rising (versions_of rows slots k) ≡ true

-- the row before a place
abbrev pub row_before : ℕ → Option ℕ
row_before zero = None
row_before (suc n) = Some n

-- n unused rows, each linked to the one before it
abbrev pub free_rows : {P : Type 0} → ℕ → List (Row P)
free_rows zero = []
free_rows (suc n) = free_rows n ++ (Free (row_before n) ∷ [])

-- What a store means: for each item a row of versions and at most one staged payload, and a capacity in rows.
use Rattle.std.specs.Prelude.{ℕ, zero, suc, ◌+◌, Bool, true, false, cond, List, [], ◌∷◌, ◌++◌, length, is_some, Some, None, Ok, Err, Option, Result, ◌==◌, nat_lt}
use Rattle.store.specs.declared.Version.{Version}
use Rattle.store.specs.declared.Refusal.{Refusal}
use Rattle.store.specs.declared.Refusal.TheVariants.{NoItem, NoRow, NotStaged, NotLater}

-- a function with one place changed
abbrev pub with : {X : Type 0} → (ℕ → X) → ℕ → X → ℕ → X
with f i x k = cond (i == k) x (f k)

abbrev pub held : {P : Type 0} → Option P → ℕ
held None = 0
held (Some p) = 1

-- the rows in use by the items below n: one for each version and each staged payload
abbrev pub used : {P : Type 0} → (ℕ → List (Version P)) → (ℕ → Option P) → ℕ → ℕ
used versions stagings zero = 0
used versions stagings (suc n) = used versions stagings n + (length (versions n) + held (stagings n))

abbrev pub last_of : {X : Type 0} → List X → Option X
last_of [] = None
last_of (x ∷ []) = Some x
last_of (x ∷ y ∷ r) = last_of (y ∷ r)

-- whether a version at a time comes after the newest
abbrev pub later : {P : Type 0} → Option (Version P) → ℕ → Bool
later None t = true
later (Some v) t = nat_lt v.time t

-- the versions with the staged payload as the newest
abbrev pub grown : {P : Type 0} → List (Version P) → ℕ → Option P → List (Version P)
grown versions t None = versions
grown versions t (Some p) = versions ++ (record { time = t; payload = p } ∷ [])

-- times rise from version to version
abbrev pub above : {P : Type 0} → ℕ → List (Version P) → Bool
above t [] = true
above t (v ∷ versions) = cond (nat_lt t v.time) (above v.time versions) false

abbrev pub rising : {P : Type 0} → List (Version P) → Bool
rising [] = true
rising (v ∷ versions) = above v.time versions

-- what each call answers; an accepted one then changes the meaning as the trait says
abbrev pub newest_answer : {P : Type 0} → ℕ → (ℕ → List (Version P)) → ℕ → Result (Option (Version P)) Refusal
newest_answer width versions i = cond (nat_lt i width) (Ok (last_of (versions i))) (Err NoItem)

abbrev pub staged_answer : {P : Type 0} → ℕ → (ℕ → Option P) → ℕ → Result (Option P) Refusal
staged_answer width stagings i = cond (nat_lt i width) (Ok (stagings i)) (Err NoItem)

abbrev pub stage_answer : {P : Type 0} → ℕ → ℕ → (ℕ → List (Version P)) → (ℕ → Option P) → ℕ → Result Unit Refusal
stage_answer width capacity versions stagings i =
    cond (nat_lt i width) (cond (is_some (stagings i)) (Ok tt) (cond (nat_lt (used versions stagings width) capacity) (Ok tt) (Err NoRow))) (Err NoItem)

abbrev pub unstage_answer : {P : Type 0} → ℕ → (ℕ → Option P) → ℕ → Result Unit Refusal
unstage_answer width stagings i = cond (nat_lt i width) (Ok tt) (Err NoItem)

abbrev pub install_answer : {P : Type 0} → ℕ → (ℕ → List (Version P)) → (ℕ → Option P) → ℕ → ℕ → Result Unit Refusal
install_answer width versions stagings i t =
    cond (nat_lt i width) (cond (is_some (stagings i)) (cond (later (last_of (versions i)) t) (Ok tt) (Err NotLater)) (Err NotStaged)) (Err NoItem)

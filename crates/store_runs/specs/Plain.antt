-- A plain store: its meaning alone, and what each call answers and leaves.
use Rattle.std.specs.Prelude.{ℕ, cond, List, [], ◌∷◌, is_ok, Some, None, Ok, Err, Option, Result}
use Rattle.store.specs.declared.Version.{Version}
use Rattle.store.specs.declared.Refusal.{Refusal}
use Rattle.store.specs.declared.Store.{Ghosts}
use Rattle.store.specs.Meaning.{with, grown, newest_answer, staged_answer, stage_answer, unstage_answer, install_answer}
use Rattle.store_runs.specs.declared.StoreCall.{StoreCall}
use Rattle.store_runs.specs.declared.StoreCall.TheVariants.{Newest, Staged, Stage, Unstage, Install, Clear}
use Rattle.store_runs.specs.declared.StoreReply.{StoreReply}
use Rattle.store_runs.specs.declared.StoreReply.TheVariants.{Version as Versioned, Payload, Done}

-- the number of items, the capacity, and for each item its versions and its staged payload
pub record Plain (P : Type 0) : Type 0 where
  pub wide : ℕ
  pub rows : ℕ
  pub history : ℕ → List (Version P)
  pub pending : ℕ → Option P

abbrev pub plain : {P : Type 0} → ℕ → ℕ → (ℕ → List (Version P)) → (ℕ → Option P) → Plain P
plain wide rows history pending = record { wide = wide; rows = rows; history = history; pending = pending }

-- what a store means at a time
abbrev pub meant : {S P : Type 0} → Ghosts S P → S → Plain P
meant g s = plain g.K (g.capacity s) (g.versions s) (g.stagings s)

-- a store that was cleared
abbrev pub cleared : {P : Type 0} → Plain P → Plain P
cleared m = plain m.wide m.rows (λ _. []) (λ _. None)

-- what an accepted call replies, or why it is refused
abbrev pub Answer : Type 0 → Type 0
Answer P = Result (StoreReply P) Refusal

-- a result as an answer
abbrev pub replied : {X P : Type 0} → (X → StoreReply P) → Result X Refusal → Answer P
replied reply (Ok x) = Ok (reply x)
replied reply (Err why) = Err why

-- a change that was made replies nothing
abbrev pub changed : {P : Type 0} → Result Unit Refusal → Answer P
changed r = replied (λ _. Done) r

-- what the plain store answers to a call
abbrev pub answer_to : {P : Type 0} → Plain P → StoreCall P → Answer P
answer_to m (Newest i) = replied Versioned (newest_answer m.wide m.history i)
answer_to m (Staged i) = replied Payload (staged_answer m.wide m.pending i)
answer_to m (Stage i p) = changed (stage_answer m.wide m.rows m.history m.pending i)
answer_to m (Unstage i) = changed (unstage_answer m.wide m.pending i)
answer_to m (Install i t) = changed (install_answer m.wide m.history m.pending i t)
answer_to m Clear = Ok Done

-- the plain store after a call
abbrev pub after_call : {P : Type 0} → Plain P → StoreCall P → Plain P
after_call m (Newest i) = m
after_call m (Staged i) = m
after_call m (Stage i p) =
    plain m.wide m.rows m.history
    (cond (is_ok (stage_answer m.wide m.rows m.history m.pending i)) (with m.pending i (Some p)) m.pending)
after_call m (Unstage i) =
    plain m.wide m.rows m.history (cond (is_ok (unstage_answer m.wide m.pending i)) (with m.pending i None) m.pending)
after_call m (Install i t) =
    plain m.wide m.rows
    (cond (is_ok (install_answer m.wide m.history m.pending i t)) (with m.history i (grown (m.history i) t (m.pending i))) m.history)
    (cond (is_ok (install_answer m.wide m.history m.pending i t)) (with m.pending i None) m.pending)
after_call m Clear = cleared m

-- what the plain store answers to a list of calls, and what it is after them
abbrev pub answers_to : {P : Type 0} → Plain P → List (StoreCall P) → List (Answer P)
answers_to m [] = []
answers_to m (c ∷ cs) = answer_to m c ∷ answers_to (after_call m c) cs

abbrev pub after_all : {P : Type 0} → Plain P → List (StoreCall P) → Plain P
after_all m [] = m
after_all m (c ∷ cs) = after_all (after_call m c) cs

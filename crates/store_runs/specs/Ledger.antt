-- The rows of a plain store, and what a call takes of them and gives back.
use Rattle.std.specs.Prelude.{ℕ, ◌-◌, cond, is_ok}
use Rattle.store.specs.Meaning.{held, used, stage_answer, unstage_answer}
use Rattle.store_runs.specs.declared.StoreCall.{StoreCall}
use Rattle.store_runs.specs.declared.StoreCall.TheVariants.{Newest, Staged, Stage, Unstage, Install, Clear}
use Rattle.store_runs.specs.Plain.{Plain}

-- the rows in use: one for each version and each staged payload
abbrev pub used_rows : {P : Type 0} → Plain P → ℕ
used_rows m = used m.history m.pending m.wide

-- the rest of the capacity
abbrev pub free_rows : {P : Type 0} → Plain P → ℕ
free_rows m = m.rows - used_rows m

-- only a stage takes a row, where it is accepted and replaces nothing
abbrev pub rows_taken : {P : Type 0} → Plain P → StoreCall P → ℕ
rows_taken m (Newest i) = 0
rows_taken m (Staged i) = 0
rows_taken m (Stage i p) = cond (is_ok (stage_answer m.wide m.rows m.history m.pending i)) (1 - held (m.pending i)) 0
rows_taken m (Unstage i) = 0
rows_taken m (Install i t) = 0
rows_taken m Clear = 0

-- an accepted unstage gives back the row of what was staged, if anything was, and clear gives back all
abbrev pub rows_given : {P : Type 0} → Plain P → StoreCall P → ℕ
rows_given m (Newest i) = 0
rows_given m (Staged i) = 0
rows_given m (Stage i p) = 0
rows_given m (Unstage i) = cond (is_ok (unstage_answer m.wide m.pending i)) (held (m.pending i)) 0
rows_given m (Install i t) = 0
rows_given m Clear = used_rows m

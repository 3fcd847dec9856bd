-- What a script runs on: a line with 8 items and 64 rows in each cell and a spread of 500, over journal and chain stores.
use Rattle.std.specs.Prelude.{ℕ, [], None, vec_items, vec_len}
use Rattle.protocol.specs.Sites.{of_all}
use Rattle.store.specs.declared.Store.{Ghosts}
use Rattle.journal.specs.declared.Journal.{Journal}
use Rattle.journal.specs.Rows as J
use Rattle.chain.specs.declared.Chain.{Chain}
use Rattle.chain.specs.Rows as C
use Rattle.model.specs.Cells.{CellView}
use Rattle.model.specs.Lines.{LineView}
use Rattle.cells.specs.declared.parts.Cells.{Cells}
use Rattle.cells.specs.View.{cells_view}
use Rattle.line.specs.declared.parts.Line.{Line}
use Rattle.line.specs.View.{line_view}

-- the ghost members of the two makes
abbrev pub journal_meaning : {P : Type 0} {n : ℕ} → Ghosts (Journal P n) P
journal_meaning {n = n} = record { K = n; versions = λ s. J.versions_of (vec_items s.rows); stagings = λ s. J.staged_of (vec_items s.rows); capacity = λ s. s.capacity }

abbrev pub chain_meaning : {P : Type 0} {n : ℕ} → Ghosts (Chain P n) P
chain_meaning {n = n} = record { K = n; versions = λ s. C.versions_of (vec_items s.rows) s.slots; stagings = λ s. C.staged_of (vec_items s.rows) s.slots; capacity = λ s. vec_len s.rows }

abbrev pub ScriptLine : Type 0 → Type 0
ScriptLine P = Line (Cells (Journal P 8) (Journal P 8) (Chain P 8) (Chain P 8) P)

abbrev pub script_view : {P : Type 0} → ScriptLine P → LineView P
script_view l = line_view (cells_view journal_meaning journal_meaning chain_meaning chain_meaning) l

abbrev pub fresh_script_cell : {P : Type 0} → CellView P
fresh_script_cell = record { width = 8; capacity = 64; versions = λ _. []; stagings = λ _. None; clock = 0; spread = 500; last = 0; cohorts = [] }

abbrev pub fresh_script : {P : Type 0} → LineView P
fresh_script = record { cells = of_all fresh_script_cell; transactions = []; post = []; opens = 0 }

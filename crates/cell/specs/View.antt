-- What a cell means, over any store.
use Rattle.std.specs.Prelude.{ℕ, min, cond, [], Some, None, Option, Ok, Err, Result}
use Rattle.protocol.specs.declared.faults.CellFault.{CellFault}
use Rattle.protocol.specs.declared.faults.CellFault.TheVariants.{NotActive}
use Rattle.protocol.specs.Limits.{widest_spread}
use Rattle.store.specs.declared.Store.{Ghosts}
use Rattle.table.specs.Contents.{listed}
use Rattle.cohort.specs.declared.kinds.Cohort.{Cohort}
use Rattle.cohort.specs.Holds.{is_active}
use Rattle.model.specs.Cells.{CellView}
use Rattle.cell.specs.declared.parts.Cell.{Cell}

abbrev pub cell_view : {S P : Type 0} → Ghosts S P → Cell S P → CellView P
cell_view g c = record {
  width = g.K;
  capacity = g.capacity c.store;
  versions = g.versions c.store;
  stagings = g.stagings c.store;
  clock = c.timing.clock;
  spread = c.timing.spread;
  last = c.timing.last;
  cohorts = listed c.cohorts;
}

-- a cell over a cleared store
abbrev pub fresh_cell : {S P : Type 0} → Ghosts S P → S → ℕ → CellView P
fresh_cell g s spread = record {
  width = g.K;
  capacity = g.capacity s;
  versions = λ _. [];
  stagings = λ _. None;
  clock = 0;
  spread = min spread widest_spread;
  last = 0;
  cohorts = [];
}

-- the cohort, if it is Active
abbrev pub active_by : Option Cohort → Result Cohort CellFault
active_by None = Err NotActive
active_by (Some c) = cond (is_active c.state) (Ok c) (Err NotActive)

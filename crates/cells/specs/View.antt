-- What four cells mean, over any four stores of one kind of payload.
use Rattle.std.specs.Prelude.{ℕ}
use Rattle.protocol.specs.declared.sites.PerSite.{PerSite}
use Rattle.store.specs.declared.Store.{Ghosts}
use Rattle.model.specs.Cells.{CellView}
use Rattle.cell.specs.View.{cell_view, fresh_cell}
use Rattle.cells.specs.declared.parts.Cells.{Cells}

abbrev pub cells_view : {S T U V P : Type 0} → Ghosts S P → Ghosts T P → Ghosts U P → Ghosts V P → Cells S T U V P → PerSite (CellView P)
cells_view g h i j c = record { cell0 = cell_view g c.cell0; cell1 = cell_view h c.cell1; cell2 = cell_view i c.cell2; cell3 = cell_view j c.cell3 }

-- cells over four cleared stores
abbrev pub fresh_cells : {S T U V P : Type 0} → Ghosts S P → Ghosts T P → Ghosts U P → Ghosts V P → S → T → U → V → PerSite ℕ → PerSite (CellView P)
fresh_cells g h i j a b c d spreads = record { cell0 = fresh_cell g a spreads.cell0; cell1 = fresh_cell h b spreads.cell1; cell2 = fresh_cell i c spreads.cell2; cell3 = fresh_cell j d spreads.cell3 }

-- What a line means, over any four cells.
use Rattle.std.specs.Prelude.{ℕ, []}
use Rattle.protocol.specs.declared.sites.PerSite.{PerSite}
use Rattle.table.specs.Contents.{listed}
use Rattle.store.specs.declared.Store.{Ghosts}
use Rattle.post.specs.View.{waiting}
use Rattle.cells.specs.View.{fresh_cells}
use Rattle.model.specs.Cells.{CellView}
use Rattle.model.specs.Lines.{LineView}
use Rattle.line.specs.declared.parts.Line.{Line}

abbrev pub line_view : {C P : Type 0} → (C → PerSite (CellView P)) → Line C → LineView P
line_view view l = record { cells = view l.cells; transactions = listed l.transactions; post = waiting l.post; opens = l.opens }

-- a line over four cleared stores
abbrev pub fresh_line : {S T U V P : Type 0} → Ghosts S P → Ghosts T P → Ghosts U P → Ghosts V P → S → T → U → V → PerSite ℕ → LineView P
fresh_line g h i j a b c d spreads = record { cells = fresh_cells g h i j a b c d spreads; transactions = []; post = []; opens = 0 }

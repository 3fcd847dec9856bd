-- The four cells of a line, and one thing for each of them.
use Rattle.std.specs.Prelude.{ℕ, ◌+◌, Bool, cond, not, ◌&&◌, Some, None, Option, ◌==◌, List, [], ◌∷◌}
use Rattle.protocol.specs.declared.sites.Site.{Site}
use Rattle.protocol.specs.declared.sites.Site.TheVariants.{Cell0, Cell1, Cell2, Cell3}
use Rattle.protocol.specs.declared.sites.PerSite.{PerSite}

abbrev pub site_of : ℕ → Option Site
site_of n = cond (n == 0) (Some Cell0) (cond (n == 1) (Some Cell1) (cond (n == 2) (Some Cell2) (cond (n == 3) (Some Cell3) None)))

abbrev pub number_at : Site → ℕ
number_at Cell0 = 0
number_at Cell1 = 1
number_at Cell2 = 2
number_at Cell3 = 3

abbrev pub at : {X : Type 0} → PerSite X → Site → X
at e Cell0 = e.cell0
at e Cell1 = e.cell1
at e Cell2 = e.cell2
at e Cell3 = e.cell3

abbrev pub put_at : {X : Type 0} → PerSite X → Site → X → PerSite X
put_at e Cell0 x = record { cell0 = x; cell1 = e.cell1; cell2 = e.cell2; cell3 = e.cell3 }
put_at e Cell1 x = record { cell0 = e.cell0; cell1 = x; cell2 = e.cell2; cell3 = e.cell3 }
put_at e Cell2 x = record { cell0 = e.cell0; cell1 = e.cell1; cell2 = x; cell3 = e.cell3 }
put_at e Cell3 x = record { cell0 = e.cell0; cell1 = e.cell1; cell2 = e.cell2; cell3 = x }

abbrev pub of_all : {X : Type 0} → X → PerSite X
of_all x = record { cell0 = x; cell1 = x; cell2 = x; cell3 = x }

-- the four things as a list, from cell 0 on
abbrev pub each_of : {X : Type 0} → PerSite X → List X
each_of e = e.cell0 ∷ (e.cell1 ∷ (e.cell2 ∷ (e.cell3 ∷ [])))

abbrev pub one : Bool → ℕ
one b = cond b 1 0

-- how many cells are marked
abbrev pub how_many : PerSite Bool → ℕ
how_many e = one e.cell0 + (one e.cell1 + (one e.cell2 + one e.cell3))

-- the cells that the first marks and the second does not
abbrev pub lacking : PerSite Bool → PerSite Bool → PerSite Bool
lacking e f = record { cell0 = e.cell0 && not f.cell0; cell1 = e.cell1 && not f.cell1; cell2 = e.cell2 && not f.cell2; cell3 = e.cell3 && not f.cell3 }

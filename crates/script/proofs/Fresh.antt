-- A line over four stores of 8 items and 64 rows, with spreads of 500, is the line that a script starts with.
use Rattle.std.proofs.Common.{◌≡◌, ℕ, [], None, vec_len, ap, ◌∙◌}
use Rattle.protocol.specs.declared.sites.PerSite.{PerSite}
use Rattle.protocol.specs.Sites.{of_all}
use Rattle.journal.specs.declared.Journal.{Journal}
use Rattle.chain.specs.declared.Chain.{Chain}
use Rattle.model.specs.Cells.{CellView}
use Rattle.model.specs.Lines.{LineView}
use Rattle.line.specs.View.{fresh_line}
use Rattle.script.specs.Running.{journal_meaning, chain_meaning, fresh_script}

pub script_fresh : {P : Type 0} (a b : Journal P 8) (c d : Chain P 8) (spreads : PerSite ℕ) (v : LineView P) → v ≡ fresh_line journal_meaning journal_meaning chain_meaning chain_meaning a b c d spreads →
    spreads ≡ of_all 500 → a.capacity ≡ 64 → b.capacity ≡ 64 → vec_len c.rows ≡ 64 → vec_len d.rows ≡ 64 → v ≡ fresh_script
script_fresh {P} a b c d spreads v e f p q r s =
    let cell : ℕ → CellView P = λ n. record { width = 8; capacity = n; versions = λ _. []; stagings = λ _. None; clock = 0; spread = 500; last = 0; cohorts = [] } in
    e ∙ (ap (λ z. fresh_line journal_meaning journal_meaning chain_meaning chain_meaning a b c d z) f
    ∙ (λ i. record { cells = record { cell0 = cell (p i); cell1 = cell (q i); cell2 = cell (r i); cell3 = cell (s i) }; transactions = []; post = []; opens = 0 }))

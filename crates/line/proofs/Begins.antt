-- A line over four cleared stores is fresh.
use Rattle.std.proofs.Common.{◌≡◌, ℕ, ◌≤◌, [], None, sym, refl, subst}
use Rattle.protocol.specs.declared.sites.Site.TheVariants.{Cell0, Cell1, Cell2, Cell3}
use Rattle.protocol.specs.declared.sites.PerSite.{PerSite}
use Rattle.protocol.specs.Sites.{at}
use Rattle.store.specs.declared.Store.{Ghosts}
use Rattle.model.specs.Lines.{LineView}
use Rattle.serial.specs.Runs.{Fresh}
use Rattle.line.specs.View.{fresh_line}

module _ {S T U V P : Type 0} (g : Ghosts S P) (h : Ghosts T P) (i : Ghosts U P) (j : Ghosts V P) (a : S) (b : T) (c : U) (d : V) (spreads : PerSite ℕ) where
  abbrev made : LineView P
  made = fresh_line g h i j a b c d spreads

  fresh : g.K ≤ 64 → h.K ≤ 64 → i.K ≤ 64 → j.K ≤ 64 → Fresh made
  fresh p q r s = record {
    transactions = refl;
    post = refl;
    opens = refl;
    narrow = λ z. elim z as (λ y. (at made.cells y).width ≤ 64) [ Cell0 ↦ p | Cell1 ↦ q | Cell2 ↦ r | Cell3 ↦ s ];
    cohorts = λ z. elim z as (λ y. (at made.cells y).cohorts ≡ []) [ Cell0 ↦ refl | Cell1 ↦ refl | Cell2 ↦ refl | Cell3 ↦ refl ];
    versions = λ z n. elim z as (λ y. (at made.cells y).versions n ≡ []) [ Cell0 ↦ refl | Cell1 ↦ refl | Cell2 ↦ refl | Cell3 ↦ refl ];
    stagings = λ z n. elim z as (λ y. (at made.cells y).stagings n ≡ None) [ Cell0 ↦ refl | Cell1 ↦ refl | Cell2 ↦ refl | Cell3 ↦ refl ];
    clock = λ z. elim z as (λ y. (at made.cells y).clock ≡ 0) [ Cell0 ↦ refl | Cell1 ↦ refl | Cell2 ↦ refl | Cell3 ↦ refl ];
    last = λ z. elim z as (λ y. (at made.cells y).last ≡ 0) [ Cell0 ↦ refl | Cell1 ↦ refl | Cell2 ↦ refl | Cell3 ↦ refl ];
  }

  pub begins : (v : LineView P) → v ≡ made → g.K ≤ 64 → h.K ≤ 64 → i.K ≤ 64 → j.K ≤ 64 → Fresh v
  begins v e p q r s = subst Fresh (sym e) (fresh p q r s)

-- What the tally's formula means.
use Rattle.std.proofs.Common.{◌≡◌, ℕ, ◌≤◌, Bool, true, false, cond, leb, Some, None, Option, sym, refl, ap, ◌∙◌, subst, arith}
use Rattle.std.proofs.lemmas.Bool.Decides.{nat_tests}
use Rattle.protocol.specs.declared.messages.Range.{Range}
use Rattle.protocol.specs.declared.messages.Decision.TheVariants.{Commit, Abort}
use Rattle.protocol.specs.declared.sites.Site.TheVariants.{Cell0, Cell1, Cell2, Cell3}
use Rattle.protocol.specs.declared.sites.PerSite.{PerSite}
use Rattle.protocol.specs.Sites.{at}
use Rattle.protocol.specs.Formulas.{floor_of, under, time_over, under_all, tallied, InEvery, Tallies}

floor_is : (o : Option Range) (g : Range) → o ≡ Some g → floor_of o ≡ g.earliest
floor_is o g e = ap floor_of e

under_is : (o : Option Range) (g : Range) (t : ℕ) → o ≡ Some g → under o t ≡ true → t ≤ g.latest
under_is o g t e h = let k : leb t g.latest ≡ true = ap (λ p. under p t) (sym e) ∙ h in grind (arith, nat_tests)

-- the greatest EARLIEST is at most every tick in all ranges
floor_below : (o : Option Range) (u : ℕ) → ((g : Range) → o ≡ Some g → g.earliest ≤ u) → floor_of o ≤ u
floor_below None u h = omega arith
floor_below (Some g) u h = h g refl

under_above : (o : Option Range) (t u : ℕ) → t ≤ u → ((g : Range) → o ≡ Some g → u ≤ g.latest) → under o t ≡ true
under_above None t u l h = refl
under_above (Some g) t u l h = let k = h g refl in grind (arith, nat_tests)

pub time_least : (v : PerSite (Option Range)) (u : ℕ) → InEvery v u → time_over v ≤ u
time_least v u k =
    let a = floor_below v.cell0 u (k.above Cell0) in
    let b = floor_below v.cell1 u (k.above Cell1) in
    let c = floor_below v.cell2 u (k.above Cell2) in
    let d = floor_below v.cell3 u (k.above Cell3) in
    omega arith

pub time_in_lem : (v : PerSite (Option Range)) → under_all v (time_over v) ≡ true → InEvery v (time_over v)
time_in_lem v h = record {
  above = λ s. elim s as (λ z. (g : Range) → at v z ≡ Some g → g.earliest ≤ time_over v) [
    | Cell0 ↦ (λ g e. let f = floor_is v.cell0 g e in omega arith)
    | Cell1 ↦ (λ g e. let f = floor_is v.cell1 g e in omega arith)
    | Cell2 ↦ (λ g e. let f = floor_is v.cell2 g e in omega arith)
    | Cell3 ↦ (λ g e. let f = floor_is v.cell3 g e in omega arith)
  ];
  below = λ s. elim s as (λ z. (g : Range) → at v z ≡ Some g → time_over v ≤ g.latest) [
    | Cell0 ↦ (λ g e. under_is v.cell0 g (time_over v) e (grind (arith, nat_tests)))
    | Cell1 ↦ (λ g e. under_is v.cell1 g (time_over v) e (grind (arith, nat_tests)))
    | Cell2 ↦ (λ g e. under_is v.cell2 g (time_over v) e (grind (arith, nat_tests)))
    | Cell3 ↦ (λ g e. under_is v.cell3 g (time_over v) e (grind (arith, nat_tests)))
  ];
}

pub none_in : (v : PerSite (Option Range)) → under_all v (time_over v) ≡ false → (u : ℕ) → InEvery v u → ⊥
none_in v h u k =
    let l = time_least v u k in
    let a = under_above v.cell0 (time_over v) u l (k.below Cell0) in
    let b = under_above v.cell1 (time_over v) u l (k.below Cell1) in
    let c = under_above v.cell2 (time_over v) u l (k.below Cell2) in
    let d = under_above v.cell3 (time_over v) u l (k.below Cell3) in
    grind (arith, nat_tests)

pub tally_means : (v : PerSite (Option Range)) → Tallies v (tallied v)
tally_means v = go (under_all v (time_over v)) refl
  where
    go : (b : Bool) → under_all v (time_over v) ≡ b → Tallies v (cond b (Commit (time_over v)) Abort)
    go true e = (time_in_lem v e, time_least v)
    go false e = none_in v e

-- at a tick that is the greatest EARLIEST
pub first_in : (v : PerSite (Option Range)) (t : ℕ) → t ≡ time_over v → under_all v t ≡ true → InEvery v t
first_in v t e h = subst (InEvery v) (sym e) (time_in_lem v (ap (under_all v) (sym e) ∙ h))

pub first_least : (v : PerSite (Option Range)) (t : ℕ) → t ≡ time_over v → (u : ℕ) → InEvery v u → t ≤ u
first_least v t e u k = let h = time_least v u k in omega (arith, e, h)

pub first_none : (v : PerSite (Option Range)) (t : ℕ) → t ≡ time_over v → under_all v t ≡ false → Tallies v Abort
first_none v t e h = none_in v (ap (under_all v) (sym e) ∙ h)

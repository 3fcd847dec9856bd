-- The smallest of the transactions in the way, as a fold over a filtered list.
use Rattle.std.proofs.Common.{◌≡◌, ℕ, Bool, true, false, cond, List, [], ◌∷◌, map, filter, None, Option, refl, ap, ◌∙◌}
use Rattle.std.specs.List.{fold}
use Rattle.cohort.specs.declared.kinds.Cohort.{Cohort}
use Rattle.cohort.specs.Holds.{blocking, blockers, lesser, smallest}
use Rattle.cohort.specs.Steps.{tx_of}

blockers_filtered : (x i : ℕ) (w : Bool) (cs : List Cohort) → map tx_of (filter (blocking x i w) cs) ≡ blockers x i w cs
blockers_filtered x i w [] = refl
blockers_filtered x i w (c ∷ cs) = go (blocking x i w c) (blockers_filtered x i w cs)
  where
    go : (b : Bool) → map tx_of (filter (blocking x i w) cs) ≡ blockers x i w cs →
        map tx_of (cond b (c ∷ filter (blocking x i w) cs) (filter (blocking x i w) cs)) ≡ cond b (c.tx ∷ blockers x i w cs) (blockers x i w cs)
    go true e = ap (λ ns. c.tx ∷ ns) e
    go false e = e

smallest_fold : (o : Option ℕ) (ns : List ℕ) → fold lesser o ns ≡ smallest o ns
smallest_fold o [] = refl
smallest_fold o (n ∷ ns) = smallest_fold (lesser o n) ns

pub smallest_filtered : (x i : ℕ) (w : Bool) (cs : List Cohort) → fold lesser None (map tx_of (filter (blocking x i w) cs)) ≡ smallest None (blockers x i w cs)
smallest_filtered x i w cs = ap (fold lesser None) (blockers_filtered x i w cs) ∙ smallest_fold None (blockers x i w cs)

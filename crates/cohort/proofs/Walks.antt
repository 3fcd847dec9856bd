-- One turn of a walk over the cohorts.
use Rattle.std.proofs.Common.{◌≡◌, ℕ, ◌+◌, ◌<◌, Bool, true, false, cond, not, ◌&&◌, eqb, List, [], ◌∷◌, length, get_or, drop, Some, None, Option, sym, refl, ap, ◌∙◌}
use Rattle.std.proofs.lemmas.List.{at_drop_more}
use Rattle.items.specs.declared.ItemSet.{ItemSet}
use Rattle.items.specs.Sets.{meeting}
use Rattle.protocol.specs.Formulas.{greatest}
use Rattle.cohort.specs.declared.kinds.Cohort.{Cohort}
use Rattle.cohort.specs.Holds.{latest_in, with_latest, delays, only}

with_latest_lem : (m : ℕ) (o : Option ℕ) (ns : List ℕ) → greatest m (with_latest o ns) ≡ greatest (greatest m (with_latest o [])) ns
with_latest_lem m None ns = refl
with_latest_lem m (Some l) ns = refl

greatest_cons : (m x : ℕ) (w : ItemSet) (c : Cohort) (cs : List Cohort) → greatest m (delays x w (c ∷ cs)) ≡ greatest (greatest m (delays x w (only c))) (delays x w cs)
greatest_cons m x w c cs = go (not (eqb c.tx x) && meeting c.reads w)
  where
    go : (b : Bool) → greatest m (cond b (with_latest (latest_in c.state) (delays x w cs)) (delays x w cs))
        ≡ greatest (greatest m (cond b (with_latest (latest_in c.state) []) [])) (delays x w cs)
    go true = with_latest_lem m (latest_in c.state) (delays x w cs)
    go false = refl

pub greatest_turn : (m n x : ℕ) (w : ItemSet) (cs : List Cohort) (k : ℕ) (d : Cohort) → k < length cs → n ≡ greatest m (delays x w (only (get_or cs k d))) →
    greatest n (delays x w (drop (k + 1) cs)) ≡ greatest m (delays x w (drop k cs))
greatest_turn m n x w cs k d h e =
    ap (λ y. greatest y (delays x w (drop (k + 1) cs))) e
    ∙ (sym (greatest_cons m x w (get_or cs k d) (drop (k + 1) cs))
    ∙ sym (at_drop_more (λ ys. greatest m (delays x w ys)) cs k d h))

-- What the cohorts of a cell say: who holds what, who stands in the way of a read or a write, and who delays a vote.
use Rattle.std.proofs.Common.{◌≡◌, ℕ, ◌<◌, min, Bool, true, false, cond, not, ◌&&◌, eqb, ltb, List, [], ◌∷◌, Some, None, Ok, Err, Option, sym, refl, ap, ◌∙◌, subst, arith}
use Rattle.std.proofs.lemmas.Bool.{ne_eqb, ltb-true, cond-true}
use Rattle.std.proofs.lemmas.Bool.Decides.{nat_tests}
use Rattle.items.specs.declared.ItemSet.{ItemSet}
use Rattle.items.specs.Sets.{has, meeting}
use Rattle.protocol.specs.declared.faults.CellFault.TheVariants.{NotActive, NoItem}
use Rattle.protocol.specs.declared.messages.Vote.{Vote}
use Rattle.protocol.specs.declared.messages.Vote.TheVariants.{Yes, No}
use Rattle.protocol.specs.declared.messages.Decision.{Decision}
use Rattle.protocol.specs.declared.messages.Order.{Order}
use Rattle.protocol.specs.declared.messages.Order.TheVariants.{Prepare, Decide}
use Rattle.protocol.specs.Formulas.{Each}
use Rattle.table.specs.Contents.{find_in}
use Rattle.cohort.specs.declared.kinds.State.{State}
use Rattle.cohort.specs.declared.kinds.State.TheVariants.{Active, Voted, Out, Done}
use Rattle.cohort.specs.declared.kinds.Cohort.{Cohort}
use Rattle.cohort.specs.declared.kinds.Event.{Event}
use Rattle.cohort.specs.declared.kinds.Event.TheVariants.{Read, Write, Leave, Receive}
use Rattle.cohort.specs.Steps.{tx_of, ended, voted, ending_of, received, reaction, step_to}
use Rattle.cohort.specs.Holds.{is_active, latest_in, blocking, blockers, smallest, with_latest, delays}
use Rattle.model.specs.Cells.{CellView, or_held, may_use_by}
use Rattle.serial.proofs.Lives.{Life, Left, is_working, is_prepared, is_holding, is_over, hi, Holds, Bare, Kin, At}
use Rattle.serial.proofs.Records.{not_some}

-- an event keeps the number
pub keeps_tx : (e : Event) (c : Cohort) → tx_of (step_to c e) ≡ tx_of c
keeps_tx (Read i) c = refl
keeps_tx (Write i) c = refl
keeps_tx Leave c = refl
keeps_tx (Receive o b) c = go c.state o b
  where
    vote : (b : Vote) → tx_of (voted c b) ≡ tx_of c
    vote (Yes g) = refl
    vote No = refl

    go : (s : State) (o : Order) (b : Vote) → tx_of (received c s o b) ≡ tx_of c
    go (Active n) Prepare b = vote b
    go (Voted g) Prepare b = refl
    go Out Prepare b = refl
    go Done Prepare b = refl
    go (Active n) (Decide d) b = refl
    go (Voted g) (Decide d) b = refl
    go Out (Decide d) b = refl
    go Done (Decide d) b = refl

-- what a cohort's state says of its transaction, and the other way round
module _ (c : Cohort) (p : Life) (rd wr : ℕ → Bool) where
  kin_holds : (s : State) → Kin c s p rd wr → is_holding p ≡ true → Holds c rd wr
  kin_holds (Active n) k h = k.1
  kin_holds (Voted g) k h = k.1
  kin_holds Out k h = absurd (grind (arith, k.0, h))
  kin_holds Done k h = absurd (grind (arith, k.0, h))

  pub kin_active : (s : State) → is_active s ≡ true → Kin c s p rd wr → is_working p ≡ true
  kin_active (Active n) a k = ap is_working k.0
  kin_active (Voted g) a k = absurd (grind (arith, a))
  kin_active Out a k = absurd (grind (arith, a))
  kin_active Done a k = absurd (grind (arith, a))

  pub kin_working : (s : State) → Kin c s p rd wr → is_working p ≡ true → is_active s ≡ true
  kin_working (Active n) k h = refl
  kin_working (Voted g) k h = absurd (grind (arith, k.0, h))
  kin_working Out k h = absurd (grind (arith, k.0, h))
  kin_working Done k h = absurd (grind (arith, k.0, h))

  pub kin_prepared : (s : State) → Kin c s p rd wr → is_prepared p ≡ true → latest_in s ≡ Some (hi p)
  kin_prepared (Active n) k h = absurd (grind (arith, k.0, h))
  kin_prepared (Voted g) k h = ap (λ q. Some (hi q)) (sym k.0)
  kin_prepared Out k h = absurd (grind (arith, k.0, h))
  kin_prepared Done k h = absurd (grind (arith, k.0, h))

  pub kin_over : (s : State) → Kin c s p rd wr → is_over p ≡ true → s ≡ Done
  kin_over (Active n) k h = absurd (grind (arith, k.0, h))
  kin_over (Voted g) k h = absurd (grind (arith, k.0, h))
  kin_over Out k h = absurd (grind (arith, k.0, h))
  kin_over Done k h = refl

  pub kin_left : (s : State) → Kin c s p rd wr → is_holding p ≡ false → is_over p ≡ false → (p ≡ Left) × Bare c
  kin_left (Active n) k h o = absurd (grind (arith, k.0, h))
  kin_left (Voted g) k h o = absurd (grind (arith, k.0, h))
  kin_left Out k h o = k
  kin_left Done k h o = absurd (grind (arith, k.0, o))

  -- a decision is carried out on one that is not over
  pub decided_step : (s : State) (d : Decision) (b : Vote) → Kin c s p rd wr → is_over p ≡ false → (received c s (Decide d) b ≡ ended c Done) × ((reaction c s (Decide d) b).ending ≡ ending_of c d)
  decided_step (Active n) d b k o = (refl, refl)
  decided_step (Voted g) d b k o = (refl, refl)
  decided_step Out d b k o = (refl, refl)
  decided_step Done d b k o = absurd (grind (arith, k.0, o))

-- one that has holds has a cohort, with those holds
pub at_holding : (o : Option Cohort) (p : Life) (rd wr : ℕ → Bool) → At o p rd wr → is_holding p ≡ true → (c : Cohort) × (o ≡ Some c) × Holds c rd wr × Kin c c.state p rd wr
at_holding None p rd wr a h = absurd (grind (arith, a, h))
at_holding (Some c) p rd wr a h = (c, refl, kin_holds c p rd wr c.state a h, a)

pub at_found : (o : Option Cohort) (c : Cohort) (p : Life) (rd wr : ℕ → Bool) → o ≡ Some c → At o p rd wr → Kin c c.state p rd wr
at_found o c p rd wr e a = subst (λ z. At z p rd wr) e a

-- an accepted use: the cohort is Active, the item is one of the cell's, and nobody stands in the way
pub record Usable {P : Type 0} (v : CellView P) (x i : ℕ) (for_writing : Bool) (o : Option Cohort) (c : Cohort) : Type 0 where
  pub is : o ≡ Some c
  pub active : is_active c.state ≡ true
  pub inside : i < v.width
  pub free : smallest None (blockers x i for_writing v.cohorts) ≡ None

pub may_use_lem : {P : Type 0} (v : CellView P) (x i : ℕ) (for_writing : Bool) (o : Option Cohort) (c : Cohort) → may_use_by v x i for_writing o ≡ Ok c → Usable v x i for_writing o c
may_use_lem v x i w None c e = let z : ◌≡◌ {A = ℕ} 0 1 = cc in absurd (omega arith)
may_use_lem v x i w (Some q) c e = go (is_active q.state) (ltb i v.width) (smallest None (blockers x i w v.cohorts)) refl refl refl e
  where
    go : (a b : Bool) (o : Option ℕ) → is_active q.state ≡ a → ltb i v.width ≡ b → smallest None (blockers x i w v.cohorts) ≡ o →
        cond a (cond b (or_held o q) (Err (NoItem i))) (Err NotActive) ≡ Ok c → Usable v x i w (Some q) c
    go true true None a b f h = let k : q ≡ c = cc in record { is = ap (λ y. Some y) k; active = ap (λ y. is_active y.state) (sym k) ∙ a; inside = ltb-true i v.width b; free = f }
    go true true (Some y) a b f h = let z : ◌≡◌ {A = ℕ} 0 1 = cc in absurd (omega arith)
    go true false o a b f h = let z : ◌≡◌ {A = ℕ} 0 1 = cc in absurd (omega arith)
    go false b o a d f h = let z : ◌≡◌ {A = ℕ} 0 1 = cc in absurd (omega arith)

smallest_some : (m : ℕ) (ns : List ℕ) → smallest (Some m) ns ≡ None → ⊥
smallest_some m [] e = not_some m (sym e)
smallest_some m (n ∷ ns) e = smallest_some (min m n) ns e

smallest_none : (ns : List ℕ) → smallest None ns ≡ None → ns ≡ []
smallest_none [] e = refl
smallest_none (n ∷ ns) e = absurd (smallest_some n ns e)

unblocked : (x i : ℕ) (w : Bool) (cs : List Cohort) (y : ℕ) (c : Cohort) → blockers x i w cs ≡ [] → find_in tx_of cs y ≡ Some c → blocking x i w c ≡ false
unblocked x i w [] y c e f = absurd (not_some c f)
unblocked x i w (q ∷ cs) y c e f = go (blocking x i w q) (eqb q.tx y) refl e f (λ g h. unblocked x i w cs y c g h)
  where
    go : (a b : Bool) → blocking x i w q ≡ a → cond a (q.tx ∷ blockers x i w cs) (blockers x i w cs) ≡ [] → cond b (Some q) (find_in tx_of cs y) ≡ Some c →
        (blockers x i w cs ≡ [] → find_in tx_of cs y ≡ Some c → blocking x i w c ≡ false) → blocking x i w c ≡ false
    go true b u g h ih = let z : ◌≡◌ {A = ℕ} 0 1 = cc in absurd (omega arith)
    go false true u g h ih = let k : q ≡ c = cc in ap (blocking x i w) (sym k) ∙ u
    go false false u g h ih = ih g h

-- nobody else holds the item for writing nor, against a write, is Active and holds it for reading
pub free_writes : (x i : ℕ) (w : Bool) (cs : List Cohort) (y : ℕ) (c : Cohort) → smallest None (blockers x i w cs) ≡ None → find_in tx_of cs y ≡ Some c → (c.tx ≡ x → ⊥) → has c.writes i ≡ false
free_writes x i w cs y c e f ne = let u = unblocked x i w cs y c (smallest_none (blockers x i w cs) e) f in let h = ne_eqb c.tx x ne in grind (arith, nat_tests)

pub free_reads : (x i : ℕ) (cs : List Cohort) (y : ℕ) (c : Cohort) → smallest None (blockers x i true cs) ≡ None → find_in tx_of cs y ≡ Some c → (c.tx ≡ x → ⊥) → is_active c.state ≡ true →
    has c.reads i ≡ false
free_reads x i cs y c e f ne a = let u = unblocked x i true cs y c (smallest_none (blockers x i true cs) e) f in let h = ne_eqb c.tx x ne in grind (arith, nat_tests)

rest_of : (Q : ℕ → Type 0) (b : Bool) (o : Option ℕ) (ns : List ℕ) → Each Q (cond b (with_latest o ns) ns) → Each Q ns
rest_of Q true None ns a = a
rest_of Q true (Some l) ns a = a.1
rest_of Q false o ns a = a

-- what lies above each delay lies above LATEST of each that delays
pub above_delays : (x : ℕ) (w : ItemSet) (t : ℕ) (cs : List Cohort) (y : ℕ) (c : Cohort) (l : ℕ) → Each (λ d. d < t) (delays x w cs) → find_in tx_of cs y ≡ Some c → (c.tx ≡ x → ⊥) →
    meeting c.reads w ≡ true → latest_in c.state ≡ Some l → l < t
above_delays x w t [] y c l a f ne m e = absurd (not_some c f)
above_delays x w t (q ∷ cs) y c l a f ne m e =
    go (eqb q.tx y) f (λ g. above_delays x w t cs y c l (rest_of (λ d. d < t) (not (eqb q.tx x) && meeting q.reads w) (latest_in q.state) (delays x w cs) a) g ne m e)
  where
    go : (b : Bool) → cond b (Some q) (find_in tx_of cs y) ≡ Some c → (find_in tx_of cs y ≡ Some c → l < t) → l < t
    go true g ih =
        let k : q ≡ c = cc in
        let meets : (not (eqb c.tx x) && meeting c.reads w) ≡ true = (let h = ne_eqb c.tx x ne in grind (arith, nat_tests)) in
        let first : delays x w (q ∷ cs) ≡ l ∷ delays x w cs =
        ap (λ z. delays x w (z ∷ cs)) k
        ∙ (cond-true (not (eqb c.tx x) && meeting c.reads w) (with_latest (latest_in c.state) (delays x w cs)) (delays x w cs) meets ∙ ap (λ o. with_latest o (delays x w cs)) e) in
        (subst (Each (λ d. d < t)) first a).0
    go false g ih = ih g

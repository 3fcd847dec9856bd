-- The tables of a cell stay like a cell of functions over each event.
use Rattle.std.proofs.Common.{◌≡◌, ℕ, ◌<◌, ◌≤◌, max, Bool, true, false, cond, ◌&&◌, ◌||◌, eqb, ltb, List, [], ◌∷◌, ◌++◌, is_some, is_ok, Some, None, Option, sym, refl, ap, ◌∙◌, subst, arith}
use mathlib.Core.Path.{fun_ext}
use Rattle.std.proofs.lemmas.Bool.{eqb-true, eq-eqb, ne_eqb, lt-ltb, cond-true, cond-false}
use Rattle.std.proofs.lemmas.Bool.Decides.{nat_tests}
use Rattle.items.specs.Sets.{has}
use Rattle.items.proofs.Members.{has_none, has_inserted, meeting_at}
use Rattle.protocol.specs.declared.messages.Range.{Range}
use Rattle.protocol.specs.declared.messages.Vote.TheVariants.{Yes}
use Rattle.protocol.specs.Formulas.{Open, Bounds, Spans, vote_of}
use Rattle.protocol.proofs.VoteMeans.{vote_means}
use Rattle.table.specs.Contents.{find_in, stepped}
use Rattle.store.specs.declared.Version.{Version}
use Rattle.store.specs.Meaning.{with, last_of, later, grown, install_answer, unstage_answer}
use Rattle.cohort.specs.declared.kinds.State.{State}
use Rattle.cohort.specs.declared.kinds.State.TheVariants.{Active, Voted, Out, Done}
use Rattle.cohort.specs.declared.kinds.Cohort.{Cohort}
use Rattle.cohort.specs.declared.kinds.Event.{Event}
use Rattle.cohort.specs.declared.kinds.Event.TheVariants.{Read, Write}
use Rattle.cohort.specs.declared.kinds.Ending.TheVariants.{Unstage, Install}
use Rattle.cohort.specs.Steps.{tx_of, joiner, turned, ended, reading, writing, step_to}
use Rattle.cohort.specs.Holds.{is_active, delays}
use Rattle.model.specs.Cells.{CellView, with_cohorts, cohort_of, ended_by, staging, close_done}
use Rattle.serial.proofs.Lives.{Life, Working, Prepared, Installed, is_working, is_prepared, is_holding, lo, hi, Image, Holds, Bare, Kin, At, Like, Inv, Written, Apart}
use Rattle.serial.proofs.Changes.{with_life, with_read, with_write, with_end, with_install, MayRead, MayWrite, MayVote}
use Rattle.serial.proofs.ActsKeep.{holds_prepared, holds_working, installs_later}
use Rattle.serial.proofs.Records.{find_number, find_both, find_end, find_cut}
use Rattle.serial.proofs.Cohorts.{keeps_tx, kin_active, kin_working, kin_prepared, at_holding, at_found, Usable, free_writes, free_reads, above_delays}

-- the cohorts after an event of x
abbrev pub after : {P : Type 0} → CellView P → ℕ → Event → CellView P
after v x e = with_cohorts v (stepped tx_of step_to v.cohorts x e)

-- an event of x, where the others stay as they were
each_after : (cs : List Cohort) (x : ℕ) (e : Event) (c : Cohort) (life : ℕ → Life) (rd wr : ℕ → ℕ → Bool) → find_in tx_of cs x ≡ Some c → At (Some (step_to c e)) (life x) (rd x) (wr x) →
    ((y : ℕ) → (x ≡ y → ⊥) → At (find_in tx_of cs y) (life y) (rd y) (wr y)) → (y : ℕ) → At (find_in tx_of (stepped tx_of step_to cs x e) y) (life y) (rd y) (wr y)
each_after cs x e c life rd wr f here there y =
    find_both tx_of step_to e (keeps_tx e) cs x c f y (λ o. At o (life y) (rd y) (wr y)) (λ q. subst (λ z. At (Some (step_to c e)) (life z) (rd z) (wr z)) q here) (there y)

-- x becomes p
each_life : (cs : List Cohort) (x : ℕ) (e : Event) (c d : Cohort) (life : ℕ → Life) (rd wr : ℕ → ℕ → Bool) (p : Life) → find_in tx_of cs x ≡ Some c → step_to c e ≡ d → At (Some d) p (rd x) (wr x) →
    ((y : ℕ) → At (find_in tx_of cs y) (life y) (rd y) (wr y)) → (y : ℕ) → At (find_in tx_of (stepped tx_of step_to cs x e) y) (with life x p y) (rd y) (wr y)
each_life cs x e c d life rd wr p f g here each =
    each_after cs x e c (with life x p) rd wr f
    (subst (λ q. At (Some (step_to c e)) q (rd x) (wr x)) (sym (cond-true (eqb x x) p (life x) (eq-eqb x x refl))) (subst (λ z. At (Some z) p (rd x) (wr x)) (sym g) here))
    (λ y ne. subst (λ q. At (find_in tx_of cs y) q (rd y) (wr y)) (sym (cond-false (eqb x y) p (life y) (ne_eqb x y ne))) (each y))

-- one more item held by x
abbrev more : (ℕ → ℕ → Bool) → ℕ → ℕ → ℕ → ℕ → Bool
more held x i y j = (eqb x y && eqb i j) || held y j

more_here : (held : ℕ → ℕ → Bool) (x i j : ℕ) (b : Bool) → b ≡ (eqb i j || held x j) → b ≡ more held x i x j
more_here held x i j b e = e ∙ sym (ap (λ t. (t && eqb i j) || held x j) (eq-eqb x x refl))

more_there : (held : ℕ → ℕ → Bool) (x i y : ℕ) → (x ≡ y → ⊥) → held y ≡ more held x i y
more_there held x i y ne = fun_ext (λ j. sym (ap (λ t. (t && eqb i j) || held y j) (ne_eqb x y ne)))

-- an Active cohort with other holds
kin_more : (c d : Cohort) (s : State) (p : Life) (rd wr rd' wr' : ℕ → Bool) → is_active s ≡ true → Kin c s p rd wr → (Holds c rd wr → Holds d rd' wr') → Kin d s p rd' wr'
kin_more c d (Active n) p rd wr rd' wr' a k h = (k.0, h k.1)
kin_more c d (Voted g) p rd wr rd' wr' a k h = absurd (grind (arith, a))
kin_more c d Out p rd wr rd' wr' a k h = absurd (grind (arith, a))
kin_more c d Done p rd wr rd' wr' a k h = absurd (grind (arith, a))

-- a cohort's holds are those of its transaction
pub holds_of : {P : Type 0} (v : CellView P) (s : Image P) (x : ℕ) (c : Cohort) → Like v s → cohort_of v x ≡ Some c → is_holding (s.life x) ≡ true → (i : ℕ) → has c.writes i ≡ s.writes x i
holds_of v s x c k f h i =
    let q = at_holding (cohort_of v x) (s.life x) (s.reads x) (s.writes x) (k.each x) h in
    let same : q.0 ≡ c = (let r : cohort_of v x ≡ Some q.0 = q.1 in cc) in
    ap (λ z. has z.writes i) (sym same) ∙ q.2.writes i

-- what an accepted use rests on
module _ {P : Type 0} (v : CellView P) (s : Image P) (x i : ℕ) (for_writing : Bool) (c : Cohort) (k : Like v s) (u : Usable v x i for_writing (cohort_of v x) c) where
  abbrev kin_of : Kin c c.state (s.life x) (s.reads x) (s.writes x)
  kin_of = at_found (cohort_of v x) c (s.life x) (s.reads x) (s.writes x) u.is (k.each x)

  use_working : is_working (s.life x) ≡ true
  use_working = kin_active c (s.life x) (s.reads x) (s.writes x) c.state u.active kin_of

  use_free : (y : ℕ) → (y ≡ x → ⊥) → is_holding (s.life y) ≡ true → s.writes y i ≡ false
  use_free y ne h =
      let q = at_holding (cohort_of v y) (s.life y) (s.reads y) (s.writes y) (k.each y) h in
      sym (q.2.writes i) ∙ free_writes x i for_writing v.cohorts y q.0 u.free q.1 (λ z. ne (sym (find_number tx_of v.cohorts y q.0 q.1) ∙ z))

  pub may_read : MayRead s x i
  may_read = record { working = use_working; free = use_free }

pub may_write : {P : Type 0} (v : CellView P) (s : Image P) (x i : ℕ) (c : Cohort) → Like v s → Usable v x i true (cohort_of v x) c → MayWrite s x i
may_write v s x i c k u = record {
  working = use_working v s x i true c k u;
  free = use_free v s x i true c k u;
  unread = λ y ne a.
      let q = at_holding (cohort_of v y) (s.life y) (s.reads y) (s.writes y) (k.each y) (holds_working (s.life y) a) in
      sym (q.2.reads i)
      ∙ free_reads x i v.cohorts y q.0 u.free q.1 (λ z. ne (sym (find_number tx_of v.cohorts y q.0 q.1) ∙ z))
      (kin_working q.0 (s.life y) (s.reads y) (s.writes y) q.0.state q.3 a);
}

-- an accepted read and an accepted write
module _ {P : Type 0} (v : CellView P) (s : Image P) (x i : ℕ) (c : Cohort) (k : Like v s) (narrow : v.width ≤ 64) where
  pub like_read : Usable v x i false (cohort_of v x) c → Like (after v x (Read i)) (with_read s x i)
  like_read u = record {
    each = each_after v.cohorts x (Read i) c s.life (more s.reads x i) s.writes u.is
        (kin_more c (reading c i) c.state (s.life x) (s.reads x) (s.writes x) (more s.reads x i x) (s.writes x) u.active (kin_of v s x i false c k u)
        (λ h. record {
          reads = λ j. more_here s.reads x i j (has (reading c i).reads j)
              (has_inserted c.reads i j (let b = u.inside in omega (arith, b, narrow)) ∙ ap (λ b. eqb i j || b) (h.reads j));
          writes = h.writes;
        }))
        (λ y ne. subst (λ rd. At (cohort_of v y) (s.life y) rd (s.writes y)) (more_there s.reads x i y ne) (k.each y));
    staged = k.staged;
    versions = k.versions;
    last = k.last;
  }

  pub like_write : (p : P) → Usable v x i true (cohort_of v x) c → Like (after (staging v i p) x (Write i)) (with_write s x i p)
  like_write p u = record {
    each = each_after v.cohorts x (Write i) c s.life s.reads (more s.writes x i) u.is
        (kin_more c (writing c i) c.state (s.life x) (s.reads x) (s.writes x) (s.reads x) (more s.writes x i x) u.active (kin_of v s x i true c k u)
        (λ h. record {
          reads = h.reads;
          writes = λ j. more_here s.writes x i j (has (writing c i).writes j)
              (has_inserted c.writes i j (let b = u.inside in omega (arith, b, narrow)) ∙ ap (λ b. eqb i j || b) (h.writes j));
        }))
        (λ y ne. subst (λ wr. At (cohort_of v y) (s.life y) (s.reads y) wr) (more_there s.writes x i y ne) (k.each y));
    staged = λ j. ap (λ o. cond (eqb i j) (Some p) o) (k.staged j);
    versions = k.versions;
    last = k.last;
  }

-- one that joins
pub like_join : {P : Type 0} (v : CellView P) (s : Image P) (x : ℕ) → Like v s → cohort_of v x ≡ None → ((i : ℕ) → s.reads x i ≡ false) → ((i : ℕ) → s.writes x i ≡ false) →
    Like (with_cohorts v (v.cohorts ++ (joiner x v.clock ∷ []))) (with_life s x (Working v.clock))
like_join {P} v s x k e nr nw = record {
  each = λ y. subst (λ o. At o (with s.life x (Working v.clock) y) (s.reads y) (s.writes y)) (sym (find_end tx_of v.cohorts (joiner x v.clock) y e)) (go y (eqb x y) refl);
  staged = k.staged;
  versions = k.versions;
  last = k.last;
}
  where
    go : (y : ℕ) (b : Bool) → eqb x y ≡ b → At (cond b (Some (joiner x v.clock)) (cohort_of v y)) (cond b (Working v.clock) (s.life y)) (s.reads y) (s.writes y)
    go y true q =
        let n = sym (eqb-true x y q) in
        (refl, record { reads = λ i. has_none i ∙ sym (ap (λ z. s.reads z i) n ∙ nr i); writes = λ i. has_none i ∙ sym (ap (λ z. s.writes z i) n ∙ nw i) })
    go y false q = k.each y

-- one that is forgotten
pub like_close : {P : Type 0} (v : CellView P) (s : Image P) (x : ℕ) → Like v s → Apart tx_of v.cohorts → is_holding (s.life x) ≡ false → Like (close_done v x) s
like_close {P} v s x k a h = record {
  each = λ y. subst (λ o. At o (s.life y) (s.reads y) (s.writes y)) (sym (find_cut tx_of v.cohorts x y a)) (go y (eqb x y) refl);
  staged = k.staged;
  versions = k.versions;
  last = k.last;
}
  where
    go : (y : ℕ) (b : Bool) → eqb x y ≡ b → At (cond b None (cohort_of v y)) (s.life y) (s.reads y) (s.writes y)
    go y true q = ap (λ z. is_holding (s.life z)) (sym (eqb-true x y q)) ∙ h
    go y false q = k.each y

-- a yes
module _ {P : Type 0} (v : CellView P) (s : Image P) (x : ℕ) (c : Cohort) (start : ℕ) (g : Range) (k : Like v s) (f : cohort_of v x ≡ Some c) (a : c.state ≡ Active start) where
  kin_start : (s.life x ≡ Working start) × Holds c (s.reads x) (s.writes x)
  kin_start = subst (λ st. Kin c st (s.life x) (s.reads x) (s.writes x)) a (at_found (cohort_of v x) c (s.life x) (s.reads x) (s.writes x) f (k.each x))

  pub may_vote : vote_of v.last (delays c.tx c.writes v.cohorts) start v.clock v.spread ≡ Yes g → MayVote s x g
  may_vote b =
      let late = delays c.tx c.writes v.cohorts in
      let range : Bounds (Open v.last late start v.clock v.spread) g =
      subst (Spans (Open v.last late start v.clock v.spread)) b (vote_means v.last late start v.clock v.spread) in
      record {
        working = ap is_working kin_start.0;
        whole = range.ordered;
        later = let h = range.first.after_last in let l = k.last in omega (arith, h, l);
        delayed = λ y i ne p w r.
            let q = at_holding (cohort_of v y) (s.life y) (s.reads y) (s.writes y) (k.each y) (holds_prepared (s.life y) p) in
            above_delays c.tx c.writes g.earliest v.cohorts y q.0 (hi (s.life y)) range.first.after_delays q.1
            (λ z. ne (sym (find_number tx_of v.cohorts y q.0 q.1) ∙ (z ∙ find_number tx_of v.cohorts x c f)))
            (meeting_at q.0.reads c.writes i (q.2.reads i ∙ r) (kin_start.1.writes i ∙ w))
            (kin_prepared q.0 (s.life y) (s.reads y) (s.writes y) q.0.state q.3 p);
      }

  pub like_vote : (e : Event) → step_to c e ≡ turned c (Voted g) → Like (after v x e) (with_life s x (Prepared g.earliest g.latest))
  like_vote e t = record {
    each = each_life v.cohorts x e c (turned c (Voted g)) s.life s.reads s.writes (Prepared g.earliest g.latest) f t
        (refl, record { reads = kin_start.1.reads; writes = kin_start.1.writes }) k.each;
    staged = k.staged;
    versions = k.versions;
    last = k.last;
  }

-- one without holds
pub bare : (c : Cohort) (s : State) → Bare (ended c s)
bare c s = record { reads = has_none; writes = has_none }

-- what is done to the items that x holds for writing, and to no other
marks : {X : Type 0} (w m g : Bool) (a b : X) (held : Bool) → m ≡ held → (held ≡ true → (w ≡ true) × (g ≡ true)) → cond (w && (m && g)) a b ≡ cond held a b
marks w m g a b true e h = let k = h refl in grind (arith, nat_tests)
marks {X} w m g a b false e h = ap (λ y. cond (w && (y && g)) a b) e ∙ go w
  where
    go : (z : Bool) → cond (z && false) a b ≡ b
    go true = refl
    go false = refl

-- the end of one that has holds, without an install
module _ {P : Type 0} (v : CellView P) (s : Image P) (x : ℕ) (e : Event) (c : Cohort) (st : State) (p : Life) (k : Like v s) (f : cohort_of v x ≡ Some c) (t : step_to c e ≡ ended c st)
    (kin : Kin (ended c st) st p (s.reads x) (s.writes x)) where
  each_end : (y : ℕ) → At (find_in tx_of (stepped tx_of step_to v.cohorts x e) y) (with s.life x p y) (s.reads y) (s.writes y)
  each_end = each_life v.cohorts x e c (ended c st) s.life s.reads s.writes p f t kin k.each

  pub like_end : Inv v.width s → is_holding (s.life x) ≡ true → Like (ended_by (after v x e) (Unstage c.writes)) (with_end s x p)
  like_end inv h = record {
    each = each_end;
    staged = λ i.
        marks (ltb i v.width) (has c.writes i) (is_ok (unstage_answer v.width v.stagings i)) None (v.stagings i) (s.writes x i) (holds_of v s x c k f h i)
        (λ m. let b = lt-ltb i v.width (inv.within x i m) in (b, grind (arith, b)))
        ∙ ap (λ o. cond (s.writes x i) None o) (k.staged i);
    versions = k.versions;
    last = k.last;
  }

  -- one that left had nothing staged
  pub like_drop : Bare c → Like (ended_by (after v x e) (Unstage c.writes)) (with_life s x p)
  like_drop b = record {
    each = each_end;
    staged = λ i.
        marks (ltb i v.width) (has c.writes i) (is_ok (unstage_answer v.width v.stagings i)) None (v.stagings i) false (b.writes i) (λ m. absurd (grind (arith, m)))
        ∙ k.staged i;
    versions = k.versions;
    last = k.last;
  }

-- an item of the cell, staged, at a tick after its newest version
accepted : {P : Type 0} (n : ℕ) (vs : ℕ → List (Version P)) (ss : ℕ → Option P) (i t : ℕ) → i < n → is_some (ss i) ≡ true → later (last_of (vs i)) t ≡ true → is_ok (install_answer n vs ss i t) ≡ true
accepted n vs ss i t a b c = let h = lt-ltb i n a in grind (arith, nat_tests)

-- an install: none is refused
pub like_install : {P : Type 0} (v : CellView P) (s : Image P) (x : ℕ) (e : Event) (c : Cohort) (t : ℕ) → Inv v.width s → Written s → Like v s → cohort_of v x ≡ Some c → step_to c e ≡ ended c Done →
    is_prepared (s.life x) ≡ true → lo (s.life x) ≤ t → Like (ended_by (after v x e) (Install c.writes t)) (with_install s x t)
like_install {P} v s x e c t inv wr k f g a le = record {
  each = each_end v s x e c Done (Installed t) k f g (refl, bare c Done);
  staged = λ i. marks (ltb i v.width) (has c.writes i) (ok i) None (v.stagings i) (s.writes x i) (holds i) (goes i) ∙ ap (λ o. cond (s.writes x i) None o) (k.staged i);
  versions = λ i.
      marks (ltb i v.width) (has c.writes i) (ok i) (grown (v.versions i) t (v.stagings i)) (v.versions i) (s.writes x i) (holds i) (goes i)
      ∙ (ap (λ o. cond (s.writes x i) (grown (v.versions i) t o) (v.versions i)) (k.staged i)
      ∙ ap (λ vs. cond (s.writes x i) (grown vs t (s.staged i)) vs) (k.versions i));
  last = ap (λ m. max m t) k.last;
}
  where
    ok : ℕ → Bool
    ok i = is_ok (install_answer v.width v.versions v.stagings i t)

    holds : (i : ℕ) → has c.writes i ≡ s.writes x i
    holds = holds_of v s x c k f (holds_prepared (s.life x) a)

    goes : (i : ℕ) → s.writes x i ≡ true → (ltb i v.width ≡ true) × (ok i ≡ true)
    goes i m =
        let b = inv.within x i m in (
          lt-ltb i v.width b,
          accepted v.width v.versions v.stagings i t b (ap is_some (k.staged i) ∙ inv.stages x i (holds_prepared (s.life x) a) m)
              (ap (λ vs. later (last_of vs) t) (k.versions i) ∙ installs_later v.width s x t i inv wr a le m),
        )

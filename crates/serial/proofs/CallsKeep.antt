-- The calls that touch one cell or the post alone: read, write, leave, clock, lose and fate.
use Rattle.std.proofs.Common.{◌≡◌, ℕ, zero, suc, ◌≤◌, Bool, true, false, cond, ltb, leb, List, [], ◌∷◌, ◌++◌, length, is_some, Some, None, Ok, Err, Option, Result, sym, refl, ap, ◌∙◌, subst, inl, inr, arith}
use Rattle.std.specs.List.{remove}
use Rattle.protocol.specs.declared.sites.Site.{Site}
use Rattle.protocol.specs.declared.messages.Decision.TheVariants.{Commit}
use Rattle.protocol.specs.declared.messages.Message.{Message}
use Rattle.protocol.specs.declared.answers.Stage.{Stage}
use Rattle.protocol.specs.declared.answers.Stage.TheVariants.{Decided}
use Rattle.protocol.specs.declared.faults.CellFault.{CellFault}
use Rattle.protocol.specs.declared.faults.CellFault.TheVariants.{NoRow}
use Rattle.protocol.specs.declared.faults.Fault.{Fault}
use Rattle.protocol.specs.declared.faults.Fault.TheVariants.{NoMessage}
use Rattle.protocol.specs.declared.calls.Call.TheVariants.{Read, Write, Leave, Lose, Clock, Fate}
use Rattle.protocol.specs.Limits.{last_tick}
use Rattle.protocol.specs.Sites.{site_of, at}
use Rattle.store.specs.Meaning.{with}
use Rattle.coordinator.specs.declared.kinds.Allowed.TheVariants.{Undecided, AnyStage}
use Rattle.cohort.specs.declared.kinds.State.{State}
use Rattle.cohort.specs.declared.kinds.State.TheVariants.{Active, Voted, Out, Done}
use Rattle.cohort.specs.declared.kinds.Cohort.{Cohort}
use Rattle.cohort.specs.declared.kinds.Event.TheVariants.{Read as Reads, Write as Writes, Leave as Leaves}
use Rattle.cohort.specs.Holds.{is_active}
use Rattle.model.specs.Cells.{CellView, cohort_of, at_clock, acted, may_use, value_for, has_row, staging, is_active_in, read_by as cell_read_by, read_done_by as cell_read_done_by, write_by as cell_write_by, write_done_by as cell_write_done_by}
use Rattle.model.specs.Lines.{LineView, with_cell, with_post, from_cell, read_by, read_done_by, write_by, write_done_by, leave_done_by, clock_done}
use Rattle.model.specs.Calls.{accepted, gave}
use Rattle.serial.specs.Observer.{note, Act, Got, Put, see_post, see_use, if_some}
use Rattle.serial.proofs.Lives.{Life, Working, Left, is_unknown, is_prepared, is_installed, is_over, has_interval, Kin, At, Kept}
use Rattle.serial.proofs.CellKeeps.{kept_clock, kept_read, kept_write, kept_leave}
use Rattle.serial.proofs.Histories.{History, log_at, Fits, All, Sound, Good, Next, Keeps}
use Rattle.serial.proofs.Sites.{each_put, all_removed}
use Rattle.serial.proofs.Uses.{use_of}
use Rattle.serial.proofs.Admits.{by_site}
use Rattle.serial.proofs.Moves.{quiet_cell, stay, same_line, same_tables, Fine, moved, lives_at, one_move, over_same, kept_lives, kept_uses}

-- one more use at a cell
use_next : {P : Type 0} (v : LineView P) (h : History P) (s : Site) (cw : CellView P) (x : ℕ) (a : Act P) → Good v h → Kept cw (h.life s) (with (log_at h.seen s) x (log_at h.seen s x ++ (a ∷ []))) →
    ((y : ℕ) → is_some (cohort_of cw y) ≡ is_some (cohort_of (at v.cells s) y)) → Next (see_use h.seen x s a) (with_cell v s cw)
use_next v h s cw x a g k c =
    let us = h.seen.uses ++ (use_of x s a ∷ []) in
    (moved h h.life us h.seen.settled h.seen.post, refl, quiet_cell v h s cw h.life us g (kept_uses v h s cw x a g k) c (λ z y. inl refl) g.sound.settled)

-- read
pub keeps_read : {P : Type 0} (x c i : ℕ) → Keeps {P = P} (Read x c i)
keeps_read {P} x c i v h g =
    by_site v h x g Undecided c (λ m. Next (note h.seen (Read x c i) (gave (read_by v x i m))) (read_done_by v x i m)) (λ f. stay v h g) (λ s q l e. by s q (may_use (at v.cells s) x i false) refl)
  where
    by : (s : Site) → site_of c ≡ Some s → (r : Result Cohort CellFault) → may_use (at v.cells s) x i false ≡ r →
        Next (note h.seen (Read x c i) (gave (from_cell s (cell_read_by (at v.cells s) i r)))) (with_cell v s (cell_read_done_by (at v.cells s) x i r))
    by s q (Ok r) e =
        let cv = at v.cells s in
        let a = Got i (value_for cv r i) in
        subst (λ y. Next (if_some h.seen (λ z. see_use h.seen x z a) y) (with_cell v s (acted cv x (Reads i)))) (sym q)
        (use_next v h s (acted cv x (Reads i)) x a g (kept_read cv (h.life s) (log_at h.seen s) x i r (g.cells s) e) (same_tables cv x (Reads i)))
    by s q (Err f) e = subst (Next h.seen) (sym (same_line v s)) (stay v h g)

-- write
abbrev or_row : ℕ → Bool → Result Unit CellFault
or_row i b = cond b (Ok tt) (Err (NoRow i))

pub keeps_write : {P : Type 0} (x c i : ℕ) (p : P) → Keeps (Write x c i p)
keeps_write {P} x c i p v h g =
    by_site v h x g Undecided c (λ m. Next (note h.seen (Write x c i p) (accepted (write_by v x i m))) (write_done_by v x i p m)) (λ f. stay v h g) (λ s q l e. by s q (may_use (at v.cells s) x i true) refl)
  where
    row : (s : Site) → site_of c ≡ Some s → (r : Cohort) → may_use (at v.cells s) x i true ≡ Ok r → (b : Bool) → has_row (at v.cells s) i ≡ b →
        Next (note h.seen (Write x c i p) (accepted (from_cell s (or_row i b)))) (with_cell v s (cond b (acted (staging (at v.cells s) i p) x (Writes i)) (at v.cells s)))
    row s q r e true k =
        let cv = at v.cells s in
        let cw = acted (staging cv i p) x (Writes i) in
        subst (λ y. Next (if_some h.seen (λ z. see_use h.seen x z (Put i p)) y) (with_cell v s cw)) (sym q)
        (use_next v h s cw x (Put i p) g (kept_write cv (h.life s) (log_at h.seen s) x i p r (g.cells s) e k) (same_tables (staging cv i p) x (Writes i)))
    row s q r e false k = subst (Next h.seen) (sym (same_line v s)) (stay v h g)

    by : (s : Site) → site_of c ≡ Some s → (r : Result Cohort CellFault) → may_use (at v.cells s) x i true ≡ r →
        Next (note h.seen (Write x c i p) (accepted (from_cell s (cell_write_by (at v.cells s) i r)))) (with_cell v s (cell_write_done_by (at v.cells s) x i p r))
    by s q (Ok r) e = row s q r e (has_row (at v.cells s) i) refl
    by s q (Err f) e = subst (Next h.seen) (sym (same_line v s)) (stay v h g)

-- one that works may vote or leave, but not yet be settled
pub fine_working : (t : Stage) (p q : Life) (n : ℕ) → p ≡ Working n → ((k : ℕ) → t ≡ Decided (Commit k) → ⊥) → is_installed q ≡ false → is_unknown q ≡ false → Fine t p q
fine_working t p q n e h a b = record {
  unvoted = λ u. absurd (let k = ap is_prepared (sym e) ∙ u in grind (arith, k));
  keeps = λ k u. absurd (h k u);
  finished = λ u. absurd (grind (arith, a, u));
  was = ap is_unknown e;
  known = b;
  over = λ u. absurd (let k = ap is_over (sym e) ∙ u in grind (arith, k));
}

-- its transaction has not committed
pub working_uncommitted : {P : Type 0} (h : History P) → Sound h → (s : Site) (x n : ℕ) → h.life s x ≡ Working n → (t : ℕ) → (h.seen.transaction x).stage ≡ Decided (Commit t) → ⊥
working_uncommitted h v s x n e t u = let k = (v.held x s t u (ap is_unknown e)).set in let z = ap has_interval (sym e) ∙ k in grind (arith, z)

pub found : (q : Option Cohort) (c : Cohort) (p : Life) (rd wr : ℕ → Bool) → q ≡ Some c → At q p rd wr → Kin c c.state p rd wr
found q c p rd wr e k = subst (λ o. At o p rd wr) e k

active_working : (c : Cohort) (st : State) (p : Life) (rd wr : ℕ → Bool) → Kin c st p rd wr → is_active st ≡ true → (n : ℕ) × (p ≡ Working n)
active_working c (Active n) p rd wr k a = (n, k.0)
active_working c (Voted g) p rd wr k a = absurd (grind (arith, a))
active_working c Out p rd wr k a = absurd (grind (arith, a))
active_working c Done p rd wr k a = absurd (grind (arith, a))

-- leave
pub keeps_leave : {P : Type 0} (x c : ℕ) → Keeps {P = P} (Leave x c)
keeps_leave {P} x c v h g = by_site v h x g AnyStage c (λ m. Next h.seen (leave_done_by v x m)) (λ f. stay v h g) (λ s q l e. by s (cohort_of (at v.cells s) x) refl)
  where
    left : (s : Site) (r : Cohort) → cohort_of (at v.cells s) x ≡ Some r → (b : Bool) → is_active r.state ≡ b → Next h.seen (with_cell v s (cond b (acted (at v.cells s) x Leaves) (at v.cells s)))
    left s r f true a =
        let cv = at v.cells s in
        let k = active_working r r.state (h.life s x) _ _ (found (cohort_of cv x) r (h.life s x) _ _ f ((g.cells s).like.each x)) a in
        let may = inr (fine_working (h.seen.transaction x).stage (h.life s x) Left k.0 k.1 (working_uncommitted h g.sound s x k.0 k.1) refl refl) in (
          moved h (lives_at h s x Left) h.seen.uses h.seen.settled h.seen.post,
          refl,
          quiet_cell v h s (acted cv x Leaves) (lives_at h s x Left) h.seen.uses g (kept_lives v h s (acted cv x Leaves) x Left g (kept_leave cv (h.life s) (log_at h.seen s) x r (g.cells s) f a))
              (same_tables cv x Leaves) (one_move h s x Left may) (over_same h s x Left g.sound (ap is_over k.1)),
        )
    left s r f false a = subst (Next h.seen) (sym (same_line v s)) (stay v h g)

    by : (s : Site) (q : Option Cohort) → cohort_of (at v.cells s) x ≡ q → Next h.seen (with_cell v s (cond (is_active_in q) (acted (at v.cells s) x Leaves) (at v.cells s)))
    by s None f = subst (Next h.seen) (sym (same_line v s)) (stay v h g)
    by s (Some r) f = left s r f (is_active r.state) refl

-- clock
pub keeps_clock : {P : Type 0} (c t : ℕ) → Keeps {P = P} (Clock c t)
keeps_clock {P} c t v h g = go (site_of c)
  where
    by : (s : Site) (b : Bool) → Next h.seen (cond b (with_cell v s (at_clock (at v.cells s) t)) v)
    by s true =
        let cw = at_clock (at v.cells s) t in (
          moved h h.life h.seen.uses h.seen.settled h.seen.post,
          refl,
          quiet_cell v h s cw h.life h.seen.uses g (each_put (λ z a. Kept a (h.life z) (log_at h.seen z)) v.cells s cw (kept_clock (at v.cells s) (h.life s) (log_at h.seen s) t (g.cells s)) g.cells)
              (λ y. refl) (λ z y. inl refl) g.sound.settled,
        )
    by s false = stay v h g

    go : (q : Option Site) → Next h.seen (clock_done v t q)
    go None = stay v h g
    go (Some s) = by s (leb t last_tick)

-- fate
pub keeps_fate : {P : Type 0} (x : ℕ) → Keeps {P = P} (Fate x)
keeps_fate x v h g = stay v h g

-- another post
pub good_post : {P : Type 0} (v : LineView P) (h : History P) (ps ms : List Message) → Good v h → ps ≡ ms → length ps ≤ 64 → All (Fits h) ms →
    Good (with_post v ps) (record { seen = see_post h.seen ms; life = h.life; live = h.live })
good_post v h ps ms g p l a = record {
  post = p;
  transactions = g.transactions;
  lone = g.lone;
  few = g.few;
  light = l;
  cells = g.cells;
  tabled = g.tabled;
  sound = record { joined = g.sound.joined; cast = g.sound.cast; held = g.sound.held; won = g.sound.won; acks = g.sound.acks; voted = g.sound.voted; settled = g.sound.settled; mails = a };
  unborn = g.unborn;
}

-- lose
length_removed : {X : Type 0} (xs : List X) (k : ℕ) → length (remove xs k) ≤ length xs
length_removed [] zero = omega arith
length_removed [] (suc k) = omega arith
length_removed (x ∷ []) zero = omega arith
length_removed (x ∷ y ∷ xs) zero = omega arith
length_removed (x ∷ xs) (suc k) = let ih = length_removed xs k in omega (arith, ih)

abbrev or_none_lem : ℕ → Bool → Result Unit Fault
or_none_lem k b = cond b (Ok tt) (Err (NoMessage k))

pub keeps_lose : {P : Type 0} (k : ℕ) → Keeps {P = P} (Lose k)
keeps_lose {P} k v h g = go (ltb k (length v.post))
  where
    go : (b : Bool) → Next (note h.seen (Lose k) (accepted (or_none_lem k b))) (cond b (with_post v (remove v.post k)) v)
    go true = (
      record { seen = see_post h.seen (remove h.seen.post k); life = h.life; live = h.live },
      refl,
      good_post v h (remove v.post k) (remove h.seen.post k) g (ap (λ ms. remove ms k) g.post) (let a = length_removed v.post k in let b = g.light in omega (arith, a, b))
          (all_removed (Fits h) h.seen.post k g.sound.mails),
    )
    go false = stay v h g

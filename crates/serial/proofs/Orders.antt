-- A delivered order: the cell acts on it, and its report is on its way.
use Rattle.std.proofs.Common.{◌≡◌, ℕ, Bool, true, false, cond, not, ◌&&◌, ◌⊎◌, List, [], ◌∷◌, ◌++◌, is_some, Some, Ok, Err, Option, Result, sym, refl, ap, ◌∙◌, subst, inl, inr, append-nil, arith}
use Rattle.std.proofs.lemmas.Bool.{cases_Bool}
use Rattle.protocol.specs.declared.sites.Site.{Site}
use Rattle.protocol.specs.declared.messages.Vote.{Vote}
use Rattle.protocol.specs.declared.messages.Vote.TheVariants.{Yes, No}
use Rattle.protocol.specs.declared.messages.Decision.{Decision}
use Rattle.protocol.specs.declared.messages.Decision.TheVariants.{Commit, Abort}
use Rattle.protocol.specs.declared.messages.Order.{Order}
use Rattle.protocol.specs.declared.messages.Order.TheVariants.{Prepare, Decide}
use Rattle.protocol.specs.declared.messages.Report.{Report}
use Rattle.protocol.specs.declared.messages.Report.TheVariants.{Cast, Ack}
use Rattle.protocol.specs.declared.messages.Body.{Body}
use Rattle.protocol.specs.declared.messages.Body.TheVariants.{ToCell, ToCoordinator}
use Rattle.protocol.specs.declared.messages.Message.{Message}
use Rattle.protocol.specs.declared.answers.Stage.{Stage}
use Rattle.protocol.specs.declared.answers.Stage.TheVariants.{Decided}
use Rattle.protocol.specs.declared.answers.Delivery.{Delivery}
use Rattle.protocol.specs.declared.faults.Fault.{Fault}
use Rattle.protocol.specs.Sites.{at, put_at, one}
use Rattle.table.specs.Contents.{reply_in}
use Rattle.store.specs.Meaning.{with}
use Rattle.cohort.specs.declared.kinds.State.{State}
use Rattle.cohort.specs.declared.kinds.State.TheVariants.{Active, Voted, Out, Done}
use Rattle.cohort.specs.declared.kinds.Cohort.{Cohort}
use Rattle.cohort.specs.declared.kinds.Event.TheVariants.{Receive}
use Rattle.cohort.specs.Steps.{reaction, step_reply}
use Rattle.cohort.specs.Holds.{is_active}
use Rattle.model.specs.Cells.{CellView, cohort_of, ballot_for, report_in, report_of, receive_done}
use Rattle.model.specs.Lines.{LineView, with_cell, sending, fits, no_room, letter, order_delivery, report_mail, order_fits, order_told, order_done}
use Rattle.model.specs.Calls.{delivered}
use Rattle.serial.specs.Observer.{see_sent, see_settled, see_body, if_some, delivery_in}
use Rattle.serial.proofs.Lives.{Life, Working, Prepared, Installed, Left, Dropped, is_unknown, is_installed, is_over, Kin, Kept}
use Rattle.serial.proofs.CellKeeps.{kept_yes, kept_no, same_prepare, kept_commit, kept_abort, same_decision}
use Rattle.serial.proofs.Histories.{History, log_at, is_decided, Means, Fits, Good, Next}
use Rattle.serial.proofs.Sites.{with_same, all_app}
use Rattle.serial.proofs.Steps.{some_is}
use Rattle.serial.proofs.Moves.{stay, same_line, same_tables, Fine, moved, lives_at, carried, sound_moves, here_life, one_move, over_same, over_now, good_cell, kept_lives}
use Rattle.serial.proofs.CallsKeep.{fine_working, working_uncommitted, found}
use Rattle.serial.proofs.TurnsKeep.{room_for}

-- a cohort's report
report_as : {P : Type 0} (v : CellView P) (x : ℕ) (o : Order) (c : Cohort) → cohort_of v x ≡ Some c → report_of v x o ≡ (reaction c c.state o (ballot_for v x)).report
report_as v x o c e = ap (λ q. report_in (reply_in step_reply q (Receive o (ballot_for v x)))) e

decision_acked : (c : Cohort) (st : State) (k : Decision) (b : Vote) → (reaction c st (Decide k) b).report ≡ Some Ack
decision_acked c (Active n) k b = refl
decision_acked c (Voted g) k b = refl
decision_acked c Out k b = refl
decision_acked c Done k b = refl

done_is : (c : Cohort) (st : State) (p : Life) (rd wr : ℕ → Bool) → Kin c st p rd wr → is_over p ≡ true → st ≡ Done
done_is c (Active n) p rd wr k e = absurd (let a = ap is_over (sym k.0) ∙ e in grind (arith, a))
done_is c (Voted g) p rd wr k e = absurd (let a = ap is_over (sym k.0) ∙ e in grind (arith, a))
done_is c Out p rd wr k e = absurd (let a = ap is_over (sym k.0) ∙ e in grind (arith, a))
done_is c Done p rd wr k e = refl

dropped_is : (p : Life) → is_over p ≡ true → is_installed p ≡ false → p ≡ Dropped
dropped_is p a b = grind arith

-- a decision takes one to its end
fine_commit : (t : Stage) (p : Life) (n : ℕ) → t ≡ Decided (Commit n) → is_unknown p ≡ false → Fine t p (Installed n)
fine_commit t p n e h = record {
  unvoted = λ _. ap is_decided e;
  keeps = λ m q. let k : n ≡ m = cc in record { set = refl; above = omega (arith, k); below = omega (arith, k) };
  finished = λ _. e;
  was = h;
  known = refl;
  over = λ _. refl;
}

fine_abort : (t : Stage) (p : Life) → t ≡ Decided Abort → is_unknown p ≡ false → Fine t p Dropped
fine_abort t p e h = record {
  unvoted = λ _. ap is_decided e;
  keeps = λ n q. absurd (let k : Decided Abort ≡ Decided (Commit n) = sym e ∙ q in let z : ◌≡◌ {A = ℕ} 0 1 = cc in omega arith);
  finished = λ q. absurd (grind (arith, q));
  was = h;
  known = refl;
  over = λ _. refl;
}

module _ {P : Type 0} (v : LineView P) (h : History P) (g : Good v h) (x : ℕ) (s : Site) where
  abbrev cell : CellView P
  cell = at v.cells s

  abbrev stage : Stage
  stage = (h.seen.transaction x).stage

  -- the cell changed, or not, and sends one message
  answer : (cw : CellView P) (q : Life) (se : ℕ → Site → Bool) (b : Body) → Kept cw (with (h.life s) x q) (log_at h.seen s) → ((y : ℕ) → is_some (cohort_of cw y) ≡ is_some (cohort_of (at v.cells s) y)) →
      (h.life s x ≡ q) ⊎ Fine stage (h.life s x) q → ((y : ℕ) (z : Site) → se y z ≡ is_over (lives_at h s x q z y)) → Means stage q b → fits v 1 ≡ true →
      Next (record { post = h.seen.post ++ (letter x s b ∷ []); transaction = h.seen.transaction; uses = h.seen.uses; settled = se }) (sending (with_cell v s cw) (letter x s b ∷ []))
  answer cw q se b k c mv st m f =
      let ms : List Message = letter x s b ∷ [] in
      let moves = one_move h s x q mv in (
        moved h (lives_at h s x q) h.seen.uses se (h.seen.post ++ ms),
        refl,
        good_cell v h s cw (lives_at h s x q) h.seen.uses se (v.post ++ ms) (h.seen.post ++ ms) g (ap (λ y. y ++ ms) g.post) (room_for v ms 1 refl f)
            (kept_lives v h s cw x q g k) c
            (sound_moves h g.sound (lives_at h s x q) h.seen.uses se (h.seen.post ++ ms) moves st
            (all_app (Fits (moved h (lives_at h s x q) h.seen.uses se (h.seen.post ++ ms))) h.seen.post ms
            (carried h g.sound (lives_at h s x q) h.seen.uses se (h.seen.post ++ ms) moves) (subst (λ p. Means stage p b) (sym (here_life h s x q)) m, tt))),
      )

  kept_same : (q : Life) → h.life s x ≡ q → Kept cell (with (h.life s) x q) (log_at h.seen s)
  kept_same q e = subst (λ f. Kept cell f (log_at h.seen s)) (sym (with_same (h.life s) x q e)) (g.cells s)

  -- by the report
  abbrev Told : Order → Option Report → Type 0
  Told o r = fits v (one (is_some r)) ≡ true → Next (see_body h.seen x s (ToCell o) (order_delivery r)) (sending (with_cell v s (receive_done (at v.cells s) x o)) (report_mail x s r))

  -- PREPARE to one that votes now, or repeats its vote, or is done
  votes : (c : Cohort) (n : ℕ) → cohort_of cell x ≡ Some c → c.state ≡ Active n → h.life s x ≡ Working n → (b : Vote) → ballot_for cell x ≡ b → Told Prepare (reaction c (Active n) Prepare b).report
  votes c n f a e (Yes r) q ok = answer (receive_done cell x Prepare) (Prepared r.earliest r.latest) h.seen.settled (ToCoordinator (Cast (Yes r)))
      (kept_yes cell (h.life s) (log_at h.seen s) x n c r (g.cells s) f a q) (same_tables cell x (Receive Prepare (ballot_for cell x)))
      (inr (fine_working stage (h.life s x) (Prepared r.earliest r.latest) n e (working_uncommitted h g.sound s x n e) refl refl))
      (over_same h s x (Prepared r.earliest r.latest) g.sound (ap is_over e)) (refl, λ _. refl) ok
  votes c n f a e No q ok = answer (receive_done cell x Prepare) Left h.seen.settled (ToCoordinator (Cast No))
      (kept_no cell (h.life s) (log_at h.seen s) x n c (g.cells s) f a q) (same_tables cell x (Receive Prepare (ballot_for cell x)))
      (inr (fine_working stage (h.life s x) Left n e (working_uncommitted h g.sound s x n e) refl refl))
      (over_same h s x Left g.sound (ap is_over e)) refl ok

  repeats : (c : Cohort) → cohort_of cell x ≡ Some c → is_active c.state ≡ false → (q : Life) (r : Report) → h.life s x ≡ q → Means stage q (ToCoordinator r) →
      fits v 1 ≡ true → Next (see_sent h.seen (letter x s (ToCoordinator r) ∷ [])) (sending (with_cell v s (receive_done cell x Prepare)) (letter x s (ToCoordinator r) ∷ []))
  repeats c f a q r e m ok = subst (λ cw. Next (see_sent h.seen (letter x s (ToCoordinator r) ∷ [])) (sending (with_cell v s cw) (letter x s (ToCoordinator r) ∷ []))) (sym (same_prepare cell x c f a))
      (answer cell q h.seen.settled (ToCoordinator r) (kept_same q e) (λ y. refl) (inl e) (over_same h s x q g.sound (ap is_over e)) m ok)

  quiet : (c : Cohort) → cohort_of cell x ≡ Some c → is_active c.state ≡ false → sending (with_cell v s (receive_done cell x Prepare)) [] ≡ v
  quiet c f a = ap (λ cw. sending (with_cell v s cw) []) (same_prepare cell x c f a)
      ∙ (ap (λ ms. record { cells = put_at v.cells s cell; transactions = v.transactions; post = ms; opens = v.opens }) (append-nil v.post) ∙ same_line v s)

  prepared : (c : Cohort) → cohort_of cell x ≡ Some c → (st : State) → c.state ≡ st → (rd wr : ℕ → Bool) → Kin c st (h.life s x) rd wr → Told Prepare (reaction c st Prepare (ballot_for cell x)).report
  prepared c f (Active n) a rd wr k = votes c n f a k.0 (ballot_for cell x) refl
  prepared c f (Voted r) a rd wr k = repeats c f (ap is_active a) (Prepared r.earliest r.latest) (Cast (Yes r)) k.0 (refl, λ _. refl)
  prepared c f Out a rd wr k = repeats c f (ap is_active a) Left (Cast No) k.0 refl
  prepared c f Done a rd wr k = λ ok. subst (Next h.seen) (sym (quiet c f (ap is_active a))) (stay v h g)

  -- a decision, carried out now or before
  settles : (k : Decision) (q : Life) → Kept (receive_done cell x (Decide k)) (with (h.life s) x q) (log_at h.seen s) → Fine stage (h.life s x) q → is_over q ≡ true → Told (Decide k) (Some Ack)
  settles k q kp fi ov ok = answer (receive_done cell x (Decide k)) q (see_settled h.seen x s).settled (ToCoordinator Ack) kp (same_tables cell x (Receive (Decide k) (ballot_for cell x))) (inr fi) (over_now h s x q g.sound ov) ov ok

  not_installed : stage ≡ Decided Abort → is_installed (h.life s x) ≡ false
  not_installed e = elim (cases_Bool (is_installed (h.life s x))) [ inl a ↦ absurd (let k = sym e ∙ g.sound.won x s a in let z : ◌≡◌ {A = ℕ} 0 1 = cc in omega arith) | inr b ↦ b ]

  decides : (c : Cohort) → cohort_of cell x ≡ Some c → (rd wr : ℕ → Bool) → Kin c c.state (h.life s x) rd wr → (k : Decision) → Means stage (h.life s x) (ToCell (Decide k)) → Told (Decide k) (Some Ack)
  decides c f rd wr kin (Commit t) m = settles (Commit t) (Installed t) (kept_commit cell (h.life s) (log_at h.seen s) x t c (g.cells s) f (g.sound.held x s t m.1 m.0)) (fine_commit stage (h.life s x) t m.1 m.0) refl
  decides c f rd wr kin Abort m = settles Abort Dropped (by (is_over (h.life s x)) refl) (fine_abort stage (h.life s x) m.1 m.0) refl
    where
      by : (b : Bool) → is_over (h.life s x) ≡ b → Kept (receive_done cell x (Decide Abort)) (with (h.life s) x Dropped) (log_at h.seen s)
      by true e = subst (λ cw. Kept cw (with (h.life s) x Dropped) (log_at h.seen s)) (sym (same_decision cell x Abort c f (done_is c c.state (h.life s x) rd wr kin e)))
          (kept_same Dropped (dropped_is (h.life s x) e (not_installed m.1)))
      by false e = kept_abort cell (h.life s) (log_at h.seen s) x c (g.cells s) f e

  by_order : (o : Order) → Means stage (h.life s x) (ToCell o) → (c : Cohort) → cohort_of cell x ≡ Some c → Told o (report_of cell x o)
  by_order Prepare m c f = subst (Told Prepare) (sym (report_as cell x Prepare c f)) (prepared c f c.state refl _ _ (found (cohort_of cell x) c (h.life s x) _ _ f ((g.cells s).like.each x)))
  by_order (Decide k) m c f = subst (Told (Decide k)) (sym (report_as cell x (Decide k) c f ∙ decision_acked c c.state k (ballot_for cell x)))
      (decides c f _ _ (found (cohort_of cell x) c (h.life s x) _ _ f ((g.cells s).like.each x)) k m)

  known : (o : Order) → Means stage (h.life s x) (ToCell o) → is_unknown (h.life s x) ≡ false
  known Prepare m = m
  known (Decide k) m = m.0

  abbrev or_full : Order → Bool → Result Delivery Fault
  or_full o b = cond b (Ok (order_delivery (report_of (at v.cells s) x o))) (Err (no_room v 1))

  pub order_next : h.live x ≡ true → (o : Order) → Means stage (h.life s x) (ToCell o) →
      Next (if_some h.seen (see_body h.seen x s (ToCell o)) (delivery_in {P = P} (delivered (order_told v x s o)))) (order_done v x s o)
  order_next l o m = go (order_fits v x s o) refl
    where
      joined : at (h.seen.transaction x).joined s ≡ true
      joined = g.sound.joined x s ∙ ap not (known o m)

      there : is_some (cohort_of cell x) ≡ true
      there = g.tabled s x ∙ (ap (λ b. b && at (h.seen.transaction x).joined s) l ∙ joined)

      go : (b : Bool) → order_fits v x s o ≡ b → Next (if_some h.seen (see_body h.seen x s (ToCell o)) (delivery_in {P = P} (delivered (or_full o b)))) (cond b (sending (with_cell v s (receive_done (at v.cells s) x o)) (report_mail x s (report_of (at v.cells s) x o))) v)
      go true e = let q = some_is (cohort_of cell x) there in by_order o m q.0 q.1 e
      go false e = stay v h g

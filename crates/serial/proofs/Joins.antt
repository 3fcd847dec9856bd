-- Join: the cell has room for the transaction, which is new there.
use Rattle.std.proofs.Common.{◌≡◌, ℕ, ◌<◌, ◌≤◌, Bool, true, false, cond, not, ◌&&◌, eqb, ltb, [], ◌∷◌, ◌++◌, length, is_some, is_ok, Some, None, Ok, Err, Result, sym, refl, ap, ◌∙◌, subst, arith}
use Rattle.std.proofs.lemmas.Bool.{eqb-true, ne_eqb, lt-ltb, cond-true, cond-false}
use Rattle.std.proofs.lemmas.Bool.Decides.{nat_tests}
use Rattle.protocol.specs.declared.sites.Site.{Site}
use Rattle.protocol.specs.declared.messages.Vote.TheVariants.{Yes, No}
use Rattle.protocol.specs.declared.messages.Decision.TheVariants.{Commit}
use Rattle.protocol.specs.declared.messages.Order.TheVariants.{Prepare, Decide}
use Rattle.protocol.specs.declared.messages.Report.TheVariants.{Cast, Ack}
use Rattle.protocol.specs.declared.messages.Body.{Body}
use Rattle.protocol.specs.declared.messages.Body.TheVariants.{ToCell, ToCoordinator}
use Rattle.protocol.specs.declared.answers.Stage.{Stage}
use Rattle.protocol.specs.declared.answers.Stage.TheVariants.{Open, Decided}
use Rattle.protocol.specs.declared.faults.CellFault.{CellFault}
use Rattle.protocol.specs.declared.faults.CellFault.TheVariants.{NotActive}
use Rattle.protocol.specs.declared.calls.Call.TheVariants.{Join}
use Rattle.protocol.specs.Sites.{site_of, at, put_at}
use Rattle.table.specs.Contents.{find_in, pushed}
use Rattle.store.specs.Meaning.{with}
use Rattle.cohort.specs.Steps.{tx_of, joiner}
use Rattle.coordinator.specs.declared.kinds.Transaction.{Transaction}
use Rattle.coordinator.specs.declared.kinds.Event.TheVariants.{Join as Joins}
use Rattle.coordinator.specs.declared.kinds.Allowed.TheVariants.{OnlyOpen}
use Rattle.coordinator.specs.Steps.{number_in, with_join, step_to}
use Rattle.model.specs.Cells.{CellView, with_cohorts, cohort_of, join_done}
use Rattle.model.specs.Lines.{LineView, with_cell, coordinated, from_cell, join_by, join_done_by}
use Rattle.model.specs.Calls.{accepted}
use Rattle.serial.specs.Observer.{note, same_site, see_tx, if_some}
use Rattle.serial.specs.Laws.{Covers}
use Rattle.serial.proofs.Lives.{Life, Working, Prepared, is_unknown, is_installed, is_over, hi, Within}
use Rattle.serial.proofs.CellKeeps.{kept_join}
use Rattle.serial.proofs.Histories.{History, log_at, is_decided, Means, Fits, Sound, Good, Next, Keeps}
use Rattle.serial.proofs.Sites.{site_is, put_at_lem, with_both, all_map}
use Rattle.serial.proofs.Steps.{none_is, length_stepped, apart_stepped, find_end, room_holds}
use Rattle.serial.proofs.Moves.{stay, lives_at, kept_lives}
use Rattle.serial.proofs.Turns.{there, born, same_number, stepped_as}
use Rattle.serial.proofs.Admits.{by_site, open_is}

-- a message of one that is unknown at its cell cannot wait
unknown_silent : (t : Stage) (p : Life) (b : Body) → is_unknown p ≡ true → Means t p b → ⊥
unknown_silent t p (ToCell Prepare) u m = grind (arith, u, m)
unknown_silent t p (ToCell (Decide k)) u m = let n = m.0 in grind (arith, u, n)
unknown_silent t p (ToCoordinator (Cast (Yes g))) u m = let n = m.0 in grind (arith, u, n)
unknown_silent t p (ToCoordinator (Cast No)) u m = grind (arith, u, m)
unknown_silent t p (ToCoordinator Ack) u m = grind (arith, u, m)

module _ {P : Type 0} (v : LineView P) (h : History P) (g : Good v h) (x : ℕ) (s : Site) (l : h.live x ≡ true) (op : (h.seen.transaction x).stage ≡ Open)
    (new : cohort_of (at v.cells s) x ≡ None) where
  abbrev cell : CellView P
  cell = at v.cells s

  -- every cohort there is a live transaction's, and x is one more
  room : length cell.cohorts < 16
  room =
      let k = room_holds tx_of number_in cell.cohorts v.transactions x (g.cells s).single (λ y f. known y (sym (g.tabled s y) ∙ f)) (ap is_some (there v h x g l)) new in
      let b = g.few in omega (arith, k, b)
    where
      known : (y : ℕ) → (h.live y && at (h.seen.transaction y).joined s) ≡ true → is_some (find_in number_in v.transactions y) ≡ true
      known y e = ap is_some (there v h y g (grind (arith, nat_tests)))

  unjoined : at (h.seen.transaction x).joined s ≡ false
  unjoined = let a = sym (g.tabled s x) ∙ ap is_some new in grind (arith, nat_tests)

  unknown : is_unknown (h.life s x) ≡ true
  unknown = let a = g.sound.joined x s in let b = unjoined in grind (arith, a, b)

  abbrev joins : Transaction
  joins = with_join (h.seen.transaction x) s

  abbrev works : Life
  works = Working cell.clock

  abbrev after : History P
  after = record { seen = see_tx h.seen x (with_join (h.seen.transaction x) s); life = lives_at h s x (Working (at v.cells s).clock); live = h.live }

  -- joined and at work at this place, and as before at every other
  both : (y : ℕ) (z : Site) (Q : Bool → Life → Type 0) → (x ≡ y → s ≡ z → Q true works) → Q (at (h.seen.transaction y).joined z) (h.life z y) →
      Q (at (with h.seen.transaction x joins y).joined z) (lives_at h s x works z y)
  both y z Q a b = go (eqb x y) (same_site s z) refl refl
    where
      go : (c e : Bool) → eqb x y ≡ c → same_site s z ≡ e → Q (at (cond c joins (h.seen.transaction y)).joined z) (cond e (with (h.life s) x works) (h.life z) y)
      go true true u k = subst (λ j. Q j (with (h.life s) x works y)) (sym (put_at_lem (h.seen.transaction x).joined s true z ∙ cond-true (same_site s z) true (at (h.seen.transaction x).joined z) k))
          (subst (Q true) (sym (cond-true (eqb x y) works (h.life s y) u)) (a (eqb-true x y u) (site_is s z k)))
      go true false u k = subst (λ j. Q j (h.life z y)) (sym (put_at_lem (h.seen.transaction x).joined s true z ∙ (cond-false (same_site s z) true (at (h.seen.transaction x).joined z) k ∙ ap (λ n. at (h.seen.transaction n).joined z) (eqb-true x y u)))) b
      go false true u k = subst (Q (at (h.seen.transaction y).joined z)) (sym (cond-false (eqb x y) works (h.life s y) u ∙ ap (λ w. h.life w y) (site_is s z k))) b
      go false false u k = b

  -- what a join leaves of the transaction
  same : {X : Type 0} (F : Transaction → X) → F joins ≡ F (h.seen.transaction x) → (y : ℕ) → F (with h.seen.transaction x joins y) ≡ F (h.seen.transaction y)
  same F e y = with_both h.seen.transaction x joins y (λ k. F k ≡ F (h.seen.transaction y)) (λ q. e ∙ ap (λ n. F (h.seen.transaction n)) q) (λ _. refl)

  unknown_at : (y : ℕ) (z : Site) → x ≡ y → s ≡ z → is_unknown (h.life z y) ≡ true
  unknown_at y z a b = subst (λ w. is_unknown (h.life w y) ≡ true) b (subst (λ n. is_unknown (h.life s n) ≡ true) a unknown)

  open_at : (y t : ℕ) → x ≡ y → (h.seen.transaction y).stage ≡ Decided (Commit t) → ⊥
  open_at y t a e = let k : Open ≡ Decided (Commit t) = sym op ∙ (ap (λ n. (h.seen.transaction n).stage) a ∙ e) in let z : ◌≡◌ {A = ℕ} 0 1 = cc in omega arith

  sound_join : Sound after
  sound_join = record {
    joined = λ y z. both y z (λ b p. b ≡ not (is_unknown p)) (λ _ _. refl) (g.sound.joined y z);
    cast = λ y z r e u.
        let old = g.sound.cast y z r (sym (same (λ k. at k.votes z) refl y) ∙ e) (sym (same (λ k. is_decided k.stage) refl y) ∙ u) in
        both y z (λ b p. p ≡ Prepared r.earliest r.latest) (λ a b. absurd (let k = sym (ap is_unknown old) ∙ unknown_at y z a b in grind (arith, k))) old;
    held = λ y z t e. let e2 = sym (same (λ k. k.stage) refl y) ∙ e in
        both y z (λ b p. is_unknown p ≡ false → Within p t) (λ a b _. absurd (open_at y t a e2)) (g.sound.held y z t e2);
    won = λ y z. both y z (λ b p. is_installed p ≡ true → (with h.seen.transaction x joins y).stage ≡ Decided (Commit (hi p))) (λ a b u. absurd (grind (arith, u))) (λ u. same (λ k. k.stage) refl y ∙ g.sound.won y z u);
    acks = λ y z e. let old = g.sound.acks y z (sym (same (λ k. at k.acks z) refl y) ∙ e) in
        both y z (λ b p. is_over p ≡ true) (λ a b. absurd (let k = unknown_at y z a b in over_unknown (h.life z y) old k)) old;
    voted = λ y z t e. let e2 = sym (same (λ k. k.stage) refl y) ∙ e in
        both y z (λ b p. b ≡ true → Covers (at (with h.seen.transaction x joins y).votes z) t) (λ a b _. absurd (open_at y t a e2))
        (λ j. subst (λ q. Covers q t) (sym (same (λ k. at k.votes z) refl y)) (g.sound.voted y z t e2 j));
    settled = λ y z. both y z (λ b p. h.seen.settled y z ≡ is_over p) (λ a b. g.sound.settled y z ∙ unknown_idle (h.life z y) (unknown_at y z a b)) (g.sound.settled y z);
    mails = all_map (Fits h) (Fits after) h.seen.post
        (λ m f. subst (λ t. Means t (lives_at h s x works m.site m.tx) m.body) (sym (same (λ k. k.stage) refl m.tx))
        (both m.tx m.site (λ b p. Means (h.seen.transaction m.tx).stage p m.body)
        (λ a b. absurd (unknown_silent (h.seen.transaction m.tx).stage (h.life m.site m.tx) m.body (unknown_at m.tx m.site a b) f)) f)) g.sound.mails;
  }
    where
      over_unknown : (p : Life) → is_over p ≡ true → is_unknown p ≡ true → ⊥
      over_unknown p a b = grind arith

      unknown_idle : (p : Life) → is_unknown p ≡ true → is_over p ≡ false
      unknown_idle p a = grind arith

  -- the cell's table has one more
  join_is : join_done cell x ≡ with_cohorts cell (cell.cohorts ++ (joiner x cell.clock ∷ []))
  join_is = cond-false (is_some (cohort_of cell x)) cell (with_cohorts cell (pushed 16 cell.cohorts (joiner x cell.clock))) (ap is_some new)
      ∙ ap (λ cs. with_cohorts cell cs) (cond-true (ltb (length cell.cohorts) 16) (cell.cohorts ++ (joiner x cell.clock ∷ [])) cell.cohorts (lt-ltb (length cell.cohorts) 16 room))

  join_table : (y : ℕ) (b : Bool) → eqb x y ≡ b → is_some (cohort_of (join_done cell x) y) ≡ cond b true (is_some (cohort_of cell y))
  join_table y b e = ap (λ c. is_some (cohort_of c y)) join_is
      ∙ (ap is_some (find_end tx_of cell.cohorts (joiner x cell.clock) y new) ∙ (ap (λ c. is_some (cond c (Some (joiner x cell.clock)) (cohort_of cell y))) e ∙ go b))
    where
      go : (b : Bool) → is_some (cond b (Some (joiner x cell.clock)) (cohort_of cell y)) ≡ cond b true (is_some (cohort_of cell y))
      go true = refl
      go false = refl

  join_tabled : (z : Site) (y : ℕ) → is_some (cohort_of (at (put_at v.cells s (join_done cell x)) z) y) ≡ (h.live y && at (with h.seen.transaction x joins y).joined z)
  join_tabled z y = ap (λ c. is_some (cohort_of c y)) (put_at_lem v.cells s (join_done cell x) z) ∙ go (eqb x y) (same_site s z) refl refl
    where
      go : (b c : Bool) → eqb x y ≡ b → same_site s z ≡ c → is_some (cohort_of (cond c (join_done cell x) (at v.cells z)) y) ≡ (h.live y && at (cond b joins (h.seen.transaction y)).joined z)
      go true true u k = join_table y true u ∙ sym (ap (λ n. h.live n && at joins.joined z) (sym (eqb-true x y u)) ∙ (ap (λ b. b && at joins.joined z) l ∙ (put_at_lem (h.seen.transaction x).joined s true z ∙ cond-true (same_site s z) true (at (h.seen.transaction x).joined z) k)))
      go true false u k = g.tabled z y ∙ ap (λ b. h.live y && b) (sym (put_at_lem (h.seen.transaction x).joined s true z ∙ (cond-false (same_site s z) true (at (h.seen.transaction x).joined z) k ∙ ap (λ n. at (h.seen.transaction n).joined z) (eqb-true x y u))))
      go false true u k = join_table y false u ∙ subst (λ w. is_some (cohort_of cell y) ≡ (h.live y && at (h.seen.transaction y).joined w)) (site_is s z k) (g.tabled s y)
      go false false u k = g.tabled z y

  good_join : Good (coordinated (with_cell v s (join_done cell x)) x (Joins s)) after
  good_join = record {
    post = g.post;
    transactions = stepped_as v h x (Joins s) joins g l refl;
    lone = apart_stepped number_in step_to (Joins s) (same_number (Joins s)) v.transactions x g.lone;
    few = subst (λ k. k ≤ 16) (sym (length_stepped number_in step_to (Joins s) (same_number (Joins s)) v.transactions x)) g.few;
    light = g.light;
    cells = kept_lives v h s (join_done cell x) x works g (kept_join cell (h.life s) (log_at h.seen s) x (g.cells s) new unknown room);
    tabled = join_tabled;
    sound = sound_join;
    unborn = λ y k. ((g.unborn y k).0, let b = born v h x g l in cond-false (eqb x y) joins (h.seen.transaction y) (ne_eqb x y (λ u. omega (arith, u, b, k))) ∙ (g.unborn y k).1);
  }

abbrev or_there : Bool → Result Unit CellFault
or_there b = cond b (Err NotActive) (Ok tt)

pub keeps_join : {P : Type 0} (x c : ℕ) → Keeps {P = P} (Join x c)
keeps_join {P} x c v h g = by_site v h x g OnlyOpen c (λ m. Next (note h.seen (Join x c) (accepted (join_by v x m))) (join_done_by v x m)) (λ f. stay v h g)
    (λ s q l e. by s q l (open_is (h.seen.transaction x).stage e) (is_some (cohort_of (at v.cells s) x)) refl)
  where
    by : (s : Site) → site_of c ≡ Some s → h.live x ≡ true → (h.seen.transaction x).stage ≡ Open → (b : Bool) → is_some (cohort_of (at v.cells s) x) ≡ b →
        Next (note h.seen (Join x c) (accepted (from_cell s (or_there b)))) (cond (is_ok (or_there b)) (coordinated (with_cell v s (join_done (at v.cells s) x)) x (Joins s)) v)
    by s q l op true e = stay v h g
    by s q l op false e =
        let new = none_is (cohort_of (at v.cells s) x) e in
        subst (λ y. Next (if_some h.seen (λ z. see_tx h.seen x (with_join (h.seen.transaction x) z)) y) (coordinated (with_cell v s (join_done (at v.cells s) x)) x (Joins s))) (sym q)
        (after v h g x s l op new, refl, good_join v h g x s l op new)

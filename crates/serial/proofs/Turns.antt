-- What happens to one transaction at the coordinator keeps what holds of the line: it turns to a new stage, joins, is
-- acknowledged, opens or closes.
use Rattle.std.proofs.Common.{◌≡◌, ℕ, ◌+◌, ◌<◌, ◌≤◌, Bool, true, false, cond, not, ◌&&◌, eqb, List, [], ◌∷◌, ◌++◌, length, is_some, Some, None, sym, refl, ap, ◌∙◌, subst, inl, inr, arith, length-append}
use Rattle.std.proofs.lemmas.Bool.{eqb-true, eqb-false, ne_eqb, cases_lt, cond-true, cond-false, cond_both}
use Rattle.protocol.specs.declared.sites.Site.{Site}
use Rattle.protocol.specs.declared.sites.Site.TheVariants.{Cell0, Cell1, Cell2, Cell3}
use Rattle.protocol.specs.declared.sites.PerSite.{PerSite}
use Rattle.protocol.specs.declared.messages.Range.{Range}
use Rattle.protocol.specs.declared.messages.Vote.TheVariants.{Yes, No}
use Rattle.protocol.specs.declared.messages.Decision.TheVariants.{Commit, Abort}
use Rattle.protocol.specs.declared.messages.Order.{Order}
use Rattle.protocol.specs.declared.messages.Order.TheVariants.{Prepare, Decide}
use Rattle.protocol.specs.declared.messages.Report.{Report}
use Rattle.protocol.specs.declared.messages.Report.TheVariants.{Cast, Ack}
use Rattle.protocol.specs.declared.messages.Body.{Body}
use Rattle.protocol.specs.declared.messages.Body.TheVariants.{ToCell, ToCoordinator}
use Rattle.protocol.specs.declared.messages.Message.{Message}
use Rattle.protocol.specs.declared.answers.Stage.TheVariants.{Decided}
use Rattle.protocol.specs.Formulas.{tallied}
use Rattle.protocol.specs.Sites.{at, how_many, one}
use Rattle.table.specs.Contents.{find_in, stepped}
use Rattle.store.specs.Meaning.{with}
use Rattle.coordinator.specs.declared.kinds.Transaction.{Transaction}
use Rattle.coordinator.specs.declared.kinds.Event.{Event}
use Rattle.coordinator.specs.declared.kinds.Event.TheVariants.{Join, Submit, GiveUp, Receive}
use Rattle.coordinator.specs.Steps.{number_in, opened, at_stage, with_vote, with_ack, all_voted, awaits, counted, heard, step_to}
use Rattle.cohort.specs.Steps.{tx_of}
use Rattle.model.specs.Cells.{cohort_of, close_done}
use Rattle.model.specs.Lines.{LineView, with_post, transaction_of, coordinated, letter, letter_if, orders_to, shut}
use Rattle.serial.specs.Observer.{see_post, see_tx}
use Rattle.serial.specs.Laws.{Covers}
use Rattle.serial.proofs.Lives.{Life, Prepared, is_unknown, is_installed, is_holding, is_over, hi, Kept, Within}
use Rattle.serial.proofs.CellKeeps.{kept_close}
use Rattle.serial.proofs.Histories.{History, log_at, is_decided, Means, Fits, All, Sound, Good}
use Rattle.serial.proofs.Sites.{each_put, with_both, all_app, all_map}
use Rattle.serial.proofs.Steps.{length_stepped, find_other, find_here, apart_stepped, find_end, apart_end, find_cut, apart_cut, length_cut}

-- what is live is in the table as it was seen
pub there : {P : Type 0} (v : LineView P) (h : History P) (x : ℕ) → Good v h → h.live x ≡ true → transaction_of v x ≡ Some (h.seen.transaction x)
there v h x g l = g.transactions x ∙ cond-true (h.live x) (Some (h.seen.transaction x)) None l

pub born : {P : Type 0} (v : LineView P) (h : History P) (x : ℕ) → Good v h → h.live x ≡ true → x ≤ v.opens
born v h x g l = elim (cases_lt v.opens x) [ inl a ↦ absurd (let z = (g.unborn x a).0 in grind (arith, z, l)) | inr b ↦ b ]

-- an order to each marked cell
pub all_orders : (Q : Message → Type 0) (e : PerSite Bool) (x : ℕ) (o : Order) → ((z : Site) → at e z ≡ true → Q (letter x z (ToCell o))) → All Q (orders_to e x o)
all_orders Q e x o h =
    all_app Q (letter_if e.cell0 (letter x Cell0 (ToCell o))) _ (each Cell0) (all_app Q (letter_if e.cell1 (letter x Cell1 (ToCell o))) _ (each Cell1) (all_app Q (letter_if e.cell2 (letter x Cell2 (ToCell o))) _ (each Cell2) (each Cell3)))
  where
    each : (z : Site) → All Q (letter_if (at e z) (letter x z (ToCell o)))
    each z = cond_both (at e z) (letter x z (ToCell o) ∷ []) [] (All Q) (λ k. (h z k, tt)) (λ k. tt)

pub length_orders : (e : PerSite Bool) (x : ℕ) (o : Order) → length (orders_to e x o) ≡ how_many e
length_orders e x o =
    let a = each e.cell0 (letter x Cell0 (ToCell o)) in let b = each e.cell1 (letter x Cell1 (ToCell o)) in
    let c = each e.cell2 (letter x Cell2 (ToCell o)) in let d = each e.cell3 (letter x Cell3 (ToCell o)) in
    let c3 : List Message = letter_if e.cell3 (letter x Cell3 (ToCell o)) in
    let c2 : List Message = letter_if e.cell2 (letter x Cell2 (ToCell o)) in
    let c1 : List Message = letter_if e.cell1 (letter x Cell1 (ToCell o)) in
    let c0 : List Message = letter_if e.cell0 (letter x Cell0 (ToCell o)) in
    let k0 = length-append c0 (c1 ++ (c2 ++ c3)) in let k1 = length-append c1 (c2 ++ c3) in let k2 = length-append c2 c3 in
    omega (arith, a, b, c, d, k0, k1, k2)
  where
    each : (b : Bool) (m : Message) → length (letter_if b m) ≡ one b
    each true m = refl
    each false m = refl

-- one transaction changed, and the post; no cell
abbrev pub turned : {P : Type 0} → History P → ℕ → Transaction → List Message → History P
turned h x n ms = record { seen = see_post (see_tx h.seen x n) ms; life = h.life; live = h.live }

-- one that is not decided turns
module _ {P : Type 0} (h : History P) (v : Sound h) (x : ℕ) (n : Transaction) (ms : List Message) (yet : is_decided (h.seen.transaction x).stage ≡ false)
    (jn : (z : Site) → at n.joined z ≡ at (h.seen.transaction x).joined z) (ak : (z : Site) → at n.acks z ≡ at (h.seen.transaction x).acks z)
    (cast : (z : Site) (r : Range) → at n.votes z ≡ Some r → is_decided n.stage ≡ false → h.life z x ≡ Prepared r.earliest r.latest)
    (win : (z : Site) (t : ℕ) → n.stage ≡ Decided (Commit t) → is_unknown (h.life z x) ≡ false → Within (h.life z x) t)
    (cover : (z : Site) (t : ℕ) → n.stage ≡ Decided (Commit t) → at n.joined z ≡ true → Covers (at n.votes z) t) where
  means_turn : (p : Life) (b : Body) → Means (h.seen.transaction x).stage p b → Means n.stage p b
  means_turn p (ToCell Prepare) g = g
  means_turn p (ToCell (Decide k)) g = absurd (let e = ap is_decided (sym g.1) ∙ yet in grind (arith, e))
  means_turn p (ToCoordinator (Cast (Yes r))) g = (g.0, λ _. g.1 yet)
  means_turn p (ToCoordinator (Cast No)) g = g
  means_turn p (ToCoordinator Ack) g = g

  mail_turn : (m : Message) → Fits h m → Fits (turned h x n ms) m
  mail_turn m g = with_both h.seen.transaction x n m.tx (λ k. Means k.stage (h.life m.site m.tx) m.body)
      (λ q. means_turn (h.life m.site m.tx) m.body (subst (λ k. Means (h.seen.transaction k).stage (h.life m.site m.tx) m.body) (sym q) g))
      (λ _. g)

  pub turn_mails : All (Fits (turned h x n ms)) h.seen.post
  turn_mails = all_map (Fits h) (Fits (turned h x n ms)) h.seen.post mail_turn v.mails

  pub sound_turn : All (Fits (turned h x n ms)) ms → Sound (turned h x n ms)
  sound_turn new = record {
    joined = λ y z. with_both h.seen.transaction x n y (λ k. at k.joined z ≡ not (is_unknown (h.life z y))) (λ q. jn z ∙ (v.joined x z ∙ ap (λ k. not (is_unknown (h.life z k))) q)) (λ _. v.joined y z);
    cast = λ y z r. with_both h.seen.transaction x n y (λ k. at k.votes z ≡ Some r → is_decided k.stage ≡ false → h.life z y ≡ Prepared r.earliest r.latest) (λ q e u. ap (λ k. h.life z k) (sym q) ∙ cast z r e u) (λ _. v.cast y z r);
    held = λ y z t. with_both h.seen.transaction x n y (λ k. k.stage ≡ Decided (Commit t) → is_unknown (h.life z y) ≡ false → Within (h.life z y) t)
        (λ q e f. subst (λ k. Within (h.life z k) t) q (win z t e (ap (λ k. is_unknown (h.life z k)) q ∙ f))) (λ _. v.held y z t);
    won = λ y z e. with_both h.seen.transaction x n y (λ k. k.stage ≡ Decided (Commit (hi (h.life z y))))
        (λ q. absurd (let a = v.won x z (ap (λ k. is_installed (h.life z k)) q ∙ e) in let b = ap is_decided (sym a) ∙ yet in grind (arith, b))) (λ _. v.won y z e);
    acks = λ y z. with_both h.seen.transaction x n y (λ k. at k.acks z ≡ true → is_over (h.life z y) ≡ true) (λ q e. ap (λ k. is_over (h.life z k)) (sym q) ∙ v.acks x z (sym (ak z) ∙ e)) (λ _. v.acks y z);
    voted = λ y z t. with_both h.seen.transaction x n y (λ k. k.stage ≡ Decided (Commit t) → at k.joined z ≡ true → Covers (at k.votes z) t) (λ q. cover z t) (λ _. v.voted y z t);
    settled = v.settled;
    mails = new;
  }

-- an event leaves the number
counted_number : (d : Transaction) → (counted d).number ≡ d.number
counted_number d = cond_both (all_voted d) (at_stage d (Decided (tallied d.votes))) d (λ k. k.number ≡ d.number) (λ _. refl) (λ _. refl)

heard_number : (d : Transaction) (s : Site) (r : Report) → (heard d s r).number ≡ d.number
heard_number d s (Cast (Yes g)) = cond_both (awaits d d.stage s) (counted (with_vote d s g)) d (λ k. k.number ≡ d.number) (λ _. counted_number (with_vote d s g)) (λ _. refl)
heard_number d s (Cast No) = cond_both (awaits d d.stage s) (at_stage d (Decided Abort)) d (λ k. k.number ≡ d.number) (λ _. refl) (λ _. refl)
heard_number d s Ack = cond_both (at d.acks s) d (with_ack d s) (λ k. k.number ≡ d.number) (λ _. refl) (λ _. refl)

pub same_number : (e : Event) (d : Transaction) → number_in (step_to d e) ≡ number_in d
same_number (Join s) d = refl
same_number Submit d = refl
same_number GiveUp d = refl
same_number (Receive s r) d = heard_number d s r

-- the coordinator's table after an event of x
pub stepped_as : {P : Type 0} (v : LineView P) (h : History P) (x : ℕ) (e : Event) (n : Transaction) → Good v h → h.live x ≡ true → step_to (h.seen.transaction x) e ≡ n →
    (y : ℕ) → find_in number_in (stepped number_in step_to v.transactions x e) y ≡ cond (h.live y) (Some (with h.seen.transaction x n y)) None
stepped_as {P} v h x e n g l q y = go (eqb x y) refl
  where
    go : (b : Bool) → eqb x y ≡ b → find_in number_in (stepped number_in step_to v.transactions x e) y ≡ cond (h.live y) (Some (cond b n (h.seen.transaction y))) None
    go true u = subst (λ k. find_in number_in (stepped number_in step_to v.transactions x e) k ≡ cond (h.live k) (Some n) None) (eqb-true x y u)
        (find_here number_in step_to e (same_number e) v.transactions x (h.seen.transaction x) (there v h x g l) ∙ (ap (λ k. Some k) q ∙ sym (cond-true (h.live x) (Some n) None l)))
    go false u = find_other number_in step_to e (same_number e) v.transactions x y (eqb-false x y u) ∙ g.transactions y

pub good_turn : {P : Type 0} (v : LineView P) (h : History P) (x : ℕ) (e : Event) (n : Transaction) (ps ms : List Message) → Good v h → h.live x ≡ true → step_to (h.seen.transaction x) e ≡ n →
    ((z : Site) → at n.joined z ≡ at (h.seen.transaction x).joined z) → ps ≡ ms → length ps ≤ 64 → Sound (turned h x n ms) → Good (with_post (coordinated v x e) ps) (turned h x n ms)
good_turn v h x e n ps ms g l q jn p li s = record {
  post = p;
  transactions = stepped_as v h x e n g l q;
  lone = apart_stepped number_in step_to e (same_number e) v.transactions x g.lone;
  few = subst (λ k. k ≤ 16) (sym (length_stepped number_in step_to e (same_number e) v.transactions x)) g.few;
  light = li;
  cells = g.cells;
  tabled = λ z y. with_both h.seen.transaction x n y (λ k. is_some (cohort_of (at v.cells z) y) ≡ (h.live y && at k.joined z))
      (λ u. subst (λ k. is_some (cohort_of (at v.cells z) k) ≡ (h.live k && at n.joined z)) u (g.tabled z x ∙ ap (λ b. h.live x && b) (sym (jn z)))) (λ _. g.tabled z y);
  sound = s;
  unborn = λ y k. ((g.unborn y k).0, let b = born v h x g l in cond-false (eqb x y) n (h.seen.transaction y) (ne_eqb x y (λ u. omega (arith, u, b, k))) ∙ (g.unborn y k).1);
}

-- an acknowledgement recorded
pub sound_ack : {P : Type 0} (h : History P) (x : ℕ) (s : Site) → Sound h → is_over (h.life s x) ≡ true → Sound (turned h x (with_ack (h.seen.transaction x) s) h.seen.post)
sound_ack {P} h x s v over = record {
  joined = λ y z. same y (λ y k. at k.joined z ≡ not (is_unknown (h.life z y))) (v.joined x z) (v.joined y z);
  cast = λ y z r. same y (λ y k. at k.votes z ≡ Some r → is_decided k.stage ≡ false → h.life z y ≡ Prepared r.earliest r.latest) (v.cast x z r) (v.cast y z r);
  held = λ y z t. same y (λ y k. k.stage ≡ Decided (Commit t) → is_unknown (h.life z y) ≡ false → Within (h.life z y) t) (v.held x z t) (v.held y z t);
  won = λ y z. same y (λ y k. is_installed (h.life z y) ≡ true → k.stage ≡ Decided (Commit (hi (h.life z y)))) (v.won x z) (v.won y z);
  acks = λ y z. same y (λ y k. at k.acks z ≡ true → is_over (h.life z y) ≡ true)
      (each_put (λ z b. b ≡ true → is_over (h.life z x) ≡ true) (h.seen.transaction x).acks s true (λ _. over) (λ z e. v.acks x z e) z) (v.acks y z);
  voted = λ y z t. same y (λ y k. k.stage ≡ Decided (Commit t) → at k.joined z ≡ true → Covers (at k.votes z) t) (v.voted x z t) (v.voted y z t);
  settled = v.settled;
  mails = all_map (Fits h) (Fits (turned h x (with_ack (h.seen.transaction x) s) h.seen.post)) h.seen.post
      (λ m f. with_both h.seen.transaction x (with_ack (h.seen.transaction x) s) m.tx (λ k. Means k.stage (h.life m.site m.tx) m.body)
      (λ q. subst (λ k. Means (h.seen.transaction k).stage (h.life m.site m.tx) m.body) (sym q) f) (λ _. f)) v.mails;
}
  where
    same : (y : ℕ) (Q : ℕ → Transaction → Type 0) → Q x (with_ack (h.seen.transaction x) s) → Q y (h.seen.transaction y) → Q y (with h.seen.transaction x (with_ack (h.seen.transaction x) s) y)
    same y Q a b = with_both h.seen.transaction x (with_ack (h.seen.transaction x) s) y (Q y) (λ q. subst (λ k. Q k (with_ack (h.seen.transaction x) s)) q a) (λ _. b)

-- the tables forget one that holds nothing
abbrev pub closed_as : {P : Type 0} → History P → ℕ → History P
closed_as h x = record { seen = h.seen; life = h.life; live = with h.live x false }

sound_live : {P : Type 0} (h : History P) (live : ℕ → Bool) → Sound h → Sound (record { seen = h.seen; life = h.life; live = live })
sound_live h live v = record { joined = v.joined; cast = v.cast; held = v.held; won = v.won; acks = v.acks; voted = v.voted; settled = v.settled; mails = v.mails }

pub good_shut : {P : Type 0} (v : LineView P) (h : History P) (x : ℕ) → Good v h → ((z : Site) → is_holding (h.life z x) ≡ false) → Good (shut v x) (closed_as h x)
good_shut {P} v h x g l = record {
  post = g.post;
  transactions = λ y. find_cut number_in v.transactions x y g.lone
      ∙ (let Q : Bool → Type 0 = λ b. cond b None (transaction_of v y) ≡ cond (cond b false (h.live y)) (Some (h.seen.transaction y)) None in elim (eqb x y) as Q [ true ↦ refl | false ↦ g.transactions y ]);
  lone = apart_cut number_in v.transactions x g.lone;
  few = (let a = length_cut number_in v.transactions x in let b = g.few in omega (arith, a, b));
  light = g.light;
  cells = λ z. elim z as (λ z. Kept (at (shut v x).cells z) (h.life z) (log_at h.seen z)) [ Cell0 ↦ kept Cell0 | Cell1 ↦ kept Cell1 | Cell2 ↦ kept Cell2 | Cell3 ↦ kept Cell3 ];
  tabled = λ z y. elim z as (λ z. is_some (cohort_of (at (shut v x).cells z) y) ≡ (with h.live x false y && at (h.seen.transaction y).joined z)) [ Cell0 ↦ table Cell0 y | Cell1 ↦ table Cell1 y | Cell2 ↦ table Cell2 y | Cell3 ↦ table Cell3 y ];
  sound = sound_live h (with h.live x false) g.sound;
  unborn = λ y k. (with_both h.live x false y (λ b. b ≡ false) (λ _. refl) (λ _. (g.unborn y k).0), (g.unborn y k).1);
}
  where
    kept : (z : Site) → Kept (close_done (at v.cells z) x) (h.life z) (log_at h.seen z)
    kept z = kept_close (at v.cells z) (h.life z) (log_at h.seen z) x (g.cells z) (l z)

    table : (z : Site) (y : ℕ) → is_some (cohort_of (close_done (at v.cells z) x) y) ≡ (with h.live x false y && at (h.seen.transaction y).joined z)
    table z y = ap is_some (find_cut tx_of (at v.cells z).cohorts x y (g.cells z).single)
        ∙ (let Q : Bool → Type 0 = λ b. is_some (cond b None (cohort_of (at v.cells z) y)) ≡ (cond b false (h.live y) && at (h.seen.transaction y).joined z) in elim (eqb x y) as Q [ true ↦ refl | false ↦ g.tabled z y ])

-- one opens
abbrev pub opened_as : {P : Type 0} → History P → ℕ → History P
opened_as h x = record { seen = h.seen; life = h.life; live = with h.live x true }

pub good_open : {P : Type 0} (v : LineView P) (h : History P) (x : ℕ) → Good v h → x ≡ v.opens + 1 → length v.transactions < 16 →
    Good (record { cells = v.cells; transactions = v.transactions ++ (opened x ∷ []); post = v.post; opens = x }) (opened_as h x)
good_open {P} v h x g e room =
    let u = g.unborn x (omega (arith, e)) in
    let none : transaction_of v x ≡ None = g.transactions x ∙ cond-false (h.live x) (Some (h.seen.transaction x)) None u.0 in
    record {
      post = g.post;
      transactions = λ y. find_end number_in v.transactions (opened x) y none
          ∙ (let Q : Bool → Type 0 = λ b. eqb x y ≡ b → cond b (Some (opened x)) (transaction_of v y) ≡ cond (cond b true (h.live y)) (Some (h.seen.transaction y)) None in
          let all : (b : Bool) → Q b = λ b. elim b as Q [ true ↦ (λ k. ap (λ d. Some d) (sym u.1 ∙ ap h.seen.transaction (eqb-true x y k))) | false ↦ (λ k. g.transactions y) ] in all (eqb x y) refl);
      lone = apart_end number_in v.transactions (opened x) g.lone none;
      few = (let k = length-append v.transactions (opened x ∷ []) in omega (arith, k, room));
      light = g.light;
      cells = g.cells;
      tabled = λ z y. g.tabled z y ∙ with_both h.live x true y (λ b. (h.live y && at (h.seen.transaction y).joined z) ≡ (b && at (h.seen.transaction y).joined z))
          (λ k. subst (λ n. (h.live n && at (h.seen.transaction n).joined z) ≡ at (h.seen.transaction n).joined z) k (ap (λ b. b && at (h.seen.transaction x).joined z) u.0 ∙ sym (ap (λ d. at d.joined z) u.1 ∙ unjoined z)))
          (λ _. refl);
      sound = sound_live h (with h.live x true) g.sound;
      unborn = λ y k. (with_both h.live x true y (λ b. b ≡ false) (λ q. absurd (omega (arith, q, k))) (λ _. (g.unborn y (omega (arith, e, k))).0), (g.unborn y (omega (arith, e, k))).1);
    }
  where
    unjoined : (z : Site) → at (opened x).joined z ≡ false
    unjoined z = elim z as (λ z. at (opened x).joined z ≡ false) [ Cell0 ↦ refl | Cell1 ↦ refl | Cell2 ↦ refl | Cell3 ↦ refl ]

-- What happens at one cell keeps what holds of the line.
use Rattle.std.proofs.Common.{◌≡◌, ℕ, ◌≤◌, Bool, true, false, cond, not, ◌&&◌, ◌||◌, eqb, ◌⊎◌, List, [], ◌∷◌, ◌++◌, length, is_some, Some, None, Option, sym, refl, ap, ◌∙◌, subst, inl, inr, arith}
use Rattle.std.proofs.lemmas.Bool.{eqb-true}
use Rattle.protocol.specs.declared.sites.Site.{Site}
use Rattle.protocol.specs.declared.messages.Vote.{Vote}
use Rattle.protocol.specs.declared.messages.Vote.TheVariants.{Yes, No}
use Rattle.protocol.specs.declared.messages.Decision.TheVariants.{Commit}
use Rattle.protocol.specs.declared.messages.Order.{Order}
use Rattle.protocol.specs.declared.messages.Order.TheVariants.{Prepare, Decide}
use Rattle.protocol.specs.declared.messages.Report.TheVariants.{Cast, Ack}
use Rattle.protocol.specs.declared.messages.Body.{Body}
use Rattle.protocol.specs.declared.messages.Body.TheVariants.{ToCell, ToCoordinator}
use Rattle.protocol.specs.declared.messages.Message.{Message}
use Rattle.protocol.specs.declared.answers.Stage.{Stage}
use Rattle.protocol.specs.declared.answers.Stage.TheVariants.{Decided}
use Rattle.protocol.specs.Sites.{at, put_at}
use Rattle.store.specs.Meaning.{with}
use Rattle.cohort.specs.declared.kinds.State.{State}
use Rattle.cohort.specs.declared.kinds.State.TheVariants.{Active, Voted, Out, Done}
use Rattle.cohort.specs.declared.kinds.Cohort.{Cohort}
use Rattle.cohort.specs.declared.kinds.Event.{Event}
use Rattle.cohort.specs.declared.kinds.Event.TheVariants.{Read, Write, Leave, Receive}
use Rattle.cohort.specs.declared.kinds.Ending.{Ending}
use Rattle.cohort.specs.declared.kinds.Ending.TheVariants.{Keep, Unstage, Install}
use Rattle.cohort.specs.declared.kinds.Reaction.{Reaction}
use Rattle.cohort.specs.Steps.{tx_of, received, step_to, step_reply}
use Rattle.table.specs.Contents.{find_in, reply_in, stepped}
use Rattle.model.specs.Cells.{CellView, with_cohorts, cohort_of, ended_by, ended_if, acted}
use Rattle.model.specs.Lines.{LineView, with_cell, with_post}
use Rattle.serial.specs.Observer.{same_site, Act, Use, see_settled}
use Rattle.serial.specs.Order.{acts_at}
use Rattle.serial.proofs.Lives.{Life, is_unknown, is_prepared, is_installed, is_over, hi, Kept, Within}
use Rattle.serial.proofs.Histories.{History, log_at, is_decided, Means, Fits, All, Sound, Good, Next}
use Rattle.serial.proofs.Sites.{site_is, site_self, site_all, put_at_lem, each_put, put_self, with_both, with_here, with_self, all_map}
use Rattle.serial.proofs.Steps.{some_stepped}
use Rattle.serial.proofs.Uses.{use_of, log_here, log_away}

-- nothing happened
pub stay : {P : Type 0} (v : LineView P) (h : History P) → Good v h → Next h.seen v
stay v h g = (h, refl, g)

pub same_line : {P : Type 0} (v : LineView P) (s : Site) → with_cell v s (at v.cells s) ≡ v
same_line v s = ap (λ e. record { cells = e; transactions = v.transactions; post = v.post; opens = v.opens }) (put_self v.cells s)

-- an event at a cell leaves its table as long, with the same numbers
received_number : (c : Cohort) (p : State) (o : Order) (b : Vote) → (received c p o b).tx ≡ c.tx
received_number c (Active s) Prepare (Yes g) = refl
received_number c (Active s) Prepare No = refl
received_number c (Voted g) Prepare b = refl
received_number c Out Prepare b = refl
received_number c Done Prepare b = refl
received_number c (Active s) (Decide d) b = refl
received_number c (Voted g) (Decide d) b = refl
received_number c Out (Decide d) b = refl
received_number c Done (Decide d) b = refl

cohort_number : (e : Event) (c : Cohort) → tx_of (step_to c e) ≡ tx_of c
cohort_number (Read i) c = refl
cohort_number (Write i) c = refl
cohort_number Leave c = refl
cohort_number (Receive o b) c = received_number c c.state o b

ended_cohorts : {P : Type 0} (v : CellView P) (e : Ending) → (ended_by v e).cohorts ≡ v.cohorts
ended_cohorts v Keep = refl
ended_cohorts v (Unstage w) = refl
ended_cohorts v (Install w t) = refl

ended_if_lem : {P : Type 0} (v : CellView P) (r : Option Reaction) → (ended_if v r).cohorts ≡ v.cohorts
ended_if_lem v None = refl
ended_if_lem v (Some r) = ended_cohorts v r.ending

pub same_tables : {P : Type 0} (v : CellView P) (x : ℕ) (e : Event) (y : ℕ) → is_some (cohort_of (acted v x e) y) ≡ is_some (cohort_of v y)
same_tables v x e y =
    ap (λ cs. is_some (find_in tx_of cs y)) (ended_if_lem (with_cohorts v (stepped tx_of step_to v.cohorts x e)) (reply_in step_reply (cohort_of v x) e))
    ∙ some_stepped tx_of step_to e (cohort_number e) v.cohorts x y

-- a cell may take a transaction from p to q, when its stage is t
pub record Fine (t : Stage) (p q : Life) : Type 0 where
  pub unvoted : is_prepared p ≡ true → is_decided t ≡ true
  pub keeps : (n : ℕ) → t ≡ Decided (Commit n) → Within q n
  pub finished : is_installed q ≡ true → t ≡ Decided (Commit (hi q))
  pub was : is_unknown p ≡ false
  pub known : is_unknown q ≡ false
  pub over : is_over p ≡ true → is_over q ≡ true

means_on : (t : Stage) (p q : Life) (b : Body) → (q ≡ p) ⊎ Fine t p q → Means t p b → Means t q b
means_on t p q b (inl e) g = subst (λ z. Means t z b) (sym e) g
means_on t p q (ToCell Prepare) (inr f) g = f.known
means_on t p q (ToCell (Decide k)) (inr f) g = (f.known, g.1)
means_on t p q (ToCoordinator (Cast (Yes r))) (inr f) g = (f.known, λ u. absurd (let h = g.1 u in let k = f.unvoted (ap is_prepared h) in grind (arith, u, k)))
means_on t p q (ToCoordinator (Cast No)) (inr f) g = f.known
means_on t p q (ToCoordinator Ack) (inr f) g = f.over g

-- new lives, uses and post; what was decided stands
abbrev pub moved : {P : Type 0} → History P → (Site → ℕ → Life) → List (Use P) → (ℕ → Site → Bool) → List Message → History P
moved h life us se ms = record { seen = record { post = ms; transaction = h.seen.transaction; uses = us; settled = se }; life = life; live = h.live }

module _ {P : Type 0} (h : History P) (v : Sound h) (life : Site → ℕ → Life) (us : List (Use P)) (se : ℕ → Site → Bool) (ms : List Message)
    (moves : (z : Site) (y : ℕ) → (life z y ≡ h.life z y) ⊎ Fine (h.seen.transaction y).stage (h.life z y) (life z y)) where
  -- the messages that waited mean what they meant
  pub carried : All (Fits (moved h life us se ms)) h.seen.post
  carried = all_map (Fits h) (Fits (moved h life us se ms)) h.seen.post
      (λ m g. means_on (h.seen.transaction m.tx).stage (h.life m.site m.tx) (life m.site m.tx) m.body (moves m.site m.tx) g) v.mails

  pub sound_moves : ((x : ℕ) (s : Site) → se x s ≡ is_over (life s x)) → All (Fits (moved h life us se ms)) ms → Sound (moved h life us se ms)
  sound_moves st new = record {
    joined = λ x s. v.joined x s ∙ ap not (elim (moves s x) [ inl e ↦ ap is_unknown (sym e) | inr f ↦ f.was ∙ sym f.known ]);
    cast = λ x s g e u. elim (moves s x) [ inl q ↦ q ∙ v.cast x s g e u | inr f ↦ absurd (let k = f.unvoted (ap is_prepared (v.cast x s g e u)) in grind (arith, u, k)) ];
    held = λ x s t e n. elim (moves s x) [ inl q ↦ subst (λ p. Within p t) (sym q) (v.held x s t e (ap is_unknown (sym q) ∙ n)) | inr f ↦ f.keeps t e ];
    won = λ x s e. elim (moves s x) [ inl q ↦ v.won x s (ap is_installed (sym q) ∙ e) ∙ ap (λ p. Decided (Commit (hi p))) (sym q) | inr f ↦ f.finished e ];
    acks = λ x s e. elim (moves s x) [ inl q ↦ ap is_over q ∙ v.acks x s e | inr f ↦ f.over (v.acks x s e) ];
    voted = v.voted;
    settled = st;
    mails = new;
  }

-- one life changed
abbrev pub lives_at : {P : Type 0} → History P → Site → ℕ → Life → Site → ℕ → Life
lives_at h s x q z = cond (same_site s z) (with (h.life s) x q) (h.life z)

pub here_life : {P : Type 0} (h : History P) (s : Site) (x : ℕ) (q : Life) → lives_at h s x q s x ≡ q
here_life h s x q = ap (λ b. cond b (with (h.life s) x q) (h.life s) x) (site_self s) ∙ with_here (h.life s) x q

pub one_move : {P : Type 0} (h : History P) (s : Site) (x : ℕ) (q : Life) → (h.life s x ≡ q) ⊎ Fine (h.seen.transaction x).stage (h.life s x) q →
    (z : Site) (y : ℕ) → (lives_at h s x q z y ≡ h.life z y) ⊎ Fine (h.seen.transaction y).stage (h.life z y) (lives_at h s x q z y)
one_move h s x q (inl e) z y = inl (site_all (λ z f. f y ≡ h.life z y) h.life s (with (h.life s) x q) (with_self (h.life s) x q y e) (λ z. refl) z)
one_move h s x q (inr f) z y = site_all (λ z u. (u y ≡ h.life z y) ⊎ Fine (h.seen.transaction y).stage (h.life z y) (u y)) h.life s (with (h.life s) x q)
    (with_both (h.life s) x q y (λ p. (p ≡ h.life s y) ⊎ Fine (h.seen.transaction y).stage (h.life s y) p) (λ e. inr (subst (λ n. Fine (h.seen.transaction n).stage (h.life s n) q) e f)) (λ n. inl refl))
    (λ z. inl refl) z

-- where nothing became settled, and where it did
pub over_same : {P : Type 0} (h : History P) (s : Site) (x : ℕ) (q : Life) → Sound h → is_over (h.life s x) ≡ is_over q → (y : ℕ) (z : Site) → h.seen.settled y z ≡ is_over (lives_at h s x q z y)
over_same h s x q v e y z = v.settled y z ∙ site_all (λ z f. is_over (h.life z y) ≡ is_over (f y)) h.life s (with (h.life s) x q)
    (with_both (h.life s) x q y (λ p. is_over (h.life s y) ≡ is_over p) (λ k. ap (λ n. is_over (h.life s n)) (sym k) ∙ e) (λ n. refl)) (λ z. refl) z

pub over_now : {P : Type 0} (h : History P) (s : Site) (x : ℕ) (q : Life) → Sound h → is_over q ≡ true → (y : ℕ) (z : Site) → (see_settled h.seen x s).settled y z ≡ is_over (lives_at h s x q z y)
over_now {P} h s x q v e y z = go (eqb x y) (same_site s z) refl refl
  where
    go : (b c : Bool) → eqb x y ≡ b → same_site s z ≡ c → cond b (λ w. same_site s w || h.seen.settled x w) (h.seen.settled y) z ≡ is_over (cond c (with (h.life s) x q) (h.life z) y)
    go true true u k = ap (λ b. b || h.seen.settled x z) k ∙ (sym e ∙ ap (λ b. is_over (cond b q (h.life s y))) (sym u))
    go true false u k = ap (λ b. b || h.seen.settled x z) k ∙ (v.settled x z ∙ ap (λ n. is_over (h.life z n)) (eqb-true x y u))
    go false true u k = v.settled y z ∙ (ap (λ a. is_over (h.life a y)) (sym (site_is s z k)) ∙ ap (λ b. is_over (cond b q (h.life s y))) (sym u))
    go false false u k = v.settled y z

-- one cell changed
pub good_cell : {P : Type 0} (v : LineView P) (h : History P) (s : Site) (cw : CellView P) (life : Site → ℕ → Life) (us : List (Use P)) (se : ℕ → Site → Bool) (ps ms : List Message) →
    Good v h → ps ≡ ms → length ps ≤ 64 → ((z : Site) → Kept (at (put_at v.cells s cw) z) (life z) (λ y. acts_at y z us)) →
    ((y : ℕ) → is_some (cohort_of cw y) ≡ is_some (cohort_of (at v.cells s) y)) → Sound (moved h life us se ms) →
    Good (with_post (with_cell v s cw) ps) (moved h life us se ms)
good_cell v h s cw life us se ps ms g p l k c d = record {
  post = p;
  transactions = g.transactions;
  lone = g.lone;
  few = g.few;
  light = l;
  cells = k;
  tabled = λ z x. each_put (λ z a. is_some (cohort_of a x) ≡ (h.live x && at (h.seen.transaction x).joined z)) v.cells s cw (c x ∙ g.tabled s x) (λ z. g.tabled z x) z;
  sound = d;
  unborn = g.unborn;
}

-- one cell changed, and nothing was sent
pub quiet_cell : {P : Type 0} (v : LineView P) (h : History P) (s : Site) (cw : CellView P) (life : Site → ℕ → Life) (us : List (Use P)) → Good v h →
    ((z : Site) → Kept (at (put_at v.cells s cw) z) (life z) (λ y. acts_at y z us)) → ((y : ℕ) → is_some (cohort_of cw y) ≡ is_some (cohort_of (at v.cells s) y)) →
    ((z : Site) (y : ℕ) → (life z y ≡ h.life z y) ⊎ Fine (h.seen.transaction y).stage (h.life z y) (life z y)) → ((x : ℕ) (z : Site) → h.seen.settled x z ≡ is_over (life z x)) →
    Good (with_cell v s cw) (moved h life us h.seen.settled h.seen.post)
quiet_cell v h s cw life us g k c moves st = good_cell v h s cw life us h.seen.settled v.post h.seen.post g g.post g.light k c
    (sound_moves h g.sound life us h.seen.settled h.seen.post moves st (carried h g.sound life us h.seen.settled h.seen.post moves))

-- its lives changed, and no log
pub kept_lives : {P : Type 0} (v : LineView P) (h : History P) (s : Site) (cw : CellView P) (x : ℕ) (q : Life) → Good v h → Kept cw (with (h.life s) x q) (log_at h.seen s) →
    (z : Site) → Kept (at (put_at v.cells s cw) z) (lives_at h s x q z) (log_at h.seen z)
kept_lives v h s cw x q g k z = subst (λ a. Kept a (lives_at h s x q z) (log_at h.seen z)) (sym (put_at_lem v.cells s cw z)) (go (same_site s z) refl)
  where
    go : (b : Bool) → same_site s z ≡ b → Kept (cond b cw (at v.cells z)) (cond b (with (h.life s) x q) (h.life z)) (log_at h.seen z)
    go true e = subst (λ a. Kept cw (with (h.life s) x q) (log_at h.seen a)) (site_is s z e) k
    go false e = g.cells z

-- a log changed, and no life
pub kept_uses : {P : Type 0} (v : LineView P) (h : History P) (s : Site) (cw : CellView P) (x : ℕ) (a : Act P) → Good v h → Kept cw (h.life s) (with (log_at h.seen s) x (log_at h.seen s x ++ (a ∷ []))) →
    (z : Site) → Kept (at (put_at v.cells s cw) z) (h.life z) (λ y. acts_at y z (h.seen.uses ++ (use_of x s a ∷ [])))
kept_uses {P} v h s cw x a g k z = subst (λ c. Kept c (h.life z) (λ y. acts_at y z us)) (sym (put_at_lem v.cells s cw z)) (go (same_site s z) refl)
  where
    us : List (Use P)
    us = h.seen.uses ++ (use_of x s a ∷ [])

    go : (b : Bool) → same_site s z ≡ b → Kept (cond b cw (at v.cells z)) (h.life z) (λ y. acts_at y z us)
    go true e = subst (λ w. Kept cw (h.life w) (λ y. acts_at y w us)) (site_is s z e) (subst (λ l. Kept cw (h.life s) l) (sym (log_here h.seen.uses x s a)) k)
    go false e = subst (λ l. Kept (at v.cells z) (h.life z) l) (sym (log_away h.seen.uses x s a z e)) (g.cells z)

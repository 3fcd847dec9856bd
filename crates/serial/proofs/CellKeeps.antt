-- Each thing that happens to a cell keeps what holds of it.
use Rattle.std.proofs.Common.{◌≡◌, ℕ, ◌<◌, ◌≤◌, Bool, true, false, cond, List, [], ◌∷◌, ◌++◌, length, is_some, Some, None, Ok, sym, refl, ap, ◌∙◌, subst, arith}
use mathlib.Core.Path.{fun_ext}
use Rattle.std.proofs.lemmas.Bool.{both_ways, lt-ltb}
use Rattle.protocol.specs.declared.messages.Range.{Range}
use Rattle.protocol.specs.declared.messages.Vote.TheVariants.{Yes, No}
use Rattle.protocol.specs.declared.messages.Decision.{Decision}
use Rattle.protocol.specs.declared.messages.Decision.TheVariants.{Commit, Abort}
use Rattle.protocol.specs.declared.messages.Order.TheVariants.{Prepare, Decide}
use Rattle.protocol.specs.Limits.{live_limit}
use Rattle.table.specs.Contents.{pushed, reply_in, stepped}
use Rattle.store.specs.Meaning.{with}
use Rattle.cohort.specs.declared.kinds.State.{State}
use Rattle.cohort.specs.declared.kinds.State.TheVariants.{Active, Voted, Out, Done}
use Rattle.cohort.specs.declared.kinds.Cohort.{Cohort}
use Rattle.cohort.specs.declared.kinds.Event.{Event}
use Rattle.cohort.specs.declared.kinds.Event.TheVariants.{Read, Write, Leave, Receive}
use Rattle.cohort.specs.declared.kinds.Ending.{Ending}
use Rattle.cohort.specs.declared.kinds.Ending.TheVariants.{Keep, Unstage, Install}
use Rattle.cohort.specs.Steps.{tx_of, joiner, turned, ended, voted, vote_reaction, received, reaction, step_to, step_reply}
use Rattle.cohort.specs.Holds.{is_active}
use Rattle.model.specs.Cells.{CellView, with_cohorts, cohort_of, at_clock, ended_by, ended_if, acted, join_done, may_use, newest_at, value_for, has_row, staging, ballot_in, ballot_by, ballot_for, receive_done, close_done}
use Rattle.serial.specs.Observer.{Act, Got, Put}
use Rattle.serial.specs.Order.{wrote_in, got_in}
use Rattle.serial.proofs.Lives.{Life, Unknown, Working, Prepared, Installed, Left, Dropped, is_unknown, is_working, is_prepared, is_holding, is_over, has_interval, lo, hi, Image, Kin, Like, Inv, Written, Ties, Apart, image, Kept, Within}
use Rattle.serial.proofs.Records.{apart_stepped, stepped_same, apart_end, apart_cut}
use Rattle.serial.proofs.Changes.{with_life, with_read, with_write, with_end, with_install}
use Rattle.serial.proofs.ActsKeep.{inv_join, inv_read, inv_write, inv_vote, inv_install, inv_end, inv_drop, written_life, written_end, written_write, written_install, holds_working}
use Rattle.serial.proofs.Logs.{with_both}
use Rattle.serial.proofs.TiesKeep.{tie_join, tie_read, tie_write, tie_vote, tie_end, tie_drop, tie_install}
use Rattle.serial.proofs.Cohorts.{keeps_tx, kin_active, kin_over, kin_left, decided_step, at_found, may_use_lem}
use Rattle.serial.proofs.Likes.{after, holds_of, may_read, like_read, may_write, like_write, like_join, like_close, may_vote, like_vote, bare, like_end, like_drop, like_install}

-- one that is new or works has no interval yet
unknown_bare : (p : Life) → is_unknown p ≡ true → has_interval p ≡ false
unknown_bare p e = grind arith

working_bare : (p : Life) → is_working p ≡ true → has_interval p ≡ false
working_bare p e = grind arith

-- an image that the tables are like, with the logs, is their image
is_image : {P : Type 0} (v : CellView P) (life : ℕ → Life) (log : ℕ → List (Act P)) (s : Image P) → Like v s → Ties s log → s.life ≡ life → s ≡ image v life log
is_image v life log s k g h = λ i. record {
  life = h i;
  reads = λ x j. sym (g.reads x j) i;
  writes = λ x j. sym (g.writes x j) i;
  staged = λ j. sym (k.staged j) i;
  versions = λ j. sym (k.versions j) i;
  last = sym k.last i;
}

-- so what holds of it holds of the cell
moved : {P : Type 0} (v : CellView P) (life : ℕ → Life) (log : ℕ → List (Act P)) (s : Image P) → v.width ≤ 64 → Apart tx_of v.cohorts →
    Like v s → Inv v.width s → Written s → Ties s log → s.life ≡ life → Kept v life log
moved v life log s n a k i w g h =
    let e = is_image v life log s k g h in
    record { narrow = n; single = a; like = subst (Like v) e k; inv = subst (Inv v.width) e i; written = subst Written e w; ties = subst (λ t. Ties t log) e g }

-- an event of a cohort that is there
acted_is : {P : Type 0} (v : CellView P) (x : ℕ) (e : Event) (c : Cohort) (n : Ending) → cohort_of v x ≡ Some c → (step_reply c e).ending ≡ n → acted v x e ≡ ended_by (after v x e) n
acted_is v x e c n f h = ap (λ o. ended_if (after v x e) (reply_in step_reply o e)) f ∙ ap (ended_by (after v x e)) h

-- one that changes nothing
acted_same : {P : Type 0} (v : CellView P) (x : ℕ) (e : Event) (c : Cohort) → cohort_of v x ≡ Some c → step_to c e ≡ c → (step_reply c e).ending ≡ Keep → acted v x e ≡ v
acted_same v x e c f t h = acted_is v x e c Keep f h ∙ ap (with_cohorts v) (stepped_same tx_of step_to v.cohorts x e c f t)

-- an event of x after which the tables are like s
moved_by : {P : Type 0} (v : CellView P) (life : ℕ → Life) (log : ℕ → List (Act P)) (s : Image P) (x : ℕ) (e : Event) (c : Cohort) (n : Ending) → v.width ≤ 64 → Apart tx_of v.cohorts →
    cohort_of v x ≡ Some c → (step_reply c e).ending ≡ n → Like (ended_by (after v x e) n) s → Inv v.width s → Written s → Ties s log → s.life ≡ life → Kept (acted v x e) life log
moved_by {P} v life log s x e c n narrow single f r k i w g h = subst (λ z. Kept z life log) (sym (acted_is v x e c n f r)) (go n k)
  where
    apart : Apart tx_of (stepped tx_of step_to v.cohorts x e)
    apart = apart_stepped tx_of step_to e (keeps_tx e) v.cohorts x single

    go : (n : Ending) → Like (ended_by (after v x e) n) s → Kept (ended_by (after v x e) n) life log
    go Keep k = moved (ended_by (after v x e) Keep) life log s narrow apart k i w g h
    go (Unstage m) k = moved (ended_by (after v x e) (Unstage m)) life log s narrow apart k i w g h
    go (Install m t) k = moved (ended_by (after v x e) (Install m t)) life log s narrow apart k i w g h

pub kept_clock : {P : Type 0} (v : CellView P) (life : ℕ → Life) (log : ℕ → List (Act P)) (t : ℕ) → Kept v life log → Kept (at_clock v t) life log
kept_clock v life log t k = record {
  narrow = k.narrow;
  single = k.single;
  like = record { each = k.like.each; staged = k.like.staged; versions = k.like.versions; last = k.like.last };
  inv = k.inv;
  written = k.written;
  ties = k.ties;
}

-- one that joins where there is room
join_is : {P : Type 0} (v : CellView P) (x : ℕ) → cohort_of v x ≡ None → length v.cohorts < 16 → join_done v x ≡ with_cohorts v (v.cohorts ++ (joiner x v.clock ∷ []))
join_is v x e h =
    ap (λ o. cond (is_some o) v (with_cohorts v (pushed live_limit v.cohorts (joiner x v.clock)))) e
    ∙ ap (λ b. with_cohorts v (cond b (v.cohorts ++ (joiner x v.clock ∷ [])) v.cohorts)) (lt-ltb (length v.cohorts) 16 h)

pub kept_join : {P : Type 0} (v : CellView P) (life : ℕ → Life) (log : ℕ → List (Act P)) (x : ℕ) → Kept v life log →
    cohort_of v x ≡ None → is_unknown (life x) ≡ true → length v.cohorts < 16 → Kept (join_done v x) (with life x (Working v.clock)) log
kept_join {P} v life log x k e f h =
    let s = image v life log in
    let p = Working v.clock in
    let w : CellView P = with_cohorts v (v.cohorts ++ (joiner x v.clock ∷ [])) in
    let like = like_join v s x k.like e (λ i. k.inv.new_r x i f) (λ i. k.inv.new_w x i f) in
    let inv = inv_join v.width s x v.clock k.inv f in
    let written = written_life s x p k.written (unknown_bare (life x) f) in
    let ties = tie_join v.width s log x v.clock k.inv k.ties f in
    let apart = apart_end tx_of v.cohorts (joiner x v.clock) e k.single in
    subst (λ z. Kept z (with life x p) log) (sym (join_is v x e h)) (moved w (with life x p) log (with_life s x p) k.narrow apart like inv written ties refl)

pub kept_read : {P : Type 0} (v : CellView P) (life : ℕ → Life) (log : ℕ → List (Act P)) (x i : ℕ) (c : Cohort) → Kept v life log →
    may_use v x i false ≡ Ok c → Kept (acted v x (Read i)) life (with log x (log x ++ (Got i (value_for v c i) ∷ [])))
kept_read v life log x i c k e =
    let s = image v life log in
    let u = may_use_lem v x i false (cohort_of v x) c e in
    let m = may_read v s x i false c k.like u in
    let own = holds_of v s x c k.like u.is (holds_working (life x) m.working) i in
    let like = like_read v s x i c k.like k.narrow u in
    let inv = inv_read v.width s x i k.inv m in
    let ties = tie_read s log x i (value_for v c i) k.ties m (ap (λ b. cond b (v.stagings i) (newest_at v i)) own) in
    moved_by v life (with log x (log x ++ (Got i (value_for v c i) ∷ []))) (with_read s x i) x (Read i) c Keep k.narrow k.single u.is refl like inv k.written ties refl

pub kept_write : {P : Type 0} (v : CellView P) (life : ℕ → Life) (log : ℕ → List (Act P)) (x i : ℕ) (p : P) (c : Cohort) → Kept v life log →
    may_use v x i true ≡ Ok c → has_row v i ≡ true → Kept (acted (staging v i p) x (Write i)) life (with log x (log x ++ (Put i p ∷ [])))
kept_write v life log x i p c k e h =
    let s = image v life log in
    let u = may_use_lem v x i true (cohort_of v x) c e in
    let m = may_write v s x i c k.like u in
    let like = like_write v s x i c k.like k.narrow p u in
    let inv = inv_write v.width s x i p k.inv m u.inside in
    let written = written_write s x i p k.written in
    let ties = tie_write s log x i p k.ties m in
    moved_by (staging v i p) life (with log x (log x ++ (Put i p ∷ []))) (with_write s x i p) x (Write i) c Keep k.narrow k.single u.is refl like inv written ties refl

-- the end of one that has holds, without an install
kept_end : {P : Type 0} (v : CellView P) (life : ℕ → Life) (log : ℕ → List (Act P)) (x : ℕ) (e : Event) (c : Cohort) (st : State) (p : Life) → Kept v life log → cohort_of v x ≡ Some c →
    is_holding (life x) ≡ true → step_to c e ≡ ended c st → (step_reply c e).ending ≡ Unstage c.writes → Kin (ended c st) st p (got_in (log x)) (wrote_in (log x)) →
    is_holding p ≡ false → has_interval p ≡ false → is_unknown p ≡ false → Kept (acted v x e) (with life x p) log
kept_end v life log x e c st p k f h t r kin a b d =
    let s = image v life log in
    let like = like_end v s x e c st p k.like f t kin k.inv h in
    let inv = inv_end v.width s x p k.inv h a b d in
    let written = written_end s x p k.written h in
    let ties = tie_end v.width s log x p k.inv k.ties h a b in
    moved_by v (with life x p) log (with_end s x p) x e c (Unstage c.writes) k.narrow k.single f r like inv written ties refl

-- what the state of a cohort says of its transaction
kin_at : {P : Type 0} (v : CellView P) (life : ℕ → Life) (log : ℕ → List (Act P)) (x : ℕ) (c : Cohort) → Kept v life log →
    cohort_of v x ≡ Some c → Kin c c.state (life x) (got_in (log x)) (wrote_in (log x))
kin_at v life log x c k e = at_found (cohort_of v x) c (life x) (got_in (log x)) (wrote_in (log x)) e (k.like.each x)

works : {P : Type 0} (v : CellView P) (life : ℕ → Life) (log : ℕ → List (Act P)) (x : ℕ) (c : Cohort) → Kept v life log →
    cohort_of v x ≡ Some c → is_active c.state ≡ true → is_holding (life x) ≡ true
works v life log x c k e a = holds_working (life x) (kin_active c (life x) (got_in (log x)) (wrote_in (log x)) c.state a (kin_at v life log x c k e))

-- an Active one leaves
pub kept_leave : {P : Type 0} (v : CellView P) (life : ℕ → Life) (log : ℕ → List (Act P)) (x : ℕ) (c : Cohort) → Kept v life log →
    cohort_of v x ≡ Some c → is_active c.state ≡ true → Kept (acted v x Leave) (with life x Left) log
kept_leave v life log x c k e a = kept_end v life log x Leave c Out Left k e (works v life log x c k e a) refl refl (refl, bare c Out) refl refl refl

-- PREPARE to an Active one
pub kept_yes : {P : Type 0} (v : CellView P) (life : ℕ → Life) (log : ℕ → List (Act P)) (x start : ℕ) (c : Cohort) (g : Range) → Kept v life log →
    cohort_of v x ≡ Some c → c.state ≡ Active start → ballot_for v x ≡ Yes g → Kept (receive_done v x Prepare) (with life x (Prepared g.earliest g.latest)) log
kept_yes v life log x start c g k e a b =
    let s = image v life log in
    let ev = Receive Prepare (ballot_for v x) in
    let p = Prepared g.earliest g.latest in
    let t : step_to c ev ≡ turned c (Voted g) = ap (λ st. received c st Prepare (ballot_for v x)) a ∙ ap (voted c) b in
    let r : (step_reply c ev).ending ≡ Keep = ap (λ st. (reaction c st Prepare (ballot_for v x)).ending) a ∙ ap (λ w. (vote_reaction c w).ending) b in
    let m = may_vote v s x c start g k.like e a (sym (ap (ballot_by v) e ∙ ap (ballot_in v c) a) ∙ b) in
    let like = like_vote v s x c start g k.like e a ev t in
    let inv = inv_vote v.width s x g k.inv m in
    let written = written_life s x p k.written (working_bare (life x) m.working) in
    let ties = tie_vote v.width s log x g k.inv k.ties m in
    moved_by v (with life x p) log (with_life s x p) x ev c Keep k.narrow k.single e r like inv written ties refl

pub kept_no : {P : Type 0} (v : CellView P) (life : ℕ → Life) (log : ℕ → List (Act P)) (x start : ℕ) (c : Cohort) → Kept v life log →
    cohort_of v x ≡ Some c → c.state ≡ Active start → ballot_for v x ≡ No → Kept (receive_done v x Prepare) (with life x Left) log
kept_no v life log x start c k e a b =
    kept_end v life log x (Receive Prepare (ballot_for v x)) c Out Left k e (works v life log x c k e (ap is_active a))
    (ap (λ st. received c st Prepare (ballot_for v x)) a ∙ ap (voted c) b)
    (ap (λ st. (reaction c st Prepare (ballot_for v x)).ending) a ∙ ap (λ w. (vote_reaction c w).ending) b) (refl, bare c Out) refl refl refl

-- PREPARE to any other one changes nothing
pub same_prepare : {P : Type 0} (v : CellView P) (x : ℕ) (c : Cohort) → cohort_of v x ≡ Some c → is_active c.state ≡ false → receive_done v x Prepare ≡ v
same_prepare v x c e a = let q = go c.state a in acted_same v x (Receive Prepare (ballot_for v x)) c e q.0 q.1
  where
    go : (st : State) → is_active st ≡ false → (received c st Prepare (ballot_for v x) ≡ c) × ((reaction c st Prepare (ballot_for v x)).ending ≡ Keep)
    go (Active n) h = absurd (grind (arith, h))
    go (Voted g) h = (refl, refl)
    go Out h = (refl, refl)
    go Done h = (refl, refl)

-- a decision to one that is Done changes nothing
pub same_decision : {P : Type 0} (v : CellView P) (x : ℕ) (d : Decision) (c : Cohort) → cohort_of v x ≡ Some c → c.state ≡ Done → receive_done v x (Decide d) ≡ v
same_decision v x d c e a =
    acted_same v x (Receive (Decide d) (ballot_for v x)) c e (ap (λ st. received c st (Decide d) (ballot_for v x)) a) (ap (λ st. (reaction c st (Decide d) (ballot_for v x)).ending) a)

-- x stays what it is
with_self : {X : Type 0} (f : ℕ → X) (x : ℕ) (p : X) → f x ≡ p → with f x p ≡ f
with_self f x p e = fun_ext (λ y. with_both f x p y (λ q. q ≡ f y) (λ h. sym (ap f h ∙ e)) (λ ne. refl))

-- a commit of one that is prepared
install : {P : Type 0} (v : CellView P) (life : ℕ → Life) (log : ℕ → List (Act P)) (x t : ℕ) (c : Cohort) → Kept v life log →
    cohort_of v x ≡ Some c → is_prepared (life x) ≡ true → lo (life x) ≤ t → t ≤ hi (life x) → Kept (receive_done v x (Decide (Commit t))) (with life x (Installed t)) log
install v life log x t c k e a b h =
    let s = image v life log in
    let ev = Receive (Decide (Commit t)) (ballot_for v x) in
    let q = decided_step c (life x) (got_in (log x)) (wrote_in (log x)) c.state (Commit t) (ballot_for v x) (kin_at v life log x c k e) (grind (arith, a)) in
    let like = like_install v s x ev c t k.inv k.written k.like e q.0 a b in
    let inv = inv_install v.width s x t k.inv a b h in
    let written = written_install v.width s x t k.inv k.written a in
    let ties = tie_install v.width s log x t k.inv k.ties a b h in
    moved_by v (with life x (Installed t)) log (with_install s x t) x ev c (Install c.writes t) k.narrow k.single e q.1 like inv written ties refl

-- a commit at a tick of the interval
pub kept_commit : {P : Type 0} (v : CellView P) (life : ℕ → Life) (log : ℕ → List (Act P)) (x t : ℕ) (c : Cohort) → Kept v life log →
    cohort_of v x ≡ Some c → Within (life x) t → Kept (receive_done v x (Decide (Commit t))) (with life x (Installed t)) log
kept_commit {P} v life log x t c k e w = go (life x) refl
  where
    out : (p : Life) → life x ≡ p → has_interval p ≡ false → ⊥
    out p q h = let a = ap has_interval q ∙ h in both_ways (has_interval (life x)) a w.set

    go : (p : Life) → life x ≡ p → Kept (receive_done v x (Decide (Commit t))) (with life x (Installed t)) log
    go Unknown q = absurd (out Unknown q refl)
    go (Working n) q = absurd (out (Working n) q refl)
    go (Prepared a b) q = install v life log x t c k e (ap is_prepared q) w.above w.below
    go (Installed n) q =
        let same : n ≡ t = (let a = w.above in let b = w.below in let l = ap lo q in let u = ap hi q in omega (arith, a, b, l, u)) in
        let done = kin_over c (life x) (got_in (log x)) (wrote_in (log x)) c.state (kin_at v life log x c k e) (ap is_over q) in
        subst (λ z. Kept z (with life x (Installed t)) log) (sym (same_decision v x (Commit t) c e done))
        (subst (λ f. Kept v f log) (sym (with_self life x (Installed t) (q ∙ ap (λ m. Installed m) same))) k)
    go Left q = absurd (out Left q refl)
    go Dropped q = absurd (out Dropped q refl)

-- an abort of one that is not over
pub kept_abort : {P : Type 0} (v : CellView P) (life : ℕ → Life) (log : ℕ → List (Act P)) (x : ℕ) (c : Cohort) → Kept v life log →
    cohort_of v x ≡ Some c → is_over (life x) ≡ false → Kept (receive_done v x (Decide Abort)) (with life x Dropped) log
kept_abort {P} v life log x c k e h = go (is_holding (life x)) refl
  where
    ev : Event
    ev = Receive (Decide Abort) (ballot_for v x)

    step : (step_to c ev ≡ ended c Done) × ((step_reply c ev).ending ≡ Unstage c.writes)
    step = decided_step c (life x) (got_in (log x)) (wrote_in (log x)) c.state Abort (ballot_for v x) (kin_at v life log x c k e) h

    go : (b : Bool) → is_holding (life x) ≡ b → Kept (receive_done v x (Decide Abort)) (with life x Dropped) log
    go true b = kept_end v life log x ev c Done Dropped k e b step.0 step.1 (refl, bare c Done) refl refl refl
    go false b =
        let s = image v life log in
        let l = kin_left c (life x) (got_in (log x)) (wrote_in (log x)) c.state (kin_at v life log x c k e) b h in
        let like = like_drop v s x ev c Done Dropped k.like e step.0 (refl, bare c Done) l.1 in
        let inv = inv_drop v.width s x k.inv l.0 in
        let written = written_life s x Dropped k.written (ap has_interval l.0) in
        let ties = tie_drop s log x k.ties l.0 in
        moved_by v (with life x Dropped) log (with_life s x Dropped) x ev c (Unstage c.writes) k.narrow k.single e step.1 like inv written ties refl

pub kept_close : {P : Type 0} (v : CellView P) (life : ℕ → Life) (log : ℕ → List (Act P)) (x : ℕ) → Kept v life log →
    is_holding (life x) ≡ false → Kept (close_done v x) life log
kept_close v life log x k h = record {
  narrow = k.narrow;
  single = apart_cut tx_of v.cohorts x k.single;
  like = like_close v (image v life log) x k.like k.single h;
  inv = k.inv;
  written = k.written;
  ties = k.ties;
}

-- A transaction that is not decided turns: it is polled, has a vote recorded, or is decided.
use Rattle.std.proofs.Common.{◌≡◌, ℕ, ◌≤◌, Bool, true, false, not, ◌&&◌, List, ◌++◌, is_some, Some, Option, sym, refl, ap, ◌∙◌, subst, arith}
use Rattle.std.proofs.lemmas.Bool.{eqb-true}
use Rattle.std.proofs.lemmas.Bool.Decides.{nat_tests}
use Rattle.protocol.specs.declared.sites.Site.{Site}
use Rattle.protocol.specs.declared.sites.Site.TheVariants.{Cell0, Cell1, Cell2, Cell3}
use Rattle.protocol.specs.declared.sites.PerSite.{PerSite}
use Rattle.protocol.specs.declared.messages.Range.{Range}
use Rattle.protocol.specs.declared.messages.Decision.TheVariants.{Commit, Abort}
use Rattle.protocol.specs.declared.messages.Order.{Order}
use Rattle.protocol.specs.declared.messages.Order.TheVariants.{Prepare, Decide}
use Rattle.protocol.specs.declared.messages.Body.TheVariants.{ToCell}
use Rattle.protocol.specs.declared.messages.Message.{Message}
use Rattle.protocol.specs.declared.answers.Stage.{Stage}
use Rattle.protocol.specs.declared.answers.Stage.TheVariants.{Polling, Decided}
use Rattle.protocol.specs.Formulas.{tallied, Tallies}
use Rattle.protocol.specs.Sites.{at, how_many, one, lacking}
use Rattle.protocol.proofs.TallyMeans.{tally_means}
use Rattle.coordinator.specs.declared.kinds.Transaction.{Transaction}
use Rattle.coordinator.specs.Steps.{at_stage, cast_by, is_empty, all_voted}
use Rattle.model.specs.Lines.{orders_to}
use Rattle.serial.specs.Laws.{Covers}
use Rattle.serial.proofs.Lives.{Life, Prepared, is_unknown, is_holding, has_interval, lo, hi, Within}
use Rattle.serial.proofs.Histories.{History, is_decided, Means, Fits, Sound}
use Rattle.serial.proofs.Sites.{with_here, all_app}
use Rattle.serial.proofs.Steps.{some_is}
use Rattle.serial.proofs.Turns.{all_orders, turned, sound_turn, turn_mails}

-- no cell is marked
one_none : (b : Bool) → one b ≤ 0 → b ≡ false
one_none true h = absurd (omega arith)
one_none false h = refl

pub empty_at : (e : PerSite Bool) → is_empty e ≡ true → (z : Site) → at e z ≡ false
empty_at e h z =
    let k : how_many e ≡ 0 = eqb-true (how_many e) 0 h in
    elim z as (λ z. at e z ≡ false) [ Cell0 ↦ one_none e.cell0 (omega (arith, k)) | Cell1 ↦ one_none e.cell1 (omega (arith, k)) | Cell2 ↦ one_none e.cell2 (omega (arith, k)) | Cell3 ↦ one_none e.cell3 (omega (arith, k)) ]

pub lacking_at : (e f : PerSite Bool) (z : Site) → at (lacking e f) z ≡ (at e z && not (at f z))
lacking_at e f z = elim z as (λ z. at (lacking e f) z ≡ (at e z && not (at f z))) [ Cell0 ↦ refl | Cell1 ↦ refl | Cell2 ↦ refl | Cell3 ↦ refl ]

-- nothing is lacking: what the first marks, the second does
pub none_lacks : (e f : PerSite Bool) → is_empty (lacking e f) ≡ true → (z : Site) → at e z ≡ true → at f z ≡ true
none_lacks e f h z j = let k = sym (lacking_at e f z) ∙ empty_at (lacking e f) h z in grind (arith, nat_tests)

cast_at : (v : PerSite (Option Range)) (z : Site) → at (cast_by v) z ≡ is_some (at v z)
cast_at v z = elim z as (λ z. at (cast_by v) z ≡ is_some (at v z)) [ Cell0 ↦ refl | Cell1 ↦ refl | Cell2 ↦ refl | Cell3 ↦ refl ]

all_voted_lem : (d : Transaction) → all_voted d ≡ true → (z : Site) → at d.joined z ≡ true → (g : Range) × (at d.votes z ≡ Some g)
all_voted_lem d a z j = some_is (at d.votes z) (sym (cast_at d.votes z) ∙ none_lacks d.joined (cast_by d.votes) a z j)

-- with all votes in, the time that is tallied lies in each of them
tally_covers : (d : Transaction) (t : ℕ) → all_voted d ≡ true → tallied d.votes ≡ Commit t → (z : Site) → at d.joined z ≡ true → Covers (at d.votes z) t
tally_covers d t a e z j =
    let k : Tallies d.votes (Commit t) = subst (λ r. Tallies d.votes r) e (tally_means d.votes) in
    let q = all_voted_lem d a z j in
    (q.0, q.1, k.0.above z q.0 q.1, k.0.below z q.0 q.1)

pub joined_known : {P : Type 0} (h : History P) → Sound h → (x : ℕ) (z : Site) → at (h.seen.transaction x).joined z ≡ true → is_unknown (h.life z x) ≡ false
joined_known h v x z e = let k = v.joined x z in grind (arith, k, e)

pub unknown_free : (p : Life) → is_unknown p ≡ true → is_holding p ≡ false
unknown_free p e = grind arith

polls_not : (t : ℕ) → Polling ≡ Decided (Commit t) → ⊥
polls_not t e = let z : ◌≡◌ {A = ℕ} 0 1 = cc in omega arith

aborts_not : (t : ℕ) → Decided Abort ≡ Decided (Commit t) → ⊥
aborts_not t e = let z : ◌≡◌ {A = ℕ} 0 1 = cc in omega arith

-- d: the transaction as it was seen, or with one more vote of a cell that is prepared
module _ {P : Type 0} (h : History P) (v : Sound h) (x : ℕ) (yet : is_decided (h.seen.transaction x).stage ≡ false) (d : Transaction)
    (jn : (z : Site) → at d.joined z ≡ at (h.seen.transaction x).joined z) (ak : (z : Site) → at d.acks z ≡ at (h.seen.transaction x).acks z)
    (cast : (z : Site) (r : Range) → at d.votes z ≡ Some r → h.life z x ≡ Prepared r.earliest r.latest) where
  here_stage : (n : Transaction) (ms : List Message) → ((turned h x n ms).seen.transaction x).stage ≡ n.stage
  here_stage n ms = ap (λ k. k.stage) (with_here h.seen.transaction x n)

  abbrev sent : Order → List Message
  sent o = h.seen.post ++ orders_to d.joined x o

  -- to a stage, with an order to each joined cell that tells it
  turn_to : (t : Stage) (o : Order) → ((z : Site) → is_unknown (h.life z x) ≡ false → Means t (h.life z x) (ToCell o)) →
      ((z : Site) (n : ℕ) → t ≡ Decided (Commit n) → at d.joined z ≡ true → Covers (at d.votes z) n) → Sound (turned h x (at_stage d t) (sent o))
  turn_to t o tells_it cover =
      let n : Transaction = at_stage d t in
      let win : (z : Site) (u : ℕ) → t ≡ Decided (Commit u) → is_unknown (h.life z x) ≡ false → Within (h.life z x) u = λ z u e f.
      let q = cover z u e (jn z ∙ (v.joined x z ∙ ap not f)) in let k = cast z q.0 q.1 in
      record { set = ap has_interval k; above = (let y = ap lo k in let w = q.2 in omega (arith, y, w)); below = (let y = ap hi k in let w = q.3 in omega (arith, y, w)) } in
      sound_turn h v x n (sent o) yet jn ak (λ z r e u. cast z r e) win cover
      (all_app (Fits (turned h x n (sent o))) h.seen.post (orders_to d.joined x o) (turn_mails h v x n (sent o) yet jn ak (λ z r e u. cast z r e) win cover)
      (all_orders (Fits (turned h x n (sent o))) d.joined x o
      (λ z e. subst (λ w. Means w (h.life z x) (ToCell o)) (sym (here_stage n (sent o))) (tells_it z (joined_known h v x z (sym (jn z) ∙ e))))))

  pub sound_poll : Sound (turned h x (at_stage d Polling) (sent Prepare))
  sound_poll = turn_to Polling Prepare (λ z e. e) (λ z n e. absurd (polls_not n e))

  pub sound_abort : Sound (turned h x (at_stage d (Decided Abort)) (sent (Decide Abort)))
  sound_abort = turn_to (Decided Abort) (Decide Abort) (λ z e. (e, refl)) (λ z n e. absurd (aborts_not n e))

  pub sound_commit : (t : ℕ) → all_voted d ≡ true → tallied d.votes ≡ Commit t → Sound (turned h x (at_stage d (Decided (Commit t))) (sent (Decide (Commit t))))
  sound_commit t a e = turn_to (Decided (Commit t)) (Decide (Commit t)) (λ z k. (k, refl)) (λ z n u j. let c : t ≡ n = cc in subst (Covers (at d.votes z)) c (tally_covers d t a e z j))

  -- no new stage, and nothing sent
  pub sound_record : d.stage ≡ (h.seen.transaction x).stage → Sound (turned h x d h.seen.post)
  sound_record st =
      let never : (n : ℕ) → d.stage ≡ Decided (Commit n) → ⊥ = λ n e. (let k = ap is_decided (sym e) ∙ (ap is_decided st ∙ yet) in grind (arith, k)) in
      sound_turn h v x d h.seen.post yet jn ak (λ z r e u. cast z r e) (λ z n e f. absurd (never n e)) (λ z n e f. absurd (never n e))
      (turn_mails h v x d h.seen.post yet jn ak (λ z r e u. cast z r e) (λ z n e f. absurd (never n e)) (λ z n e f. absurd (never n e)))

-- When a report makes the coordinator announce a decision.
use Rattle.std.proofs.Common.{◌≡◌, Bool, true, false, cond, is_some, Some, Option, refl, ap, ◌∙◌}
use Rattle.protocol.specs.declared.sites.Site.{Site}
use Rattle.protocol.specs.declared.sites.Site.TheVariants.{Cell0, Cell1, Cell2, Cell3}
use Rattle.protocol.specs.declared.sites.PerSite.{PerSite}
use Rattle.protocol.specs.declared.messages.Range.{Range}
use Rattle.protocol.specs.declared.messages.Vote.TheVariants.{Yes, No}
use Rattle.protocol.specs.declared.messages.Decision.{Decision}
use Rattle.protocol.specs.declared.messages.Decision.TheVariants.{Commit, Abort}
use Rattle.protocol.specs.declared.messages.Report.{Report}
use Rattle.protocol.specs.declared.messages.Report.TheVariants.{Cast, Ack}
use Rattle.protocol.specs.declared.answers.Delivery.TheVariants.{Noted, Aborted, Stale, Closed}
use Rattle.protocol.specs.Sites.{at, put_at, lacking}
use Rattle.protocol.specs.Formulas.{tallied}
use Rattle.coordinator.specs.declared.kinds.Transaction.{Transaction}
use Rattle.coordinator.specs.Steps.{cast_by, is_empty, with_vote, with_ack, all_voted, all_acked, awaits, count_answer, decision_answer, heard_answer, announced}

pub ack_silent : (d : Transaction) (s : Site) → is_some (announced (heard_answer d s Ack)) ≡ false
ack_silent d s = go (at d.acks s) (all_acked (with_ack d s))
  where
    go : (a b : Bool) → is_some (announced (cond a Stale (cond b Closed Noted))) ≡ false
    go true b = refl
    go false true = refl
    go false false = refl

pub late_silent : (d : Transaction) (s : Site) (r : Report) → awaits d d.stage s ≡ false → is_some (announced (heard_answer d s r)) ≡ false
late_silent d s (Cast (Yes g)) e = ap (λ b. is_some (announced (cond b (count_answer (with_vote d s g)) Stale))) e
late_silent d s (Cast No) e = ap (λ b. is_some (announced (cond b Aborted Stale))) e
late_silent d s Ack e = ack_silent d s

cast_put : (v : PerSite (Option Range)) (s : Site) (g : Range) → cast_by (put_at v s (Some g)) ≡ put_at (cast_by v) s true
cast_put v Cell0 g = refl
cast_put v Cell1 g = refl
cast_put v Cell2 g = refl
cast_put v Cell3 g = refl

decided_told : (k : Decision) → is_some (announced (decision_answer k)) ≡ true
decided_told (Commit t) = refl
decided_told Abort = refl

counted_told : (d : Transaction) → is_some (announced (count_answer d)) ≡ all_voted d
counted_told d = go (all_voted d)
  where
    go : (b : Bool) → is_some (announced (cond b (decision_answer (tallied d.votes)) Noted)) ≡ b
    go true = decided_told (tallied d.votes)
    go false = refl

-- whether an awaited report decides, where `final` says that no other vote is missing
abbrev pub decides : Report → Bool → Bool
decides (Cast (Yes g)) final = final
decides (Cast No) final = true
decides Ack final = false

pub told_by : (d : Transaction) (s : Site) (r : Report) → awaits d d.stage s ≡ true →
    is_some (announced (heard_answer d s r)) ≡ decides r (is_empty (lacking d.joined (put_at (cast_by d.votes) s true)))
told_by d s (Cast (Yes g)) e =
    ap (λ b. is_some (announced (cond b (count_answer (with_vote d s g)) Stale))) e
    ∙ (counted_told (with_vote d s g) ∙ ap (λ m. is_empty (lacking d.joined m)) (cast_put d.votes s g))
told_by d s (Cast No) e = ap (λ b. is_some (announced (cond b Aborted Stale))) e
told_by d s Ack e = ack_silent d s

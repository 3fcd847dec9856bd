-- Whoever is admitted to a call is live, and at a stage that the call allows.
use Rattle.std.proofs.Common.{◌≡◌, ℕ, Bool, true, false, cond, Some, None, Ok, Err, Option, Result, sym, refl, subst, arith}
use Rattle.protocol.specs.declared.sites.Site.{Site}
use Rattle.protocol.specs.declared.answers.Stage.{Stage}
use Rattle.protocol.specs.declared.answers.Stage.TheVariants.{Open, Polling, Decided}
use Rattle.protocol.specs.declared.faults.Fault.{Fault}
use Rattle.protocol.specs.declared.faults.Fault.TheVariants.{NotLive, NoCell, WrongStage}
use Rattle.protocol.specs.Sites.{site_of}
use Rattle.coordinator.specs.declared.kinds.Transaction.{Transaction}
use Rattle.coordinator.specs.declared.kinds.Allowed.{Allowed}
use Rattle.coordinator.specs.declared.kinds.Allowed.TheVariants.{OnlyOpen, Undecided}
use Rattle.coordinator.specs.Allowing.{allows}
use Rattle.model.specs.Lines.{LineView, transaction_of, admit_by, admit, admit_site, admit_at_by, admit_at}
use Rattle.serial.proofs.Histories.{History, is_decided, Good}

-- the table holds what was seen of a live one, and nothing of any other
pub by_live : {P : Type 0} (v : LineView P) (h : History P) (x : ℕ) → Good v h → (Q : Option Transaction → Type 0) → (h.live x ≡ false → Q None) → (h.live x ≡ true → Q (Some (h.seen.transaction x))) → Q (transaction_of v x)
by_live v h x g Q refused granted = subst Q (sym (g.transactions x)) (go (h.live x) refl)
  where
    go : (b : Bool) → h.live x ≡ b → Q (cond b (Some (h.seen.transaction x)) None)
    go true l = granted l
    go false l = refused l

module _ {P : Type 0} (v : LineView P) (h : History P) (x : ℕ) (g : Good v h) (a : Allowed) where
  -- a call to the coordinator
  pub by_tx : (Q : Result Transaction Fault → Type 0) → ((f : Fault) → Q (Err f)) → (h.live x ≡ true → allows a (h.seen.transaction x).stage ≡ true → Q (Ok (h.seen.transaction x))) → Q (admit v x a)
  by_tx Q refused granted = by_live v h x g (λ q. Q (admit_by x a q)) (λ l. refused (NotLive x)) (λ l. stands l (allows a (h.seen.transaction x).stage) refl)
    where
      stands : h.live x ≡ true → (b : Bool) → allows a (h.seen.transaction x).stage ≡ b → Q (cond b (Ok (h.seen.transaction x)) (Err (WrongStage x)))
      stands l true e = granted l e
      stands l false e = refused (WrongStage x)

  -- a call to a cell
  pub by_site : (c : ℕ) (Q : Result Site Fault → Type 0) → ((f : Fault) → Q (Err f)) → ((s : Site) → site_of c ≡ Some s → h.live x ≡ true → allows a (h.seen.transaction x).stage ≡ true → Q (Ok s)) → Q (admit_at v x c a)
  by_site c Q refused granted = by_live v h x g (λ q. Q (admit_at_by x c a q)) (λ l. refused (NotLive x)) (λ l. at_site_lem l (site_of c) refl)
    where
      stands : (s : Site) → site_of c ≡ Some s → h.live x ≡ true → (b : Bool) → allows a (h.seen.transaction x).stage ≡ b → Q (cond b (Ok s) (Err (WrongStage x)))
      stands s q l true e = granted s q l e
      stands s q l false e = refused (WrongStage x)

      at_site_lem : h.live x ≡ true → (q : Option Site) → site_of c ≡ q → Q (admit_site x c a (h.seen.transaction x) q)
      at_site_lem l None e = refused (NoCell c)
      at_site_lem l (Some s) e = stands s e l (allows a (h.seen.transaction x).stage) refl

pub open_is : (t : Stage) → allows OnlyOpen t ≡ true → t ≡ Open
open_is Open e = refl
open_is Polling e = absurd (grind (arith, e))
open_is (Decided k) e = absurd (grind (arith, e))

pub undecided_is : (t : Stage) → allows Undecided t ≡ true → is_decided t ≡ false
undecided_is Open e = refl
undecided_is Polling e = refl
undecided_is (Decided k) e = absurd (grind (arith, e))

-- The laws over every list of calls.
use Rattle.std.proofs.Common.{◌≡◌, ℕ, List, [], ◌∷◌, sym, refl, subst}
use Rattle.protocol.specs.declared.calls.Call.{Call}
use Rattle.protocol.specs.declared.calls.Call.TheVariants.{Open, Join, Read, Write, Leave, Submit, GiveUp, Resend, Deliver, Lose, Clock, Fate}
use Rattle.model.specs.Lines.{LineView}
use Rattle.model.specs.Calls.{Outcome, told, did}
use Rattle.serial.specs.Observer.{note}
use Rattle.serial.specs.Order.{Chosen, SerialOrder}
use Rattle.serial.specs.Runs.{Event, event, Reached, seen, newest_on, AlwaysSerial, Onward, Does}
use Rattle.serial.specs.Laws.{AlwaysOrdered, AlwaysBounded, TimesVoted, AlwaysVoted}
use Rattle.serial.proofs.Histories.{Next, Keeps}
use Rattle.serial.proofs.CallsKeep.{keeps_read, keeps_write, keeps_leave, keeps_clock, keeps_fate, keeps_lose}
use Rattle.serial.proofs.TurnsKeep.{keeps_open, keeps_submit, keeps_give_up, keeps_resend}
use Rattle.serial.proofs.Joins.{keeps_join}
use Rattle.serial.proofs.Deliveries.{keeps_deliver}
use Rattle.serial.proofs.Start.{start, good_start}
use Rattle.serial.proofs.Sorted.{chosen}
use Rattle.serial.proofs.Replays.{time_stage, serial}

keeps : {P : Type 0} (c : Call P) → Keeps c
keeps Open = keeps_open
keeps (Join x c) = keeps_join x c
keeps (Read x c i) = keeps_read x c i
keeps (Write x c i p) = keeps_write x c i p
keeps (Leave x c) = keeps_leave x c
keeps (Submit x) = keeps_submit x
keeps (GiveUp x) = keeps_give_up x
keeps (Resend x) = keeps_resend x
keeps (Deliver k) = keeps_deliver k
keeps (Lose k) = keeps_lose k
keeps (Clock c t) = keeps_clock c t
keeps (Fate x) = keeps_fate x

-- every run has a history
run : {P : Type 0} (h : List (Event P)) (v : LineView P) → Reached v h → Next (seen h) v
run [] v r = (start, refl, good_start v r)
run (e ∷ h) v r =
    let u = r.0 in
    let n = run h u r.3 in
    let k = keeps e.call u n.0 n.2 in
    subst (Next (seen (e ∷ h))) (sym r.1)
    (subst (λ a. Next (note (seen h) e.call a) (did u e.call)) (sym r.2)
    (subst (λ o. Next (note o e.call (told u e.call)) (did u e.call)) n.1 k))

pub always_serial_lem : {P : Type 0} → AlwaysSerial P
always_serial_lem h v r = let n = run h v r in subst (SerialOrder (newest_on v)) n.1 (serial v n.0 n.2)

pub always_ordered_lem : {P : Type 0} → AlwaysOrdered P
always_ordered_lem {P} h v r = let n = run h v r in subst (λ o. (xs : List ℕ) × Chosen o xs) n.1 (chosen v n.0 n.2)

pub onward : {P : Type 0} (v : LineView P) (c : Call P) (a : Outcome P) (w : LineView P) → a ≡ told v c → w ≡ did v c → Onward v c a w
onward v c a w e f h r = ((v, f, e, r), always_serial_lem (event c a ∷ h) w (v, f, e, r))

pub does : {P : Type 0} (v : LineView P) (c : Call P) (a : Outcome P) (w : LineView P) → a ≡ told v c → w ≡ did v c → Does v c a w
does v c a w e f = record { answer = e; after = f; runs = onward v c a w e f }

pub always_bounded_lem : {P : Type 0} → AlwaysBounded P
always_bounded_lem h v r = let g = (run h v r).2 in record { live = g.few; waiting = g.light }

pub always_voted_lem : {P : Type 0} → AlwaysVoted P
always_voted_lem h v r = let n = run h v r in subst TimesVoted n.1 (λ x t s e j. n.2.sound.voted x s t (time_stage (n.0.seen.transaction x).stage t e) j)

-- An observer of a run from a cleared store knows what is staged, and the newest version.
use Rattle.std.proofs.Common.{◌≡◌, ℕ, Bool, true, false, cond, eqb, List, [], ◌∷◌, is_some, is_ok, is_err, Some, None, Ok, Err, Option, Result, sym, refl, ap, ◌∙◌}
use borrow.Author.Tests.{clash}
use Rattle.std.proofs.lemmas.Bool.{eqb-true}
use Rattle.store.specs.declared.Version.{Version}
use Rattle.store.specs.declared.Refusal.{Refusal}
use Rattle.store.specs.Meaning.{with, last_of, grown, stage_answer, unstage_answer, install_answer}
use Rattle.store.proofs.Rising.{last_more}
use Rattle.store_runs.specs.declared.StoreCall.{StoreCall}
use Rattle.store_runs.specs.declared.StoreCall.TheVariants.{Newest, Staged, Stage, Unstage, Install, Clear}
use Rattle.store_runs.specs.Observer.{Seen, unseen, stamped, sees, observed, KnownFrom}
use Rattle.store_runs.specs.Plain.{Plain, plain, cleared, Answer, changed, answer_to, after_call, answers_to, after_all}
use Rattle.store_runs.proofs.Accepting.{install_within}

-- the observer's view of an item is the item's
Agrees : {P : Type 0} → Plain P → ℕ → Seen P → Type 0
Agrees m k o = (m.pending k ≡ o.waiting) × (last_of (m.history k) ≡ o.latest)

last_grown : {P : Type 0} (vs : List (Version P)) (t : ℕ) (o : Option P) → is_some o ≡ true → last_of (grown vs t o) ≡ stamped t o
last_grown vs t None e = absurd (clash e)
last_grown vs t (Some p) e = last_more vs (record { time = t; payload = p })

looked : {P : Type 0} (m : Plain P) (k : ℕ) (o : Seen P) (b : Bool) → Agrees m k o → Agrees m k (cond b o o)
unfolding Agrees
looked m k o true a = a
looked m k o false a = a

-- an item's staged payload, accepted and of this item or not
pending_step : {P : Type 0} (m : Plain P) (k i : ℕ) (x : Option P) (o : Seen P) (r : Result Unit Refusal) (b : Bool) → eqb i k ≡ b → Agrees m k o →
    Agrees (plain m.wide m.rows m.history (cond (is_ok r) (with m.pending i x) m.pending)) k
    (cond (is_err (changed {P = P} r)) o (cond b (record { waiting = x; latest = o.latest }) o))
unfolding Agrees
pending_step m k i x o (Ok u) true e a = (ap (λ b. cond b x (m.pending k)) e, a.1)
pending_step m k i x o (Ok u) false e a = (ap (λ b. cond b x (m.pending k)) e ∙ a.0, a.1)
pending_step m k i x o (Err why) b e a = a

install_step : {P : Type 0} (m : Plain P) (k i t : ℕ) (o : Seen P) (r : Result Unit Refusal) (b : Bool) → eqb i k ≡ b → (is_ok r ≡ true → is_some (m.pending i) ≡ true) → Agrees m k o →
    Agrees (plain m.wide m.rows (cond (is_ok r) (with m.history i (grown (m.history i) t (m.pending i))) m.history) (cond (is_ok r) (with m.pending i None) m.pending)) k
    (cond (is_err (changed {P = P} r)) o (cond b (record { waiting = None; latest = stamped t o.waiting }) o))
unfolding Agrees
install_step m k i t o (Ok u) true e s a = (
  ap (λ b. cond b None (m.pending k)) e,
  ap (λ b. last_of (cond b (grown (m.history i) t (m.pending i)) (m.history k))) e
      ∙ (last_grown (m.history i) t (m.pending i) (s refl) ∙ ap (stamped t) (ap m.pending (eqb-true i k e) ∙ a.0)),
)
install_step m k i t o (Ok u) false e s a =
    (ap (λ b. cond b None (m.pending k)) e ∙ a.0, ap (λ b. last_of (cond b (grown (m.history i) t (m.pending i)) (m.history k))) e ∙ a.1)
install_step m k i t o (Err why) b e s a = a

step : {P : Type 0} (m : Plain P) (k : ℕ) (o : Seen P) (c : StoreCall P) → Agrees m k o → Agrees (after_call m c) k (sees k o c (answer_to m c))
unfolding Agrees
step m k o (Newest i) a = looked m k o (is_err (answer_to m (Newest i))) a
step m k o (Staged i) a = looked m k o (is_err (answer_to m (Staged i))) a
step m k o (Stage i p) a = pending_step m k i (Some p) o (stage_answer m.wide m.rows m.history m.pending i) (eqb i k) refl a
step m k o (Unstage i) a = pending_step m k i None o (unstage_answer m.wide m.pending i) (eqb i k) refl a
step m k o (Install i t) a =
    install_step m k i t o (install_answer m.wide m.history m.pending i t) (eqb i k) refl
    (λ e. (install_within m.wide m.history m.pending i t e).1) a
step m k o Clear a = (refl, refl)

agrees_after : {P : Type 0} (m : Plain P) (k : ℕ) (o : Seen P) (cs : List (StoreCall P)) → Agrees m k o → Agrees (after_all m cs) k (observed k o cs (answers_to m cs))
agrees_after m k o [] a = a
agrees_after m k o (c ∷ cs) a = agrees_after (after_call m c) k (sees k o c (answer_to m c)) cs (step m k o c a)

-- after any list of calls on a cleared store
pub known_after : {P : Type 0} (m n : Plain P) (cs : List (StoreCall P)) (answers : List (Answer P)) →
    answers ≡ answers_to (cleared m) cs → n ≡ after_all (cleared m) cs → KnownFrom cs answers n
unfolding Agrees
known_after m n cs answers e f k =
    let a : Agrees (after_all (cleared m) cs) k (observed k unseen cs (answers_to (cleared m) cs)) = agrees_after (cleared m) k unseen cs (refl, refl) in (
      ap (λ x. x.pending k) f ∙ (a.0 ∙ ap (λ x. (observed k unseen cs x).waiting) (sym e)),
      ap (λ x. last_of (x.history k)) f ∙ (a.1 ∙ ap (λ x. (observed k unseen cs x).latest) (sym e)),
    )

-- What an accepted call had, and that a refused one leaves all as it was.
use Rattle.std.proofs.Common.{◌≡◌, ℕ, ◌<◌, Bool, true, false, cond, ltb, List, is_some, is_ok, is_err, Some, None, Ok, Err, Option, Result, refl, ap}
use borrow.Author.Tests.{clash}
use Rattle.std.proofs.lemmas.Bool.{ltb-true}
use Rattle.store.specs.declared.Version.{Version}
use Rattle.store.specs.declared.Refusal.{Refusal}
use Rattle.store.specs.Meaning.{with, grown, stage_answer, unstage_answer, install_answer}
use Rattle.store_runs.specs.declared.StoreCall.{StoreCall}
use Rattle.store_runs.specs.declared.StoreCall.TheVariants.{Newest, Staged, Stage, Unstage, Install, Clear}
use Rattle.store_runs.specs.Plain.{Plain, plain, changed, answer_to, after_call}

-- a test that a call passes to be accepted
passed : {X : Type 0} (b : Bool) (x : Result X Refusal) (why : Refusal) → is_ok (cond b x (Err why)) ≡ true → (b ≡ true) × (is_ok x ≡ true)
passed true x why e = (refl, e)
passed false x why e = absurd (clash e)

pub stage_within : {P : Type 0} (w rows : ℕ) (h : ℕ → List (Version P)) (s : ℕ → Option P) (i : ℕ) → is_ok (stage_answer w rows h s i) ≡ true → i < w
stage_within w rows h s i e = ltb-true i w (passed (ltb i w) _ _ e).0

pub unstage_within : {P : Type 0} (w : ℕ) (s : ℕ → Option P) (i : ℕ) → is_ok (unstage_answer w s i) ≡ true → i < w
unstage_within w s i e = ltb-true i w (passed (ltb i w) _ _ e).0

pub install_within : {P : Type 0} (w : ℕ) (h : ℕ → List (Version P)) (s : ℕ → Option P) (i t : ℕ) → is_ok (install_answer w h s i t) ≡ true → (i < w) × (is_some (s i) ≡ true)
install_within w h s i t e =
    let a = passed (ltb i w) _ _ e in (ltb-true i w a.0, (passed (is_some (s i)) _ _ a.1).0)

of_refused : (P : Type 0) (r : Result Unit Refusal) → is_err (changed {P = P} r) ≡ true → is_ok r ≡ false
of_refused P (Ok u) e = absurd (clash e)
of_refused P (Err why) e = refl

-- a refusal changes nothing
pub refused_same : {P : Type 0} (m : Plain P) (c : StoreCall P) → is_err (answer_to m c) ≡ true → after_call m c ≡ m
refused_same m (Newest i) e = refl
refused_same m (Staged i) e = refl
refused_same {P = P} m (Stage i p) e =
    ap (λ b. plain m.wide m.rows m.history (cond b (with m.pending i (Some p)) m.pending))
    (of_refused P (stage_answer m.wide m.rows m.history m.pending i) e)
refused_same {P = P} m (Unstage i) e =
    ap (λ b. plain m.wide m.rows m.history (cond b (with m.pending i None) m.pending)) (of_refused P (unstage_answer m.wide m.pending i) e)
refused_same {P = P} m (Install i t) e =
    ap (λ b. plain m.wide m.rows (cond b (with m.history i (grown (m.history i) t (m.pending i))) m.history) (cond b (with m.pending i None) m.pending))
    (of_refused P (install_answer m.wide m.history m.pending i t) e)
refused_same m Clear e = absurd (clash e)

-- What a call answers, case by case, for the proofs of the stores.
use Rattle.std.proofs.Common.{◌≡◌, ℕ, ◌<◌, ◌≤◌, Bool, true, false, cond, ltb, List, is_some, None, Ok, Err, Option, Result, sym, refl, ap, ◌∙◌, arith}
use Rattle.std.proofs.lemmas.Bool.{ltb-true, cond-true, cond-false, lt-ltb, le-ltb}
use Rattle.store.specs.declared.Version.{Version}
use Rattle.store.specs.declared.Refusal.{Refusal}
use Rattle.store.specs.declared.Refusal.TheVariants.{NoItem, NoRow, NotLater}
use Rattle.store.specs.Meaning.{used, later, last_of, newest_answer, stage_answer, unstage_answer, install_answer}

pub answered : {X : Type 0} (n i : ℕ) (x y : X) → i < n → x ≡ y → ◌≡◌ {A = Result X Refusal} (Ok x) (cond (ltb i n) (Ok y) (Err NoItem))
answered n i x y l e = ap Ok e ∙ sym (cond-true (ltb i n) _ _ (lt-ltb i n l))

of_answer : {X : Type 0} (b : Bool) (x y : X) (i n : ℕ) → ltb i n ≡ b → ◌≡◌ {A = Result X Refusal} (Ok x) (cond b (Ok y) (Err NoItem)) → (i < n) × (y ≡ x)
of_answer true x y i n q e = (ltb-true i n q, cc)
of_answer false x y i n q e = let z : ◌≡◌ {A = ℕ} 0 1 = cc in absurd (omega arith)

pub newest_ok : {P : Type 0} (n : ℕ) (v : ℕ → List (Version P)) (i : ℕ) (o : Option (Version P)) → Ok o ≡ newest_answer n v i → (i < n) × (last_of (v i) ≡ o)
newest_ok n v i o e = of_answer (ltb i n) o (last_of (v i)) i n refl e

pub stage_over : {P : Type 0} (n rows : ℕ) (v : ℕ → List (Version P)) (s : ℕ → Option P) (i : ℕ) → i < n → is_some (s i) ≡ true →
    Ok tt ≡ stage_answer n rows v s i
stage_over n rows v s i l e = sym (cond-true (ltb i n) _ _ (lt-ltb i n l) ∙ cond-true (is_some (s i)) _ _ e)

pub stage_new : {P : Type 0} (n rows : ℕ) (v : ℕ → List (Version P)) (s : ℕ → Option P) (i : ℕ) → i < n → s i ≡ None → used v s n < rows →
    Ok tt ≡ stage_answer n rows v s i
stage_new n rows v s i l e u =
    sym (cond-true (ltb i n) _ _ (lt-ltb i n l) ∙ (cond-false (is_some (s i)) _ _ (ap is_some e) ∙ cond-true (ltb (used v s n) rows) _ _ (lt-ltb (used v s n) rows u)))

pub stage_full : {P : Type 0} (n rows : ℕ) (v : ℕ → List (Version P)) (s : ℕ → Option P) (i : ℕ) → i < n → s i ≡ None → rows ≤ used v s n →
    Err NoRow ≡ stage_answer n rows v s i
stage_full n rows v s i l e u =
    sym (cond-true (ltb i n) _ _ (lt-ltb i n l) ∙ (cond-false (is_some (s i)) _ _ (ap is_some e) ∙ cond-false (ltb (used v s n) rows) _ _ (le-ltb (used v s n) rows u)))

pub unstage_ok : {P : Type 0} (n : ℕ) (s : ℕ → Option P) (i : ℕ) → i < n → Ok tt ≡ unstage_answer n s i
unstage_ok n s i l = sym (cond-true (ltb i n) _ _ (lt-ltb i n l))

pub install_ok : {P : Type 0} (n : ℕ) (v : ℕ → List (Version P)) (s : ℕ → Option P) (i t : ℕ) → i < n → is_some (s i) ≡ true →
    later (last_of (v i)) t ≡ true → Ok tt ≡ install_answer n v s i t
install_ok n v s i t l e u =
    sym (cond-true (ltb i n) _ _ (lt-ltb i n l) ∙ (cond-true (is_some (s i)) _ _ e ∙ cond-true (later (last_of (v i)) t) _ _ u))

pub install_late : {P : Type 0} (n : ℕ) (v : ℕ → List (Version P)) (s : ℕ → Option P) (i t : ℕ) → i < n → is_some (s i) ≡ true →
    later (last_of (v i)) t ≡ false → Err NotLater ≡ install_answer n v s i t
install_late n v s i t l e u =
    sym (cond-true (ltb i n) _ _ (lt-ltb i n l) ∙ (cond-true (is_some (s i)) _ _ e ∙ cond-false (later (last_of (v i)) t) _ _ u))

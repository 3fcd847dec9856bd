-- The rows in use after a call.
use Rattle.std.proofs.Common.{◌≡◌, ℕ, ◌+◌, ◌-◌, ◌<◌, ◌≤◌, Bool, true, false, cond, List, [], ◌∷◌, length, is_some, is_ok, Some, None, Option, refl, ap, ◌∙◌, arith, length-append}
use borrow.Author.Tests.{clash}
use Rattle.store.specs.declared.Version.{Version}
use Rattle.store.specs.Meaning.{with, used, held, grown, stage_answer, unstage_answer, install_answer}
use Rattle.store.proofs.Changing.{with_self, used_with, used_none}
use Rattle.store_runs.specs.declared.StoreCall.{StoreCall}
use Rattle.store_runs.specs.declared.StoreCall.TheVariants.{Newest, Staged, Stage, Unstage, Install, Clear}
use Rattle.store_runs.specs.Ledger.{used_rows, free_rows, rows_taken, rows_given}
use Rattle.store_runs.specs.Plain.{Plain, after_call}
use Rattle.store_runs.proofs.Accepting.{stage_within, unstage_within, install_within}

-- the staged payload of one item is exchanged
used_pending : {P : Type 0} (h : ℕ → List (Version P)) (s : ℕ → Option P) (i : ℕ) (o : Option P) (w : ℕ) → i < w →
    used h (with s i o) w + held (s i) ≡ used h s w + held o
used_pending h s i o w l =
    let a = used_with h s i (h i) o w l in
    let b = ap (λ f. used f (with s i o) w) (with_self h i (h i) refl) in omega arith

held_most : {P : Type 0} (o : Option P) → held o ≤ 1
held_most None = omega arith
held_most (Some p) = omega arith

held_some : {P : Type 0} (o : Option P) → is_some o ≡ true → held o ≡ 1
held_some None e = absurd (clash e)
held_some (Some p) e = refl

grown_more : {P : Type 0} (vs : List (Version P)) (t : ℕ) (o : Option P) → is_some o ≡ true → length (grown vs t o) ≡ length vs + 1
grown_more vs t None e = absurd (clash e)
grown_more vs t (Some p) e = length-append vs (record { time = t; payload = p } ∷ [])

staged_used : {P : Type 0} (b : Bool) (h : ℕ → List (Version P)) (s : ℕ → Option P) (i : ℕ) (p : P) (w : ℕ) → (b ≡ true → i < w) →
    used h (cond b (with s i (Some p)) s) w ≡ used h s w + cond b (1 - held (s i)) 0
staged_used true h s i p w l = let a = used_pending h s i (Some p) w (l refl) in let b = held_most (s i) in omega arith
staged_used false h s i p w l = omega arith

unstaged_used : {P : Type 0} (b : Bool) (h : ℕ → List (Version P)) (s : ℕ → Option P) (i w : ℕ) → (b ≡ true → i < w) →
    used h (cond b (with s i None) s) w + cond b (held (s i)) 0 ≡ used h s w
unstaged_used true h s i w l = let a = used_pending h s i None w (l refl) in omega arith
unstaged_used false h s i w l = omega arith

installed_used : {P : Type 0} (b : Bool) (h : ℕ → List (Version P)) (s : ℕ → Option P) (i t w : ℕ) → (b ≡ true → (i < w) × (is_some (s i) ≡ true)) →
    used (cond b (with h i (grown (h i) t (s i))) h) (cond b (with s i None) s) w ≡ used h s w
installed_used true h s i t w l =
    let a = used_with h s i (grown (h i) t (s i)) None w (l refl).0 in
    let b = held_some (s i) (l refl).1 in
    let c = grown_more (h i) t (s i) (l refl).1 in omega arith
installed_used false h s i t w l = refl

-- the rows in use change by what the call takes and gives back
pub used_after : {P : Type 0} (m : Plain P) (c : StoreCall P) → used_rows (after_call m c) + rows_given m c ≡ used_rows m + rows_taken m c
used_after m (Newest i) = refl
used_after m (Staged i) = refl
used_after m (Stage i p) =
    let a = staged_used (is_ok (stage_answer m.wide m.rows m.history m.pending i)) m.history m.pending i p m.wide
    (stage_within m.wide m.rows m.history m.pending i) in omega arith
used_after m (Unstage i) =
    let a = unstaged_used (is_ok (unstage_answer m.wide m.pending i)) m.history m.pending i m.wide (unstage_within m.wide m.pending i) in omega arith
used_after m (Install i t) =
    let a = installed_used (is_ok (install_answer m.wide m.history m.pending i t)) m.history m.pending i t m.wide
    (install_within m.wide m.history m.pending i t) in omega arith
used_after {P = P} m Clear = let a = used_none P m.wide in omega arith

rows_same : {P : Type 0} (m : Plain P) (c : StoreCall P) → (after_call m c).rows ≡ m.rows
rows_same m (Newest i) = refl
rows_same m (Staged i) = refl
rows_same m (Stage i p) = refl
rows_same m (Unstage i) = refl
rows_same m (Install i t) = refl
rows_same m Clear = refl

-- and so do the free ones, while no more are in use than there are
pub free_after : {P : Type 0} (m n : Plain P) (c : StoreCall P) → n ≡ after_call m c → used_rows m ≤ m.rows → used_rows n ≤ n.rows →
    free_rows n + rows_taken m c ≡ free_rows m + rows_given m c
free_after m n c e a b =
    let r = ap (λ x. x.rows) e ∙ rows_same m c in
    let u = ap used_rows e in
    let v = used_after m c in omega arith

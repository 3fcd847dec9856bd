-- A meaning that changes at one item, and the rows that it then uses.
use Rattle.std.proofs.Common.{◌≡◌, ℕ, zero, suc, ◌+◌, ◌<◌, ◌≤◌, eqb, List, [], length, None, Option, refl, ap, ◌∙◌, subst, inl, inr, arith}
use mathlib.Core.Path.{fun_ext}
use Rattle.std.proofs.lemmas.Bool.{cond-true, cond-false, eq-eqb, ne_eqb}
use Rattle.std.proofs.lemmas.Bool.Decides.{eqb_tells}
use Rattle.store.specs.declared.Version.{Version}
use Rattle.store.specs.Meaning.{with, used, held}

pub with_same : {X : Type 0} (f : ℕ → X) (i : ℕ) (x : X) → with f i x i ≡ x
with_same f i x = cond-true (eqb i i) x (f i) (eq-eqb i i refl)

pub with_other : {X : Type 0} (f : ℕ → X) (i k : ℕ) (x : X) → (i ≡ k → ⊥) → with f i x k ≡ f k
with_other f i k x h = cond-false (eqb i k) x (f k) (ne_eqb i k h)

pub with_self : {X : Type 0} (f : ℕ → X) (i : ℕ) (x : X) → x ≡ f i → with f i x ≡ f
with_self f i x e =
    fun_ext (λ k. elim (eqb_tells i k) [ inl w ↦ cond-true (eqb i k) x (f k) w.0 ∙ (e ∙ ap f w.1) | inr w ↦ cond-false (eqb i k) x (f k) w.0 ])

used_below : {P : Type 0} (v : ℕ → List (Version P)) (s : ℕ → Option P) (i : ℕ) (a : List (Version P)) (b : Option P) (n : ℕ) → n ≤ i →
    used (with v i a) (with s i b) n ≡ used v s n
used_below v s i a b zero l = refl
used_below v s i a b (suc n) l =
    let f = used_below v s i a b n (omega arith) in
    let p = with_other v i n a (λ e. omega arith) in
    let q = with_other s i n b (λ e. omega arith) in cc

-- the rows of one item are exchanged for others
pub used_with : {P : Type 0} (v : ℕ → List (Version P)) (s : ℕ → Option P) (i : ℕ) (a : List (Version P)) (b : Option P) (n : ℕ) → i < n →
    used (with v i a) (with s i b) n + (length (v i) + held (s i)) ≡ used v s n + (length a + held b)
used_with v s i a b zero l = absurd (omega (arith, l))
used_with v s i a b (suc n) l =
    elim (eqb_tells i n) [
      | inl w ↦
          (let R : ℕ → Type 0 = λ m. (used (with v i a) (with s i b) m + (length (with v i a m) + held (with s i b m))) + (length (v i) + held (s i)) ≡ (used v s m + (length (v m) + held (s m))) + (length a + held b) in
          subst R w.1 (let f = used_below v s i a b i (omega arith) in let p = ap length (with_same v i a) in let q = ap held (with_same s i b) in omega arith))
      | inr w ↦
          (let f = used_with v s i a b n (omega (arith, l, w.1)) in
          let p = ap length (with_other v i n a w.1) in let q = ap held (with_other s i n b w.1) in omega arith)
    ]

pub used_none : (P : Type 0) (n : ℕ) → used {P = P} (λ _. []) (λ _. None) n ≡ 0
used_none P zero = refl
used_none P (suc n) = let a = used_none P n in omega arith

-- an item's versions are among the rows in use
pub used_part : {P : Type 0} (v : ℕ → List (Version P)) (s : ℕ → Option P) (i n : ℕ) → i < n → length (v i) ≤ used v s n
used_part v s i zero l = absurd (omega (arith, l))
used_part v s i (suc n) l =
    elim (eqb_tells i n) [ inl w ↦ (let e = ap (λ k. length (v k)) w.1 in omega arith) | inr w ↦ (let a = used_part v s i n (omega (arith, l, w.1)) in omega arith) ]

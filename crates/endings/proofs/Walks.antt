use Rattle.std.proofs.Common.{◌≡◌, ℕ, ◌+◌, Bool, true, false, cond, ◌&&◌, eqb, ltb, List, Option, sym, refl, ap, ◌∙◌, arith, le-ltb, lt-ltb, eqb-true}
use mathlib.Core.Path.{fun_ext}
use Rattle.std.proofs.lemmas.Bool.Decides.{nat_tests}
use Rattle.store.specs.declared.Version.{Version}
use Rattle.store.specs.Meaning.{with, install_answer, unstage_answer}

-- a function changed below i, where go says so
abbrev to : {X : Type 0} → (ℕ → Bool) → (ℕ → X) → (ℕ → X) → ℕ → ℕ → X
to go a b i k = cond (ltb k i && go k) (a k) (b k)

at_i : {X : Type 0} (go : ℕ → Bool) (a b : ℕ → X) (i : ℕ) → to go a b i i ≡ b i
at_i go a b i = ap (λ t. cond (t && go i) (a i) (b i)) (le-ltb i i (omega arith))

cond_put : {X : Type 0} (g e : Bool) (f : ℕ → X) (x : X) (i k : ℕ) → eqb i k ≡ e → cond g (with f i x) f k ≡ cond e (cond g x (f i)) (f k)
cond_put true e f x i k h = ap (λ t. cond t x (f k)) h
cond_put false true f x i k h = ap f (sym (eqb-true i k h))
cond_put false false f x i k h = refl

same_test : (i k : ℕ) → eqb i k ≡ false → ltb k i ≡ ltb k (i + 1)
same_test i k h = grind (arith, nat_tests)

next_case : {X : Type 0} (go : ℕ → Bool) (a b : ℕ → X) (i k : ℕ) (e : Bool) → eqb i k ≡ e →
    cond e (cond (go i) (a i) (b i)) (to go a b i k) ≡ to go a b (i + 1) k
next_case go a b i k true h =
    let q : i ≡ k = eqb-true i k h in
    ap (λ m. cond (go m) (a m) (b m)) q ∙ sym (ap (λ t. cond (t && go k) (a k) (b k)) (lt-ltb k (i + 1) (omega arith)))
next_case go a b i k false h = ap (λ t. cond (t && go k) (a k) (b k)) (same_test i k h)

pub next : {X : Type 0} (go : ℕ → Bool) (a b f h : ℕ → X) (i : ℕ) (g : Bool) (x : X) → f ≡ to go a b i → g ≡ go i → x ≡ a i →
    h ≡ cond g (with f i x) f → h ≡ to go a b (i + 1)
next go a b f h i g x e u w q =
    q ∙ fun_ext (λ k. cond_put g (eqb i k) f x i k refl
    ∙ (ap (λ y. cond (eqb i k) (cond g x (y i)) (y k)) e
    ∙ (ap (λ y. cond (eqb i k) (cond g x y) (to go a b i k)) (at_i go a b i)
    ∙ (ap (λ y. cond (eqb i k) (cond y x (b i)) (to go a b i k)) u
    ∙ (ap (λ y. cond (eqb i k) (cond (go i) y (b i)) (to go a b i k)) w
    ∙ next_case go a b i k (eqb i k) refl)))))

-- at the place i the function is still the old one
pub still : {X : Type 0} (go : ℕ → Bool) (a b f : ℕ → X) (i : ℕ) → f ≡ to go a b i → f i ≡ b i
still go a b f i e = ap (λ y. y i) e ∙ at_i go a b i

-- an install's answer depends on its item alone
pub same_answer : {P : Type 0} (n : ℕ) (v w : ℕ → List (Version P)) (s r : ℕ → Option P) (i t : ℕ) → v i ≡ w i → s i ≡ r i →
    install_answer n v s i t ≡ install_answer n w r i t
same_answer n v w s r i t e f =
    ap (λ y. install_answer n (λ _. y) s i t) e ∙ ap (λ y. install_answer n w (λ _. y) i t) f

pub same_unstage : {P : Type 0} (n : ℕ) (s r : ℕ → Option P) (i : ℕ) → s i ≡ r i → unstage_answer n s i ≡ unstage_answer n r i
same_unstage n s r i f = ap (λ y. unstage_answer n (λ _. y) i) f

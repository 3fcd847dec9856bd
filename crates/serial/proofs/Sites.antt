-- One site changed, of a line's cells and of functions of the site; one place changed, of functions of the number.
use Rattle.std.proofs.Common.{◌≡◌, ℕ, zero, suc, Bool, true, false, cond, eqb, List, [], ◌∷◌, ◌++◌, take, drop, Some, sym, refl, ap, ◌∙◌, subst, arith}
use mathlib.Core.Path.{fun_ext}
use Rattle.std.proofs.lemmas.Bool.{eqb-true, eqb-false, eq-eqb, cond-true, cond_both}
use Rattle.std.specs.List.{remove}
use Rattle.protocol.specs.declared.sites.Site.{Site}
use Rattle.protocol.specs.declared.sites.Site.TheVariants.{Cell0, Cell1, Cell2, Cell3}
use Rattle.protocol.specs.declared.sites.PerSite.{PerSite}
use Rattle.protocol.specs.Sites.{site_of, number_at, at, put_at}
use Rattle.table.specs.Contents.{nth_in}
use Rattle.store.specs.Meaning.{with}
use Rattle.serial.specs.Observer.{same_site}
use Rattle.serial.proofs.Histories.{All}

site_back : (s : Site) → site_of (number_at s) ≡ Some s
site_back Cell0 = refl
site_back Cell1 = refl
site_back Cell2 = refl
site_back Cell3 = refl

pub site_is : (s z : Site) → same_site s z ≡ true → s ≡ z
site_is s z e = let a = site_back s in let b = site_back z in let c = ap site_of (eqb-true (number_at s) (number_at z) e) in cc

pub site_self : (s : Site) → same_site s s ≡ true
site_self s = eq-eqb (number_at s) (number_at s) refl

-- a fact of each site, after one changed
pub site_both : {X : Type 0} (f : Site → X) (s : Site) (x : X) (z : Site) (Q : X → Type 0) → (s ≡ z → Q x) → Q (f z) → Q (cond (same_site s z) x (f z))
site_both f s x z Q k h = cond_both (same_site s z) x (f z) Q (λ e. k (site_is s z e)) (λ e. h)

pub site_all : {X : Type 0} (Q : Site → X → Type 0) (f : Site → X) (s : Site) (x : X) → Q s x → ((z : Site) → Q z (f z)) → (z : Site) → Q z (cond (same_site s z) x (f z))
site_all Q f s x k h z = site_both f s x z (Q z) (λ e. subst (λ y. Q y x) e k) (h z)

pub put_at_lem : {X : Type 0} (e : PerSite X) (s : Site) (x : X) (z : Site) → at (put_at e s x) z ≡ cond (same_site s z) x (at e z)
put_at_lem e Cell0 x z = elim z as (λ z. at (put_at e Cell0 x) z ≡ cond (same_site Cell0 z) x (at e z)) [ Cell0 ↦ refl | Cell1 ↦ refl | Cell2 ↦ refl | Cell3 ↦ refl ]
put_at_lem e Cell1 x z = elim z as (λ z. at (put_at e Cell1 x) z ≡ cond (same_site Cell1 z) x (at e z)) [ Cell0 ↦ refl | Cell1 ↦ refl | Cell2 ↦ refl | Cell3 ↦ refl ]
put_at_lem e Cell2 x z = elim z as (λ z. at (put_at e Cell2 x) z ≡ cond (same_site Cell2 z) x (at e z)) [ Cell0 ↦ refl | Cell1 ↦ refl | Cell2 ↦ refl | Cell3 ↦ refl ]
put_at_lem e Cell3 x z = elim z as (λ z. at (put_at e Cell3 x) z ≡ cond (same_site Cell3 z) x (at e z)) [ Cell0 ↦ refl | Cell1 ↦ refl | Cell2 ↦ refl | Cell3 ↦ refl ]

pub each_put : {X : Type 0} (Q : Site → X → Type 0) (e : PerSite X) (s : Site) (x : X) → Q s x → ((z : Site) → Q z (at e z)) → (z : Site) → Q z (at (put_at e s x) z)
each_put Q e s x k h z = subst (Q z) (sym (put_at_lem e s x z)) (site_all Q (at e) s x k h z)

-- the same of two things for each site, changed together
pub put_both : {X Y : Type 0} (R : Site → X → Y → Type 0) (e : PerSite X) (f : Site → Y) (s : Site) (x : X) (y : Y) → R s x y → ((z : Site) → R z (at e z) (f z)) →
    (z : Site) → R z (at (put_at e s x) z) (cond (same_site s z) y (f z))
put_both R e f s x y k h z = subst (λ a. R z a (cond (same_site s z) y (f z))) (sym (put_at_lem e s x z)) (go (same_site s z) refl)
  where
    go : (b : Bool) → same_site s z ≡ b → R z (cond b x (at e z)) (cond b y (f z))
    go true q = subst (λ a. R a x y) (site_is s z q) k
    go false q = h z

pub put_self : {X : Type 0} (e : PerSite X) (s : Site) → put_at e s (at e s) ≡ e
put_self e Cell0 = refl
put_self e Cell1 = refl
put_self e Cell2 = refl
put_self e Cell3 = refl

-- a fact of a changed function, place by place
pub with_both : {X : Type 0} (f : ℕ → X) (k : ℕ) (x : X) (n : ℕ) (Q : X → Type 0) → (k ≡ n → Q x) → ((k ≡ n → ⊥) → Q (f n)) → Q (with f k x n)
with_both f k x n Q a b = cond_both (eqb k n) x (f n) Q (λ e. a (eqb-true k n e)) (λ e. b (eqb-false k n e))

pub with_here : {X : Type 0} (f : ℕ → X) (k : ℕ) (x : X) → with f k x k ≡ x
with_here f k x = cond-true (eqb k k) x (f k) (eq-eqb k k refl)

pub with_self : {X : Type 0} (f : ℕ → X) (k : ℕ) (x : X) (n : ℕ) → f k ≡ x → with f k x n ≡ f n
with_self f k x n e = with_both f k x n (λ y. y ≡ f n) (λ q. sym e ∙ ap f q) (λ q. refl)

pub with_same : {X : Type 0} (f : ℕ → X) (k : ℕ) (x : X) → f k ≡ x → with f k x ≡ f
with_same f k x e = fun_ext (λ n. with_self f k x n e)

-- each of a list
pub all_app : {X : Type 0} (Q : X → Type 0) (xs ys : List X) → All Q xs → All Q ys → All Q (xs ++ ys)
all_app Q [] ys a b = b
all_app Q (x ∷ xs) ys a b = (a.0, all_app Q xs ys a.1 b)

pub all_map : {X : Type 0} (Q R : X → Type 0) (xs : List X) → ((x : X) → Q x → R x) → All Q xs → All R xs
all_map Q R [] h a = tt
all_map Q R (x ∷ xs) h a = (h x a.0, all_map Q R xs h a.1)

pub all_nth : {X : Type 0} (Q : X → Type 0) (xs : List X) (k : ℕ) (x : X) → nth_in xs k ≡ Some x → All Q xs → Q x
all_nth Q [] k x e a = let z : ◌≡◌ {A = ℕ} 0 1 = cc in absurd (omega arith)
all_nth Q (y ∷ ys) zero x e a = let h : y ≡ x = cc in subst Q h a.0
all_nth Q (y ∷ ys) (suc k) x e a = all_nth Q ys k x e a.1

all_take : {X : Type 0} (Q : X → Type 0) (xs : List X) (k : ℕ) → All Q xs → All Q (take k xs)
all_take Q [] zero a = tt
all_take Q [] (suc k) a = tt
all_take Q (x ∷ xs) zero a = tt
all_take Q (x ∷ xs) (suc k) a = (a.0, all_take Q xs k a.1)

all_drop : {X : Type 0} (Q : X → Type 0) (xs : List X) (k : ℕ) → All Q xs → All Q (drop k xs)
all_drop Q [] zero a = tt
all_drop Q [] (suc k) a = tt
all_drop Q (x ∷ xs) zero a = a
all_drop Q (x ∷ xs) (suc k) a = all_drop Q xs k a.1

pub all_removed : {X : Type 0} (Q : X → Type 0) (xs : List X) (k : ℕ) → All Q xs → All Q (remove xs k)
all_removed Q xs k a = all_app Q (take k xs) (drop (suc k) xs) (all_take Q xs k a) (all_drop Q xs (suc k) a)

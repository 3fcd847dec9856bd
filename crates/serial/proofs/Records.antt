-- Records found by number in a list, after an event of one of them, and with one more or one less.
use Rattle.std.proofs.Common.{◌≡◌, ℕ, Bool, true, false, cond, eqb, List, [], ◌∷◌, ◌++◌, Some, None, Option, sym, refl, ap, ◌∙◌, subst, inl, inr, arith}
use Rattle.std.proofs.lemmas.Bool.{eqb-true, eqb-false, ne_eqb, cases_eq, cond-true, cond-false}
use Rattle.std.proofs.lemmas.Bool.Decides.{nat_tests}
use Rattle.table.specs.Contents.{find_in, without, stepped}
use Rattle.serial.proofs.Lives.{Apart}

pub not_some : {X : Type 0} (x : X) → None ≡ Some x → ⊥
not_some x e = let z : ◌≡◌ {A = ℕ} 0 1 = cc in omega arith

-- the one that is found has the number
pub find_number : {X : Type 0} (num : X → ℕ) (rs : List X) (x : ℕ) (r : X) → find_in num rs x ≡ Some r → num r ≡ x
find_number num [] x r e = absurd (not_some r e)
find_number num (q ∷ rs) x r e = go (eqb (num q) x) refl e (λ f. find_number num rs x r f)
  where
    go : (b : Bool) → eqb (num q) x ≡ b → cond b (Some q) (find_in num rs x) ≡ Some r → (find_in num rs x ≡ Some r → num r ≡ x) → num r ≡ x
    go true t f ih = let u : q ≡ r = cc in ap num (sym u) ∙ eqb-true (num q) x t
    go false t f ih = ih f

-- an event that keeps the number of each record
module _ {X V : Type 0} (num : X → ℕ) (next : X → V → X) (e : V) (keeps : (r : X) → num (next r e) ≡ num r) where
  pub find_same : (rs : List X) (x : ℕ) (r : X) → find_in num rs x ≡ Some r → find_in num (stepped num next rs x e) x ≡ Some (next r e)
  find_same [] x r f = absurd (not_some r f)
  find_same (q ∷ rs) x r f = go (eqb (num q) x) refl f (λ g. find_same rs x r g)
    where
      go : (b : Bool) → eqb (num q) x ≡ b → cond b (Some q) (find_in num rs x) ≡ Some r → (find_in num rs x ≡ Some r → find_in num (stepped num next rs x e) x ≡ Some (next r e)) →
          find_in num (cond b (next q e ∷ rs) (q ∷ stepped num next rs x e)) x ≡ Some (next r e)
      go true t g ih = cond-true (eqb (num (next q e)) x) (Some (next q e)) (find_in num rs x) (ap (λ n. eqb n x) (keeps q) ∙ t) ∙ (let u : q ≡ r = cc in ap (λ y. Some (next y e)) u)
      go false t g ih = cond-false (eqb (num q) x) (Some q) (find_in num (stepped num next rs x e) x) t ∙ ih g

  pub find_other : (rs : List X) (x y : ℕ) → (x ≡ y → ⊥) → find_in num (stepped num next rs x e) y ≡ find_in num rs y
  find_other [] x y ne = refl
  find_other (q ∷ rs) x y ne = go (eqb (num q) x) refl (find_other rs x y ne)
    where
      go : (b : Bool) → eqb (num q) x ≡ b → find_in num (stepped num next rs x e) y ≡ find_in num rs y → find_in num (cond b (next q e ∷ rs) (q ∷ stepped num next rs x e)) y ≡ find_in num (q ∷ rs) y
      go true t ih =
          let n = eqb-true (num q) x t in
          cond-false (eqb (num (next q e)) y) (Some (next q e)) (find_in num rs y) (ne_eqb (num (next q e)) y (λ h. ne (sym n ∙ (sym (keeps q) ∙ h))))
          ∙ sym (cond-false (eqb (num q) y) (Some q) (find_in num rs y) (ne_eqb (num q) y (λ h. ne (sym n ∙ h))))
      go false t ih = ap (λ o. cond (eqb (num q) y) (Some q) o) ih

  -- what is found after it
  pub find_both : (rs : List X) (x : ℕ) (r : X) → find_in num rs x ≡ Some r → (y : ℕ) (Q : Option X → Type 0) →
      (x ≡ y → Q (Some (next r e))) → ((x ≡ y → ⊥) → Q (find_in num rs y)) → Q (find_in num (stepped num next rs x e) y)
  find_both rs x r f y Q here there = elim (cases_eq x y) [
    | inl h ↦ subst Q (sym (find_same rs x r f) ∙ ap (λ n. find_in num (stepped num next rs x e) n) h) (here h)
    | inr ne ↦ subst Q (sym (find_other rs x y ne)) (there ne)
  ]

  pub apart_stepped : (rs : List X) (x : ℕ) → Apart num rs → Apart num (stepped num next rs x e)
  apart_stepped [] x a = tt
  apart_stepped (q ∷ rs) x a = go (eqb (num q) x) refl (apart_stepped rs x a.1)
    where
      go : (b : Bool) → eqb (num q) x ≡ b → Apart num (stepped num next rs x e) → Apart num (cond b (next q e ∷ rs) (q ∷ stepped num next rs x e))
      go true t ih = (ap (λ n. find_in num rs n) (keeps q) ∙ a.0, a.1)
      go false t ih = (find_other rs x (num q) (λ h. eqb-false (num q) x t (sym h)) ∙ a.0, ih)

-- an event that does not change the record
pub stepped_same : {X V : Type 0} (num : X → ℕ) (next : X → V → X) (rs : List X) (x : ℕ) (e : V) (r : X) → find_in num rs x ≡ Some r → next r e ≡ r → stepped num next rs x e ≡ rs
stepped_same num next [] x e r f h = refl
stepped_same num next (q ∷ rs) x e r f h = go (eqb (num q) x) f (λ g. stepped_same num next rs x e r g h)
  where
    go : (b : Bool) → cond b (Some q) (find_in num rs x) ≡ Some r → (find_in num rs x ≡ Some r → stepped num next rs x e ≡ rs) → cond b (next q e ∷ rs) (q ∷ stepped num next rs x e) ≡ q ∷ rs
    go true g ih = let u : q ≡ r = cc in ap (λ y. y ∷ rs) (ap (λ y. next y e) u ∙ (h ∙ sym u))
    go false g ih = ap (λ ys. q ∷ ys) (ih g)

-- one more at the end, with a new number
pub find_end : {X : Type 0} (num : X → ℕ) (rs : List X) (r : X) (y : ℕ) → find_in num rs (num r) ≡ None → find_in num (rs ++ (r ∷ [])) y ≡ cond (eqb (num r) y) (Some r) (find_in num rs y)
find_end num [] r y e = refl
find_end num (q ∷ rs) r y e = go (eqb (num q) (num r)) refl e (λ f. find_end num rs r y f)
  where
    go : (b : Bool) → eqb (num q) (num r) ≡ b → cond b (Some q) (find_in num rs (num r)) ≡ None →
        (find_in num rs (num r) ≡ None → find_in num (rs ++ (r ∷ [])) y ≡ cond (eqb (num r) y) (Some r) (find_in num rs y)) →
        cond (eqb (num q) y) (Some q) (find_in num (rs ++ (r ∷ [])) y) ≡ cond (eqb (num r) y) (Some r) (cond (eqb (num q) y) (Some q) (find_in num rs y))
    go true t f ih = absurd (not_some q (sym f))
    go false t f ih = ap (λ o. cond (eqb (num q) y) (Some q) o) (ih f)
        ∙ (let a = eqb-false (num q) (num r) t in let b = cases_eq (num q) y in grind (arith, nat_tests))

pub apart_end : {X : Type 0} (num : X → ℕ) (rs : List X) (r : X) → find_in num rs (num r) ≡ None → Apart num rs → Apart num (rs ++ (r ∷ []))
apart_end num [] r e a = (refl, tt)
apart_end num (q ∷ rs) r e a = go (eqb (num q) (num r)) refl e (λ f. apart_end num rs r f a.1)
  where
    go : (b : Bool) → eqb (num q) (num r) ≡ b → cond b (Some q) (find_in num rs (num r)) ≡ None → (find_in num rs (num r) ≡ None → Apart num (rs ++ (r ∷ []))) → Apart num (q ∷ (rs ++ (r ∷ [])))
    go true t f ih = absurd (not_some q (sym f))
    go false t f ih = (
      find_end num rs r (num q) f ∙ (cond-false (eqb (num r) (num q)) (Some r) (find_in num rs (num q)) (ne_eqb (num r) (num q) (λ h. eqb-false (num q) (num r) t (sym h))) ∙ a.0),
      ih f,
    )

-- one less
pub find_cut : {X : Type 0} (num : X → ℕ) (rs : List X) (x y : ℕ) → Apart num rs → find_in num (without num rs x) y ≡ cond (eqb x y) None (find_in num rs y)
find_cut {X} num [] x y a = go (eqb x y)
  where
    go : (b : Bool) → ◌≡◌ {A = Option X} None (cond b None None)
    go true = refl
    go false = refl
find_cut num (q ∷ rs) x y a = go (eqb (num q) x) (eqb x y) refl refl (find_cut num rs x y a.1)
  where
    go : (b c : Bool) → eqb (num q) x ≡ b → eqb x y ≡ c → find_in num (without num rs x) y ≡ cond (eqb x y) None (find_in num rs y) →
        find_in num (cond b rs (q ∷ without num rs x)) y ≡ cond c None (cond (eqb (num q) y) (Some q) (find_in num rs y))
    go true true t u ih = ap (λ n. find_in num rs n) (sym (eqb-true x y u) ∙ sym (eqb-true (num q) x t)) ∙ a.0
    go true false t u ih = sym (cond-false (eqb (num q) y) (Some q) (find_in num rs y) (ne_eqb (num q) y (λ h. eqb-false x y u (sym (eqb-true (num q) x t) ∙ h))))
    go false true t u ih =
        cond-false (eqb (num q) y) (Some q) (find_in num (without num rs x) y) (ne_eqb (num q) y (λ h. eqb-false (num q) x t (h ∙ sym (eqb-true x y u))))
        ∙ (ih ∙ cond-true (eqb x y) None (find_in num rs y) u)
    go false false t u ih = ap (λ o. cond (eqb (num q) y) (Some q) o) (ih ∙ cond-false (eqb x y) None (find_in num rs y) u)

pub apart_cut : {X : Type 0} (num : X → ℕ) (rs : List X) (x : ℕ) → Apart num rs → Apart num (without num rs x)
apart_cut num [] x a = tt
apart_cut num (q ∷ rs) x a = go (eqb (num q) x) (apart_cut num rs x a.1)
  where
    gone : (b : Bool) → cond b None (find_in num rs (num q)) ≡ None
    gone true = refl
    gone false = a.0

    go : (b : Bool) → Apart num (without num rs x) → Apart num (cond b rs (q ∷ without num rs x))
    go true ih = a.1
    go false ih = (find_cut num rs x (num q) a.1 ∙ gone (eqb x (num q)), ih)

-- Tables of numbered records: one that steps, one taken out, one more at the end, and how many there are.
use Rattle.std.proofs.Common.{◌≡◌, ℕ, suc, ◌<◌, ◌≤◌, Bool, true, false, cond, eqb, List, [], ◌∷◌, ◌++◌, length, is_some, Some, None, Option, sym, refl, ap, ◌∙◌, arith}
use Rattle.std.proofs.lemmas.Bool.{eqb-true, eqb-false, eq-eqb, ne_eqb, cases_eq, cond-true, cond-false, cond_both}
use Rattle.std.proofs.lemmas.Bool.Decides.{nat_tests}
use Rattle.table.specs.Contents.{find_in, without, stepped}
use Rattle.serial.proofs.Lives.{Apart}

pub some_is : {X : Type 0} (q : Option X) → is_some q ≡ true → (x : X) × (q ≡ Some x)
some_is None e = absurd (grind (arith, e))
some_is (Some x) e = (x, refl)

pub none_is : {X : Type 0} (q : Option X) → is_some q ≡ false → q ≡ None
none_is None e = refl
none_is (Some x) e = absurd (grind (arith, e))

-- found ones have the number
pub find_number : {X : Type 0} (num : X → ℕ) (rs : List X) (x : ℕ) (r : X) → find_in num rs x ≡ Some r → num r ≡ x
find_number num [] x r e = let z : ◌≡◌ {A = ℕ} 0 1 = cc in absurd (omega arith)
find_number num (q ∷ rs) x r e =
    let P : Bool → Type 0 = λ b. eqb (num q) x ≡ b → cond b (Some q) (find_in num rs x) ≡ Some r → num r ≡ x in
    let all : (b : Bool) → P b = λ b. elim b as P [
      | true ↦ (λ t f. let u : q ≡ r = cc in ap num (sym u) ∙ eqb-true (num q) x t)
      | false ↦ (λ t f. find_number num rs x r f)
    ] in
    all (eqb (num q) x) refl e

-- a step that keeps the number
module _ {X V : Type 0} (num : X → ℕ) (next : X → V → X) (e : V) (keeps : (r : X) → num (next r e) ≡ num r) where
  pub length_stepped : (rs : List X) (x : ℕ) → length (stepped num next rs x e) ≡ length rs
  length_stepped [] x = refl
  length_stepped (q ∷ rs) x = cond_both (eqb (num q) x) (next q e ∷ rs) (q ∷ stepped num next rs x e) (λ l. length l ≡ suc (length rs)) (λ u. refl) (λ u. ap suc (length_stepped rs x))

  -- another one is found as before
  pub find_other : (rs : List X) (x y : ℕ) → (x ≡ y → ⊥) → find_in num (stepped num next rs x e) y ≡ find_in num rs y
  find_other [] x y ne = refl
  find_other (q ∷ rs) x y ne = cond_both (eqb (num q) x) (next q e ∷ rs) (q ∷ stepped num next rs x e) (λ l. find_in num l y ≡ find_in num (q ∷ rs) y)
      (λ u. let n = eqb-true (num q) x u in
      cond-false (eqb (num (next q e)) y) (Some (next q e)) (find_in num rs y) (ne_eqb (num (next q e)) y (λ h. ne (sym n ∙ (sym (keeps q) ∙ h))))
      ∙ sym (cond-false (eqb (num q) y) (Some q) (find_in num rs y) (ne_eqb (num q) y (λ h. ne (sym n ∙ h)))))
      (λ u. ap (λ o. cond (eqb (num q) y) (Some q) o) (find_other rs x y ne))

  -- the one that stepped is found
  pub find_here : (rs : List X) (x : ℕ) (r : X) → find_in num rs x ≡ Some r → find_in num (stepped num next rs x e) x ≡ Some (next r e)
  find_here [] x r f = let z : ◌≡◌ {A = ℕ} 0 1 = cc in absurd (omega arith)
  find_here (q ∷ rs) x r f =
      let P : Bool → Type 0 = λ b. eqb (num q) x ≡ b → cond b (Some q) (find_in num rs x) ≡ Some r → find_in num (cond b (next q e ∷ rs) (q ∷ stepped num next rs x e)) x ≡ Some (next r e) in
      let all : (b : Bool) → P b = λ b. elim b as P [
        | true ↦ (λ u g. let h : q ≡ r = cc in
            cond-true (eqb (num (next q e)) x) (Some (next q e)) (find_in num rs x) (eq-eqb (num (next q e)) x (keeps q ∙ eqb-true (num q) x u)) ∙ ap (λ y. Some (next y e)) h)
        | false ↦ (λ u g. cond-false (eqb (num q) x) (Some q) (find_in num (stepped num next rs x e) x) u ∙ find_here rs x r g)
      ] in
      all (eqb (num q) x) refl f

  -- nobody comes or goes
  pub some_stepped : (rs : List X) (x y : ℕ) → is_some (find_in num (stepped num next rs x e) y) ≡ is_some (find_in num rs y)
  some_stepped [] x y = refl
  some_stepped (q ∷ rs) x y = cond_both (eqb (num q) x) (next q e ∷ rs) (q ∷ stepped num next rs x e) (λ l. is_some (find_in num l y) ≡ is_some (find_in num (q ∷ rs) y))
      (λ u. ap (λ n. is_some (cond (eqb n y) (Some (next q e)) (find_in num rs y))) (keeps q) ∙ (let Q : Bool → Type 0 = λ b. is_some (cond b (Some (next q e)) (find_in num rs y)) ≡ is_some (cond b (Some q) (find_in num rs y)) in elim (eqb (num q) y) as Q [ true ↦ refl | false ↦ refl ]))
      (λ u. let Q : Bool → Type 0 = λ b. is_some (cond b (Some q) (find_in num (stepped num next rs x e) y)) ≡ is_some (cond b (Some q) (find_in num rs y)) in elim (eqb (num q) y) as Q [ true ↦ refl | false ↦ some_stepped rs x y ])

  none_stepped : (rs : List X) (x y : ℕ) → find_in num rs y ≡ None → find_in num (stepped num next rs x e) y ≡ None
  none_stepped rs x y f = none_is (find_in num (stepped num next rs x e) y) (some_stepped rs x y ∙ ap is_some f)

  pub apart_stepped : (rs : List X) (x : ℕ) → Apart num rs → Apart num (stepped num next rs x e)
  apart_stepped [] x a = tt
  apart_stepped (q ∷ rs) x a = cond_both (eqb (num q) x) (next q e ∷ rs) (q ∷ stepped num next rs x e) (Apart num)
      (λ u. (ap (find_in num rs) (keeps q) ∙ a.0, a.1))
      (λ u. (none_stepped rs x (num q) a.0, apart_stepped rs x a.1))

  -- one that stepped and is taken out
  pub cut_stepped : (rs : List X) (x : ℕ) → without num (stepped num next rs x e) x ≡ without num rs x
  cut_stepped [] x = refl
  cut_stepped (q ∷ rs) x =
      let P : Bool → Type 0 = λ b. eqb (num q) x ≡ b → without num (cond b (next q e ∷ rs) (q ∷ stepped num next rs x e)) x ≡ cond b rs (q ∷ without num rs x) in
      let all : (b : Bool) → P b = λ b. elim b as P [
        | true ↦ (λ u. cond-true (eqb (num (next q e)) x) rs (next q e ∷ without num rs x) (eq-eqb (num (next q e)) x (keeps q ∙ eqb-true (num q) x u)))
        | false ↦ (λ u. cond-false (eqb (num q) x) (stepped num next rs x e) (q ∷ without num (stepped num next rs x e) x) u ∙ ap (λ l. q ∷ l) (cut_stepped rs x))
      ] in
      all (eqb (num q) x) refl

-- a step to the same
pub same_stepped : {X V : Type 0} (num : X → ℕ) (next : X → V → X) (e : V) (rs : List X) (x : ℕ) (r : X) → find_in num rs x ≡ Some r → next r e ≡ r → stepped num next rs x e ≡ rs
same_stepped num next e [] x r f k = refl
same_stepped num next e (q ∷ rs) x r f k =
    let P : Bool → Type 0 = λ b. cond b (Some q) (find_in num rs x) ≡ Some r → cond b (next q e ∷ rs) (q ∷ stepped num next rs x e) ≡ q ∷ rs in
    let all : (b : Bool) → P b = λ b. elim b as P [
      | true ↦ (λ g. let h : q ≡ r = cc in ap (λ y. y ∷ rs) (ap (λ y. next y e) h ∙ (k ∙ sym h)))
      | false ↦ (λ g. ap (λ l. q ∷ l) (same_stepped num next e rs x r g k))
    ] in
    all (eqb (num q) x) f

-- one more at the end
pub find_end : {X : Type 0} (num : X → ℕ) (rs : List X) (t : X) (y : ℕ) → find_in num rs (num t) ≡ None → find_in num (rs ++ (t ∷ [])) y ≡ cond (eqb (num t) y) (Some t) (find_in num rs y)
find_end num [] t y e = refl
find_end num (q ∷ rs) t y e =
    let P : Bool → Type 0 = λ b. eqb (num q) (num t) ≡ b → cond b (Some q) (find_in num rs (num t)) ≡ None →
    cond (eqb (num q) y) (Some q) (find_in num (rs ++ (t ∷ [])) y) ≡ cond (eqb (num t) y) (Some t) (cond (eqb (num q) y) (Some q) (find_in num rs y)) in
    let all : (b : Bool) → P b = λ b. elim b as P [
      | true ↦ (λ u f. let z : ◌≡◌ {A = ℕ} 0 1 = cc in absurd (omega arith))
      | false ↦ (λ u f. ap (λ o. cond (eqb (num q) y) (Some q) o) (find_end num rs t y f)
          ∙ (let a = eqb-false (num q) (num t) u in let b = cases_eq (num q) y in grind (arith, nat_tests)))
    ] in
    all (eqb (num q) (num t)) refl e

pub apart_end : {X : Type 0} (num : X → ℕ) (rs : List X) (t : X) → Apart num rs → find_in num rs (num t) ≡ None → Apart num (rs ++ (t ∷ []))
apart_end num [] t a e = (refl, tt)
apart_end {X} num (q ∷ rs) t a e =
    let Q : Bool → Type 0 = λ b. eqb (num q) (num t) ≡ b → ◌≡◌ {A = Option X} (cond b (Some q) (find_in num rs (num t))) None → (num t ≡ num q → ⊥) × (find_in num rs (num t) ≡ None) in
    let all : (b : Bool) → Q b = λ b. elim b as Q [ true ↦ (λ u h. let z : ◌≡◌ {A = ℕ} 0 1 = cc in absurd (omega arith)) | false ↦ (λ u h. ((λ k. eqb-false (num q) (num t) u (sym k)), h)) ] in
    let k = all (eqb (num q) (num t)) refl e in
    (find_end num rs t (num q) k.1 ∙ (cond-false (eqb (num t) (num q)) (Some t) (find_in num rs (num q)) (ne_eqb (num t) (num q) k.0) ∙ a.0), apart_end num rs t a.1 k.1)

-- one taken out
pub find_cut : {X : Type 0} (num : X → ℕ) (rs : List X) (x y : ℕ) → Apart num rs → find_in num (without num rs x) y ≡ cond (eqb x y) None (find_in num rs y)
find_cut {X} num [] x y a = let P : Bool → Type 0 = λ b. ◌≡◌ {A = Option X} None (cond b None None) in elim (eqb x y) as P [ true ↦ refl | false ↦ refl ]
find_cut num (q ∷ rs) x y a =
    let P : Bool → Type 0 = λ b. eqb (num q) x ≡ b → find_in num (cond b rs (q ∷ without num rs x)) y ≡ cond (eqb x y) None (cond (eqb (num q) y) (Some q) (find_in num rs y)) in
    let all : (b : Bool) → P b = λ b. elim b as P [
      | true ↦ (λ e. let n = eqb-true (num q) x e in
          let Q : Bool → Type 0 = λ c. eqb x y ≡ c → find_in num rs y ≡ cond c None (cond (eqb (num q) y) (Some q) (find_in num rs y)) in
          let both : (c : Bool) → Q c = λ c. elim c as Q [
            | true ↦ (λ u. ap (λ m. find_in num rs m) (sym (eqb-true x y u) ∙ sym n) ∙ a.0)
            | false ↦ (λ u. sym (cond-false (eqb (num q) y) (Some q) (find_in num rs y) (ne_eqb (num q) y (λ h. eqb-false x y u (sym n ∙ h)))))
          ] in
          both (eqb x y) refl)
      | false ↦ (λ e. ap (λ o. cond (eqb (num q) y) (Some q) o) (find_cut num rs x y a.1)
          ∙ (let n = eqb-false (num q) x e in
          let Q : Bool → Type 0 = λ c. eqb x y ≡ c → cond (eqb (num q) y) (Some q) (cond c None (find_in num rs y)) ≡ cond c None (cond (eqb (num q) y) (Some q) (find_in num rs y)) in
          let both : (c : Bool) → Q c = λ c. elim c as Q [
            | true ↦ (λ u. cond-false (eqb (num q) y) (Some q) None (ne_eqb (num q) y (λ h. n (h ∙ sym (eqb-true x y u)))))
            | false ↦ (λ u. refl)
          ] in
          both (eqb x y) refl))
    ] in
    all (eqb (num q) x) refl

none_cut : {X : Type 0} (num : X → ℕ) (rs : List X) (x y : ℕ) → find_in num rs y ≡ None → find_in num (without num rs x) y ≡ None
none_cut num [] x y f = refl
none_cut num (q ∷ rs) x y f =
    let P : Bool → Type 0 = λ b. cond b (Some q) (find_in num rs y) ≡ None → find_in num (cond (eqb (num q) x) rs (q ∷ without num rs x)) y ≡ None in
    let all : (b : Bool) → eqb (num q) y ≡ b → P b = λ b. elim b as (λ b. eqb (num q) y ≡ b → P b) [
      | true ↦ (λ u g. let z : ◌≡◌ {A = ℕ} 0 1 = cc in absurd (omega arith))
      | false ↦ (λ u g. cond_both (eqb (num q) x) rs (q ∷ without num rs x) (λ l. find_in num l y ≡ None) (λ h. g) (λ h. cond-false (eqb (num q) y) (Some q) (find_in num (without num rs x) y) u ∙ none_cut num rs x y g))
    ] in
    all (eqb (num q) y) refl f

pub apart_cut : {X : Type 0} (num : X → ℕ) (rs : List X) (x : ℕ) → Apart num rs → Apart num (without num rs x)
apart_cut num [] x a = tt
apart_cut num (q ∷ rs) x a = cond_both (eqb (num q) x) rs (q ∷ without num rs x) (Apart num) (λ u. a.1) (λ u. (none_cut num rs x (num q) a.0, apart_cut num rs x a.1))

pub length_cut : {X : Type 0} (num : X → ℕ) (rs : List X) (x : ℕ) → length (without num rs x) ≤ length rs
length_cut num [] x = omega arith
length_cut num (q ∷ rs) x = let ih = length_cut num rs x in cond_both (eqb (num q) x) rs (q ∷ without num rs x) (λ l. length l ≤ suc (length rs)) (λ u. omega arith) (λ u. omega (arith, ih))

-- one taken out: one less, and every other is found as before
one_less : {X : Type 0} (num : X → ℕ) (ys : List X) (x : ℕ) → is_some (find_in num ys x) ≡ true → suc (length (without num ys x)) ≡ length ys
one_less num [] x h = absurd (grind (arith, h))
one_less num (q ∷ ys) x h =
    let P : Bool → Type 0 = λ b. is_some (cond b (Some q) (find_in num ys x)) ≡ true → suc (length (cond b ys (q ∷ without num ys x))) ≡ suc (length ys) in
    let all : (b : Bool) → P b = λ b. elim b as P [ true ↦ (λ u. refl) | false ↦ (λ u. ap suc (one_less num ys x u)) ] in
    all (eqb (num q) x) h

other_stays : {X : Type 0} (num : X → ℕ) (ys : List X) (x y : ℕ) → (x ≡ y → ⊥) → find_in num (without num ys x) y ≡ find_in num ys y
other_stays num [] x y ne = refl
other_stays num (q ∷ ys) x y ne = cond_both (eqb (num q) x) ys (q ∷ without num ys x) (λ l. find_in num l y ≡ cond (eqb (num q) y) (Some q) (find_in num ys y))
    (λ u. sym (cond-false (eqb (num q) y) (Some q) (find_in num ys y) (ne_eqb (num q) y (λ h. ne (sym (eqb-true (num q) x u) ∙ h)))))
    (λ u. ap (λ o. cond (eqb (num q) y) (Some q) o) (other_stays num ys x y ne))

tail_found : {X : Type 0} (num : X → ℕ) (r : X) (rs : List X) (y : ℕ) → is_some (find_in num rs y) ≡ true → is_some (find_in num (r ∷ rs) y) ≡ true
tail_found num r rs y h = let P : Bool → Type 0 = λ b. is_some (cond b (Some r) (find_in num rs y)) ≡ true in elim (eqb (num r) y) as P [ true ↦ refl | false ↦ h ]

head_found : {X : Type 0} (num : X → ℕ) (r : X) (rs : List X) → is_some (find_in num (r ∷ rs) (num r)) ≡ true
head_found num r rs = ap is_some (cond-true (eqb (num r) (num r)) (Some r) (find_in num rs (num r)) (eq-eqb (num r) (num r) refl))

-- if each number of one table is in the other, the other is no shorter
pigeon : {X Y : Type 0} (num : X → ℕ) (lab : Y → ℕ) (xs : List X) (ys : List Y) → Apart num xs → ((y : ℕ) → is_some (find_in num xs y) ≡ true → is_some (find_in lab ys y) ≡ true) → length xs ≤ length ys
pigeon num lab [] ys a h = omega arith
pigeon num lab (r ∷ rs) ys a h =
    let one = one_less lab ys (num r) (h (num r) (head_found num r rs)) in
    let ih = pigeon num lab rs (without lab ys (num r)) a.1 (λ y f.
    ap is_some (other_stays lab ys (num r) y (λ e. let z : is_some (find_in num rs y) ≡ false = ap (λ m. is_some (find_in num rs m)) (sym e) ∙ ap is_some a.0 in grind (arith, z, f)))
    ∙ h y (tail_found num r rs y f)) in
    omega (arith, one, ih)

-- and with one that the first lacks, it is longer
pub room_holds : {X Y : Type 0} (num : X → ℕ) (lab : Y → ℕ) (xs : List X) (ys : List Y) (x : ℕ) → Apart num xs → ((y : ℕ) → is_some (find_in num xs y) ≡ true → is_some (find_in lab ys y) ≡ true) →
    is_some (find_in lab ys x) ≡ true → find_in num xs x ≡ None → length xs < length ys
room_holds num lab xs ys x a h l n =
    let one = one_less lab ys x l in
    let ih = pigeon num lab xs (without lab ys x) a (λ y f.
    ap is_some (other_stays lab ys x y (λ e. let z : is_some (find_in num xs y) ≡ false = ap (λ m. is_some (find_in num xs m)) (sym e) ∙ ap is_some n in grind (arith, z, f)))
    ∙ h y f) in
    omega (arith, one, ih)

-- The committed transactions can be put in an order in which times never fall: they are sorted by their times.
use Rattle.std.proofs.Common.{◌≡◌, ℕ, zero, suc, ◌<◌, ◌≤◌, Bool, true, false, cond, ◌||◌, eqb, leb, ◌⊎◌, List, [], ◌∷◌, is_some, Some, None, Option, sym, refl, ap, ◌∙◌, inl, inr, arith}
use Rattle.std.proofs.lemmas.Bool.{eqb-true, eq-eqb, leb-true, leb-false, cases_Bool, cases_eq, cases_lt, or_cases, or_parts, cond_both}
use Rattle.std.proofs.lemmas.Bool.Decides.{nat_tests}
use Rattle.model.specs.Lines.{LineView}
use Rattle.serial.specs.Observer.{Seen}
use Rattle.serial.specs.Order.{time_in, time_of, has, InOrder, Chosen}
use Rattle.serial.proofs.Histories.{History, Good}
use Rattle.serial.proofs.Steps.{some_is}

abbrev tick_of : Option ℕ → ℕ
tick_of None = 0
tick_of (Some t) = t

-- x stands before the first that is not earlier
abbrev put : {P : Type 0} → Seen P → ℕ → List ℕ → List ℕ
put o x [] = x ∷ []
put o x (y ∷ ys) = cond (leb (tick_of (time_of o x)) (tick_of (time_of o y))) (x ∷ y ∷ ys) (y ∷ put o x ys)

-- the committed ones of the numbers below n
abbrev sorted : {P : Type 0} → Seen P → ℕ → List ℕ
sorted o zero = []
sorted o (suc n) = cond (is_some (time_of o n)) (put o n (sorted o n)) (sorted o n)

has_put : {P : Type 0} (o : Seen P) (x : ℕ) (ys : List ℕ) (z : ℕ) → has z (put o x ys) ≡ (eqb z x || has z ys)
has_put o x [] z = refl
has_put o x (y ∷ ys) z = cond_both (leb (tick_of (time_of o x)) (tick_of (time_of o y))) (x ∷ y ∷ ys) (y ∷ put o x ys) (λ l. has z l ≡ (eqb z x || (eqb z y || has z ys))) (λ _. refl)
    (λ _. ap (λ b. eqb z y || b) (has_put o x ys z) ∙ swap (eqb z y) (eqb z x) (has z ys))
  where
    swap : (a b c : Bool) → (a || (b || c)) ≡ (b || (a || c))
    swap true true c = refl
    swap true false c = refl
    swap false true c = refl
    swap false false c = refl

abbrev Timed : {P : Type 0} → Seen P → List ℕ → Type 0
Timed o ys = (y : ℕ) → has y ys ≡ true → (t : ℕ) × (time_of o y ≡ Some t)

tick_is : (q : Option ℕ) (t : ℕ) → q ≡ Some t → tick_of q ≡ t
tick_is q t e = ap tick_of e

order_put : {P : Type 0} (o : Seen P) (x : ℕ) (ys : List ℕ) → has x ys ≡ false → Timed o ys → InOrder o ys → InOrder o (put o x ys)
order_put o x [] n tm od = (refl, (λ y t u e. absurd (grind (arith, e))), tt)
order_put o x (y ∷ ys) n tm od = cond_both (leb (tick_of (time_of o x)) (tick_of (time_of o y))) (x ∷ y ∷ ys) (y ∷ put o x ys) (InOrder o)
    (λ le. (n, (λ z t u e tx tz. before z t u (leb-true (tick_of (time_of o x)) (tick_of (time_of o y)) le) tx tz (or_cases (eqb z y) (has z ys) e)), od))
    (λ gt. (
      has_put o x ys y ∙ apart,
      (λ z t u e ty tz. behind z t u (leb-false (tick_of (time_of o x)) (tick_of (time_of o y)) gt) ty tz (or_cases (eqb z x) (has z ys) (sym (has_put o x ys z) ∙ e))),
      order_put o x ys (or_parts (eqb x y) (has x ys) n).1 (λ z e. tm z (grind (arith, nat_tests))) od.2,
    ))
  where
    here : has y (y ∷ ys) ≡ true
    here = grind (arith, nat_tests)

    apart : (eqb y x || has y ys) ≡ false
    apart = let a = od.0 in let b = (or_parts (eqb x y) (has x ys) n).0 in grind (arith, nat_tests)

    before : (z t u : ℕ) → tick_of (time_of o x) ≤ tick_of (time_of o y) → time_of o x ≡ Some t → time_of o z ≡ Some u → (eqb z y ≡ true) ⊎ (has z ys ≡ true) → t ≤ u
    before z t u le tx tz (inl e) = let a = tick_is (time_of o x) t tx in let b = tick_is (time_of o y) u (ap (time_of o) (sym (eqb-true z y e)) ∙ tz) in omega (arith, a, b, le)
    before z t u le tx tz (inr e) = let k = tm y here in let a = tick_is (time_of o x) t tx in let b = tick_is (time_of o y) k.0 k.1 in let c = od.1 z k.0 u e k.1 tz in omega (arith, a, b, c, le)

    behind : (z t u : ℕ) → tick_of (time_of o y) < tick_of (time_of o x) → time_of o y ≡ Some t → time_of o z ≡ Some u → (eqb z x ≡ true) ⊎ (has z ys ≡ true) → t ≤ u
    behind z t u gt ty tz (inl e) = let a = tick_is (time_of o y) t ty in let b = tick_is (time_of o x) u (ap (time_of o) (sym (eqb-true z x e)) ∙ tz) in omega (arith, a, b, gt)
    behind z t u gt ty tz (inr e) = od.1 z t u e ty tz

-- what is sorted: all committed ones below n, each once
record Below {P : Type 0} (o : Seen P) (n : ℕ) (xs : List ℕ) : Type 0 where
  only : Timed o xs
  small : (x : ℕ) → has x xs ≡ true → x < n
  all : (x t : ℕ) → time_of o x ≡ Some t → x < n → has x xs ≡ true
  order : InOrder o xs

module _ {P : Type 0} (o : Seen P) (n : ℕ) (k : Below o n (sorted o n)) where
  new : has n (sorted o n) ≡ false
  new = elim (cases_Bool (has n (sorted o n))) [ inl e ↦ absurd (let a = k.small n e in omega (arith, a)) | inr e ↦ e ]

  in_put : (x : ℕ) → has x (put o n (sorted o n)) ≡ true → (x ≡ n) ⊎ (has x (sorted o n) ≡ true)
  in_put x e = elim (or_cases (eqb x n) (has x (sorted o n)) (sym (has_put o n (sorted o n) x) ∙ e)) [ inl a ↦ inl (eqb-true x n a) | inr b ↦ inr b ]

  more : is_some (time_of o n) ≡ true → Below o (suc n) (put o n (sorted o n))
  more s = record {
    only = λ x e. elim (in_put x e) [ inl q ↦ (let t = some_is (time_of o n) s in (t.0, ap (time_of o) q ∙ t.1)) | inr b ↦ k.only x b ];
    small = λ x e. elim (in_put x e) [ inl q ↦ omega (arith, q) | inr b ↦ (let a = k.small x b in omega (arith, a)) ];
    all = λ x t e l. has_put o n (sorted o n) x ∙ elim (cases_eq x n) [ inl q ↦ (let a = eq-eqb x n q in grind (arith, nat_tests)) | inr ne ↦ (let a = k.all x t e (omega (arith, ne, l)) in grind (arith, nat_tests)) ];
    order = order_put o n (sorted o n) new k.only k.order;
  }

  skip : is_some (time_of o n) ≡ false → Below o (suc n) (sorted o n)
  skip s = record {
    only = k.only;
    small = λ x e. let a = k.small x e in omega (arith, a);
    all = λ x t e l. elim (cases_eq x n) [ inl q ↦ absurd (let a = ap is_some (ap (time_of o) (sym q) ∙ e) in grind (arith, a, s)) | inr ne ↦ k.all x t e (omega (arith, ne, l)) ];
    order = k.order;
  }

sorted_below : {P : Type 0} (o : Seen P) (n : ℕ) → Below o n (sorted o n)
sorted_below o zero = record { only = λ x e. absurd (grind (arith, e)); small = λ x e. absurd (grind (arith, e)); all = λ x t e l. absurd (omega arith); order = tt }
sorted_below o (suc n) = let k = sorted_below o n in cond_both (is_some (time_of o n)) (put o n (sorted o n)) (sorted o n) (Below o (suc n)) (more o n k) (skip o n k)

-- no number that is yet to be opened has committed
pub chosen : {P : Type 0} (v : LineView P) (h : History P) → Good v h → (xs : List ℕ) × Chosen h.seen xs
chosen {P} v h g = (sorted h.seen (suc v.opens), record { only = k.only; all = λ x t e. k.all x t e (born x t e); order = k.order })
  where
    k : Below h.seen (suc v.opens) (sorted h.seen (suc v.opens))
    k = sorted_below h.seen (suc v.opens)

    born : (x t : ℕ) → time_of h.seen x ≡ Some t → x < suc v.opens
    born x t e = elim (cases_lt v.opens x) [
      | inl l ↦ absurd (let a = sym (ap (λ d. time_in d.stage) (g.unborn x l).1) ∙ e in let z : ◌≡◌ {A = ℕ} 0 1 = cc in omega arith)
      | inr b ↦ omega (arith, b)
    ]

-- What an angle of a whole number of degrees is, and that no other number has it.
use Rattle.std.proofs.Common.{◌≡◌, ℕ, zero, suc, ◌-◌, ◌*◌, ◌/◌, ◌^◌, ◌<◌, ◌≤◌, min, Bool, true, false, cond, ◌&&◌, ◌||◌, T, eqb, leb, ℤ, pos, negsuc, neg_ℤ, Some, None, sym, refl, ap, ◌∙◌, subst, lt_irrefl, mul-pos, mul-one, mul_right_comm, mul-div_cancel, arith, eqb→eq, leb→le}
use mathlib.Core.Bool.{beq}
use native.Mathlib.Nat.{eq_of_mul-eq-mul_right}
use lib.Ieee.{Float, nan, inf, fin, binary32, up, down, eq, round, of_int, to_signed}
use lib.Ieee.Exact.{HasValue}
use lib.Ieee.Back.{round_whole}
use lib.Ieee.Fits.{down_pos, and_l, and_r}
use Rattle.std.proofs.lemmas.Bool.Decides.{nat_tests}
use Rattle.pose.specs.Degrees.{in_turn, whole_of, Whole}

abbrev signed_of : Bool → ℕ → ℤ
signed_of s a = cond s (neg_ℤ (pos a)) (pos a)

-- the size of what equals a whole number
size_is : (m : ℕ) (e : ℤ) (n : ℕ) (d : ℤ) (a : ℕ) → n * up d * 1 ≡ a * down d → m * up e * down d ≡ n * up d * down e → m * up e ≡ a * down e
size_is m e n d a h k =
    eq_of_mul-eq-mul_right (down d) (down_pos d) (m * up e) (a * down e)
    (k ∙ ap (λ (x : ℕ). x * down e) (sym (mul-one (n * up d)) ∙ h) ∙ mul_right_comm a (down d) (down e))

cut_is : (m : ℕ) (e : ℤ) (a : ℕ) → m * up e ≡ a * down e → m * up e / down e ≡ a
cut_is m e a h = ap (λ (x : ℕ). x / down e) h ∙ mul-div_cancel a (down_pos e)

to_is : (s : Bool) (m : ℕ) (e : ℤ) (a : ℕ) → a ≤ 360 → m * up e / down e ≡ a → to_signed 31 (fin s m e) ≡ signed_of s a
unfolding to_signed
to_is true m e a l h = ap (λ (x : ℕ). neg_ℤ (pos (min x (2 ^ 31)))) h ∙ ap (λ (x : ℕ). neg_ℤ (pos x)) (omega arith)
to_is false m e a l h = ap (λ (x : ℕ). pos (min x (2 ^ 31 - 1))) h ∙ ap (λ (x : ℕ). pos x) (omega arith)

zero_size : (a : ℕ) (e d : ℤ) → a * down e * down d ≡ 0 → a ≡ 0
zero_size zero e d h = refl
zero_size (suc a) e d h = absurd (lt_irrefl 0 (subst (λ (x : ℕ). 0 < x) h (mul-pos (mul-pos (omega arith) (down_pos e)) (down_pos d))))

-- a float that equals one of value ±a goes to ±a
same : (x y : Float) (t : Bool) (a : ℕ) → a ≤ 360 → HasValue y t a 1 → T (eq x y) → to_signed 31 x ≡ signed_of t a
unfolding eq
same nan y t a l v q = absurd q
same (inf s) nan t a l v q = absurd q
same (inf s) (inf r) t a l v q = absurd v
same (inf s) (fin r n d) t a l v q = absurd q
same (fin s m e) nan t a l v q = absurd q
same (fin s m e) (inf r) t a l v q = absurd q
same (fin s m e) (fin r n d) t a l v q =
    let A = m * up e * down d in
    let B = n * up d * down e in
    let k : A ≡ B = eqb→eq A B (and_l (eqb A B) (beq s r || eqb A 0) q) in
    let h = size_is m e n d a v.1 k in
    to_is s m e a l (cut_is m e a h) ∙ signs s r t v.0 (eqb A 0) (and_r (eqb A B) (beq s r || eqb A 0) q) (λ z. zero_size a e d (ap (λ (x : ℕ). x * down d) (sym h) ∙ eqb→eq A 0 z))
  where
    signs : (s r t : Bool) → r ≡ t → (b : Bool) → T (beq s r || b) → (T b → a ≡ 0) → signed_of s a ≡ signed_of t a
    signs true true t p b w z = ap (λ (x : Bool). signed_of x a) p
    signs false false t p b w z = ap (λ (x : Bool). signed_of x a) p
    signs true false t p b w z = subst (λ (x : Bool). signed_of true a ≡ signed_of x a) p (ap (λ (x : ℕ). neg_ℤ (pos x)) (z w) ∙ sym (ap pos (z w)))
    signs false true t p b w z = subst (λ (x : Bool). signed_of false a ≡ signed_of x a) p (ap pos (z w) ∙ sym (ap (λ (x : ℕ). neg_ℤ (pos x)) (z w)))

-- a value equals itself
level_self : (y : Float) (t : Bool) (a : ℕ) → HasValue y t a 1 → eq y y ≡ true
unfolding eq
level_self nan t a v = absurd v
level_self (inf s) t a v = absurd v
level_self (fin true m e) t a v = grind (arith, nat_tests)
level_self (fin false m e) t a v = grind (arith, nat_tests)

-- the size of a whole number of degrees
pub above : (n : ℕ) → in_turn (pos n) ≡ true → n ≤ 360
above n h = leb→le n 360 (subst T (sym h) tt)

pub below : (n : ℕ) → in_turn (negsuc n) ≡ true → suc n ≤ 360
below n h = let k : n ≤ 359 = leb→le n 359 (and_l (leb n 359) true (subst T (sym h) tt)) in omega arith

pub goes : (x : Float) (z : ℤ) → in_turn z ≡ true → T (eq x (of_int binary32 z)) → to_signed 31 x ≡ z
unfolding of_int
goes x (pos n) h q = let l = above n h in same x (round binary32 false n 1) false n l (round_whole binary32 false n (omega arith)) q
goes x (negsuc n) h q = let l = below n h in same x (round binary32 true (suc n) 1) true (suc n) l (round_whole binary32 true (suc n) (omega arith)) q

itself : (z : ℤ) → in_turn z ≡ true → eq (of_int binary32 z) (of_int binary32 z) ≡ true
unfolding of_int
itself (pos n) h = let l = above n h in level_self (round binary32 false n 1) false n (round_whole binary32 false n (omega arith))
itself (negsuc n) h = let l = below n h in level_self (round binary32 true (suc n) 1) true (suc n) (round_whole binary32 true (suc n) (omega arith))

-- degrees come back from their angle
pub comes_back : (z : ℤ) → in_turn z ≡ true → whole_of (of_int binary32 z) ≡ Some z
comes_back z h =
    let e : to_signed 31 (of_int binary32 z) ≡ z = goes (of_int binary32 z) z h (subst T (sym (itself z h)) tt) in
    ap (λ n. cond (in_turn n && eq (of_int binary32 z) (of_int binary32 n)) (Some n) None) e ∙ ap (λ b. cond (b && eq (of_int binary32 z) (of_int binary32 z)) (Some z) None) h ∙ ap (λ b. cond b (Some z) None) (itself z h)

falls : (b : Bool) → (T b → ⊥) → b ≡ false
falls true h = absurd (h tt)
falls false h = refl

-- what dropping the fraction finds is the whole number that the angle is
pub means : (x : Float) → Whole x (whole_of x)
means x = at (in_turn n) (eq x (of_int binary32 n)) refl refl
  where
    n : ℤ
    n = to_signed 31 x

    at : (b d : Bool) → in_turn (to_signed 31 x) ≡ b → eq x (of_int binary32 (to_signed 31 x)) ≡ d → Whole x (cond (b && d) (Some (to_signed 31 x)) None)
    at true true p q = (p, q)
    at false d p q = λ z h. falls (eq x (of_int binary32 z)) (λ t. let k : ◌≡◌ {A = Bool} true false = sym h ∙ ap in_turn (sym (goes x z h t)) ∙ p in let z : ◌≡◌ {A = ℕ} 0 1 = cc in omega arith)
    at true false p q = λ z h. falls (eq x (of_int binary32 z)) (λ t. subst T (sym (ap (λ y. eq x (of_int binary32 y)) (goes x z h t)) ∙ q) t)

-- The laws of item sets.
use Rattle.std.proofs.Common.{◌≡◌, ℕ, zero, suc, ◌+◌, ◌-◌, ◌*◌, ◌/◌, ◌%◌, ◌^◌, ◌<◌, ◌≤◌, true, false, not, ◌||◌, eqb, ltb, ◌⊎◌, sym, ap, ◌∙◌, subst, inl, inr, one-mul, pow-suc, zero-add, div-one, arith, pow_mono}
use lib.Bits.{bit_and, bit_or, and_shr, or_shr, and_mod, or_mod, and_zero_l, and_zero_r, or_zero_r, and_le_l}
use Rattle.std.proofs.lemmas.Nat.{one_shl, pow-add, shl-shr, shr-shr, shr_le, shr_below, pow_below, mod_below, mod-mul-add, div_below, div-add-mod'}
use Rattle.std.proofs.lemmas.Bool.{eqb-true, eq-eqb, ne_eqb, lt-ltb, cases_eq, cases_lt, both_ways, cond-true, cond-false, le-ltb}
use Rattle.std.proofs.lemmas.Bool.Decides.{nat_tests}
use Rattle.items.specs.declared.ItemSet.{ItemSet}
use Rattle.items.specs.Sets.{has, none, inserted, meeting}

-- the bit at a place
abbrev bit : ℕ → ℕ → ℕ
bit n i = n / 2 ^ i % 2

zero_shr : (i : ℕ) → 0 / 2 ^ i ≡ 0
zero_shr i = let h = shr_le 0 i in omega arith

low_shr : (n k : ℕ) → n < 2 ^ k → n / 2 ^ k ≡ 0
low_shr n k h = let q : n / 2 ^ k < 2 ^ 0 = shr_below n 0 k (subst (λ m. n < 2 ^ m) (sym (zero-add k)) h) in omega arith

two : (n : ℕ) → n % 2 < 2
two n = mod_below n 2 (omega arith)

below_two : (n : ℕ) → n < 2 → (n ≡ 0) ⊎ (n ≡ 1)
below_two n h = elim (cases_eq n 0) [ inl e ↦ inl e | inr ne ↦ inr (omega arith) ]

-- a power of two has one bit
own_bit : (k : ℕ) → bit (2 ^ k) k ≡ 1
own_bit k = ap (λ n. n % 2) (ap (λ m. m / 2 ^ k) (sym (one-mul (2 ^ k))) ∙ shl-shr 1 k)

higher_bit : (i k : ℕ) → i < k → bit (2 ^ i) k ≡ 0
higher_bit i k h = ap (λ n. n % 2) (low_shr (2 ^ i) k (pow_below i k h))

even : (j : ℕ) → 2 ^ (j + 1) % 2 ≡ 0
even j = ap (λ n. n % 2) (pow-add 2 j 1) ∙ (let e : 2 ^ j * 2 + 0 ≡ 2 ^ j * 2 = omega arith in ap (λ n. n % 2) (sym e) ∙ mod-mul-add (2 ^ j) 2 0 (omega arith))

lower_bit : (i k : ℕ) → k < i → bit (2 ^ i) k ≡ 0
lower_bit i k h =
    let j = i - k - 1 in
    let e : i ≡ (j + 1) + k = omega arith in
    ap (λ n. 2 ^ n / 2 ^ k % 2) e ∙ (ap (λ n. n / 2 ^ k % 2) (pow-add 2 (j + 1) k) ∙ (ap (λ n. n % 2) (shl-shr (2 ^ (j + 1)) k) ∙ even j))

other_bit : (i k : ℕ) → (i ≡ k → ⊥) → bit (2 ^ i) k ≡ 0
other_bit i k ne = elim (cases_lt i k) [ inl l ↦ higher_bit i k l | inr g ↦ lower_bit i k (omega arith) ]

or_bit : (a b k : ℕ) → bit (bit_or a b) k ≡ bit_or (bit a k) (bit b k)
or_bit a b k = ap (λ n. n % 2) (or_shr a b k) ∙ or_mod (a / 2 ^ k) (b / 2 ^ k) 1

and_bit : (a b k : ℕ) → bit (bit_and a b) k ≡ bit_and (bit a k) (bit b k)
and_bit a b k = ap (λ n. n % 2) (and_shr a b k) ∙ and_mod (a / 2 ^ k) (b / 2 ^ k) 1

or_one : (x : ℕ) → x < 2 → bit_or x 1 ≡ 1
or_one x h = elim (below_two x h) [ inl e ↦ ap (λ n. bit_or n 1) e | inr e ↦ ap (λ n. bit_or n 1) e ]

pub has_none : (i : ℕ) → has none i ≡ false
unfolding has none
has_none i = ap (λ n. eqb (n % 2) 1) (zero_shr i)

or_own : (a i k : ℕ) → i ≡ k → eqb (bit (bit_or a (2 ^ i)) k) 1 ≡ true
or_own a i k e =
    ap (λ n. eqb n 1) (or_bit a (2 ^ i) k ∙ (ap (λ n. bit_or (bit a k) n) (ap (λ m. bit (2 ^ m) k) e ∙ own_bit k) ∙ or_one (bit a k) (two (a / 2 ^ k))))

or_other : (a i k : ℕ) → (i ≡ k → ⊥) → bit (bit_or a (2 ^ i)) k ≡ bit a k
or_other a i k ne = or_bit a (2 ^ i) k ∙ (ap (λ n. bit_or (bit a k) n) (other_bit i k ne) ∙ or_zero_r (bit a k))

-- what an insertion adds
pub has_inserted : (s : ItemSet) (i k : ℕ) → i < 64 → has (inserted s i) k ≡ (eqb i k || has s k)
unfolding has inserted
has_inserted s i k h =
    let t : ItemSet = record { bits = bit_or s.bits (2 ^ i) } in
    ap (λ y. has y k) (cond-true (ltb i 64) t s (lt-ltb i 64 h))
    ∙ elim (cases_eq i k) [
      | inl e ↦ (let u = or_own s.bits i k e in let w = eq-eqb i k e in grind (arith, nat_tests))
      | inr ne ↦ (let u = or_other s.bits i k ne in let w = ne_eqb i k ne in grind (arith, nat_tests))
    ]

-- a number that is not 0 has a bit
some_bit : (k n : ℕ) → n < 2 ^ k → (n ≡ 0 → ⊥) → (i : ℕ) × (bit n i ≡ 1)
some_bit zero n h ne = absurd (ne (omega arith))
some_bit (suc k) n h ne = elim (below_two (n % 2) (two n)) [
  | inr odd ↦ (0, ap (λ m. m % 2) (div-one n) ∙ odd)
  | inl even ↦
      (let q = div-add-mod' n 2 in
      let half : n / 2 < 2 ^ k = div_below n 2 (2 ^ k) (omega arith) (subst (λ m. n < m) (pow-suc 2 k) h) in
      let r = some_bit k (n / 2) half (λ z. ne (omega (arith, q, z, even))) in
      (1 + r.0, ap (λ m. m % 2) (sym (shr-shr n 1 r.0)) ∙ r.1))
]

pub meeting_at : (s t : ItemSet) (i : ℕ) → has s i ≡ true → has t i ≡ true → meeting s t ≡ true
unfolding has meeting
meeting_at s t i a b =
    let x = eqb-true (bit s.bits i) 1 a in
    let y = eqb-true (bit t.bits i) 1 b in
    let one : bit (bit_and s.bits t.bits) i ≡ 1 = and_bit s.bits t.bits i ∙ (ap (λ n. bit_and n (bit t.bits i)) x ∙ ap (λ n. bit_and 1 n) y) in
    elim (cases_eq (bit_and s.bits t.bits) 0) [
      | inl z ↦ absurd (let w : bit 0 i ≡ 1 = ap (λ n. bit n i) (sym z) ∙ one in let v = zero_shr i in let u : bit 0 i ≡ 0 = ap (λ n. n % 2) v in omega (arith, w, u))
      | inr ne ↦ ap not (ne_eqb (bit_and s.bits t.bits) 0 ne)
    ]

and_one : (x y : ℕ) → x < 2 → y < 2 → bit_and x y ≡ 1 → (x ≡ 1) × (y ≡ 1)
and_one x y h l e = (
  elim (below_two x h) [ inl z ↦ absurd (let w = sym (and_zero_l y) ∙ (ap (λ n. bit_and n y) (sym z) ∙ e) in omega (arith, w)) | inr o ↦ o ],
  elim (below_two y l) [ inl z ↦ absurd (let w = sym (and_zero_r x) ∙ (ap (λ n. bit_and x n) (sym z) ∙ e) in omega (arith, w)) | inr o ↦ o ],
)

pub meeting_some : (s t : ItemSet) → s.bits < 2 ^ 64 → meeting s t ≡ true → (i : ℕ) × ((has s i ≡ true) × (has t i ≡ true))
unfolding has meeting
meeting_some s t h e =
    let n = bit_and s.bits t.bits in
    let small : n < 2 ^ 64 = (let l = and_le_l s.bits t.bits in omega (arith, l, h)) in
    let ne : n ≡ 0 → ⊥ = λ z. (let w = ap not (eq-eqb n 0 z) in both_ways (meeting s t) w e) in
    let r = some_bit 64 n small ne in
    let i = r.0 in
    let p = and_one (bit s.bits i) (bit t.bits i) (two (s.bits / 2 ^ i)) (two (t.bits / 2 ^ i)) (sym (and_bit s.bits t.bits i) ∙ r.1) in
    (i, (eq-eqb (bit s.bits i) 1 p.0, eq-eqb (bit t.bits i) 1 p.1))

-- a word has no item of 64 or above
pub has_high : (s : ItemSet) (i : ℕ) → s.bits < 2 ^ 64 → 64 ≤ i → has s i ≡ false
unfolding has
has_high s i h l = ap (λ n. eqb (n % 2) 1) (low_shr s.bits i (let m = pow_mono {i = 64} {j = i} l in omega (arith, m, h)))

-- the bits that an insertion writes are those of the set with the item
pub bits_inserted : (s : ItemSet) (i : ℕ) → i < 64 → ◌≡◌ {A = ItemSet} (record { bits = bit_or s.bits (1 * 2 ^ i % 2 ^ 64) }) (inserted s i)
unfolding inserted
bits_inserted s i h =
    let t : ItemSet = record { bits = bit_or s.bits (2 ^ i) } in
    ap (λ n. record { bits = bit_or s.bits n }) (one_shl i 64 h) ∙ sym (cond-true (ltb i 64) t s (lt-ltb i 64 h))

-- an item of 64 or above is left out
pub left_out : (s : ItemSet) (i : ℕ) → 64 ≤ i → s ≡ inserted s i
unfolding inserted
left_out s i h =
    let t : ItemSet = record { bits = bit_or s.bits (2 ^ i) } in
    sym (cond-false (ltb i 64) t s (le-ltb i 64 h))

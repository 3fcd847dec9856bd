-- What the formula of a vote means: the least and the greatest of the ticks that a cell may promise.
use Rattle.std.proofs.Common.{◌≡◌, ℕ, ◌<◌, ◌≤◌, max, Bool, true, false, cond, leb, List, [], ◌∷◌, refl, arith}
use Rattle.std.proofs.lemmas.Bool.{leb-true, leb-false}
use Rattle.protocol.specs.declared.messages.Vote.TheVariants.{Yes, No}
use Rattle.protocol.specs.Formulas.{greatest, conflict, earliest_tick, latest_tick, range, vote_of, Each, Open, Spans}

pub greatest_from : (m : ℕ) (ns : List ℕ) → m ≤ greatest m ns
greatest_from m [] = omega arith
greatest_from m (n ∷ ns) = let h = greatest_from (max m n) ns in omega arith

-- what is above the greatest is above each
above_each : (m : ℕ) (ns : List ℕ) (t : ℕ) → greatest m ns < t → Each (λ n. n < t) ns
above_each m [] t h = tt
above_each m (n ∷ ns) t h = (let k = greatest_from (max m n) ns in omega (arith, k, h), above_each (max m n) ns t h)

-- and the greatest is below what is above each
greatest_below : (m : ℕ) (ns : List ℕ) (t : ℕ) → m < t → Each (λ n. n < t) ns → greatest m ns < t
greatest_below m [] t h k = h
greatest_below m (n ∷ ns) t h k = let a = k.0 in greatest_below (max m n) ns t (omega (arith, a, h)) k.1

module _ (last : ℕ) (delays : List ℕ) (start clock spread : ℕ) where
  abbrev e : ℕ
  e = earliest_tick (conflict last delays) start

  abbrev l : ℕ
  l = latest_tick clock spread

  from : (t : ℕ) → Open last delays start clock spread t → e ≤ t
  from t o = let h = greatest_below last delays t o.after_last o.after_delays in let k = o.started in omega (arith, h, k)

  upto : (t : ℕ) → Open last delays start clock spread t → t ≤ l
  upto t o = let h = o.in_spread in let k = o.in_time in omega (arith, h, k)

  inside : (t : ℕ) → e ≤ t → t ≤ l → Open last delays start clock spread t
  inside t a b = record {
    after_last = let h = greatest_from last delays in omega (arith, h, a);
    after_delays = above_each last delays t (omega (arith, a));
    started = omega (arith, a);
    in_spread = omega (arith, b);
    in_time = omega (arith, b);
  }

  pub vote_means : Spans (Open last delays start clock spread) (vote_of last delays start clock spread)
  vote_means = go (leb e l) refl
    where
      go : (b : Bool) → leb e l ≡ b → Spans (Open last delays start clock spread) (cond b (Yes (range e l)) No)
      go true q = let h = leb-true e l q in record { ordered = h; first = inside e (omega arith) h; least = from; last = inside l h (omega arith); most = upto }
      go false q = λ t o. let h = leb-false e l q in let a = from t o in let b = upto t o in omega (arith, h, a, b)

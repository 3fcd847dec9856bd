-- One more act at the end of a log, and one more version of an item.
use Rattle.std.proofs.Common.{◌≡◌, ℕ, Bool, true, false, cond, ◌||◌, eqb, ltb, List, [], ◌∷◌, ◌++◌, is_some, Some, None, Option, sym, refl, ap, ◌∙◌, arith}
use Rattle.std.specs.Option.{option_or}
use Rattle.std.proofs.lemmas.Bool.{eqb-true, eqb-false, cond_both}
use Rattle.std.proofs.lemmas.Bool.Decides.{nat_tests}
use Rattle.store.specs.declared.Version.{Version}
use Rattle.store.specs.Meaning.{with, grown}
use Rattle.model.specs.Cells.{payload_of}
use Rattle.serial.specs.Observer.{Act, Got, Put}
use Rattle.serial.specs.Order.{wrote_in, got_in}
use Rattle.serial.proofs.Lives.{Cellful, play, Same, blank, newest, before}
use Rattle.serial.proofs.ActsKeep.{last_end}

-- a fact of a changed function, place by place
pub with_both : {X : Type 0} (f : ℕ → X) (i : ℕ) (x : X) (k : ℕ) (Q : X → Type 0) → (k ≡ i → Q x) → ((k ≡ i → ⊥) → Q (f k)) → Q (with f i x k)
with_both f i x k Q here there = cond_both (eqb i k) x (f k) Q (λ e. here (sym (eqb-true i k e))) (λ e. there (λ q. eqb-false i k e (sym q)))

pub wrote_put : {P : Type 0} (acts : List (Act P)) (i : ℕ) (p : P) (j : ℕ) → wrote_in (acts ++ (Put i p ∷ [])) j ≡ (eqb i j || wrote_in acts j)
wrote_put [] i p j = refl
wrote_put (Got k q ∷ acts) i p j = wrote_put acts i p j
wrote_put (Put k q ∷ acts) i p j = let ih : wrote_in (acts ++ (Put i p ∷ [])) j ≡ (eqb i j || wrote_in acts j) = wrote_put acts i p j in grind (arith, nat_tests)

pub got_put : {P : Type 0} (acts : List (Act P)) (i : ℕ) (p : P) (j : ℕ) → got_in (acts ++ (Put i p ∷ [])) j ≡ got_in acts j
got_put [] i p j = refl
got_put (Put k q ∷ acts) i p j = got_put acts i p j
got_put (Got k q ∷ acts) i p j = ap (λ b. eqb k j || b) (got_put acts i p j)

pub wrote_got : {P : Type 0} (acts : List (Act P)) (i : ℕ) (v : Option P) (j : ℕ) → wrote_in (acts ++ (Got i v ∷ [])) j ≡ wrote_in acts j
wrote_got [] i v j = refl
wrote_got (Got k q ∷ acts) i v j = wrote_got acts i v j
wrote_got (Put k q ∷ acts) i v j = ap (λ b. eqb k j || b) (wrote_got acts i v j)

pub got_got : {P : Type 0} (acts : List (Act P)) (i : ℕ) (v : Option P) (j : ℕ) → got_in (acts ++ (Got i v ∷ [])) j ≡ (eqb i j || got_in acts j)
got_got [] i v j = refl
got_got (Put k q ∷ acts) i v j = got_got acts i v j
got_got (Got k q ∷ acts) i v j = let ih : got_in (acts ++ (Got i v ∷ [])) j ≡ (eqb i j || got_in acts j) = got_got acts i v j in grind (arith, nat_tests)

pub play_put : {P : Type 0} (m : Cellful P) (acts : List (Act P)) (i : ℕ) (p : P) → play m (acts ++ (Put i p ∷ [])) ≡ with (play m acts) i (Some p)
play_put m [] i p = refl
play_put m (Put k q ∷ acts) i p = play_put (with m k (Some q)) acts i p
play_put m (Got k q ∷ acts) i p = play_put m acts i p

pub play_got : {P : Type 0} (m : Cellful P) (acts : List (Act P)) (i : ℕ) (v : Option P) → play m (acts ++ (Got i v ∷ [])) ≡ play m acts
play_got m [] i v = refl
play_got m (Put k q ∷ acts) i v = play_got (with m k (Some q)) acts i v
play_got m (Got k q ∷ acts) i v = play_got m acts i v

-- an item that is not written stays as it was
pub play_at : {P : Type 0} (m : Cellful P) (acts : List (Act P)) (i : ℕ) → play m acts i ≡ cond (wrote_in acts i) (play blank acts i) (m i)
play_at m [] i = refl
play_at m (Got k v ∷ acts) i = play_at m acts i
play_at m (Put k p ∷ acts) i =
    let a : play (with m k (Some p)) acts i ≡ cond (wrote_in acts i) (play blank acts i) (with m k (Some p) i) = play_at (with m k (Some p)) acts i in
    let b : play (with blank k (Some p)) acts i ≡ cond (wrote_in acts i) (play blank acts i) (with blank k (Some p) i) = play_at (with blank k (Some p)) acts i in
    grind (arith, nat_tests)

-- the reads see only what the items read hold
pub same_ext : {P : Type 0} (m n : Cellful P) (acts : List (Act P)) → ((i : ℕ) → got_in acts i ≡ true → m i ≡ n i) → Same m acts → Same n acts
same_ext m n [] h d = tt
same_ext m n (Got k v ∷ acts) h d = (sym (h k (grind (arith, nat_tests))) ∙ d.0, same_ext m n acts (λ i e. h i (grind (arith, nat_tests))) d.1)
same_ext m n (Put k p ∷ acts) h d = same_ext (with m k (Some p)) (with n k (Some p)) acts (λ i e. ap (cond (eqb k i) (Some p)) (h i e)) d

pub same_put : {P : Type 0} (m : Cellful P) (acts : List (Act P)) (i : ℕ) (p : P) → Same m acts → Same m (acts ++ (Put i p ∷ []))
same_put m [] i p d = tt
same_put m (Got k q ∷ acts) i p d = (d.0, same_put m acts i p d.1)
same_put m (Put k q ∷ acts) i p d = same_put (with m k (Some q)) acts i p d

pub same_got : {P : Type 0} (m : Cellful P) (acts : List (Act P)) (i : ℕ) (v : Option P) → Same m acts → play m acts i ≡ v → Same m (acts ++ (Got i v ∷ []))
same_got m [] i v d e = (e, tt)
same_got m (Got k q ∷ acts) i v d e = (d.0, same_got m acts i v d.1 e)
same_got m (Put k q ∷ acts) i v d e = same_got (with m k (Some q)) acts i v d e

pub same_none : {P : Type 0} (m : Cellful P) (acts : List (Act P)) → ((i : ℕ) → got_in acts i ≡ false) → Same m acts
same_none m [] h = tt
same_none m (Got k v ∷ acts) h = absurd (let e : (eqb k k || got_in acts k) ≡ false = h k in grind (arith, nat_tests))
same_none m (Put k p ∷ acts) h = same_none (with m k (Some p)) acts h

before_end : {P : Type 0} (vs : List (Version P)) (u : Version P) (t : ℕ) → before (vs ++ (u ∷ [])) t ≡ cond (ltb u.time t) (Some u.payload) (before vs t)
before_end [] u t = refl
before_end {P} (w ∷ vs) u t = ap (λ o. option_or o old) (before_end vs u t) ∙ go (ltb u.time t)
  where
    old : Option P
    old = cond (ltb w.time t) (Some w.payload) None

    go : (b : Bool) → option_or (cond b (Some u.payload) (before vs t)) old ≡ cond b (Some u.payload) (option_or (before vs t) old)
    go true = refl
    go false = refl

-- the versions of an item after an install
pub grown_newest : {P : Type 0} (vs : List (Version P)) (t : ℕ) (o : Option P) → is_some o ≡ true → newest (grown vs t o) ≡ o
grown_newest vs t None e = absurd (grind (arith, e))
grown_newest vs t (Some p) e = ap payload_of (last_end vs (record { time = t; payload = p }))

pub grown_before : {P : Type 0} (vs : List (Version P)) (t : ℕ) (o : Option P) (n : ℕ) → is_some o ≡ true → before (grown vs t o) n ≡ cond (ltb t n) o (before vs n)
grown_before vs t None n e = absurd (grind (arith, e))
grown_before vs t (Some p) n e = before_end vs (record { time = t; payload = p }) n

-- The log of one transaction at one cell, as the observer's one list of uses grows; and replays of that list, cell by cell.
use Rattle.std.proofs.Common.{◌≡◌, ℕ, Bool, true, false, cond, ◌&&◌, ◌||◌, eqb, List, [], ◌∷◌, ◌++◌, Some, sym, refl, ap, ◌∙◌, subst, arith}
use mathlib.Core.Path.{fun_ext}
use Rattle.std.proofs.lemmas.Bool.{cond_both, eqb-true}
use Rattle.std.proofs.lemmas.Bool.Decides.{nat_tests}
use Rattle.protocol.specs.declared.sites.Site.{Site}
use Rattle.protocol.specs.declared.sites.Site.TheVariants.{Cell0, Cell1, Cell2, Cell3}
use Rattle.store.specs.Meaning.{with}
use Rattle.serial.specs.Observer.{same_site, Act, Got, Put, Use, Seen}
use Rattle.serial.specs.Order.{uses_of, acts_at, wrote_in, got_in, Memory, acting, Gives, replay, Faithful, replay_all, FaithfulAll}
use Rattle.serial.proofs.Lives.{Cellful, play, Same, blank}
use Rattle.serial.proofs.Histories.{log_at}
use Rattle.serial.proofs.Sites.{site_self}

abbrev pub use_of : {P : Type 0} → ℕ → Site → Act P → Use P
use_of x s a = record { tx = x; site = s; act = a }

-- one more use, at the end
acts_end : {P : Type 0} (y : ℕ) (z : Site) (us : List (Use P)) (x : ℕ) (s : Site) (a : Act P) →
    acts_at y z (us ++ (use_of x s a ∷ [])) ≡ cond (eqb x y && same_site z s) (acts_at y z us ++ (a ∷ [])) (acts_at y z us)
acts_end {P} y z [] x s a = refl
acts_end {P} y z (u ∷ us) x s a =
    let c : Bool = eqb u.tx y && same_site z u.site in
    let Q : Bool → Bool → Type 0 = λ c b. cond c (u.act ∷ cond b (acts_at y z us ++ (a ∷ [])) (acts_at y z us)) (cond b (acts_at y z us ++ (a ∷ [])) (acts_at y z us))
    ≡ cond b (cond c (u.act ∷ acts_at y z us) (acts_at y z us) ++ (a ∷ [])) (cond c (u.act ∷ acts_at y z us) (acts_at y z us)) in
    let all : (c b : Bool) → Q c b = λ c b. elim c as (λ c. Q c b) [ true ↦ elim b as (Q true) [ true ↦ refl | false ↦ refl ] | false ↦ elim b as (Q false) [ true ↦ refl | false ↦ refl ] ] in
    ap (λ l. cond c (u.act ∷ l) l) (acts_end y z us x s a) ∙ all c (eqb x y && same_site z s)

-- it grows the log of its transaction at its cell
pub log_here : {P : Type 0} (us : List (Use P)) (x : ℕ) (s : Site) (a : Act P) →
    ◌≡◌ {A = ℕ → List (Act P)} (λ y. acts_at y s (us ++ (use_of x s a ∷ []))) (with (λ y. acts_at y s us) x (acts_at x s us ++ (a ∷ [])))
log_here {P} us x s a = fun_ext (λ y. acts_end y s us x s a ∙ (ap (λ c. cond (eqb x y && c) (acts_at y s us ++ (a ∷ [])) (acts_at y s us)) (site_self s) ∙ go y (eqb x y) refl))
  where
    go : (y : ℕ) (b : Bool) → eqb x y ≡ b → cond (b && true) (acts_at y s us ++ (a ∷ [])) (acts_at y s us) ≡ cond b (acts_at x s us ++ (a ∷ [])) (acts_at y s us)
    go y true e = ap (λ n. acts_at n s us ++ (a ∷ [])) (sym (eqb-true x y e))
    go y false e = refl

site_sym : (s z : Site) → same_site s z ≡ same_site z s
site_sym Cell0 z = elim z as (λ z. same_site Cell0 z ≡ same_site z Cell0) [ Cell0 ↦ refl | Cell1 ↦ refl | Cell2 ↦ refl | Cell3 ↦ refl ]
site_sym Cell1 z = elim z as (λ z. same_site Cell1 z ≡ same_site z Cell1) [ Cell0 ↦ refl | Cell1 ↦ refl | Cell2 ↦ refl | Cell3 ↦ refl ]
site_sym Cell2 z = elim z as (λ z. same_site Cell2 z ≡ same_site z Cell2) [ Cell0 ↦ refl | Cell1 ↦ refl | Cell2 ↦ refl | Cell3 ↦ refl ]
site_sym Cell3 z = elim z as (λ z. same_site Cell3 z ≡ same_site z Cell3) [ Cell0 ↦ refl | Cell1 ↦ refl | Cell2 ↦ refl | Cell3 ↦ refl ]

-- and no log at another cell
pub log_away : {P : Type 0} (us : List (Use P)) (x : ℕ) (s : Site) (a : Act P) (z : Site) → same_site s z ≡ false →
    ◌≡◌ {A = ℕ → List (Act P)} (λ y. acts_at y z (us ++ (use_of x s a ∷ []))) (λ y. acts_at y z us)
log_away {P} us x s a z n = fun_ext (λ y. acts_end y z us x s a ∙ (ap (λ c. cond (eqb x y && c) (acts_at y z us ++ (a ∷ [])) (acts_at y z us)) (site_sym z s ∙ n) ∙ go y (eqb x y)))
  where
    go : (y : ℕ) (b : Bool) → cond (b && false) (acts_at y z us ++ (a ∷ [])) (acts_at y z us) ≡ acts_at y z us
    go y true = refl
    go y false = refl

-- what acts leave, and what their reads depend on
pub play_at : {P : Type 0} (m : Cellful P) (acts : List (Act P)) (i : ℕ) → play m acts i ≡ cond (wrote_in acts i) (play blank acts i) (m i)
play_at m [] i = refl
play_at m (Got k v ∷ acts) i = play_at m acts i
play_at m (Put k p ∷ acts) i =
    let a : play (with m k (Some p)) acts i ≡ cond (wrote_in acts i) (play blank acts i) (with m k (Some p) i) = play_at (with m k (Some p)) acts i in
    let b : play (with blank k (Some p)) acts i ≡ cond (wrote_in acts i) (play blank acts i) (with blank k (Some p) i) = play_at (with blank k (Some p)) acts i in
    grind (arith, nat_tests)

pub same_ext : {P : Type 0} (m n : Cellful P) (acts : List (Act P)) → ((i : ℕ) → got_in acts i ≡ true → m i ≡ n i) → Same m acts → Same n acts
same_ext m n [] h d = tt
same_ext m n (Got k v ∷ acts) h d = (sym (h k (grind (arith, nat_tests))) ∙ d.0, same_ext m n acts (λ i e. h i (grind (arith, nat_tests))) d.1)
same_ext m n (Put k p ∷ acts) h d = same_ext (with m k (Some p)) (with n k (Some p)) acts (λ i e. ap (cond (eqb k i) (Some p)) (h i e)) d

pub same_none : {P : Type 0} (m : Cellful P) (acts : List (Act P)) → ((i : ℕ) → got_in acts i ≡ false) → Same m acts
same_none m [] h = tt
same_none m (Got k v ∷ acts) h = absurd (let e : (eqb k k || got_in acts k) ≡ false = h k in grind (arith, nat_tests))
same_none m (Put k p ∷ acts) h = same_none (with m k (Some p)) acts h

-- one use of a replay, at each cell
module _ {P : Type 0} (m : Memory P) (z : Site) (s : Site) (acts : List (Act P)) where
  act_play : (a : Act P) (i : ℕ) → play (acting m z a s) acts i ≡ play (m s) (cond (same_site s z) (a ∷ acts) acts) i
  act_play (Got j q) i = cond_both (same_site s z) (Got j q ∷ acts) acts (λ l. play (m s) acts i ≡ play (m s) l i) (λ e. refl) (λ e. refl)
  act_play (Put j p) i = ap (λ b. play (λ k. cond (b && eqb j k) (Some p) (m s k)) acts i) (site_sym z s) ∙ go (same_site s z)
    where
      go : (b : Bool) → play (λ k. cond (b && eqb j k) (Some p) (m s k)) acts i ≡ play (m s) (cond b (Put j p ∷ acts) acts) i
      go true = refl
      go false = refl

  act_same : (a : Act P) → Same (m s) (cond (same_site s z) (a ∷ acts) acts) → Same (acting m z a s) acts
  act_same (Got j q) h = cond_both (same_site s z) (Got j q ∷ acts) acts (λ l. Same (m s) l → Same (m s) acts) (λ e k. k.1) (λ e k. k) h
  act_same (Put j p) h = subst (λ b. Same (λ k. cond (b && eqb j k) (Some p) (m s k)) acts) (site_sym s z) (go (same_site s z) h)
    where
      go : (b : Bool) → Same (m s) (cond b (Put j p ∷ acts) acts) → Same (λ k. cond (b && eqb j k) (Some p) (m s k)) acts
      go true k = k
      go false k = k

act_gives : {P : Type 0} (m : Memory P) (z : Site) (a : Act P) (acts : List (Act P)) → Same (m z) (cond (same_site z z) (a ∷ acts) acts) → Gives m z a
act_gives m z (Got j q) acts h = (subst (λ b. Same (m z) (cond b (Got j q ∷ acts) acts)) (site_self z) h).0
act_gives m z (Put j p) acts h = tt

-- the uses of x replayed are its acts played at each cell
pub replay_is : {P : Type 0} (x : ℕ) (us : List (Use P)) (m : Memory P) (s : Site) (i : ℕ) → replay m (uses_of x us) s i ≡ play (m s) (acts_at x s us) i
replay_is x [] m s i = refl
replay_is {P} x (u ∷ us) m s i =
    let P2 : Bool → Type 0 = λ b. replay m (cond b (u ∷ uses_of x us) (uses_of x us)) s i ≡ play (m s) (cond (b && same_site s u.site) (u.act ∷ acts_at x s us) (acts_at x s us)) i in
    elim (eqb u.tx x) as P2 [
      | true ↦ replay_is x us (acting m u.site u.act) s i ∙ act_play m u.site s (acts_at x s us) u.act i
      | false ↦ replay_is x us m s i
    ]

pub faithful_is : {P : Type 0} (x : ℕ) (us : List (Use P)) (m : Memory P) → ((s : Site) → Same (m s) (acts_at x s us)) → Faithful m (uses_of x us)
faithful_is x [] m h = tt
faithful_is {P} x (u ∷ us) m h =
    let P2 : Bool → Type 0 = λ b. ((s : Site) → Same (m s) (cond (b && same_site s u.site) (u.act ∷ acts_at x s us) (acts_at x s us))) → Faithful m (cond b (u ∷ uses_of x us) (uses_of x us)) in
    let all : (b : Bool) → P2 b = λ b. elim b as P2 [
      | true ↦ (λ k. (act_gives m u.site u.act (acts_at x u.site us) (k u.site), faithful_is x us (acting m u.site u.act) (λ s. act_same m u.site s (acts_at x s us) u.act (k s))))
      | false ↦ (λ k. faithful_is x us m k)
    ] in
    all (eqb u.tx x) h

-- transactions one after the other, at one cell
abbrev pub play_all : {P : Type 0} → (ℕ → List (Act P)) → Cellful P → List ℕ → Cellful P
play_all f m [] = m
play_all f m (x ∷ xs) = play_all f (play m (f x)) xs

abbrev pub SameAll : {P : Type 0} → (ℕ → List (Act P)) → Cellful P → List ℕ → Type 0
SameAll f m [] = Unit {0}
SameAll f m (x ∷ xs) = Same m (f x) × SameAll f (play m (f x)) xs

replay_cell : {P : Type 0} (x : ℕ) (us : List (Use P)) (m : Memory P) (s : Site) → replay m (uses_of x us) s ≡ play (m s) (acts_at x s us)
replay_cell x us m s = fun_ext (λ i. replay_is x us m s i)

pub replay_all_lem : {P : Type 0} (o : Seen P) (m : Memory P) (xs : List ℕ) (s : Site) → replay_all o m xs s ≡ play_all (log_at o s) (m s) xs
replay_all_lem o m [] s = refl
replay_all_lem o m (x ∷ xs) s = replay_all_lem o (replay m (uses_of x o.uses)) xs s ∙ ap (λ f. play_all (log_at o s) f xs) (replay_cell x o.uses m s)

pub faithful_all : {P : Type 0} (o : Seen P) (m : Memory P) (xs : List ℕ) → ((s : Site) → SameAll (log_at o s) (m s) xs) → FaithfulAll o m xs
faithful_all o m [] h = tt
faithful_all o m (x ∷ xs) h = (faithful_is x o.uses m (λ s. (h s).0), faithful_all o (replay m (uses_of x o.uses)) xs (λ s. subst (λ f. SameAll (log_at o s) f xs) (sym (replay_cell x o.uses m s)) (h s).1))

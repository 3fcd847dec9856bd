-- Each change of a cell of functions keeps what versions, staged payloads and logs have to do with each other.
use Rattle.std.proofs.Common.{◌≡◌, ℕ, ◌<◌, ◌≤◌, true, false, cond, ltb, ◌⊎◌, List, [], ◌∷◌, ◌++◌, Option, sym, refl, ap, ◌∙◌, inl, inr, arith}
use Rattle.std.proofs.lemmas.Bool.{cases_eq, cases_Bool, cases_lt, both_ways, cond-false}
use Rattle.std.proofs.lemmas.Bool.Decides.{nat_tests}
use Rattle.protocol.specs.declared.messages.Range.{Range}
use Rattle.store.specs.Meaning.{with}
use Rattle.serial.specs.Observer.{Act, Got, Put}
use Rattle.serial.proofs.Lives.{Life, Working, Prepared, Left, Dropped, is_unknown, is_prepared, is_installed, is_holding, has_interval, lo, hi, Image, Inv, play, Same, blank, newest, before, Latest, Nobody, Ties}
use Rattle.serial.proofs.Changes.{with_life, with_read, with_write, with_end, with_install, MayRead, MayWrite, MayVote}
use Rattle.serial.proofs.Logs.{with_both, wrote_put, got_put, wrote_got, got_got, play_put, play_got, play_at, same_ext, same_put, same_got, same_none, grown_newest, grown_before}

-- nothing happened to the versions of i, nor to those that wrote them
record Still {P : Type 0} (s r : Image P) (log more : ℕ → List (Act P)) (i : ℕ) : Type 0 where
  to : (z : ℕ) → is_installed (s.life z) ≡ true → r.life z ≡ s.life z
  from : (z : ℕ) → is_installed (r.life z) ≡ true → r.life z ≡ s.life z
  writes : (z : ℕ) → is_installed (s.life z) ≡ true → r.writes z i ≡ s.writes z i
  logs : (z : ℕ) → is_installed (s.life z) ≡ true → more z ≡ log z
  versions : r.versions i ≡ s.versions i

module _ {P : Type 0} (s r : Image P) (log more : ℕ → List (Act P)) (i : ℕ) (k : Still s r log more i) (t : ℕ) where
  still_version : ((y : ℕ) × Latest s log i t y) ⊎ Nobody s i t → ((y : ℕ) × Latest r more i t y) ⊎ Nobody r i t
  still_version (inl (y, l)) = inl (
    y,
    record {
      over = grind (arith, k.to y, l.over);
      writes = grind (arith, k.writes y, l.over, l.writes);
      early = grind (arith, k.to y, l.over, l.early);
      gave = ap (λ vs. before vs t) k.versions ∙ (l.gave ∙ ap (λ acts. play blank acts i) (sym (k.logs y l.over)));
      top = λ z a b c. grind (arith, k.from z, k.writes z, k.to y, l.over, l.top z);
    },
  )
  still_version (inr n) = inr (record {
    absent = ap (λ vs. before vs t) k.versions ∙ n.absent;
    nobody = λ z a b c. grind (arith, k.from z, k.writes z, n.nobody z);
  })

  still_top : (((y : ℕ) → is_installed (s.life y) ≡ true → s.writes y i ≡ true → hi (s.life y) < t) → before (s.versions i) t ≡ newest (s.versions i)) →
      ((y : ℕ) → is_installed (r.life y) ≡ true → r.writes y i ≡ true → hi (r.life y) < t) → before (r.versions i) t ≡ newest (r.versions i)
  still_top h g = rw k.versions (h (λ y a b. grind (arith, k.to y, k.writes y, g y)))

-- one that was not installed becomes another such
still_life : {P : Type 0} (s r : Image P) (log : ℕ → List (Act P)) (x : ℕ) (p : Life) → r.life ≡ with s.life x p → r.writes ≡ s.writes → r.versions ≡ s.versions →
    is_installed (s.life x) ≡ false → is_installed p ≡ false → (i : ℕ) → Still s r log log i
still_life s r log x p e w u a b i = record {
  to = λ z c. let q = ap (λ f. f z) e in grind (arith, nat_tests, q);
  from = λ z c. let q = ap (λ f. f z) e in grind (arith, nat_tests, q);
  writes = λ z c. ap (λ f. f z i) w;
  logs = λ z c. refl;
  versions = ap (λ f. f i) u;
}

-- one that joins has no acts yet
pub tie_join : {P : Type 0} (w : ℕ) (s : Image P) (log : ℕ → List (Act P)) (x n : ℕ) → Inv w s → Ties s log → is_unknown (s.life x) ≡ true → Ties (with_life s x (Working n)) log
tie_join w s log x n v k f =
    let r = with_life s x (Working n) in
    let still : (i : ℕ) → Still s r log log i = still_life s r log x (Working n) refl refl refl (grind (arith, f)) refl in
    record {
      writes = k.writes;
      reads = k.reads;
      stages = λ y i a b. grind (arith, nat_tests, k.stages y i, v.new_w x i);
      now = λ y a. elim (cases_eq y x) [
        | inl e ↦ same_none (λ i. newest (s.versions i)) (log y) (λ i. k.reads y i ∙ v.new_r y i (rw e f))
        | inr ne ↦ k.now y (grind (arith, nat_tests))
      ];
      then = λ y t a b c. k.then y t (grind (arith, nat_tests)) (grind (arith, nat_tests)) (grind (arith, nat_tests));
      version = λ i t. still_version s r log log i (still i) t (k.version i t);
      top = λ i t. still_top s r log log i (still i) t (k.top i t);
    }

-- what a read gives: the reader's own write, or the newest version
pub tie_read : {P : Type 0} (s : Image P) (log : ℕ → List (Act P)) (x j : ℕ) (q : Option P) → Ties s log → MayRead s x j →
    q ≡ cond (s.writes x j) (s.staged j) (newest (s.versions j)) → Ties (with_read s x j) (with log x (log x ++ (Got j q ∷ [])))
tie_read s log x j q k m e =
    let f = m.working in
    let r = with_read s x j in
    let more = with log x (log x ++ (Got j q ∷ [])) in
    let still : (i : ℕ) → Still s r log more i = λ i. record { to = λ z a. refl; from = λ z a. refl; writes = λ z a. refl; logs = λ z a. grind (arith, nat_tests); versions = refl } in
    record {
      writes = λ y i. grind (arith, nat_tests, k.writes y i, wrote_got (log x) j q i);
      reads = λ y i. grind (arith, nat_tests, k.reads y i, got_got (log x) j q i);
      stages = λ y i a b. grind (arith, nat_tests, k.stages y i, ap (λ m. m i) (play_got blank (log x) j q));
      now = λ y a. with_both log x (log x ++ (Got j q ∷ [])) y (Same (λ i. newest (s.versions i)))
          (λ _. same_got (λ i. newest (s.versions i)) (log x) j q (k.now x f) (grind (arith, play_at (λ i. newest (s.versions i)) (log x) j, k.writes x j, k.stages x j)))
          (λ ne. k.now y a);
      then = λ y t a b c. with_both log x (log x ++ (Got j q ∷ [])) y (Same (λ i. before (s.versions i) t)) (λ yx. absurd (grind arith)) (λ ne. k.then y t a b c);
      version = λ i t. still_version s r log more i (still i) t (k.version i t);
      top = λ i t. still_top s r log more i (still i) t (k.top i t);
    }

-- a write is staged, and no version changes
pub tie_write : {P : Type 0} (s : Image P) (log : ℕ → List (Act P)) (x j : ℕ) (p : P) → Ties s log → MayWrite s x j → Ties (with_write s x j p) (with log x (log x ++ (Put j p ∷ [])))
tie_write s log x j p k m =
    let f = m.working in
    let r = with_write s x j p in
    let more = with log x (log x ++ (Put j p ∷ [])) in
    let still : (i : ℕ) → Still s r log more i = λ i. record { to = λ z a. refl; from = λ z a. refl; writes = λ z a. grind (arith, nat_tests); logs = λ z a. grind (arith, nat_tests); versions = refl } in
    record {
      writes = λ y i. grind (arith, nat_tests, k.writes y i, wrote_put (log x) j p i);
      reads = λ y i. grind (arith, nat_tests, k.reads y i, got_put (log x) j p i);
      stages = λ y i a b. grind (arith, nat_tests, k.stages y i, ap (λ m. m i) (play_put blank (log x) j p), m.free y);
      now = λ y a. with_both log x (log x ++ (Put j p ∷ [])) y (Same (λ i. newest (s.versions i))) (λ _. same_put (λ i. newest (s.versions i)) (log x) j p (k.now x f)) (λ ne. k.now y a);
      then = λ y t a b c. with_both log x (log x ++ (Put j p ∷ [])) y (Same (λ i. before (s.versions i) t)) (λ yx. absurd (grind arith)) (λ ne. k.then y t a b c);
      version = λ i t. still_version s r log more i (still i) t (k.version i t);
      top = λ i t. still_top s r log more i (still i) t (k.top i t);
    }

-- a range above LAST: every version lies before it
pub tie_vote : {P : Type 0} (w : ℕ) (s : Image P) (log : ℕ → List (Act P)) (x : ℕ) (g : Range) → Inv w s → Ties s log → MayVote s x g → Ties (with_life s x (Prepared g.earliest g.latest)) log
tie_vote w s log x g v k m =
    let f = m.working in
    let r = with_life s x (Prepared g.earliest g.latest) in
    let still : (i : ℕ) → Still s r log log i = still_life s r log x (Prepared g.earliest g.latest) refl refl refl (grind (arith, f)) refl in
    record {
      writes = k.writes;
      reads = k.reads;
      stages = λ y i a b. grind (arith, nat_tests, k.stages y i);
      now = λ y a. k.now y (grind (arith, nat_tests));
      then = λ y t a b c. elim (cases_eq y x) [
        | inl e ↦ same_ext (λ i. newest (s.versions i)) (λ i. before (s.versions i) t) (log y) (λ i d. sym (k.top i t (λ z da wa. grind (arith, nat_tests, v.past z, m.later)))) (k.now y (grind arith))
        | inr ne ↦ k.then y t (grind (arith, nat_tests)) (grind (arith, nat_tests)) (grind (arith, nat_tests))
      ];
      version = λ i t. still_version s r log log i (still i) t (k.version i t);
      top = λ i t. still_top s r log log i (still i) t (k.top i t);
    }

-- the end of one that has holds, without an install
pub tie_end : {P : Type 0} (w : ℕ) (s : Image P) (log : ℕ → List (Act P)) (x : ℕ) (p : Life) → Inv w s → Ties s log → is_holding (s.life x) ≡ true → is_holding p ≡ false → has_interval p ≡ false →
    Ties (with_end s x p) log
tie_end w s log x p v k f g h =
    let r = with_end s x p in
    let still : (i : ℕ) → Still s r log log i = still_life s r log x p refl refl refl (grind (arith, f)) (grind (arith, h)) in
    record {
      writes = k.writes;
      reads = k.reads;
      stages = λ y i a b. grind (arith, nat_tests, k.stages y i, v.lock_w y x i);
      now = λ y a. k.now y (grind (arith, nat_tests));
      then = λ y t a b c. k.then y t (grind (arith, nat_tests)) (grind (arith, nat_tests)) (grind (arith, nat_tests));
      version = λ i t. still_version s r log log i (still i) t (k.version i t);
      top = λ i t. still_top s r log log i (still i) t (k.top i t);
    }

-- an abort of one that left
pub tie_drop : {P : Type 0} (s : Image P) (log : ℕ → List (Act P)) (x : ℕ) → Ties s log → s.life x ≡ Left → Ties (with_life s x Dropped) log
tie_drop s log x k f =
    let r = with_life s x Dropped in
    let still : (i : ℕ) → Still s r log log i = still_life s r log x Dropped refl refl refl (ap is_installed f) refl in
    record {
      writes = k.writes;
      reads = k.reads;
      stages = λ y i a b. grind (arith, nat_tests, k.stages y i);
      now = λ y a. k.now y (grind (arith, nat_tests));
      then = λ y t a b c. k.then y t (grind (arith, nat_tests)) (grind (arith, nat_tests)) (grind (arith, nat_tests));
      version = λ i t. still_version s r log log i (still i) t (k.version i t);
      top = λ i t. still_top s r log log i (still i) t (k.top i t);
    }

-- an install of one that is prepared, at a tick of its range
module _ {P : Type 0} (w : ℕ) (s : Image P) (log : ℕ → List (Act P)) (x n : ℕ) (v : Inv w s) (k : Ties s log) (f : is_prepared (s.life x) ≡ true) (above : lo (s.life x) ≤ n) (below : n ≤ hi (s.life x)) where
  new_before : (i t : ℕ) → s.writes x i ≡ true → before ((with_install s x n).versions i) t ≡ cond (ltb n t) (s.staged i) (before (s.versions i) t)
  new_before i t e = let g = grown_before (s.versions i) n (s.staged i) t (v.stages x i (grind arith) e) in grind (arith, g)

  old_before : (i t : ℕ) → s.writes x i ≡ false → before ((with_install s x n).versions i) t ≡ before (s.versions i) t
  old_before i t e = grind arith

  new_newest : (i : ℕ) → s.writes x i ≡ true → newest ((with_install s x n).versions i) ≡ s.staged i
  new_newest i e = let g = grown_newest (s.versions i) n (s.staged i) (v.stages x i (grind arith) e) in grind (arith, g)

  old_newest : (i : ℕ) → s.writes x i ≡ false → newest ((with_install s x n).versions i) ≡ newest (s.versions i)
  old_newest i e = grind arith

  -- up to the tick nothing is new
  same_before : (i t : ℕ) → (s.writes x i ≡ true → t ≤ n) → before ((with_install s x n).versions i) t ≡ before (s.versions i) t
  same_before i t h = elim (cases_Bool (s.writes x i)) [
    | inl e ↦ (let g = new_before i t e in let le = h e in g ∙ cond-false (ltb n t) (s.staged i) (before (s.versions i) t) (grind (arith, nat_tests)))
    | inr u ↦ old_before i t u
  ]

  install_old : (i t : ℕ) → (s.writes x i ≡ true → t ≤ n) → ((y : ℕ) × Latest s log i t y) ⊎ Nobody s i t → ((y : ℕ) × Latest (with_install s x n) log i t y) ⊎ Nobody (with_install s x n) i t
  install_old i t h (inl (y, l)) = inl (
    y,
    record {
      over = grind (arith, nat_tests, l.over);
      writes = l.writes;
      early = grind (arith, nat_tests, l.over, l.early);
      gave = same_before i t h ∙ l.gave;
      top = λ z a b c. grind (arith, nat_tests, l.top z, l.over);
    },
  )
  install_old i t h (inr none) = inr (record {
    absent = same_before i t h ∙ none.absent;
    nobody = λ z a b c. grind (arith, nat_tests, none.nobody z);
  })

  install_new : (i t : ℕ) → s.writes x i ≡ true → n < t → Latest (with_install s x n) log i t x
  install_new i t e lt = record {
    over = grind (arith, nat_tests);
    writes = e;
    early = grind (arith, nat_tests);
    gave = grind (arith, nat_tests, k.stages x i, new_before i t e);
    top = λ z a b c. grind (arith, nat_tests, v.above_w x z i);
  }

  install_version : (i t : ℕ) → ((y : ℕ) × Latest (with_install s x n) log i t y) ⊎ Nobody (with_install s x n) i t
  install_version i t = elim (cases_Bool (s.writes x i)) [
    | inl e ↦ elim (cases_lt n t) [ inl lt ↦ inl (x, install_new i t e lt) | inr ge ↦ install_old i t (λ _. ge) (k.version i t) ]
    | inr u ↦ install_old i t (λ e. absurd (both_ways (s.writes x i) u e)) (k.version i t)
  ]

  install_top : (i t : ℕ) → ((y : ℕ) → is_installed ((with_install s x n).life y) ≡ true → s.writes y i ≡ true → hi ((with_install s x n).life y) < t) →
      before ((with_install s x n).versions i) t ≡ newest ((with_install s x n).versions i)
  install_top i t h = elim (cases_Bool (s.writes x i)) [
    | inl e ↦ grind (arith, nat_tests, h x, new_before i t e, new_newest i e)
    | inr u ↦
        (let old : before (s.versions i) t ≡ newest (s.versions i) = k.top i t (λ y a b. grind (arith, nat_tests, h y)) in
        old_before i t u ∙ (old ∙ sym (old_newest i u)))
  ]

  -- whoever read a written item has its interval below the tick
  install_then : (y t : ℕ) → has_interval ((with_install s x n).life y) ≡ true → lo ((with_install s x n).life y) ≤ t → t ≤ hi ((with_install s x n).life y) →
      Same (λ i. before ((with_install s x n).versions i) t) (log y)
  install_then y t a b c = elim (cases_eq y x) [
    | inl e ↦ same_ext (λ i. before (s.versions i) t) (λ i. before ((with_install s x n).versions i) t) (log y)
        (λ i d. elim (cases_Bool (s.writes x i)) [ inl e ↦ grind (arith, nat_tests, new_before i t e) | inr u ↦ sym (old_before i t u) ])
        (k.then y t (grind (arith, nat_tests)) (grind (arith, nat_tests)) (grind (arith, nat_tests)))
    | inr ne ↦ same_ext (λ i. before (s.versions i) t) (λ i. before ((with_install s x n).versions i) t) (log y)
        (λ i d. elim (cases_Bool (s.writes x i)) [ inl e ↦ grind (arith, nat_tests, new_before i t e, k.reads y i, v.above_r x y i) | inr u ↦ sym (old_before i t u) ])
        (k.then y t (grind (arith, nat_tests)) (grind (arith, nat_tests)) (grind (arith, nat_tests)))
  ]

  pub tie_install : Ties (with_install s x n) log
  tie_install = record {
    writes = k.writes;
    reads = k.reads;
    stages = λ y i a b. grind (arith, nat_tests, k.stages y i, v.lock_w y x i);
    now = λ y a. same_ext (λ i. newest (s.versions i)) (λ i. newest ((with_install s x n).versions i)) (log y)
        (λ i d. elim (cases_Bool (s.writes x i)) [ inl e ↦ absurd (grind (arith, nat_tests, k.reads y i, v.lock_r x y i)) | inr u ↦ sym (old_newest i u) ])
        (k.now y (grind (arith, nat_tests)));
    then = install_then;
    version = install_version;
    top = install_top;
  }

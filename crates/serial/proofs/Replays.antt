-- Serial order, from what holds between a line's tables and what was seen.
use Rattle.std.proofs.Common.{◌≡◌, ℕ, suc, ◌<◌, ◌≤◌, true, false, ◌||◌, ◌⊎◌, List, [], ◌∷◌, Some, None, sym, refl, ap, ◌∙◌, inl, inr, arith}
use Rattle.std.proofs.lemmas.Bool.{cases_eq, cases_Bool}
use Rattle.std.proofs.lemmas.Bool.Decides.{nat_tests}
use Rattle.protocol.specs.declared.sites.Site.{Site}
use Rattle.protocol.specs.declared.messages.Decision.TheVariants.{Commit, Abort}
use Rattle.protocol.specs.declared.answers.Stage.{Stage}
use Rattle.protocol.specs.declared.answers.Stage.TheVariants.{Open, Polling, Decided}
use Rattle.protocol.specs.Sites.{at}
use Rattle.model.specs.Cells.{CellView}
use Rattle.model.specs.Lines.{LineView}
use Rattle.serial.specs.Observer.{Act, Seen}
use Rattle.serial.specs.Order.{time_in, time_of, wrote_in, got_in, writes, uses, empty, has, InOrder, Chosen, Calm, SerialOrder}
use Rattle.serial.specs.Runs.{newest_on}
use Rattle.serial.proofs.Lives.{Life, is_unknown, is_installed, is_over, hi, Image, Inv, Cellful, play, Same, blank, newest, before, Latest, Nobody, Ties, image, Within}
use Rattle.serial.proofs.Histories.{History, log_at, Good}
use Rattle.serial.proofs.Uses.{play_at, same_ext, same_none, play_all, SameAll, replay_all_lem, faithful_all}

pub time_stage : (t : Stage) (n : ℕ) → time_in t ≡ Some n → t ≡ Decided (Commit n)
time_stage Open n e = let z : ◌≡◌ {A = ℕ} 0 1 = cc in absurd (omega arith)
time_stage Polling n e = let z : ◌≡◌ {A = ℕ} 0 1 = cc in absurd (omega arith)
time_stage (Decided (Commit t)) n e = let h : t ≡ n = cc in ap (λ m. Decided (Commit m)) h
time_stage (Decided Abort) n e = let z : ◌≡◌ {A = ℕ} 0 1 = cc in absurd (omega arith)

-- one that used an item has joined there, and its time lies in its interval
module _ {P : Type 0} (v : LineView P) (h : History P) (g : Good v h) where
  used_in : (s : Site) (x i t : ℕ) → time_of h.seen x ≡ Some t → uses h.seen x s i ≡ true → Within (h.life s x) t
  used_in s x i t e u = g.sound.held x s t (time_stage (h.seen.transaction x).stage t e)
      (elim (cases_Bool (is_unknown (h.life s x))) [ inl f ↦ absurd (let a = (g.cells s).inv.new_w x i f in let b = (g.cells s).inv.new_r x i f in grind (arith, nat_tests)) | inr n ↦ n ])

  pub apart : (x y : ℕ) (s : Site) (i t u : ℕ) → (x ≡ y → ⊥) → time_of h.seen x ≡ Some t → time_of h.seen y ≡ Some u → writes h.seen x s i ≡ true → uses h.seen y s i ≡ true → t ≡ u → ⊥
  apart x y s i t u ne tx ty wx uy eq =
      let px : Within (h.life s x) t = used_in s x i t tx (grind (arith, nat_tests)) in
      let py : Within (h.life s y) u = used_in s y i u ty uy in
      let a1 = px.set in let a2 = px.above in let a3 = px.below in
      let b1 = py.set in let b2 = py.above in let b3 = py.below in
      let inv = (g.cells s).inv in
      elim (cases_Bool (writes h.seen y s i)) [
        | inl w ↦ (let k = inv.apart_w x y i ne wx w a1 b1 in elim k [ inl p ↦ omega (arith, p, a2, a3, b2, b3, eq) | inr p ↦ omega (arith, p, a2, a3, b2, b3, eq) ])
        | inr n ↦ (let r : got_in (log_at h.seen s y) i ≡ true = grind (arith, nat_tests) in let k = inv.apart_r x y i ne wx r a1 b1 in elim k [ inl p ↦ omega (arith, p, a2, a3, b2, b3, eq) | inr p ↦ omega (arith, p, a2, a3, b2, b3, eq) ])
      ]

-- what the replay at one cell uses of it, and of the commit times
record Facts {P : Type 0} (w : ℕ) (c : Image P) (l : ℕ → List (Act P)) (o : Seen P) : Type 0 where
  inv : Inv w c
  ties : Ties c l
  held : (x t : ℕ) → time_of o x ≡ Some t → is_unknown (c.life x) ≡ false → Within (c.life x) t
  used : (x i t : ℕ) → time_of o x ≡ Some t → (wrote_in (l x) i || got_in (l x) i) ≡ true → Within (c.life x) t
  done_at : (y : ℕ) → is_installed (c.life y) ≡ true → time_of o y ≡ Some (hi (c.life y))
  split : (x y i t u : ℕ) → (x ≡ y → ⊥) → time_of o x ≡ Some t → time_of o y ≡ Some u → wrote_in (l x) i ≡ true → (wrote_in (l y) i || got_in (l y) i) ≡ true → t ≡ u → ⊥

-- of the committed writers of i, those yet to be replayed are the ones from t on
abbrev Cut : {P : Type 0} → Seen P → (ℕ → List (Act P)) → List ℕ → ℕ → ℕ → Type 0
Cut o l xs i t = (y u : ℕ) → time_of o y ≡ Some u → wrote_in (l y) i ≡ true → (u < t → has y xs ≡ false) × (t ≤ u → has y xs ≡ true)

-- those before t are settled
abbrev Settled : {P : Type 0} → Seen P → (ℕ → List (Act P)) → Image P → ℕ → ℕ → Type 0
Settled o l c i t = (y u : ℕ) → time_of o y ≡ Some u → wrote_in (l y) i ≡ true → u < t → is_installed (c.life y) ≡ true

-- where both hold, the replay so far left the version before t
abbrev Right : {P : Type 0} → Seen P → (ℕ → List (Act P)) → Image P → Cellful P → List ℕ → Type 0
Right o l c m xs = (i t : ℕ) → Cut o l xs i t → Settled o l c i t → m i ≡ before (c.versions i) t

abbrev Behind : {P : Type 0} → Seen P → List ℕ → Type 0
Behind o xs = (y u z r : ℕ) → time_of o y ≡ Some u → has y xs ≡ false → has z xs ≡ true → time_of o z ≡ Some r → u ≤ r

abbrev Only : {P : Type 0} → Seen P → List ℕ → Type 0
Only o xs = (x : ℕ) → has x xs ≡ true → (t : ℕ) × (time_of o x ≡ Some t)

-- before a reader's time, all that wrote the item is settled
read_settled : {P : Type 0} (w : ℕ) (c : Image P) (l : ℕ → List (Act P)) (o : Seen P) → Facts w c l o → (x i ux : ℕ) → time_of o x ≡ Some ux → got_in (l x) i ≡ true → Settled o l c i ux
read_settled w c l o a x i ux tx ti y u ty wy lt =
    let px : Within (c.life x) ux = a.used x i ux tx (grind (arith, nat_tests)) in
    let py : Within (c.life y) u = a.used y i u ty (grind (arith, nat_tests)) in
    let a1 = px.set in let a3 = px.below in let a2 = px.above in
    let b1 = py.set in let b2 = py.above in let b3 = py.below in
    grind (arith, a.ties.writes y i, a.ties.reads x i, a.inv.above_r y x i)

-- one transaction of the replay
module _ {P : Type 0} (w : ℕ) (c : Image P) (l : ℕ → List (Act P)) (o : Seen P) (a : Facts w c l o) (x : ℕ) (xs : List ℕ) (m : Cellful P) (r : Right o l c m (x ∷ xs)) (bh : Behind o (x ∷ xs)) (on : Only o (x ∷ xs)) (od : InOrder o (x ∷ xs)) where
  has_x : has x (x ∷ xs) ≡ true
  has_x = grind (arith, nat_tests)

  right_at : (ux : ℕ) → time_of o x ≡ Some ux → (i : ℕ) → got_in (l x) i ≡ true → m i ≡ before (c.versions i) ux
  right_at ux tx i ti = r i ux (λ y u ty wy. (
    (λ lt. grind (arith, nat_tests, od.1 y ux u)),
    (λ ge. grind (arith, nat_tests, bh y u x ux, has_x, a.split y x i u ux)),
  ))
      (read_settled w c l o a x i ux tx ti)

  of_x : (ux : ℕ) → time_of o x ≡ Some ux → Same m (l x)
  of_x ux tx = elim (cases_Bool (is_unknown (c.life x))) [
    | inl f ↦ same_none m (l x) (λ i. a.ties.reads x i ∙ a.inv.new_r x i f)
    | inr n ↦ (let px : Within (c.life x) ux = a.held x ux tx n in
        same_ext (λ i. before (c.versions i) ux) m (l x) (λ i ti. sym (right_at ux tx i ti)) (a.ties.then x ux px.set px.above px.below))
  ]

  skip : (i t : ℕ) → Cut o l xs i t → Settled o l c i t → wrote_in (l x) i ≡ false → play m (l x) i ≡ before (c.versions i) t
  skip i t h q nw =
      let old : m i ≡ before (c.versions i) t = r i t (λ y u ty wy. grind (arith, nat_tests, h y u ty wy)) q in
      grind (arith, play_at m (l x) i)

  later : (ux : ℕ) → time_of o x ≡ Some ux → (i t : ℕ) → Cut o l xs i t → Settled o l c i t → wrote_in (l x) i ≡ true → (y : ℕ) → Latest c l i t y → (y ≡ x → ⊥) → ⊥
  later ux tx i t h q wx y k ne =
      let ty : time_of o y ≡ Some (hi (c.life y)) = a.done_at y k.over in
      let wy : wrote_in (l y) i ≡ true = a.ties.writes y i ∙ k.writes in
      let lt : ux < t = grind (arith, h x ux tx wx, od.0) in
      let dx : is_installed (c.life x) ≡ true = q x ux tx wx lt in
      let tx2 : time_of o x ≡ Some (hi (c.life x)) = a.done_at x dx in
      grind (arith, nat_tests, h y (hi (c.life y)) ty wy, k.early, od.0, k.top x, a.ties.writes x i, bh y (hi (c.life y)) x ux, has_x, a.split x y i ux (hi (c.life y)))

  wins : (ux : ℕ) → time_of o x ≡ Some ux → (i t : ℕ) → Cut o l xs i t → Settled o l c i t → wrote_in (l x) i ≡ true → ((y : ℕ) × Latest c l i t y) ⊎ Nobody c i t → play blank (l x) i ≡ before (c.versions i) t
  wins ux tx i t h q wx (inr n) = absurd (
      let lt : ux < t = grind (arith, h x ux tx wx, od.0) in
      let dx : is_installed (c.life x) ≡ true = q x ux tx wx lt in
      let tx2 : time_of o x ≡ Some (hi (c.life x)) = a.done_at x dx in
      grind (arith, n.nobody x, a.ties.writes x i))
  wins ux tx i t h q wx (inl (y, k)) = elim (cases_eq y x) [
    | inl e ↦ sym (k.gave ∙ ap (λ n. play blank (l n) i) e)
    | inr ne ↦ absurd (later ux tx i t h q wx y k ne)
  ]

  step_right : (ux : ℕ) → time_of o x ≡ Some ux → Right o l c (play m (l x)) xs
  step_right ux tx i t h q = elim (cases_Bool (wrote_in (l x) i)) [
    | inl wx ↦ (let e : play blank (l x) i ≡ before (c.versions i) t = wins ux tx i t h q wx (a.ties.version i t) in grind (arith, play_at m (l x) i))
    | inr nw ↦ skip i t h q nw
  ]

  step_behind : (ux : ℕ) → time_of o x ≡ Some ux → Behind o xs
  step_behind ux tx y u z q ty ny hz tz = grind (arith, nat_tests, bh y u z q, od.1 z ux q)

  step_only : Only o xs
  step_only y hy = on y (grind (arith, nat_tests))

replayed : {P : Type 0} (w : ℕ) (c : Image P) (l : ℕ → List (Act P)) (o : Seen P) → Facts w c l o → (xs : List ℕ) (m : Cellful P) → Right o l c m xs → Behind o xs → Only o xs → InOrder o xs → SameAll l m xs × Right o l c (play_all l m xs) []
replayed w c l o a [] m r bh on od = (tt, r)
replayed w c l o a (x ∷ xs) m r bh on od =
    let tx : (t : ℕ) × (time_of o x ≡ Some t) = on x (has_x w c l o a x xs m r bh on od) in
    let more : SameAll l (play m (l x)) xs × Right o l c (play_all l (play m (l x)) xs) [] =
    replayed w c l o a xs (play m (l x)) (step_right w c l o a x xs m r bh on od tx.0 tx.1) (step_behind w c l o a x xs m r bh on od tx.0 tx.1) (step_only w c l o a x xs m r bh on od) od.2 in
    ((of_x w c l o a x xs m r bh on od tx.0 tx.1, more.0), more.1)

module _ {P : Type 0} (w : ℕ) (c : Image P) (l : ℕ → List (Act P)) (o : Seen P) (a : Facts w c l o) (xs : List ℕ) (k : Chosen o xs) where
  nothing_before : Right o l c blank xs
  nothing_before i t h q = go (a.ties.version i t)
    where
      go : ((y : ℕ) × Latest c l i t y) ⊎ Nobody c i t → None ≡ before (c.versions i) t
      go (inl (y, n)) = absurd (grind (arith, h y (hi (c.life y)), a.done_at y, n.over, a.ties.writes y i, n.writes, n.early, k.all y (hi (c.life y))))
      go (inr n) = sym n.absent

  all_replayed : SameAll l blank xs × Right o l c (play_all l blank xs) []
  all_replayed = replayed w c l o a xs blank nothing_before (λ y u z r ty ny hz tz. grind (arith, k.all y u)) k.only k.order

  ends : (i : ℕ) → ((y t : ℕ) → time_of o y ≡ Some t → wrote_in (l y) i ≡ true → is_installed (c.life y) ≡ true) → play_all l blank xs i ≡ newest (c.versions i)
  ends i st =
      all_replayed.1 i (suc c.last)
      (λ y u ty wy. ((λ lt. refl), λ ge. absurd (late y u ty wy ge)))
      (λ y u ty wy lt. st y u ty wy)
      ∙ a.ties.top i (suc c.last) (λ y dy wy. grind (arith, a.inv.past y))
    where
      late : (y u : ℕ) → time_of o y ≡ Some u → wrote_in (l y) i ≡ true → suc c.last ≤ u → ⊥
      late y u ty wy ge = let d : is_installed (c.life y) ≡ true = st y u ty wy in let e = a.done_at y d in grind (arith, a.inv.past y, e)

installed_is : (p : Life) (t : ℕ) → Within p t → is_over p ≡ true → is_installed p ≡ true
installed_is p t w e = let a = w.set in grind arith

module _ {P : Type 0} (v : LineView P) (h : History P) (g : Good v h) where
  abbrev cell_at : Site → CellView P
  cell_at s = at v.cells s

  facts : (s : Site) → Facts (cell_at s).width (image (cell_at s) (h.life s) (log_at h.seen s)) (log_at h.seen s) h.seen
  facts s = record {
    inv = (g.cells s).inv;
    ties = (g.cells s).ties;
    held = λ x t e n. g.sound.held x s t (time_stage (h.seen.transaction x).stage t e) n;
    used = λ x i t e u. used_in v h g s x i t e u;
    done_at = λ y d. ap time_in (g.sound.won y s d);
    split = λ x y i t u. apart v h g x y s i t u;
  }

  -- the observer's word that a writer is settled
  settled_is : (s : Site) (i : ℕ) → Calm h.seen s i → (y t : ℕ) → time_of h.seen y ≡ Some t → wrote_in (log_at h.seen s y) i ≡ true → is_installed (h.life s y) ≡ true
  settled_is s i q y t e w = installed_is (h.life s y) t (used_in v h g s y i t e (grind (arith, nat_tests))) (sym (g.sound.settled y s) ∙ q y t e w)

  pub serial : SerialOrder (newest_on v) h.seen
  serial = record {
    different = apart v h g;
    reads = λ xs k. faithful_all h.seen empty xs (λ s. (all_replayed (cell_at s).width (image (cell_at s) (h.life s) (log_at h.seen s)) (log_at h.seen s) h.seen (facts s) xs k).0);
    ends = λ xs k s i q. ap (λ f. f i) (replay_all_lem h.seen empty xs s)
        ∙ ends (cell_at s).width (image (cell_at s) (h.life s) (log_at h.seen s)) (log_at h.seen s) h.seen (facts s) xs k i (settled_is s i q);
  }

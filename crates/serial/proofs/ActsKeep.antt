-- Each change of a cell of functions keeps what holds of holds, intervals, staged payloads and newest versions.
use Rattle.std.proofs.Common.{◌≡◌, ℕ, ◌<◌, ◌≤◌, Bool, true, false, cond, eqb, List, [], ◌∷◌, ◌++◌, is_some, Some, None, Option, sym, refl, ap, ◌∙◌, arith}
use Rattle.std.proofs.lemmas.Bool.{eq-eqb, ne_eqb, lt-ltb, cond-true, cond-false}
use Rattle.std.proofs.lemmas.Bool.Decides.{nat_tests}
use Rattle.protocol.specs.declared.messages.Range.{Range}
use Rattle.store.specs.declared.Version.{Version}
use Rattle.store.specs.Meaning.{with, last_of, later, grown}
use Rattle.serial.proofs.Lives.{Life, Working, Prepared, Installed, Left, Dropped, is_unknown, is_working, is_prepared, is_holding, has_interval, lo, hi, Image, Inv, Written}
use Rattle.serial.proofs.Changes.{with_life, with_read, with_write, with_end, with_install, MayRead, MayWrite, MayVote}

pub inv_join : {P : Type 0} (w : ℕ) (s : Image P) (x n : ℕ) → Inv w s → is_unknown (s.life x) ≡ true → Inv w (with_life s x (Working n))
inv_join w s x n v a = grind (arith, nat_tests)

pub inv_read : {P : Type 0} (w : ℕ) (s : Image P) (x i : ℕ) → Inv w s → MayRead s x i → Inv w (with_read s x i)
inv_read w s x i v m = grind (arith, nat_tests, m.free)

pub inv_write : {P : Type 0} (w : ℕ) (s : Image P) (x i : ℕ) (p : P) → Inv w s → MayWrite s x i → i < w → Inv w (with_write s x i p)
inv_write w s x i p v m h = grind (arith, nat_tests, m.free, m.unread)

pub inv_vote : {P : Type 0} (w : ℕ) (s : Image P) (x : ℕ) (g : Range) → Inv w s → MayVote s x g → Inv w (with_life s x (Prepared g.earliest g.latest))
inv_vote w s x g v m = grind (arith, nat_tests, m.delayed)

pub inv_install : {P : Type 0} (w : ℕ) (s : Image P) (x t : ℕ) → Inv w s → is_prepared (s.life x) ≡ true → lo (s.life x) ≤ t → t ≤ hi (s.life x) → Inv w (with_install s x t)
inv_install w s x t v a b c = grind (arith, nat_tests)

-- the end of one that has holds, without an install
pub inv_end : {P : Type 0} (w : ℕ) (s : Image P) (x : ℕ) (p : Life) → Inv w s → is_holding (s.life x) ≡ true → is_holding p ≡ false → has_interval p ≡ false → is_unknown p ≡ false → Inv w (with_end s x p)
inv_end w s x p v a b c d = grind (arith, nat_tests)

-- an abort of one that left
pub inv_drop : {P : Type 0} (w : ℕ) (s : Image P) (x : ℕ) → Inv w s → s.life x ≡ Left → Inv w (with_life s x Dropped)
inv_drop w s x v a = grind (arith, nat_tests)

-- one that was installed is not the one that changes
elsewhere : (f : ℕ → Life) (x y t : ℕ) (p : Life) → f y ≡ Installed t → (x ≡ y → ⊥) → with f x p y ≡ Installed t
elsewhere f x y t p e ne = cond-false (eqb x y) p (f y) (ne_eqb x y ne) ∙ e

other_than : (f : ℕ → Life) (x y t : ℕ) → f y ≡ Installed t → has_interval (f x) ≡ false → x ≡ y → ⊥
other_than f x y t e a q = let h : has_interval (f y) ≡ false = ap (λ z. has_interval (f z)) (sym q) ∙ a in grind (arith, h, e)

holding_other : (f : ℕ → Life) (x y t : ℕ) → f y ≡ Installed t → is_holding (f x) ≡ true → x ≡ y → ⊥
holding_other f x y t e a q = let h : is_holding (f y) ≡ true = ap (λ z. is_holding (f z)) (sym q) ∙ a in grind (arith, h, e)

-- a change of one that has no interval, or has holds
pub written_life : {P : Type 0} (s : Image P) (x : ℕ) (p : Life) → Written s → has_interval (s.life x) ≡ false → Written (with_life s x p)
written_life s x p h a i u e = let q = h i u e in (q.0, elsewhere s.life x q.0 u.time p q.1 (other_than s.life x q.0 u.time q.1 a), q.2)

pub written_end : {P : Type 0} (s : Image P) (x : ℕ) (p : Life) → Written s → is_holding (s.life x) ≡ true → Written (with_end s x p)
written_end s x p h a i u e = let q = h i u e in (q.0, elsewhere s.life x q.0 u.time p q.1 (holding_other s.life x q.0 u.time q.1 a), q.2)

pub written_write : {P : Type 0} (s : Image P) (x i : ℕ) (p : P) → Written s → Written (with_write s x i p)
written_write s x i p h j u e = let q = h j u e in let w = q.2 in (q.0, q.1, grind (arith, nat_tests))

pub last_end : {X : Type 0} (vs : List X) (u : X) → last_of (vs ++ (u ∷ [])) ≡ Some u
last_end [] u = refl
last_end (x ∷ []) u = refl
last_end (x ∷ y ∷ r) u = last_end (y ∷ r) u

grown_last : {P : Type 0} (vs : List (Version P)) (t : ℕ) (o : Option P) (u : Version P) → is_some o ≡ true → last_of (grown vs t o) ≡ Some u → t ≡ u.time
grown_last vs t None u h e = absurd (grind (arith, h))
grown_last {P} vs t (Some p) u h e = let w : Version P = record { time = t; payload = p } in let q = last_end vs w in let k : w ≡ u = cc in ap (λ z. z.time) k

pub holds_prepared : (p : Life) → is_prepared p ≡ true → is_holding p ≡ true
holds_prepared p e = grind arith

pub holds_working : (p : Life) → is_working p ≡ true → is_holding p ≡ true
holds_working p e = grind arith

pub written_install : {P : Type 0} (w : ℕ) (s : Image P) (x t : ℕ) → Inv w s → Written s → is_prepared (s.life x) ≡ true → Written (with_install s x t)
written_install w s x t v h a i u e = go (s.writes x i) refl e
  where
    go : (b : Bool) → s.writes x i ≡ b → last_of (cond b (grown (s.versions i) t (s.staged i)) (s.versions i)) ≡ Some u →
        (y : ℕ) × (with s.life x (Installed t) y ≡ Installed u.time) × (s.writes y i ≡ true)
    go true m f =
        (x, cond-true (eqb x x) (Installed t) (s.life x) (eq-eqb x x refl) ∙ ap (λ z. Installed z) (grown_last (s.versions i) t (s.staged i) u (v.stages x i (holds_prepared (s.life x) a) m) f), m)
    go false m f =
        let q = h i u f in
        (q.0, elsewhere s.life x q.0 u.time (Installed t) q.1 (holding_other s.life x q.0 u.time q.1 (holds_prepared (s.life x) a)), q.2)

later_than_lem : {P : Type 0} (o : Option (Version P)) (t : ℕ) → ((u : Version P) → o ≡ Some u → u.time < t) → later o t ≡ true
later_than_lem None t h = refl
later_than_lem (Some u) t h = lt-ltb u.time t (h u refl)

-- a tick of a prepared range is later than the newest version of each item that is written
pub installs_later : {P : Type 0} (w : ℕ) (s : Image P) (x t i : ℕ) → Inv w s → Written s → is_prepared (s.life x) ≡ true → lo (s.life x) ≤ t → s.writes x i ≡ true →
    later (last_of (s.versions i)) t ≡ true
installs_later w s x t i v h a le m = later_than_lem (last_of (s.versions i)) t (λ u q.
    let y = h i u q in
    let ne = holding_other s.life x y.0 u.time y.1 (holds_prepared (s.life x) a) in
    let z = v.above_w x y.0 i ne m y.2 a (ap has_interval y.1) in
    let d = ap hi y.1 in
    omega (arith, z, d, le))

-- What the rows mean once the staged row of an item is written or removed, or a staged row is added.
use Rattle.std.proofs.Common.{◌≡◌, ℕ, zero, suc, ◌<◌, Bool, true, false, cond, not, ◌&&◌, eqb, ltb, List, [], ◌∷◌, ◌++◌, set, Some, None, Option, sym, refl, ap, ◌∙◌, subst, inl, inr, append_assoc}
use Rattle.std.specs.Option.{option_or}
use Rattle.std.specs.List.{remove}
use Rattle.std.proofs.lemmas.List.{append-nil}
use Rattle.std.proofs.lemmas.Bool.{eq-eqb, ne_eqb, and_from, cond-true, cond-false, lt-ltb}
use Rattle.std.proofs.lemmas.Bool.Decides.{eqb_tells}
use Rattle.store.specs.declared.Version.{Version}
use Rattle.store.specs.Meaning.{with, rising, later, last_of}
use Rattle.store.proofs.Changing.{with_self}
use Rattle.store.proofs.Rising.{rising_grow}
use Rattle.journal.specs.declared.Row.{Row}
use Rattle.journal.specs.declared.Row.TheVariants.{Staged, Installed}
use Rattle.journal.specs.Rows.{item_of, version_in, staged_in, versions_of, staged_of, absent, precedes, sound, StagedAt}
use Rattle.journal.specs.Counts.{sound_parts, absent_parts, other_staged, absent_staged}
use Rattle.journal.proofs.Order.{other_version, absent_versions, none_before, none_after}

or_none : {X : Type 0} (o : Option X) → option_or o None ≡ o
or_none None = refl
or_none (Some x) = refl

-- a row that has nothing of the changed item stands in front
staged_front : {P : Type 0} (k q : ℕ) (o : ℕ → Option P) (w : Option P) (rest : ℕ → Option P) → o k ≡ None →
    option_or (o q) (with rest k w q) ≡ with (λ m. option_or (o m) (rest m)) k w q
staged_front k q o w rest e =
    elim (eqb_tells k q) [
      | inl t ↦
          ap (option_or (o q)) (cond-true (eqb k q) w (rest q) t.0) ∙ (ap (λ x. option_or x w) (ap o (sym t.1) ∙ e) ∙ sym (cond-true (eqb k q) w (option_or (o q) (rest q)) t.0))
      | inr t ↦
          ap (option_or (o q)) (cond-false (eqb k q) w (rest q) t.0) ∙ sym (cond-false (eqb k q) w (option_or (o q) (rest q)) t.0)
    ]

versions_front : {P : Type 0} (k q : ℕ) (o : ℕ → List (Version P)) (w : List (Version P)) (rest : ℕ → List (Version P)) →
    o q ++ with rest k (rest k ++ w) q ≡ with (λ m. o m ++ rest m) k ((o k ++ rest k) ++ w) q
versions_front k q o w rest =
    elim (eqb_tells k q) [
      | inl t ↦
          ap (λ vs. o q ++ vs) (cond-true (eqb k q) (rest k ++ w) (rest q) t.0)
          ∙ (ap (λ m. o m ++ (rest k ++ w)) (sym t.1) ∙ (sym (append_assoc (o k) (rest k) w) ∙ sym (cond-true (eqb k q) ((o k ++ rest k) ++ w) (o q ++ rest q) t.0)))
      | inr t ↦
          ap (λ vs. o q ++ vs) (cond-false (eqb k q) (rest k ++ w) (rest q) t.0) ∙ sym (cond-false (eqb k q) ((o k ++ rest k) ++ w) (o q ++ rest q) t.0)
    ]

-- the staged row of an item is written, with a row of the same item
pub set_staged : {P : Type 0} (n : ℕ) (rows : List (Row P)) (j k : ℕ) (p : P) (x : Row P) (q : ℕ) → sound n rows ≡ true → StagedAt rows j k p → item_of x ≡ k →
    staged_of (set rows j x) q ≡ with (staged_of rows) k (staged_in x k) q
set_staged n [] j k p x q h s e = absurd s
set_staged n (r ∷ rs) zero k p x q h s e =
    let a = none_after r rs k p (sound_parts n r rs h).1 s in
    elim (eqb_tells k q) [
      | inl t ↦
          ap (λ m. option_or (staged_in x m) (staged_of rs m)) (sym t.1) ∙ (ap (option_or (staged_in x k)) (absent_staged rs k a) ∙ (or_none (staged_in x k)
          ∙ sym (cond-true (eqb k q) (staged_in x k) (staged_of (r ∷ rs) q) t.0)))
      | inr t ↦
          ap (λ o. option_or o (staged_of rs q)) (other_staged x q (ap (λ m. eqb m q) e ∙ t.0) ∙ sym (other_staged r q (ap (λ y. eqb (item_of y) q) s ∙ t.0)))
          ∙ sym (cond-false (eqb k q) (staged_in x k) (staged_of (r ∷ rs) q) t.0)
    ]
set_staged n (r ∷ rs) (suc j) k p x q h s e =
    let b = sound_parts n r rs h in
    ap (option_or (staged_in r q)) (set_staged n rs j k p x q b.2 s e) ∙ staged_front k q (staged_in r) (staged_in x k) (staged_of rs) (none_before r rs j k p b.1 s)

pub set_versions : {P : Type 0} (n : ℕ) (rows : List (Row P)) (j k : ℕ) (p : P) (x : Row P) (q : ℕ) → sound n rows ≡ true → StagedAt rows j k p → item_of x ≡ k →
    versions_of (set rows j x) q ≡ with (versions_of rows) k (versions_of rows k ++ version_in x k) q
set_versions n [] j k p x q h s e = absurd s
set_versions n (r ∷ rs) zero k p x q h s e =
    let a = absent_versions rs k (none_after r rs k p (sound_parts n r rs h).1 s) in
    elim (eqb_tells k q) [
      | inl t ↦
          ap (λ m. version_in x m ++ versions_of rs m) (sym t.1) ∙ (ap (λ vs. version_in x k ++ vs) a ∙ (append-nil (version_in x k)
          ∙ (sym (ap (λ y. (version_in y k ++ versions_of rs k) ++ version_in x k) s ∙ ap (λ vs. vs ++ version_in x k) a)
          ∙ sym (cond-true (eqb k q) (versions_of (r ∷ rs) k ++ version_in x k) (versions_of (r ∷ rs) q) t.0))))
      | inr t ↦
          ap (λ vs. vs ++ versions_of rs q) (other_version x q (ap (λ m. eqb m q) e ∙ t.0) ∙ sym (ap (λ y. version_in y q) s))
          ∙ sym (cond-false (eqb k q) (versions_of (r ∷ rs) k ++ version_in x k) (versions_of (r ∷ rs) q) t.0)
    ]
set_versions n (r ∷ rs) (suc j) k p x q h s e =
    ap (λ vs. version_in r q ++ vs) (set_versions n rs j k p x q (sound_parts n r rs h).2 s e) ∙ versions_front k q (version_in r) (version_in x k) (versions_of rs)

set_absent : {P : Type 0} (rows : List (Row P)) (j k m : ℕ) (p : P) (x : Row P) → StagedAt rows j k p → item_of x ≡ k → absent m (set rows j x) ≡ absent m rows
set_absent [] j k m p x s e = absurd s
set_absent (r ∷ rs) zero k m p x s e = ap (λ i. not (eqb i m) && absent m rs) (e ∙ sym (ap item_of s))
set_absent (r ∷ rs) (suc j) k m p x s e = ap (λ b. not (eqb (item_of r) m) && b) (set_absent rs j k m p x s e)

set_precedes : {P : Type 0} (r : Row P) (rs : List (Row P)) (j k : ℕ) (p : P) (x : Row P) → StagedAt rs j k p → item_of x ≡ k → precedes r (set rs j x) ≡ precedes r rs
set_precedes (Staged i q) rs j k p x s e = set_absent rs j k i p x s e
set_precedes (Installed i v) rs j k p x s e = refl

may_stand : {P : Type 0} (x : Row P) (rs : List (Row P)) (k : ℕ) → item_of x ≡ k → absent k rs ≡ true → precedes x rs ≡ true
may_stand (Staged i q) rs k e a = ap (λ m. absent m rs) e ∙ a
may_stand (Installed i v) rs k e a = refl

pub set_sound : {P : Type 0} (n : ℕ) (rows : List (Row P)) (j k : ℕ) (p : P) (x : Row P) → sound n rows ≡ true → StagedAt rows j k p → item_of x ≡ k →
    sound n (set rows j x) ≡ true
set_sound n [] j k p x h s e = absurd s
set_sound n (r ∷ rs) zero k p x h s e =
    let b = sound_parts n r rs h in
    let Q : ℕ → Type 0 = λ m. m < n in
    and_from (ltb (item_of x) n) (precedes x rs && sound n rs) (lt-ltb (item_of x) n (subst Q (ap item_of s ∙ sym e) b.0))
    (and_from (precedes x rs) (sound n rs) (may_stand x rs k e (none_after r rs k p b.1 s)) b.2)
set_sound n (r ∷ rs) (suc j) k p x h s e =
    let b = sound_parts n r rs h in
    and_from (ltb (item_of r) n) (precedes r (set rs j x) && sound n (set rs j x)) (lt-ltb (item_of r) n b.0)
    (and_from (precedes r (set rs j x)) (sound n (set rs j x)) (set_precedes r rs j k p x s e ∙ b.1) (set_sound n rs j k p x b.2 s e))

-- a payload that is replaced leaves the versions
pub replaced_versions : {P : Type 0} (n : ℕ) (rows : List (Row P)) (j k : ℕ) (p o : P) (q : ℕ) → sound n rows ≡ true → StagedAt rows j k p →
    versions_of (set rows j (Staged k o)) q ≡ versions_of rows q
replaced_versions n rows j k p o q h s =
    set_versions n rows j k p (Staged k o) q h s refl
    ∙ ap (λ (f : ℕ → List (Version _)). f q) (with_self (versions_of rows) k (versions_of rows k ++ []) (append-nil (versions_of rows k)))

-- an install adds a version
pub installed_versions : {P : Type 0} (n : ℕ) (rows : List (Row P)) (j k : ℕ) (p : P) (v : Version P) (q : ℕ) → sound n rows ≡ true → StagedAt rows j k p →
    versions_of (set rows j (Installed k v)) q ≡ with (versions_of rows) k (versions_of rows k ++ (v ∷ [])) q
installed_versions n rows j k p v q h s =
    set_versions n rows j k p (Installed k v) q h s refl
    ∙ ap (λ vs. with (versions_of rows) k (versions_of rows k ++ vs) q) (cond-true (eqb k k) (v ∷ []) [] (eq-eqb k k refl))

rising_either : {P : Type 0} (b : Bool) (new old : List (Version P)) → rising new ≡ true → rising old ≡ true → rising (cond b new old) ≡ true
rising_either true new old h e = h
rising_either false new old h e = e

pub installed_rises : {P : Type 0} (n : ℕ) (rows : List (Row P)) (j k : ℕ) (p : P) (v : Version P) → sound n rows ≡ true → StagedAt rows j k p →
    ((q : ℕ) → rising (versions_of rows q) ≡ true) → later (last_of (versions_of rows k)) v.time ≡ true →
    (q : ℕ) → rising (versions_of (set rows j (Installed k v)) q) ≡ true
installed_rises n rows j k p v h s u l q =
    ap rising (installed_versions n rows j k p v q h s)
    ∙ rising_either (eqb k q) (versions_of rows k ++ (v ∷ [])) (versions_of rows q) (rising_grow (versions_of rows k) v (u k) l) (u q)

-- a staged row is added at the end
pub push_versions : {P : Type 0} (rows : List (Row P)) (k : ℕ) (p : P) (q : ℕ) → versions_of (rows ++ (Staged k p ∷ [])) q ≡ versions_of rows q
push_versions [] k p q = refl
push_versions (r ∷ rs) k p q = ap (λ vs. version_in r q ++ vs) (push_versions rs k p q)

or_parts : {X : Type 0} (o w : Option X) → option_or o w ≡ None → (o ≡ None) × (w ≡ None)
or_parts None w h = (refl, h)
or_parts (Some x) w h = (h, cc)

pub push_staged : {P : Type 0} (rows : List (Row P)) (k : ℕ) (p : P) (q : ℕ) → staged_of rows k ≡ None →
    staged_of (rows ++ (Staged k p ∷ [])) q ≡ with (staged_of rows) k (Some p) q
push_staged [] k p q e = or_none (cond (eqb k q) (Some p) None)
push_staged (r ∷ rs) k p q e =
    let o = or_parts (staged_in r k) (staged_of rs k) e in
    ap (option_or (staged_in r q)) (push_staged rs k p q o.1) ∙ staged_front k q (staged_in r) (Some p) (staged_of rs) o.0

push_absent : {P : Type 0} (rows : List (Row P)) (m : ℕ) (x : Row P) → absent m rows ≡ true → eqb (item_of x) m ≡ false → absent m (rows ++ (x ∷ [])) ≡ true
push_absent [] m x a e = ap (λ b. not b && true) e
push_absent (r ∷ rs) m x a e =
    let b = absent_parts m r rs a in
    and_from (not (eqb (item_of r) m)) (absent m (rs ++ (x ∷ []))) (ap not b.0) (push_absent rs m x b.1 e)

push_precedes : {P : Type 0} (r : Row P) (rs : List (Row P)) (k : ℕ) (p : P) → precedes r rs ≡ true → staged_in r k ≡ None → precedes r (rs ++ (Staged k p ∷ [])) ≡ true
push_precedes (Staged i q) rs k p h e =
    push_absent rs i (Staged k p) h (elim (eqb_tells i k) [ inl t ↦ (let f : Some q ≡ None = sym (cond-true (eqb i k) (Some q) None t.0) ∙ e in cc) | inr t ↦ ne_eqb k i (λ f. t.1 (sym f)) ])
push_precedes (Installed i v) rs k p h e = refl

pub push_sound : {P : Type 0} (n : ℕ) (rows : List (Row P)) (k : ℕ) (p : P) → k < n → sound n rows ≡ true → staged_of rows k ≡ None →
    sound n (rows ++ (Staged k p ∷ [])) ≡ true
push_sound n [] k p l h e = and_from (ltb k n) true (lt-ltb k n l) refl
push_sound n (r ∷ rs) k p l h e =
    let o = or_parts (staged_in r k) (staged_of rs k) e in
    let b = sound_parts n r rs h in
    and_from (ltb (item_of r) n) (precedes r (rs ++ (Staged k p ∷ [])) && sound n (rs ++ (Staged k p ∷ []))) (lt-ltb (item_of r) n b.0)
    (and_from (precedes r (rs ++ (Staged k p ∷ []))) (sound n (rs ++ (Staged k p ∷ []))) (push_precedes r rs k p b.1 o.0) (push_sound n rs k p l b.2 o.1))

-- the staged row of an item is removed
pub removed_versions : {P : Type 0} (rows : List (Row P)) (j k : ℕ) (p : P) (q : ℕ) → StagedAt rows j k p → versions_of (remove rows j) q ≡ versions_of rows q
removed_versions [] j k p q s = absurd s
removed_versions (r ∷ rs) zero k p q s = sym (ap (λ x. version_in x q ++ versions_of rs q) s)
removed_versions (r ∷ rs) (suc j) k p q s = ap (λ vs. version_in r q ++ vs) (removed_versions rs j k p q s)

pub removed_staged : {P : Type 0} (n : ℕ) (rows : List (Row P)) (j k : ℕ) (p : P) (q : ℕ) → sound n rows ≡ true → StagedAt rows j k p →
    staged_of (remove rows j) q ≡ with (staged_of rows) k None q
removed_staged n [] j k p q h s = absurd s
removed_staged n (r ∷ rs) zero k p q h s =
    elim (eqb_tells k q) [
      | inl t ↦
          ap (staged_of rs) (sym t.1) ∙ (absent_staged rs k (none_after r rs k p (sound_parts n r rs h).1 s) ∙ sym (cond-true (eqb k q) None (staged_of (r ∷ rs) q) t.0))
      | inr t ↦
          sym (ap (λ o. option_or o (staged_of rs q)) (other_staged r q (ap (λ y. eqb (item_of y) q) s ∙ t.0))) ∙ sym (cond-false (eqb k q) None (staged_of (r ∷ rs) q) t.0)
    ]
removed_staged n (r ∷ rs) (suc j) k p q h s =
    let b = sound_parts n r rs h in
    ap (option_or (staged_in r q)) (removed_staged n rs j k p q b.2 s) ∙ staged_front k q (staged_in r) None (staged_of rs) (none_before r rs j k p b.1 s)

removed_absent : {P : Type 0} (rows : List (Row P)) (j m : ℕ) → absent m rows ≡ true → absent m (remove rows j) ≡ true
removed_absent [] zero m a = refl
removed_absent [] (suc j) m a = refl
removed_absent (r ∷ rs) zero m a = (absent_parts m r rs a).1
removed_absent (r ∷ rs) (suc j) m a =
    let b = absent_parts m r rs a in and_from (not (eqb (item_of r) m)) (absent m (remove rs j)) (ap not b.0) (removed_absent rs j m b.1)

removed_precedes : {P : Type 0} (r : Row P) (rs : List (Row P)) (j : ℕ) → precedes r rs ≡ true → precedes r (remove rs j) ≡ true
removed_precedes (Staged i q) rs j h = removed_absent rs j i h
removed_precedes (Installed i v) rs j h = refl

pub removed_sound : {P : Type 0} (n : ℕ) (rows : List (Row P)) (j : ℕ) → sound n rows ≡ true → sound n (remove rows j) ≡ true
removed_sound n [] zero h = refl
removed_sound n [] (suc j) h = refl
removed_sound n (r ∷ rs) zero h = (sound_parts n r rs h).2
removed_sound n (r ∷ rs) (suc j) h =
    let b = sound_parts n r rs h in
    and_from (ltb (item_of r) n) (precedes r (remove rs j) && sound n (remove rs j)) (lt-ltb (item_of r) n b.0)
    (and_from (precedes r (remove rs j)) (sound n (remove rs j)) (removed_precedes r rs j b.1) (removed_sound n rs j b.2))

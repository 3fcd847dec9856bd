-- What each call does to a sound chain store: it writes one row that no version has, and the slot of one item.
use Rattle.std.proofs.Common.{◌≡◌, ℕ, ◌+◌, ◌<◌, ◌≤◌, true, false, List, [], ◌∷◌, ◌++◌, length, set, is_some, Some, None, vec_items, Option, sym, refl, ap, ◌∙◌, subst, inl, inr, add-one, arith, length-append, length-set, get_or-set_other, get_or-set_same}
use mathlib.Core.Path.{fun_ext}
use lib.Seq.{set-get_or}
use Rattle.std.proofs.lemmas.Bool.{eq-eqb}
use Rattle.std.proofs.lemmas.Bool.Decides.{eqb_tells}
use Rattle.store.specs.declared.Version.{Version}
use Rattle.store.specs.Meaning.{with, last_of, rising, later, used, held, grown}
use Rattle.store.proofs.Changing.{with_same, with_other, with_self, used_with, used_part}
use Rattle.store.proofs.Rising.{rising_grow}
use Rattle.chain.specs.declared.Row.{Row}
use Rattle.chain.specs.declared.Row.TheVariants.{Free, Staged, Installed}
use Rattle.chain.specs.declared.Slot.{Slot}
use Rattle.chain.specs.declared.Chain.{Chain}
use Rattle.chain.specs.Rows.{look, is_free, is_staged, is_installed, next_of, version_at, payload_at, payload_of, next_free, linked, along, slot_at, versions_of, staged_at, staged_of, is_kept, Sound}
use Rattle.chain.proofs.Links.{look_in, look_same, linked_set, along_set, staged_set, staged_uninstalled, staged_unfree, staged_once, free_uninstalled, free_unstaged, staged_held, linked_cons, linked_head, free_next, length_along}

-- the store as a whole
pub sound : {P : Type 0} {N : ℕ} (s : Chain P N) → Sound (vec_items s.rows) s.free s.left s.slots N
sound s = record { wide = s.wide; frees = s.frees; links = s.links; stages = s.stages; full = s.full; rises = s.rises }

-- a row that no version has, and that no other item than i has staged
record Open {P : Type 0} (rows : List (Row P)) (j i : ℕ) : Type 0 where
  pub within : j < length rows
  pub uninstalled : (k : ℕ) → is_installed k (look rows j) ≡ false
  pub unstaged : (k : ℕ) → (i ≡ k → ⊥) → is_staged k (look rows j) ≡ false

open_staged : {P : Type 0} (rows : List (Row P)) (j i : ℕ) → is_staged i (look rows j) ≡ true → Open rows j i
open_staged rows j i h = record {
  within = look_in (is_staged i) rows j refl h;
  uninstalled = λ k. staged_uninstalled i k (look rows j) h;
  unstaged = λ k ne. staged_once i k (look rows j) h ne;
}

open_free : {P : Type 0} (rows : List (Row P)) (j i : ℕ) → is_free (look rows j) ≡ true → Open rows j i
open_free rows j i h = record {
  within = look_in is_free rows j refl h;
  uninstalled = λ k. free_uninstalled k (look rows j) h;
  unstaged = λ k ne. free_unstaged k (look rows j) h;
}

-- a fact of every slot, from the one written and the others
each_slot : (Q : ℕ → Slot → Type 0) (slots : List Slot) (i : ℕ) (s : Slot) → i < length slots → Q i s →
    ((k : ℕ) → (i ≡ k → ⊥) → Q k (slot_at slots k)) → (k : ℕ) → Q k (slot_at (set slots i s) k)
each_slot Q slots i s l q r k =
    elim (eqb_tells i k) [
      | inl w ↦
          (let R : ℕ → Type 0 = λ n. Q n (slot_at (set slots i s) n) in
          let S : Slot → Type 0 = λ t. Q i t in subst R w.1 (subst S (sym (get_or-set_same slots i s _ l)) q))
      | inr w ↦
          (let S : Slot → Type 0 = λ t. Q k t in subst S (sym (get_or-set_other slots i k s _ (λ e. w.1 (sym e)))) (r k w.1))
    ]

of_held : {P : Type 0} (o : Option P) → held o ≡ 1 → is_some o ≡ true
of_held None h = absurd (omega (arith, h))
of_held (Some p) h = refl

-- a slot with another staged row
abbrev restaged : Slot → Option ℕ → Slot
restaged s t = record { newest = s.newest; count = s.count; staged = t }

module _ {P : Type 0} {rows : List (Row P)} {free : Option ℕ} {left : ℕ} {slots : List Slot} {w : ℕ} (h : Sound rows free left slots w) where
  -- the open row j becomes x, and the slot of the item i becomes s
  versions_op : (j i : ℕ) (x : Row P) (s : Slot) → Open rows j i → i < w →
      versions_of (set rows j x) (set slots i s) ≡ with (versions_of rows slots) i (along (set rows j x) s.count s.newest)
  versions_op j i x s o l =
      let vs = along (set rows j x) s.count s.newest in
      fun_ext (each_slot (λ k t. along (set rows j x) t.count t.newest ≡ with (versions_of rows slots) i vs k) slots i s (omega (arith, h.wide))
      (sym (with_same (versions_of rows slots) i vs))
      (λ k ne. along_set k rows j x (slot_at slots k).count (slot_at slots k).newest (o.uninstalled k) (h.links k) ∙ sym (with_other (versions_of rows slots) i k vs ne)))

  staged_op : (j i : ℕ) (x : Row P) (s : Slot) → Open rows j i → i < w →
      staged_of (set rows j x) (set slots i s) ≡ with (staged_of rows slots) i (staged_at (set rows j x) s.staged)
  staged_op j i x s o l =
      let p = staged_at (set rows j x) s.staged in
      fun_ext (each_slot (λ k t. staged_at (set rows j x) t.staged ≡ with (staged_of rows slots) i p k) slots i s (omega (arith, h.wide))
      (sym (with_same (staged_of rows slots) i p))
      (λ k ne. (staged_set k rows j x (slot_at slots k).staged (o.unstaged k ne) (h.stages k)).0 ∙ sym (with_other (staged_of rows slots) i k p ne)))

  sound_op : (j i : ℕ) (x : Row P) (s : Slot) (first : Option ℕ) (rest : ℕ) → Open rows j i → i < w →
      linked is_free (set rows j x) rest first ≡ true →
      linked (is_installed i) (set rows j x) s.count s.newest ≡ true →
      is_kept (set rows j x) i s.staged ≡ true →
      rest + (length (along (set rows j x) s.count s.newest) + held (staged_at (set rows j x) s.staged)) ≡ left + (length (versions_of rows slots i) + held (staged_of rows slots i)) →
      rising (along (set rows j x) s.count s.newest) ≡ true →
      Sound (set rows j x) first rest (set slots i s) w
  sound_op j i x s first rest o l frees link stage cost rise =
      let lw : i < length slots = omega (arith, h.wide) in
      record {
        wide = length-set slots i s ∙ h.wide;
        frees = frees;
        links = each_slot (λ k t. linked (is_installed k) (set rows j x) t.count t.newest ≡ true) slots i s lw link
            (λ k ne. linked_set (is_installed k) rows j x (slot_at slots k).count (slot_at slots k).newest (o.uninstalled k) (h.links k));
        stages = each_slot (λ k t. is_kept (set rows j x) k t.staged ≡ true) slots i s lw stage
            (λ k ne. (staged_set k rows j x (slot_at slots k).staged (o.unstaged k ne) (h.stages k)).1);
        full = (let a = used_with (versions_of rows slots) (staged_of rows slots) i (along (set rows j x) s.count s.newest) (staged_at (set rows j x) s.staged) w l in
            let b = ap (λ v. used v (staged_of (set rows j x) (set slots i s)) w) (versions_op j i x s o l) in
            let c = ap (λ t. used (with (versions_of rows slots) i (along (set rows j x) s.count s.newest)) t w) (staged_op j i x s o l) in
            let d = length-set rows j x in let e = h.full in omega arith);
        rises = each_slot (λ k t. rising (along (set rows j x) t.count t.newest) ≡ true) slots i s lw rise
            (λ k ne. ap rising (along_set k rows j x (slot_at slots k).count (slot_at slots k).newest (o.uninstalled k) (h.links k)) ∙ h.rises k);
      }

  -- the staged row of an item
  staged_row : (i j : ℕ) → (slot_at slots i).staged ≡ Some j → is_staged i (look rows j) ≡ true
  staged_row i j e = let Q : Option ℕ → Type 0 = λ o. is_kept rows i o ≡ true in subst Q e (h.stages i)

  pub staged_in_lem : (i j : ℕ) → (slot_at slots i).staged ≡ Some j → j < length rows
  staged_in_lem i j e = look_in (is_staged i) rows j refl (staged_row i j e)

  staged_counts : (i j : ℕ) → (slot_at slots i).staged ≡ Some j → held (staged_of rows slots i) ≡ 1
  staged_counts i j e = ap (λ o. held (staged_at rows o)) e ∙ staged_held i (look rows j) (staged_row i j e)

  pub some_staged : (i j : ℕ) → (slot_at slots i).staged ≡ Some j → is_some (staged_of rows slots i) ≡ true
  some_staged i j e = of_held (staged_of rows slots i) (staged_counts i j e)

  pub has_payload : (i j : ℕ) (r : Row P) → (slot_at slots i).staged ≡ Some j → look rows j ≡ Some r → is_some (payload_of r) ≡ true
  has_payload i j r e f = of_held (payload_of r) (sym (ap (λ t. held (payload_at t)) f) ∙ staged_held i (look rows j) (staged_row i j e))

  same_along : (i j : ℕ) (x : Row P) → Open rows j i → along (set rows j x) (slot_at slots i).count (slot_at slots i).newest ≡ versions_of rows slots i
  same_along i j x o = along_set i rows j x (slot_at slots i).count (slot_at slots i).newest (o.uninstalled i) (h.links i)

  same_link : (i j : ℕ) (x : Row P) → Open rows j i → linked (is_installed i) (set rows j x) (slot_at slots i).count (slot_at slots i).newest ≡ true
  same_link i j x o = linked_set (is_installed i) rows j x (slot_at slots i).count (slot_at slots i).newest (o.uninstalled i) (h.links i)

  same_versions : (i j : ℕ) (x : Row P) (t : Option ℕ) → Open rows j i → i < w → versions_of (set rows j x) (set slots i (restaged (slot_at slots i) t)) ≡ versions_of rows slots
  same_versions i j x t o l = versions_op j i x (restaged (slot_at slots i) t) o l ∙ with_self (versions_of rows slots) i _ (same_along i j x o)

  -- unstage
  pub unstage_sound : (i j : ℕ) → i < w → (slot_at slots i).staged ≡ Some j →
      Sound (set rows j (Free free)) (Some j) (left + 1) (set slots i (restaged (slot_at slots i) None)) w
  unstage_sound i j l e =
      let o = open_staged rows j i (staged_row i j e) in
      let a = same_along i j (Free free) o in
      let b = ap length a in
      let c = staged_counts i j e in
      sound_op j i (Free free) (restaged (slot_at slots i) None) (Some j) (left + 1) o l
      (linked_cons is_free (set rows j (Free free)) j left (Free free) (look_same rows j (Free free) o.within) refl
      (linked_set is_free rows j (Free free) left free (staged_unfree i (look rows j) (staged_row i j e)) h.frees))
      (same_link i j (Free free) o) refl (omega arith) (ap rising a ∙ h.rises i)

  pub unstage_staged : (i j : ℕ) → i < w → (slot_at slots i).staged ≡ Some j →
      staged_of (set rows j (Free free)) (set slots i (restaged (slot_at slots i) None)) ≡ with (staged_of rows slots) i None
  unstage_staged i j l e = staged_op j i (Free free) (restaged (slot_at slots i) None) (open_staged rows j i (staged_row i j e)) l

  pub unstage_versions : (i j : ℕ) → i < w → (slot_at slots i).staged ≡ Some j →
      versions_of (set rows j (Free free)) (set slots i (restaged (slot_at slots i) None)) ≡ versions_of rows slots
  unstage_versions i j l e = same_versions i j (Free free) None (open_staged rows j i (staged_row i j e)) l

  -- stage where something is staged: the row is written again
  pub replace_sound : (i j : ℕ) (p : P) → i < w → (slot_at slots i).staged ≡ Some j → Sound (set rows j (Staged i p)) free left slots w
  replace_sound i j p l e =
      let o = open_staged rows j i (staged_row i j e) in
      let a = same_along i j (Staged i p) o in
      let b = ap length a in
      let c = staged_counts i j e in
      let f = look_same rows j (Staged i p) o.within in
      let d : held (staged_at (set rows j (Staged i p)) (slot_at slots i).staged) ≡ 1 = ap (λ t. held (staged_at (set rows j (Staged i p)) t)) e ∙ ap (λ r. held (payload_at r)) f in
      let Q : List Slot → Type 0 = λ ss. Sound (set rows j (Staged i p)) free left ss w in
      subst Q (set-get_or slots i _)
      (sound_op j i (Staged i p) (slot_at slots i) free left o l
      (linked_set is_free rows j (Staged i p) left free (staged_unfree i (look rows j) (staged_row i j e)) h.frees)
      (same_link i j (Staged i p) o)
      (ap (is_kept (set rows j (Staged i p)) i) e ∙ (ap (is_staged i) f ∙ eq-eqb i i refl))
      (omega arith) (ap rising a ∙ h.rises i))

  pub replace_staged : (i j : ℕ) (p : P) → i < w → (slot_at slots i).staged ≡ Some j → staged_of (set rows j (Staged i p)) slots ≡ with (staged_of rows slots) i (Some p)
  replace_staged i j p l e =
      let o = open_staged rows j i (staged_row i j e) in
      ap (staged_of (set rows j (Staged i p))) (sym (set-get_or slots i _))
      ∙ (staged_op j i (Staged i p) (slot_at slots i) o l
      ∙ ap (with (staged_of rows slots) i) (ap (staged_at (set rows j (Staged i p))) e ∙ ap payload_at (look_same rows j (Staged i p) o.within)))

  pub replace_versions : (i j : ℕ) (p : P) → (slot_at slots i).staged ≡ Some j → versions_of (set rows j (Staged i p)) slots ≡ versions_of rows slots
  replace_versions i j p e =
      let o = open_staged rows j i (staged_row i j e) in
      fun_ext (λ k. along_set k rows j (Staged i p) (slot_at slots k).count (slot_at slots k).newest (o.uninstalled k) (h.links k))

  -- stage where nothing is staged: the first unused row is taken
  pub free_row : (j : ℕ) → free ≡ Some j → (is_free (look rows j) ≡ true) × (0 < left)
  free_row j e = let Q : Option ℕ → Type 0 = λ o. linked is_free rows left o ≡ true in linked_head is_free rows left j (subst Q e h.frees)

  pub free_in : (j : ℕ) → free ≡ Some j → j < length rows
  free_in j e = look_in is_free rows j refl (free_row j e).0

  pub stage_sound : (i j : ℕ) (p : P) (r : Row P) (rest : ℕ) → i < w → (slot_at slots i).staged ≡ None → free ≡ Some j → look rows j ≡ Some r → rest + 1 ≡ left →
      Sound (set rows j (Staged i p)) (next_free r) rest (set slots i (restaged (slot_at slots i) (Some j))) w
  stage_sound i j p r rest l n e f d =
      let o = open_free rows j i (free_row j e).0 in
      let a = same_along i j (Staged i p) o in
      let b = ap length a in
      let c : held (staged_of rows slots i) ≡ 0 = ap (λ t. held (staged_at rows t)) n in
      let s = look_same rows j (Staged i p) o.within in
      let u : held (payload_at (look (set rows j (Staged i p)) j)) ≡ 1 = ap (λ t. held (payload_at t)) s in
      let Q : Option ℕ → Type 0 = λ t. linked is_free rows left t ≡ true in
      sound_op j i (Staged i p) (restaged (slot_at slots i) (Some j)) (next_free r) rest o l
      (free_next rows j left rest (Staged i p) r (subst Q e h.frees) (omega arith) f)
      (same_link i j (Staged i p) o)
      (ap (is_staged i) s ∙ eq-eqb i i refl) (omega arith) (ap rising a ∙ h.rises i)

  pub stage_staged : (i j : ℕ) (p : P) → i < w → free ≡ Some j →
      staged_of (set rows j (Staged i p)) (set slots i (restaged (slot_at slots i) (Some j))) ≡ with (staged_of rows slots) i (Some p)
  stage_staged i j p l e =
      let o = open_free rows j i (free_row j e).0 in
      staged_op j i (Staged i p) (restaged (slot_at slots i) (Some j)) o l
      ∙ ap (with (staged_of rows slots) i) (ap payload_at (look_same rows j (Staged i p) o.within))

  pub stage_versions : (i j : ℕ) (p : P) → i < w → free ≡ Some j →
      versions_of (set rows j (Staged i p)) (set slots i (restaged (slot_at slots i) (Some j))) ≡ versions_of rows slots
  stage_versions i j p l e = same_versions i j (Staged i p) (Some j) (open_free rows j i (free_row j e).0) l

  -- the newest version
  pub newest_in : (i j : ℕ) → (slot_at slots i).newest ≡ Some j → j < length rows
  newest_in i j e =
      let Q : Option ℕ → Type 0 = λ t. linked (is_installed i) rows (slot_at slots i).count t ≡ true in
      look_in (is_installed i) rows j refl (linked_head (is_installed i) rows (slot_at slots i).count j (subst Q e (h.links i))).0

  -- install: the staged row becomes the newest version
  grown_along : (i j : ℕ) (v : Version P) → Open rows j i →
      along (set rows j (Installed i v (slot_at slots i).newest)) ((slot_at slots i).count + 1) (Some j) ≡ versions_of rows slots i ++ (v ∷ [])
  grown_along i j v o =
      ap (λ n. along (set rows j (Installed i v (slot_at slots i).newest)) n (Some j)) (add-one (slot_at slots i).count)
      ∙ (ap (λ r. along (set rows j (Installed i v (slot_at slots i).newest)) (slot_at slots i).count (next_of r) ++ version_at r)
      (look_same rows j (Installed i v (slot_at slots i).newest) o.within)
      ∙ ap (λ vs. vs ++ (v ∷ [])) (same_along i j (Installed i v (slot_at slots i).newest) o))

  pub install_sound : (i j : ℕ) (v : Version P) → i < w → (slot_at slots i).staged ≡ Some j → later (last_of (versions_of rows slots i)) v.time ≡ true →
      Sound (set rows j (Installed i v (slot_at slots i).newest)) free left (set slots i (record { newest = Some j; count = (slot_at slots i).count + 1; staged = None })) w
  install_sound i j v l e t =
      let o = open_staged rows j i (staged_row i j e) in
      let a = grown_along i j v o in
      let b = ap length a ∙ length-append (versions_of rows slots i) (v ∷ []) in
      let c = staged_counts i j e in
      sound_op j i (Installed i v (slot_at slots i).newest) (record { newest = Some j; count = (slot_at slots i).count + 1; staged = None }) free left o l
      (linked_set is_free rows j (Installed i v (slot_at slots i).newest) left free (staged_unfree i (look rows j) (staged_row i j e)) h.frees)
      (linked_cons (is_installed i) (set rows j (Installed i v (slot_at slots i).newest)) j (slot_at slots i).count (Installed i v (slot_at slots i).newest)
      (look_same rows j (Installed i v (slot_at slots i).newest) o.within) (eq-eqb i i refl) (same_link i j (Installed i v (slot_at slots i).newest) o))
      refl (omega arith) (ap rising a ∙ rising_grow (versions_of rows slots i) v (h.rises i) t)

  pub install_staged : (i j : ℕ) (v : Version P) → i < w → (slot_at slots i).staged ≡ Some j →
      staged_of (set rows j (Installed i v (slot_at slots i).newest)) (set slots i (record { newest = Some j; count = (slot_at slots i).count + 1; staged = None }))
      ≡ with (staged_of rows slots) i None
  install_staged i j v l e =
      staged_op j i (Installed i v (slot_at slots i).newest) (record { newest = Some j; count = (slot_at slots i).count + 1; staged = None }) (open_staged rows j i (staged_row i j e)) l

  pub install_versions : (i j t : ℕ) (p : P) (r : Row P) → i < w → (slot_at slots i).staged ≡ Some j → look rows j ≡ Some r → payload_of r ≡ Some p →
      versions_of (set rows j (Installed i (record { time = t; payload = p }) (slot_at slots i).newest)) (set slots i (record { newest = Some j; count = (slot_at slots i).count + 1; staged = None }))
      ≡ with (versions_of rows slots) i (grown (versions_of rows slots i) t (staged_of rows slots i))
  install_versions i j t p r l e f q =
      let o = open_staged rows j i (staged_row i j e) in
      let s : staged_of rows slots i ≡ Some p = ap (staged_at rows) e ∙ (ap payload_at f ∙ q) in
      versions_op j i (Installed i (record { time = t; payload = p }) (slot_at slots i).newest) (record { newest = Some j; count = (slot_at slots i).count + 1; staged = None }) o l
      ∙ ap (with (versions_of rows slots) i) (grown_along i j (record { time = t; payload = p }) o ∙ ap (grown (versions_of rows slots i) t) (sym s))

  -- an item has no more versions than there are rows
  pub count_in : (i : ℕ) → i < w → (slot_at slots i).count ≤ length rows
  count_in i l =
      let a = used_part (versions_of rows slots) (staged_of rows slots) i w l in
      let b = length_along i rows (slot_at slots i).count (slot_at slots i).newest (h.links i) in
      let c = h.full in omega arith

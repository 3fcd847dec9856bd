-- A chain store of unused rows alone.
use Rattle.std.proofs.Common.{◌≡◌, ℕ, zero, suc, ◌<◌, true, ◌&&◌, List, [], ◌∷◌, ◌++◌, length, replicate, Some, None, Option, sym, refl, ap, ◌∙◌, subst, arith, length-append}
use mathlib.Core.Path.{fun_ext}
use lib.ListN.{length-replicate}
use Rattle.std.proofs.lemmas.Bool.{and_parts, and_from}
use Rattle.store.specs.Meaning.{rising, used}
use Rattle.store.proofs.Changing.{used_none}
use Rattle.chain.specs.declared.Row.{Row}
use Rattle.chain.specs.declared.Row.TheVariants.{Free}
use Rattle.chain.specs.declared.Slot.{Slot}
use Rattle.chain.specs.Rows.{look, is_free, is_installed, next_of, linked, along, slot_at, versions_of, staged_at, staged_of, is_kept, Sound, free_rows, row_before}
use Rattle.chain.proofs.Links.{look_in}

look_more : {P : Type 0} (xs : List (Row P)) (x : Row P) → look (xs ++ (x ∷ [])) (length xs) ≡ Some x
look_more [] x = refl
look_more (y ∷ ys) x = look_more ys x

look_before : {P : Type 0} (xs : List (Row P)) (x : Row P) (i : ℕ) → i < length xs → look (xs ++ (x ∷ [])) i ≡ look xs i
look_before [] x i h = absurd (omega (arith, h))
look_before (y ∷ ys) x zero h = refl
look_before (y ∷ ys) x (suc i) h = look_before ys x i (omega (arith, h))

linked_more : {P : Type 0} (xs : List (Row P)) (x : Row P) (n : ℕ) (o : Option ℕ) → linked is_free xs n o ≡ true → linked is_free (xs ++ (x ∷ [])) n o ≡ true
linked_more xs x zero None p = refl
linked_more xs x zero (Some h) p = p
linked_more xs x (suc n) None p = p
linked_more xs x (suc n) (Some h) p =
    let ps = and_parts (is_free (look xs h)) (linked is_free xs n (next_of (look xs h))) p in
    let Q : Option (Row _) → Type 0 = λ r. (is_free r && linked is_free (xs ++ (x ∷ [])) n (next_of r)) ≡ true in
    subst Q (sym (look_before xs x h (look_in is_free xs h refl ps.0))) (and_from (is_free (look xs h)) _ ps.0 (linked_more xs x n (next_of (look xs h)) ps.1))

pub length_free : (P : Type 0) (n : ℕ) → length (free_rows {P = P} n) ≡ n
length_free P zero = refl
length_free P (suc n) = let a = length_free P n in let b = length-append (free_rows {P = P} n) (Free (row_before n) ∷ []) in omega arith

linked_free : (P : Type 0) (n : ℕ) → linked is_free (free_rows {P = P} n) n (row_before n) ≡ true
linked_free P zero = refl
linked_free P (suc n) =
    let e : look (free_rows {P = P} n ++ (Free (row_before n) ∷ [])) n ≡ Some (Free (row_before n)) =
    ap (look (free_rows {P = P} n ++ (Free (row_before n) ∷ []))) (sym (length_free P n)) ∙ look_more (free_rows {P = P} n) (Free (row_before n)) in
    let Q : Option (Row P) → Type 0 = λ r. (is_free r && linked is_free (free_rows {P = P} (suc n)) n (next_of r)) ≡ true in
    subst Q (sym e) (linked_more (free_rows {P = P} n) (Free (row_before n)) n (row_before n) (linked_free P n))

-- the slot of an item that has nothing
abbrev fresh : Slot
fresh = record { newest = None; count = 0; staged = None }

fresh_slot : (n k : ℕ) → slot_at (replicate n fresh) k ≡ fresh
fresh_slot zero k = refl
fresh_slot (suc n) zero = refl
fresh_slot (suc n) (suc k) = fresh_slot n k

pub fresh_versions : (P : Type 0) (rows : List (Row P)) (w : ℕ) → versions_of rows (replicate w fresh) ≡ (λ _. [])
fresh_versions P rows w = fun_ext (λ k. ap (λ s. along rows s.count s.newest) (fresh_slot w k))

pub fresh_staged : (P : Type 0) (rows : List (Row P)) (w : ℕ) → staged_of rows (replicate w fresh) ≡ (λ _. None)
fresh_staged P rows w = fun_ext (λ k. ap (λ s. staged_at rows s.staged) (fresh_slot w k))

pub fresh_sound : (P : Type 0) (rows : List (Row P)) (free : Option ℕ) (n w : ℕ) → rows ≡ free_rows n → free ≡ row_before n → Sound rows free n (replicate w fresh) w
fresh_sound P rows free n w e f =
    record {
      wide = length-replicate w fresh;
      frees = ap (λ o. linked is_free rows n o) f ∙ (ap (λ xs. linked is_free xs n (row_before n)) e ∙ linked_free P n);
      links = λ k. ap (λ s. linked (is_installed k) rows s.count s.newest) (fresh_slot w k);
      stages = λ k. ap (λ s. is_kept rows k s.staged) (fresh_slot w k);
      full = (let a = ap (λ v. used v (staged_of rows (replicate w fresh)) w) (fresh_versions P rows w) in
          let b = ap (λ s. used (λ _. []) s w) (fresh_staged P rows w) in
          let c = used_none P w in
          let d = ap length e in
          let g = length_free P n in omega arith);
      rises = λ k. ap (λ v. rising (v k)) (fresh_versions P rows w);
    }

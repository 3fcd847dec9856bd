-- A search of a list from its end back, by `find_map`: the last place at which its function gives a value, or that it gives none anywhere.
use Rattle.std.proofs.Common.{◌≡◌, ℕ, ◌+◌, ◌-◌, ◌<◌, ◌≤◌, true, List, [], ◌∷◌, length, slice_index_or, Some, None, Option, MatchOption, sym, refl, ap, ◌∙◌, subst, arith, length-append}
use Rattle.std.specs.Bool.{IsTrue}
use Rattle.std.specs.Fn.{Called}
use Rattle.std.specs.List.{push}
use Rattle.std.specs.Option.{option_map, IfSome, IsSomeAnd}
use Rattle.std.specs.Iterator.Runs.{Run, CallKeepsClosure, AllItemsGive, IsFirstToGive, ItemsMapToReversed, IsIdenticalRun, ProjectsRun}
use denote.Param.Members.{Mut}

map_map : {X R : Type 0} (v : X → R) (o : Option (ℕ × X)) → option_map (λ x. v x.1) o ≡ option_map v (option_map (λ x. x.1) o)
map_map v None = refl
map_map v (Some x) = refl

-- a run gave the items of a list from the end back, each seen through v
pub record Back {S X R : Type 0} {steps : S → Option X → S → Type 0} (p : Run steps) (v : X → R) (xs : List R) : Type 0 where
  pub within : p.len ≤ length xs
  pub all : p.whole ≡ true → p.len ≡ length xs
  pub reads : (k : ℕ) (d : R) → k < length xs → length xs - 1 - k < p.len → option_map v (p.at (length xs - 1 - k)) ≡ Some (slice_index_or xs k d)

-- `rev` of a slice's iterator
pub back_rev : {S T A R : Type 0} {steps : S → Option A → S → Type 0} {source : T → Option A → T → Type 0} (p : Run steps) (q : Run source) (v : A → R) (xs ys : List R) →
    ItemsMapToReversed q v xs → IsIdenticalRun p q → xs ≡ ys → Back p v ys
back_rev p q v xs ys m i e =
    let Q : List _ → Type 0 = λ zs. ItemsMapToReversed q v zs in
    let n = subst Q e m in
    record {
      within = (let a = n.0 in let b = i.0.0 in omega arith);
      all = λ w. sym i.0.0 ∙ n.1 (i.1 ∙ w);
      reads = λ k d l t. ap (option_map v) (sym (i.0.2 (length ys - 1 - k))) ∙ n.2 k d l (omega (arith, i.0.0));
    }

-- `rev` of its `enumerate`, whose numbers are the places
pub back_enumerate : {S T U X : Type 0} {steps : S → Option (ℕ × X) → S → Type 0} {mid : T → Option (ℕ × X) → T → Type 0} {source : U → Option X → U → Type 0}
    (p : Run steps) (a : Run mid) (q : Run source) {R : Type 0} (v : X → R) (xs ys : List R) →
    ItemsMapToReversed q v xs → IsIdenticalRun p a → ProjectsRun a q (λ x. x.1) → q.whole ≡ a.whole → xs ≡ ys → Back p (λ x. v x.1) ys
back_enumerate p a q v xs ys m i r w e =
    let Q : List _ → Type 0 = λ zs. ItemsMapToReversed q v zs in
    let n = subst Q e m in
    let both : (k : ℕ) → q.at k ≡ option_map (λ x. x.1) (p.at k) = λ k. r.2 k ∙ ap (option_map (λ x. x.1)) (i.0.2 k) in
    let len : q.len ≡ p.len = r.0 ∙ i.0.0 in
    record {
      within = (let h = n.0 in omega (arith, len));
      all = λ t. sym len ∙ n.1 (w ∙ (i.1 ∙ t));
      reads = λ k d l t. map_map v (p.at (length ys - 1 - k)) ∙ (ap (option_map v) (sym (both (length ys - 1 - k))) ∙ n.2 k d l (omega (arith, len)));
    }

pub pushed : {X : Type 0} (xs ys : List X) (y : X) → xs ≡ push ys y → length ys + 1 ≡ length xs
pushed xs ys y e = let a = ap length e in let b = length-append ys (y ∷ []) in omega arith

-- a numbered item's number, counted from the end
pub counted : {X : Type 0} (n m i : ℕ) (o p : Option (ℕ × X)) (x : ℕ × X) → p ≡ o → o ≡ Some x → IfSome p (λ y. y.0 + i + 1 ≡ n) → n ≡ m → x.0 + i + 1 ≡ m
counted n m i o None x e f h g = let z : ◌≡◌ {A = ℕ} 0 1 = cc in absurd (omega arith)
counted n m i o (Some y) x e f h g = let q : y ≡ x = cc in let r = ap (λ t. t.0) q in omega (arith, h, g)

-- the function gives the answer at the item that has place j in the list
pub record Gives {S X R C : Type 0} {steps : S → Option X → S → Type 0} (p : Run steps) (h : X → Option C) (v : X → R) (xs : List R) (j : ℕ) (d : R) (o : Option C) : Type 0 where
  pub item : X
  pub read : v item ≡ slice_index_or xs j d
  pub place : p.at (length xs - 1 - j) ≡ Some item
  pub gave : h item ≡ o

module _ {S X R F C : Type 0} {steps : S → Option X → S → Type 0} (p : Run steps) (g : Mut F (X × Unit {0}) (Option C)) (f : F) (h : X → Option C) (v : X → R) (xs : List R)
    (told : (x : X) (o : Option C) → Called g f (x, tt) o f → o ≡ h x) (b : Back p v xs) where
  from_some : (j : ℕ) (d : R) (o : Option C) (at : Option X) → p.at (length xs - 1 - j) ≡ at → option_map v at ≡ Some (slice_index_or xs j d) →
      IfSome at (λ x. Called g f (x, tt) o f) → Gives p h v xs j d o
  from_some j d o None e r k = let z : ◌≡◌ {A = ℕ} 0 1 = cc in absurd (omega arith)
  from_some j d o (Some x) e r k = record { item = x; read = cc; place = e; gave = sym (told x o k) }

  if_some : (o : Option X) (Q : X → Type 0) → IsSomeAnd o Q → IfSome o Q
  if_some None Q k = absurd k
  if_some (Some x) Q k = k

  gave_at : (j : ℕ) (d : R) (o : Option C) → j < length xs → length xs - 1 - j < p.len → IfSome (p.at (length xs - 1 - j)) (λ x. Called g f (x, tt) o f) → Gives p h v xs j d o
  gave_at j d o l t k = from_some j d o (p.at (length xs - 1 - j)) refl (b.reads j d l t) k

  pub last_found : (r : Option C) → CallKeepsClosure g f →
      MatchOption r (IsTrue p.whole × AllItemsGive p g f None) (λ y. (i : ℕ) × (i < p.len) × (p.len ≡ i + 1) × IsFirstToGive p g f (Some y) None i) →
      MatchOption r ((j : ℕ) (d : R) → j < length xs → Gives p h v xs j d None)
      (λ y. (j : ℕ) × (j < length xs) × ((d : R) → Gives p h v xs j d (Some y))
      × ((m : ℕ) (d : R) → j < m → m < length xs → Gives p h v xs m d None))
  last_found None keeps k = λ j d l. (let w = b.all k.0 in gave_at j d None l (omega arith) (k.1 keeps (length xs - 1 - j)))
  last_found (Some y) keeps (i, l, n, k) =
      let j = length xs - 1 - i in
      let w = b.within in
      let e : length xs - 1 - j ≡ i = omega arith in
      let Q : ℕ → Type 0 = λ m. IfSome (p.at m) (λ x. Called g f (x, tt) (Some y) f) in (
        j,
        omega arith,
        (λ d. gave_at j d (Some y) (omega arith) (omega arith) (subst Q (sym e) (if_some (p.at i) (λ x. Called g f (x, tt) (Some y) f) (k keeps).0))),
        (λ m d s t. gave_at m d None t (omega arith) (if_some (p.at (length xs - 1 - m)) (λ x. Called g f (x, tt) None f) ((k keeps).1 (length xs - 1 - m) (omega arith)))),
      )

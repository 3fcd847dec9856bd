-- Where words end, and that there is one way to take a text apart into words.
use Rattle.std.specs.Prelude.{◌≡◌, ℕ, zero, suc, ◌<◌, ◌≤◌, List, [], ◌∷◌, ◌++◌, length, take, drop, ◌≢◌, slice_index, refl}
use Rattle.std.proofs.Common.{sym, ap, ◌∙◌, subst, arith}
use Rattle.command.specs.Words.{Spaceless, Follows, Front, Nofront}

front_spaceless : (r : List ℕ) (e : ℕ) → e ≤ length r → ((k : ℕ) → k < e → slice_index r k ≢ 32) → Spaceless (take e r)
front_spaceless r zero l h = tt
front_spaceless [] (suc e) l h = absurd (omega arith)
front_spaceless (b ∷ r) (suc e) l h = (h 0 (omega arith), front_spaceless r e (omega arith) (λ k m q. h (suc k) (omega arith) q))

rest_follows : (r : List ℕ) (e : ℕ) → (e < length r → slice_index r e ≡ 32) → Follows (drop e r)
rest_follows [] zero h = tt
rest_follows [] (suc e) h = tt
rest_follows (b ∷ r) zero h = h (omega arith)
rest_follows (b ∷ r) (suc e) h = rest_follows r e (λ l. h (omega arith))

-- the first space ends the first word
pub first_word : (s r w t : List ℕ) (e : ℕ) → s ≡ 32 ∷ r → e ≤ length r → ((k : ℕ) → k < e → slice_index r k ≢ 32) → (e < length r → slice_index r e ≡ 32) → w ≡ take e r → t ≡ drop e r → r ≡ w ++ t → Front Spaceless (λ v. v) s w t
first_word s r w t e p l before found front back whole =
    (subst Spaceless (sym front) (front_spaceless r e l before), (p ∙ ap (λ x. 32 ∷ x) whole, subst Follows (sym back) (rest_follows r e found)))

pub tail_of : {x y : ℕ} {xs ys : List ℕ} → x ∷ xs ≡ y ∷ ys → xs ≡ ys
tail_of e = cc

-- two ways to read a word and a rest are one
pub one_split : (v w t u : List ℕ) → Spaceless v → Spaceless w → Follows t → Follows u → v ++ t ≡ w ++ u → (v ≡ w) × (t ≡ u)
one_split [] [] t u a b f g e = (refl, e)
one_split [] (y ∷ w) [] u a b f g e = let z : ◌≡◌ {A = ℕ} 0 1 = cc in absurd (omega arith)
one_split [] (y ∷ w) (x ∷ t) u a b f g e = absurd (b.0 (let k : x ≡ y = cc in sym k ∙ f))
one_split (x ∷ v) [] t [] a b f g e = let z : ◌≡◌ {A = ℕ} 0 1 = cc in absurd (omega arith)
one_split (x ∷ v) [] t (y ∷ u) a b f g e = absurd (a.0 (let k : x ≡ y = cc in k ∙ g))
one_split (x ∷ v) (y ∷ w) t u a b f g e =
    let h : x ≡ y = cc in
    let k : v ++ t ≡ w ++ u = cc in
    let m = one_split v w t u a.1 b.1 f g k in
    (ap (λ i. i ∷ v) h ∙ ap (λ i. y ∷ i) m.0, m.1)

-- a text whose first word no value spells begins with no value
pub unread : {X : Type 0} (lawful : X → Type 0) (spelled : X → List ℕ) → ((x : X) → lawful x → Spaceless (spelled x)) → (s w r : List ℕ) → Front Spaceless (λ v. v) s w r → ((x : X) → lawful x → w ≢ spelled x) → Nofront lawful spelled s
unread lawful spelled plain s w r f none x t g =
    let e : w ++ r ≡ spelled x ++ t = tail_of (sym f.1.0 ∙ g.1.0) in
    none x g.0 (one_split w (spelled x) r t f.0 (plain x g.0) f.1.1 g.1.1 e).0

-- two values at the front of a text are one, and so are the rests
pub same_front : {X : Type 0} (lawful : X → Type 0) (spelled : X → List ℕ) → ((x : X) → lawful x → Spaceless (spelled x)) → ((x y : X) → lawful x → lawful y → spelled x ≡ spelled y → x ≡ y) → (s : List ℕ) (x y : X) (t u : List ℕ) → Front lawful spelled s x t → Front lawful spelled s y u → (x ≡ y) × (t ≡ u)
same_front lawful spelled plain distinct s x y t u f g =
    let k = one_split (spelled x) (spelled y) t u (plain x f.0) (plain y g.0) f.1.1 g.1.1 (tail_of (sym f.1.0 ∙ g.1.0)) in
    (distinct x y f.0 g.0 k.0, k.1)

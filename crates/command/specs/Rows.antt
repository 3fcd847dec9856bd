-- Values in a row, each after a single space: one way to take a text apart into so many of them.
use Rattle.std.specs.Prelude.{◌≡◌, ℕ, zero, suc, ◌+◌, ◌<◌, List, [], ◌∷◌, ◌++◌, length, refl}
use Rattle.std.proofs.Common.{sym, ap, ◌∙◌, append_assoc, arith, length-append, append-nil, subst, get_or}
use Rattle.command.specs.Words.{Spaceless, Follows, Front, Nofront, spaced_of, AllLawful, After, Spelled}
use Rattle.command.specs.Splits.{same_front}

after_word : {X : Type 0} (spelled : X → List ℕ) (xs : List X) (t : List ℕ) → Follows t → Follows (spaced_of spelled xs ++ t)
after_word spelled [] t f = f
after_word spelled (x ∷ xs) t f = refl

pub after_any : {X : Type 0} (xs : List X) (t : List ℕ) → Follows t → After xs t
after_any [] t f = tt
after_any (x ∷ xs) t f = f

-- the first of some values stands at the front
first_front : {X : Type 0} (lawful : X → Type 0) (spelled : X → List ℕ) (s : List ℕ) (x : X) (xs : List X) (t : List ℕ) → lawful x → Follows t → s ≡ spaced_of spelled (x ∷ xs) ++ t → Front lawful spelled s x (spaced_of spelled xs ++ t)
first_front lawful spelled s x xs t p f e = (p, (e ∙ ap (λ y. 32 ∷ y) (append_assoc (spelled x) (spaced_of spelled xs) t), after_word spelled xs t f))

same_rows : {X : Type 0} (lawful : X → Type 0) (spelled : X → List ℕ) → ((x : X) → lawful x → Spaceless (spelled x)) → ((x y : X) → lawful x → lawful y → spelled x ≡ spelled y → x ≡ y) → (s : List ℕ) (xs ys : List X) (t u : List ℕ) → length xs ≡ length ys → AllLawful lawful xs → AllLawful lawful ys → After xs t → After ys u → s ≡ spaced_of spelled xs ++ t → s ≡ spaced_of spelled ys ++ u → (xs ≡ ys) × (t ≡ u)
same_rows lawful spelled plain distinct s [] [] t u l a b f g d e = (refl, sym d ∙ e)
same_rows lawful spelled plain distinct s [] (y ∷ ys) t u l a b f g d e = absurd (omega arith)
same_rows lawful spelled plain distinct s (x ∷ xs) [] t u l a b f g d e = absurd (omega arith)
same_rows lawful spelled plain distinct s (x ∷ xs) (y ∷ ys) t u l a b f g d e =
    let p = same_front lawful spelled plain distinct s x y _ _ (first_front lawful spelled s x xs t a.0 f d) (first_front lawful spelled s y ys u b.0 g e) in
    let k = same_rows lawful spelled plain distinct _ xs ys t u (omega arith) a.1 b.1 (after_any xs t f) (after_any ys u g) refl p.1 in
    (ap (λ z. z ∷ xs) p.0 ∙ ap (λ zs. y ∷ zs) k.0, k.1)

-- so many values at the front of a text are one row, and so are the rests
pub same_words : {X : Type 0} (lawful : X → Type 0) (spelled : X → List ℕ) → ((x : X) → lawful x → Spaceless (spelled x)) → ((x y : X) → lawful x → lawful y → spelled x ≡ spelled y → x ≡ y) → (k : ℕ) (s : List ℕ) (xs ys : List X) (t u : List ℕ) → Spelled lawful spelled k s xs t → Spelled lawful spelled k s ys u → (xs ≡ ys) × (t ≡ u)
same_words lawful spelled plain distinct k s xs ys t u f g = same_rows lawful spelled plain distinct s xs ys t u (f.many ∙ sym g.many) f.each g.each f.after g.after f.apart g.apart

-- where a text has more values than were read, the rest begins with one
one_more : {X : Type 0} (lawful : X → Type 0) (spelled : X → List ℕ) → ((x : X) → lawful x → Spaceless (spelled x)) → ((x y : X) → lawful x → lawful y → spelled x ≡ spelled y → x ≡ y) → (s : List ℕ) (vs xs : List X) (r t : List ℕ) → length vs < length xs → AllLawful lawful vs → AllLawful lawful xs → After vs r → After xs t → s ≡ spaced_of spelled vs ++ r → s ≡ spaced_of spelled xs ++ t → (x : X) × ((u : List ℕ) × Front lawful spelled r x u)
one_more lawful spelled plain distinct s vs [] r t l a b f g d e = absurd (omega arith)
one_more lawful spelled plain distinct s [] (x ∷ xs) r t l a b f g d e = (x, (_, first_front lawful spelled r x xs t b.0 g (sym d ∙ e)))
one_more lawful spelled plain distinct s (v ∷ vs) (x ∷ xs) r t l a b f g d e =
    let p = same_front lawful spelled plain distinct s v x _ _ (first_front lawful spelled s v vs r a.0 f d) (first_front lawful spelled s x xs t b.0 g e) in
    one_more lawful spelled plain distinct _ vs xs r t (omega arith) a.1 b.1 (after_any vs r f) (after_any xs t g) refl p.1

spaced_push : {X : Type 0} (spelled : X → List ℕ) (xs : List X) (y : X) (t : List ℕ) → spaced_of spelled (xs ++ (y ∷ [])) ++ t ≡ spaced_of spelled xs ++ (32 ∷ (spelled y ++ t))
spaced_push spelled [] y t = ap (λ z. 32 ∷ z) (append_assoc (spelled y) [] t)
spaced_push spelled (x ∷ xs) y t = ap (λ z. 32 ∷ z) (append_assoc (spelled x) (spaced_of spelled (xs ++ (y ∷ []))) t ∙ ap (λ z. spelled x ++ z) (spaced_push spelled xs y t) ∙ sym (append_assoc (spelled x) (spaced_of spelled xs) (32 ∷ (spelled y ++ t))))

each_push : {X : Type 0} (lawful : X → Type 0) (xs : List X) (y : X) → AllLawful lawful xs → lawful y → AllLawful lawful (xs ++ (y ∷ []))
each_push lawful [] y a h = (h, tt)
each_push lawful (x ∷ xs) y a h = (a.0, each_push lawful xs y a.1 h)

-- one value more
pub grown : {X : Type 0} (lawful : X → Type 0) (spelled : X → List ℕ) (k : ℕ) (s : List ℕ) (xs : List X) (r : List ℕ) (y : X) (u : List ℕ) → Spelled lawful spelled k s xs r → Front lawful spelled r y u → Spelled lawful spelled (k + 1) s (xs ++ (y ∷ [])) u
grown {X} lawful spelled k s xs r y u h f = record {
  many = lengths xs y k h.many;
  each = each_push lawful xs y h.each f.0;
  apart = h.apart ∙ ap (λ z. spaced_of spelled xs ++ z) f.1.0 ∙ sym (spaced_push spelled xs y u);
  after = after_any (xs ++ (y ∷ [])) u f.1.1;
}
  where
    lengths : (xs : List X) (y : X) (k : ℕ) → length xs ≡ k → length (xs ++ (y ∷ [])) ≡ k + 1
    lengths xs y k e = simp length-append (omega arith)

-- a text that stops short of its values has none of the number asked for
pub short : {X : Type 0} (lawful : X → Type 0) (spelled : X → List ℕ) → ((x : X) → lawful x → Spaceless (spelled x)) → ((x y : X) → lawful x → lawful y → spelled x ≡ spelled y → x ≡ y) → (k m : ℕ) (s : List ℕ) (vs : List X) (r : List ℕ) → k < m → Spelled lawful spelled k s vs r → Nofront lawful spelled r → (xs : List X) (t : List ℕ) → Spelled lawful spelled m s xs t → ⊥
short lawful spelled plain distinct k m s vs r l h none xs t g =
    let o = one_more lawful spelled plain distinct s vs xs r t (omega (arith, h.many, g.many)) h.each g.each h.after g.after h.apart g.apart in
    none o.0 o.1.0 o.1.1

-- the first k elements of a list, one by one
abbrev pub places : {X : Type 0} → X → ℕ → ℕ → List X → List X
places d zero i xs = []
places d (suc k) i xs = get_or xs i d ∷ places d k (suc i) xs

shifted : {X : Type 0} (d : X) (k i : ℕ) (x : X) (xs : List X) → places d k (suc i) (x ∷ xs) ≡ places d k i xs
shifted d zero i x xs = refl
shifted d (suc k) i x xs = ap (λ y. get_or xs i d ∷ y) (shifted d k (suc i) x xs)

pub all_places : {X : Type 0} (d : X) (k : ℕ) (xs : List X) → length xs ≡ k → xs ≡ places d k 0 xs
all_places d zero [] e = refl
all_places d zero (x ∷ xs) e = absurd (omega arith)
all_places d (suc k) [] e = absurd (omega arith)
all_places d (suc k) (x ∷ xs) e = ap (λ y. x ∷ y) (all_places d k xs (omega arith) ∙ sym (shifted d k 0 x xs))

-- the text of one value
one_text : {X : Type 0} (spelled : X → List ℕ) (x : X) → spaced_of spelled (x ∷ []) ++ [] ≡ 32 ∷ spelled x
one_text spelled x = append-nil _ ∙ ap (λ t. 32 ∷ t) (append-nil (spelled x))

-- a value that is the whole text
pub one_word : {X : Type 0} (lawful : X → Type 0) (spelled : X → List ℕ) (s : List ℕ) (x : X) → lawful x → s ≡ 32 ∷ spelled x → Spelled lawful spelled 1 s (x ∷ []) []
one_word lawful spelled s x p e = record { many = refl; each = (p, tt); apart = e ∙ sym (one_text spelled x); after = tt }

-- one value that was read
pub one_read : {X : Type 0} (lawful : X → Type 0) (spelled : X → List ℕ) (d : X) (s : List ℕ) (xs : List X) → Spelled lawful spelled 1 s xs [] → lawful (get_or xs 0 d) × (s ≡ 32 ∷ spelled (get_or xs 0 d))
one_read lawful spelled d s xs h =
    let q = all_places d 1 xs h.many in
    ((subst (AllLawful lawful) q h.each).0, h.apart ∙ ap (λ ys. spaced_of spelled ys ++ []) q ∙ one_text spelled _)

-- Words of a script line, each after a single space.
use Rattle.std.specs.Prelude.{◌≡◌, ℕ, ◌^◌, ◌<◌, List, [], ◌∷◌, ◌++◌, length, Some, None, decimal, Option, ◌≢◌}

-- a text without a space
abbrev pub Spaceless : List ℕ → Type 0
Spaceless [] = Unit {0}
Spaceless (b ∷ bs) = (b ≢ 32) × Spaceless bs

-- what may follow a word: nothing, or a space and more
abbrev pub Follows : List ℕ → Type 0
Follows [] = Unit {0}
Follows (b ∷ bs) = b ≡ 32

-- what a reader answers: the lawful value that has the text, or that none has
abbrev pub Reads : {X : Type 0} → (X → Type 0) → (X → List ℕ) → List ℕ → Option X → Type 0
Reads lawful spelled s (Some x) = lawful x × (s ≡ spelled x)
Reads lawful spelled s None = (x : _) → lawful x → s ≢ spelled x

-- a word at the front of a text, and the rest
abbrev pub Front : {X : Type 0} → (X → Type 0) → (X → List ℕ) → List ℕ → X → List ℕ → Type 0
Front lawful spelled s x t = lawful x × ((s ≡ 32 ∷ (spelled x ++ t)) × Follows t)

abbrev pub Nofront : {X : Type 0} → (X → Type 0) → (X → List ℕ) → List ℕ → Type 0
Nofront lawful spelled s = (x : _) (t : List ℕ) → Front lawful spelled s x t → ⊥

-- values, each after a single space
abbrev pub spaced_of : {X : Type 0} → (X → List ℕ) → List X → List ℕ
spaced_of spelled [] = []
spaced_of spelled (x ∷ xs) = 32 ∷ (spelled x ++ spaced_of spelled xs)

abbrev pub AllLawful : {X : Type 0} → (X → Type 0) → List X → Type 0
AllLawful lawful [] = Unit {0}
AllLawful lawful (x ∷ xs) = lawful x × AllLawful lawful xs

-- what may follow values: after none of them, anything
abbrev pub After : {X : Type 0} → List X → List ℕ → Type 0
After [] t = Unit {0}
After (x ∷ xs) t = Follows t

-- so many values at the front of a text, and the rest
pub record Spelled {X : Type 0} (lawful : X → Type 0) (spelled : X → List ℕ) (count : ℕ) (s : List ℕ) (xs : List X) (t : List ℕ) : Type 0 where
  pub many : length xs ≡ count
  pub each : AllLawful lawful xs
  pub apart : s ≡ spaced_of spelled xs ++ t
  pub after : After xs t

-- the same of numbers
abbrev pub spaced : List ℕ → List ℕ
spaced ns = spaced_of decimal ns

abbrev pub AllSmall : List ℕ → Type 0
AllSmall ns = AllLawful (λ n. n < 2 ^ 64) ns

abbrev pub Numbered : ℕ → List ℕ → List ℕ → List ℕ → Type 0
Numbered count s ns t = Spelled (λ n. n < 2 ^ 64) decimal count s ns t

-- How the making of a store ends.
use Rattle.std.specs.Prelude.{◌≡◌, ℕ, ◌≤◌, List, [], None, Ok, Err, Option, Result}
use Rattle.store.specs.declared.Version.{Version}
use Rattle.store.specs.declared.Unmade.{Unmade}
use Rattle.store.specs.declared.Unmade.TheVariants.{Memory, ItemCount}

-- no versions, and nothing staged
abbrev pub Blank : {P : Type 0} → (ℕ → List (Version P)) → (ℕ → Option P) → Type 0
Blank versions stagings = (versions ≡ (λ _. [])) × (stagings ≡ (λ _. None))

-- a store of n items is made as Is says; a number of items out of range is refused as such, and only that is
abbrev pub Making : {S : Type 0} → ℕ → (S → Type 0) → Result S Unmade → Type 0
Making n Is (Ok s) = (1 ≤ n) × (n ≤ 64) × Is s
Making n Is (Err Memory) = (1 ≤ n) × (n ≤ 64)
Making n Is (Err ItemCount) = 1 ≤ n → n ≤ 64 → ⊥

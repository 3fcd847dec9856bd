-- What a table holds, and what its calls do to it: the first record that has a number counts.
use Rattle.std.specs.Prelude.{ℕ, Bool, cond, List, [], ◌∷◌, ◌++◌, length, take, Some, None, Option, ◌==◌, nat_lt, slice_get}
use Rattle.std.specs.List.{find}
use Rattle.table.specs.declared.Table.{Table}

abbrev pub listed : {X : Type 0} {n : ℕ} → Table X n → List X
listed t = take t.len t.items

-- one more at the end, where there is room for it
abbrev pub pushed : {X : Type 0} → ℕ → List X → X → List X
pushed n xs x = cond (nat_lt (length xs) n) (xs ++ (x ∷ [])) xs

abbrev pub nth_in : {X : Type 0} → List X → ℕ → Option X
nth_in xs i = slice_get xs i

-- whether a record has the number
abbrev pub has : {X : Type 0} → (X → ℕ) → ℕ → X → Bool
has num n x = num x == n

abbrev pub find_in : {X : Type 0} → (X → ℕ) → List X → ℕ → Option X
find_in num xs n = find (has num n) xs

abbrev pub without : {X : Type 0} → (X → ℕ) → List X → ℕ → List X
without num [] n = []
without num (x ∷ xs) n = cond (num x == n) xs (x ∷ without num xs n)

-- the reply of a record, if there is one
abbrev pub reply_in : {X V R : Type 0} → (X → V → R) → Option X → V → Option R
reply_in reply None e = None
reply_in reply (Some x) e = Some (reply x e)

-- the records after an event of the one that has the number
abbrev pub stepped : {X V : Type 0} → (X → ℕ) → (X → V → X) → List X → ℕ → V → List X
stepped num next [] n e = []
stepped num next (x ∷ xs) n e = cond (num x == n) (next x e ∷ xs) (x ∷ stepped num next xs n e)

-- A whole script: its lines, and what is printed for them one after another.
use Rattle.std.specs.Prelude.{◌≡◌, ◌≢◌, ℕ, ◌+◌, ◌<◌, List, [], ◌∷◌, ◌++◌, length, slice_index, ◌⊎◌}
use Rattle.script.specs.Sessions.{SessionView, Unset, Replies}

-- the bytes begin with this line, and the rest follows it: behind a newline, or nothing where the last line lacks its newline
abbrev pub Cut : List ℕ → List ℕ → List ℕ → Type 0
Cut bytes line rest =
    ((k : ℕ) → k < length line → slice_index line k ≢ 10)
    × ((bytes ≡ line ++ (10 ∷ rest)) ⊎ ((bytes ≡ line) × (line ≢ []) × (rest ≡ [])))

-- the bytes are these lines
abbrev pub LinesOf : List ℕ → List (List ℕ) → Type 0
LinesOf bytes [] = bytes ≡ []
LinesOf bytes (l ∷ ls) = (rest : List ℕ) × Cut bytes l rest × LinesOf rest ls

-- what is printed for the lines, the first of which has this number, from this session on
abbrev pub Transcript : SessionView → ℕ → List (List ℕ) → List ℕ → Type 0
Transcript s n [] bytes = bytes ≡ []
Transcript s n (l ∷ ls) bytes = (first : List ℕ) × (rest : List ℕ) × (t : SessionView) × Replies s n l first t × (bytes ≡ first ++ rest) × Transcript t (n + 1) ls rest

-- what is printed for a script
abbrev pub PrintedFor : List ℕ → List ℕ → Type 0
PrintedFor script bytes = (ls : List (List ℕ)) × LinesOf script ls × Transcript Unset 1 ls bytes

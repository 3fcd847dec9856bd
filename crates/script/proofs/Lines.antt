-- One more line of a script: what is printed for it goes before what is printed for those that are left.
use Rattle.std.proofs.Common.{◌≡◌, ℕ, ◌+◌, ◌<◌, List, [], ◌∷◌, ◌++◌, length, refl, sym, subst, ap, arith, append_assoc, length-append, inl, inr}
use Rattle.script.specs.Sessions.{SessionView, Replies}
use Rattle.script.specs.Scripts.{Cut, LinesOf, Transcript, PrintedFor}

filled : (xs : List ℕ) → (xs ≡ [] → ⊥) → 0 < length xs
filled [] n = absurd (n refl)
filled (x ∷ xs) n = omega arith

pub shorter : (bytes line rest : List ℕ) → Cut bytes line rest → length rest < length bytes
shorter bytes line rest c = elim c.1 [
  | inl e ↦ omega (arith, ap (λ x. length x) e, length-append line (10 ∷ rest))
  | inr e ↦ omega (arith, ap (λ x. length x) e.0, ap (λ x. length x) e.2, filled line e.1)
]

pub onward : (script printed left line rest first : List ℕ) (s t : SessionView) (n : ℕ) → Cut left line rest → Replies s (n + 1) line first t →
    ((ls : List (List ℕ)) (bytes : List ℕ) → LinesOf left ls → Transcript s (n + 1) ls bytes → PrintedFor script (printed ++ bytes)) →
    (ls : List (List ℕ)) (bytes : List ℕ) → LinesOf rest ls → Transcript t (n + 1 + 1) ls bytes → PrintedFor script ((printed ++ first) ++ bytes)
onward script printed left line rest first s t n c r k ls bytes a b =
    subst (λ z. PrintedFor script z) (sym (append_assoc printed first bytes)) (k (line ∷ ls) (first ++ bytes) (rest, c, a) (first, bytes, t, r, refl, b))

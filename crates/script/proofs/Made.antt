-- What holds of a value that was made, where its error was given another type on the way.
use Rattle.std.proofs.Common.{◌≡◌, Ok, Err, Result, MatchResult, IfOk, is_ok, sym, ◌∙◌, subst, rules}

pub kept : {T E D : Type 0} (G : E → Type 0) (P : T → Type 0) (r : Result T E) (s : Result T D) (x : T) →
    MatchResult r (λ y. s ≡ Ok y) G → is_ok s ≡ is_ok r → s ≡ Ok x → IfOk r P → P x
kept G P (Ok y) s x m v e p = let q : y ≡ x = grind (rules, sym m ∙ e) in subst P q p
kept G P (Err d) s x m v e p = grind (rules, v, e)

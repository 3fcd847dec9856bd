-- What is read of a word that is a number.
use Rattle.std.proofs.Common.{◌≡◌, ℕ, Bool, true, false, cond, List, [], ◌∷◌, length, IfSome, IfNone, ℤ, Some, None, Option, ◌≢◌, Float, sym, refl, ap, ◌∙◌, subst, arith, SFits, w32}
use Rattle.std.specs.Bool.{◌==◌, then_some}
use Rattle.std.proofs.Math.Dec.{eqb-suc-zero}
use Rattle.std.specs.Float.{binary32}
use Rattle.std.specs.Float.Ieee.{of_int}
use Rattle.std.specs.Fmt.{signed_decimal}
use Rattle.pose.specs.Degrees.{in_turn, angle_of}
use Rattle.pose.specs.Texts.{degrees_text, angle_text, PlainAt, Plain}
use Rattle.pose.proofs.Wholes.{comes_back}
use Rattle.command.specs.Words.{Reads}
use Rattle.command.specs.Decimals.{signed_distinct}
use Rattle.command.specs.Signs.{degrees_of, turn_fits}

-- a reader that answers a lawful value only for its text, and none only where no lawful value has the text
pub reads_of : {X N : Type 0} (lawful : X → Type 0) (spelled : X → List ℕ) (s : List ℕ) (o : Option X) → IfSome o lawful → IfSome o (λ x. s ≡ spelled x) → IfNone o N → ((x : X) → lawful x → N → s ≢ spelled x) → Reads lawful spelled s o
reads_of lawful spelled s None l e n none = λ x h. none x h n
reads_of lawful spelled s (Some x) l e n none = (l, e)

-- an angle is read where the number of degrees is from -360 to 360
pub angle_read : (w : List ℕ) (z : ℤ) (r : Option Float) → SFits w32 z → w ≡ signed_decimal z → r ≡ angle_of z → Reads Plain angle_text w r
angle_read w z r f e q = subst (Reads Plain angle_text w) (sym q) (at (in_turn z) refl)
  where
    at : (b : Bool) → in_turn z ≡ b → Reads Plain angle_text w (cond b (Some (of_int binary32 z)) None)
    at true h = let b = comes_back z h in (subst (PlainAt (of_int binary32 z)) (sym b) refl, e ∙ sym (ap degrees_text b))
    at false h = λ x p t.
        let d = degrees_of x p in
        let k : z ≡ d.0 = signed_distinct z d.0 f (turn_fits d.0 d.1.turn) (sym e ∙ t ∙ ap degrees_text d.1.whole) in
        let l : ◌≡◌ {A = Bool} false true = sym h ∙ ap in_turn k ∙ d.1.turn in
        cc

-- an answer that is kept only where the rest of a text is empty
pub kept : {X : Type 0} {b : Bool} {x : X} {o : Option X} (P : Option X → Type 0) (r : List ℕ) → b ≡ (length r == 0) → o ≡ then_some b x → (r ≡ [] → P (Some x)) → ((r ≡ [] → ⊥) → P None) → P o
kept {x} P [] d e kept_it left = subst P (sym (e ∙ ap (λ b. then_some b x) d)) (kept_it refl)
kept {x} P (n ∷ r) d e kept_it left = subst P (sym (e ∙ ap (λ b. then_some b x) (d ∙ eqb-suc-zero (length r)))) (left (λ q. let l = ap length q in absurd (omega arith)))

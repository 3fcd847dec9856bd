-- A call from its letter, its numbers and its payload.
use Rattle.std.proofs.Common.{◌≡◌, ℕ, ◌^◌, ◌<◌, ◌≤◌, Bool, true, false, cond, eqb, List, [], ◌∷◌, ◌++◌, length, get_or, decimal, is_some, Some, None, Option, sym, refl, ap, ◌∙◌, subst, arith}
use Rattle.std.proofs.lemmas.Fmt.{decimal_injective}
use Rattle.protocol.specs.declared.calls.Call.{Call}
use Rattle.protocol.specs.declared.calls.Call.TheVariants.{Open, Join, Read, Write, Leave, Submit, GiveUp, Resend, Deliver, Lose, Clock, Fate}
use Rattle.command.specs.Words.{Follows, spaced, AllSmall, Numbered, Reads}
use Rattle.command.specs.Grammar.{letter_of, numbers_of, payload_of, payload_part, call_text, LawfulPart, LawfulCall, FitsLine, OneText, Alone}
use Rattle.command.specs.Decimals.{decimal_spaceless}
use Rattle.command.specs.Rows.{same_words, after_any, places, all_places}
use Rattle.command.specs.Splits.{tail_of}

pub same_numbers : (k : ℕ) (s ms ns t u : List ℕ) → Numbered k s ms t → Numbered k s ns u → (ms ≡ ns) × (t ≡ u)
same_numbers k s ms ns t u f g = same_words (λ n. n < 2 ^ 64) decimal decimal_spaceless decimal_injective k s ms ns t u f g

-- how many numbers follow a letter
abbrev pub arity : ℕ → ℕ
arity l = cond (eqb l 79) 0 (cond (eqb l 74) 2 (cond (eqb l 82) 3 (cond (eqb l 87) 3 (cond (eqb l 76) 2 (cond (eqb l 67) 2 1)))))

arity_is : {P : Type 0} (c : Call P) → length (numbers_of c) ≡ arity (letter_of c)
arity_is Open = refl
arity_is (Join x c) = refl
arity_is (Read x c i) = refl
arity_is (Write x c i p) = refl
arity_is (Leave x c) = refl
arity_is (Submit x) = refl
arity_is (GiveUp x) = refl
arity_is (Resend x) = refl
arity_is (Deliver k) = refl
arity_is (Lose k) = refl
arity_is (Clock c t) = refl
arity_is (Fate x) = refl

-- only the letter of a write has a payload
part_is : {P : Type 0} (c : Call P) → is_some (payload_of c) ≡ eqb (letter_of c) 87
part_is Open = refl
part_is (Join x c) = refl
part_is (Read x c i) = refl
part_is (Write x c i p) = refl
part_is (Leave x c) = refl
part_is (Submit x) = refl
part_is (GiveUp x) = refl
part_is (Resend x) = refl
part_is (Deliver k) = refl
part_is (Lose k) = refl
part_is (Clock c t) = refl
part_is (Fate x) = refl

part_follows : {P : Type 0} (written : P → List ℕ) (o : Option P) → Follows (payload_part written o)
part_follows written None = tt
part_follows written (Some p) = refl

part_none : {P : Type 0} (written : P → List ℕ) (o : Option P) → is_some o ≡ false → payload_part written o ≡ []
part_none written None e = refl
part_none written (Some p) e = let z : ◌≡◌ {A = Bool} true false = e in let w : ◌≡◌ {A = ℕ} 0 1 = cc in absurd (omega arith)

head_of : {x y : ℕ} {xs ys : List ℕ} → x ∷ xs ≡ y ∷ ys → x ≡ y
head_of e = cc

-- the numbers of a call stand after its letter
pub call_numbers : {P : Type 0} (lawful : P → Type 0) (written : P → List ℕ) (l : ℕ) (rest : List ℕ) (c : Call P) → LawfulCall lawful c → l ∷ rest ≡ call_text written c → (letter_of c ≡ l) × Numbered (arity l) rest (numbers_of c) (payload_part written (payload_of c))
call_numbers lawful written l rest c h e =
    let k : letter_of c ≡ l = sym (head_of e) in
    (k, record { many = arity_is c ∙ ap arity k; each = h.0; apart = tail_of e; after = after_any (numbers_of c) (payload_part written (payload_of c)) (part_follows written (payload_of c)) })

-- where no numbers follow a letter other than that of a write, no call has the text
pub none_at : {P : Type 0} (lawful : P → Type 0) (written : P → List ℕ) (l letter : ℕ) (rest : List ℕ) → letter ≡ l → eqb l 87 ≡ false → ((ns : List ℕ) → Numbered (arity l) rest ns [] → ⊥) → (c : Call P) → LawfulCall lawful c → letter ∷ rest ≡ call_text written c → ⊥
none_at lawful written l letter rest q w none c h e =
    let k = call_numbers lawful written l rest c h (ap (λ x. x ∷ rest) (sym q) ∙ e) in
    let o = part_none written (payload_of c) (part_is c ∙ ap (λ x. eqb x 87) k.0 ∙ w) in
    none (numbers_of c) (subst (λ t. Numbered (arity l) rest (numbers_of c) t) o k.1)

-- numbers that were read, one by one, and the text that they end
pub read_at : (k l : ℕ) {letter : ℕ} {rest ns t : List ℕ} → letter ≡ l → Numbered k rest ns t → AllSmall (places 0 k 0 ns) × (letter ∷ rest ≡ l ∷ (spaced (places 0 k 0 ns) ++ t))
read_at k l {letter} {rest} {ns} {t} q h =
    let p = all_places 0 k ns h.many in
    (subst AllSmall p h.each, ap (λ x. x ∷ rest) q ∙ ap (λ x. l ∷ x) (h.apart ∙ ap (λ x. spaced x ++ t) p))

-- where no payload follows the numbers of a write, no call has the text
pub none_written : {P : Type 0} (lawful : P → Type 0) (written : P → List ℕ) (rest ns t : List ℕ) → Numbered 3 rest ns t → ((p : P) → lawful p → t ≡ 32 ∷ written p → ⊥) → (c : Call P) → LawfulCall lawful c → 87 ∷ rest ≡ call_text written c → ⊥
none_written {P} lawful written rest ns t f none c h e =
    let k = call_numbers lawful written 87 rest c h e in
    at (payload_of c) (part_is c ∙ ap (λ x. eqb x 87) k.0) h.1 (same_numbers 3 rest ns (numbers_of c) t (payload_part written (payload_of c)) f k.1).1
  where
    at : (o : Option P) → is_some o ≡ true → LawfulPart lawful o → t ≡ payload_part written o → ⊥
    at None s p q = let w : ◌≡◌ {A = ℕ} 0 1 = cc in omega arith
    at (Some x) s p q = none x p q

-- the call with a letter, numbers and a payload
abbrev rebuilt : {P : Type 0} → ℕ → List ℕ → Option P → Option (Call P)
rebuilt l ns (Some p) = Some (Write (get_or ns 0 0) (get_or ns 1 0) (get_or ns 2 0) p)
rebuilt l ns None =
    cond (eqb l 79) (Some Open)
    (cond (eqb l 74) (Some (Join (get_or ns 0 0) (get_or ns 1 0)))
    (cond (eqb l 82) (Some (Read (get_or ns 0 0) (get_or ns 1 0) (get_or ns 2 0)))
    (cond (eqb l 76) (Some (Leave (get_or ns 0 0) (get_or ns 1 0)))
    (cond (eqb l 83) (Some (Submit (get_or ns 0 0)))
    (cond (eqb l 71) (Some (GiveUp (get_or ns 0 0)))
    (cond (eqb l 65) (Some (Resend (get_or ns 0 0)))
    (cond (eqb l 68) (Some (Deliver (get_or ns 0 0)))
    (cond (eqb l 88) (Some (Lose (get_or ns 0 0)))
    (cond (eqb l 67) (Some (Clock (get_or ns 0 0) (get_or ns 1 0)))
    (cond (eqb l 70) (Some (Fate (get_or ns 0 0))) None))))))))))

rebuilt_is : {P : Type 0} (c : Call P) → rebuilt (letter_of c) (numbers_of c) (payload_of c) ≡ Some c
rebuilt_is Open = refl
rebuilt_is (Join x c) = refl
rebuilt_is (Read x c i) = refl
rebuilt_is (Write x c i p) = refl
rebuilt_is (Leave x c) = refl
rebuilt_is (Submit x) = refl
rebuilt_is (GiveUp x) = refl
rebuilt_is (Resend x) = refl
rebuilt_is (Deliver k) = refl
rebuilt_is (Lose k) = refl
rebuilt_is (Clock c t) = refl
rebuilt_is (Fate x) = refl

some_same : {X : Type 0} {x y : X} → Some x ≡ Some y → x ≡ y
some_same e = cc

same_part : {P : Type 0} (lawful : P → Type 0) (written : P → List ℕ) → ((p q : P) → lawful p → lawful q → written p ≡ written q → p ≡ q) → (o u : Option P) → LawfulPart lawful o → LawfulPart lawful u → payload_part written o ≡ payload_part written u → o ≡ u
same_part lawful written distinct None None a b e = refl
same_part lawful written distinct None (Some q) a b e = let w : ◌≡◌ {A = ℕ} 0 1 = cc in absurd (omega arith)
same_part lawful written distinct (Some p) None a b e = let w : ◌≡◌ {A = ℕ} 0 1 = cc in absurd (omega arith)
same_part lawful written distinct (Some p) (Some q) a b e = ap Some (distinct p q a b (tail_of e))

-- a call is known by its text
pub one_text : {P : Type 0} (lawful : P → Type 0) (written : P → List ℕ) → ((p q : P) → lawful p → lawful q → written p ≡ written q → p ≡ q) → OneText lawful written
one_text lawful written distinct c d a b e =
    let h = (call_numbers lawful written (letter_of c) _ c a refl).1 in
    let k = call_numbers lawful written (letter_of c) _ d b e in
    let s = same_numbers (arity (letter_of c)) _ (numbers_of c) (numbers_of d) _ _ h k.1 in
    let p = same_part lawful written distinct (payload_of c) (payload_of d) a.1 b.1 s.1 in
    some_same (sym (rebuilt_is c) ∙ ap (λ l. rebuilt l (numbers_of c) (payload_of c)) (sym k.0) ∙ ap (λ ns. rebuilt (letter_of d) ns (payload_of c)) s.0 ∙ ap (λ o. rebuilt (letter_of d) (numbers_of d) o) p ∙ rebuilt_is d)

-- what was read of a short line is what the line has
pub read_line : {P : Type 0} (lawful : P → Type 0) (written : P → List ℕ) → ((p q : P) → lawful p → lawful q → written p ≡ written q → p ≡ q) → (s t : List ℕ) (r : Option (Call P)) → s ≡ t → length s ≤ 80 → Reads (LawfulCall lawful) (call_text written) t r → Reads (FitsLine lawful written) (call_text written) s r × Alone lawful written s r
read_line lawful written distinct s t None e l h = ((λ c f q. h c f.0 (sym e ∙ q)), tt)
read_line lawful written distinct s t (Some c) e l h =
    (((h.0, subst (λ x. length x ≤ 80) (e ∙ h.1) l), e ∙ h.1), (λ d f q. one_text lawful written distinct d c f h.0 (sym q ∙ e ∙ h.1)))

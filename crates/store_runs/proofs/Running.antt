-- A list of calls, one call on and at its end.
use Rattle.std.proofs.Common.{◌≡◌, ℕ, ◌+◌, ◌<◌, ◌≤◌, List, [], ◌∷◌, ◌++◌, length, get_or, drop, sym, ap, ◌∙◌, append_assoc}
use Rattle.std.proofs.lemmas.List.{at_drop_more, at_drop_all, append-nil}
use Rattle.store_runs.specs.declared.StoreCall.{StoreCall}
use Rattle.store_runs.specs.Plain.{Plain, Answer, answer_to, after_call, answers_to, after_all}

at_call : {P Y : Type 0} (F : List (StoreCall P) → Y) (cs : List (StoreCall P)) (i : ℕ) (c : StoreCall P) → i < length cs → c ≡ get_or cs i c →
    F (drop i cs) ≡ F (c ∷ drop (i + 1) cs)
at_call F cs i c l e = at_drop_more F cs i c l ∙ ap (λ x. F (x ∷ drop (i + 1) cs)) (sym e)

pub answers_step : {P : Type 0} (m n : Plain P) (cs : List (StoreCall P)) (i : ℕ) (c : StoreCall P) (a : Answer P) (xs ys : List (Answer P)) →
    i < length cs → c ≡ get_or cs i c → a ≡ answer_to m c → n ≡ after_call m c → ys ≡ xs ++ (a ∷ []) →
    ys ++ answers_to n (drop (i + 1) cs) ≡ xs ++ answers_to m (drop i cs)
answers_step m n cs i c a xs ys l e q r s =
    ap (λ zs. zs ++ answers_to n (drop (i + 1) cs)) s
    ∙ (append_assoc xs (a ∷ []) (answers_to n (drop (i + 1) cs))
    ∙ (ap (λ x. xs ++ (a ∷ answers_to x (drop (i + 1) cs))) r
    ∙ (ap (λ x. xs ++ (x ∷ answers_to (after_call m c) (drop (i + 1) cs))) q
    ∙ ap (λ zs. xs ++ zs) (sym (at_call (answers_to m) cs i c l e)))))

pub after_step : {P : Type 0} (m n : Plain P) (cs : List (StoreCall P)) (i : ℕ) (c : StoreCall P) → i < length cs → c ≡ get_or cs i c → n ≡ after_call m c →
    after_all n (drop (i + 1) cs) ≡ after_all m (drop i cs)
after_step m n cs i c l e r = ap (λ x. after_all x (drop (i + 1) cs)) r ∙ sym (at_call (after_all m) cs i c l e)

pub answers_end : {P : Type 0} (m : Plain P) (cs : List (StoreCall P)) (i : ℕ) (xs : List (Answer P)) → length cs ≤ i → xs ++ answers_to m (drop i cs) ≡ xs
answers_end m cs i xs l = ap (λ zs. xs ++ zs) (at_drop_all (answers_to m) cs i l) ∙ append-nil xs

pub after_end : {P : Type 0} (m : Plain P) (cs : List (StoreCall P)) (i : ℕ) → length cs ≤ i → after_all m (drop i cs) ≡ m
after_end m cs i l = at_drop_all (after_all m) cs i l

-- The orders to the marked cells, one behind the other.
use Rattle.std.proofs.Common.{◌≡◌, ℕ, suc, ◌+◌, ◌<◌, ◌≤◌, Bool, true, false, cond, List, [], ◌∷◌, ◌++◌, length, get_or, drop, refl, sym, ap, ◌∙◌, append-nil, append_assoc, length-append, arith}
use Rattle.std.proofs.lemmas.List.{at_drop_more}
use borrow.Author.Tests.{lt-true}
use Rattle.protocol.specs.declared.messages.Message.{Message}
use Rattle.protocol.specs.declared.messages.Body.TheVariants.{ToCell}
use Rattle.protocol.specs.declared.messages.Order.{Order}
use Rattle.protocol.specs.declared.sites.PerSite.{PerSite}
use Rattle.protocol.specs.declared.sites.Site.{Site}
use Rattle.protocol.specs.declared.sites.Site.TheVariants.{Cell0, Cell1, Cell2, Cell3}
use Rattle.protocol.specs.Sites.{at, how_many, one}
use Rattle.table.specs.Contents.{pushed}
use Rattle.model.specs.Lines.{letter, letter_if, orders_to}

-- those to the cells of the list
abbrev pub orders_over : PerSite Bool → ℕ → Order → List Site → List Message
orders_over e x o [] = []
orders_over e x o (s ∷ ss) = letter_if (at e s) (letter x s (ToCell o)) ++ orders_over e x o ss

length-letter_if : (b : Bool) (m : Message) → length (letter_if b m) ≡ one b
length-letter_if true m = refl
length-letter_if false m = refl

pub over_all : (e : PerSite Bool) (x : ℕ) (o : Order) → orders_over e x o (Cell0 ∷ Cell1 ∷ Cell2 ∷ Cell3 ∷ []) ≡ orders_to e x o
over_all e x o = grind (arith, append-nil (letter_if e.cell3 (letter x Cell3 (ToCell o))))

pub length-orders_to : (e : PerSite Bool) (x : ℕ) (o : Order) → length (orders_to e x o) ≡ how_many e
length-orders_to e x o = grind (
  arith,
  length-append,
  length-letter_if e.cell0 (letter x Cell0 (ToCell o)),
  length-letter_if e.cell1 (letter x Cell1 (ToCell o)),
  length-letter_if e.cell2 (letter x Cell2 (ToCell o)),
  length-letter_if e.cell3 (letter x Cell3 (ToCell o)),
)

module _ (e : PerSite Bool) (x : ℕ) (o : Order) (sites : List Site) (i : ℕ) (d : Site) (old ms : List Message) (h : i < length sites)
    (k : ms ++ orders_over e x o (drop i sites) ≡ old ++ orders_to e x o) where
  abbrev pub m : Message
  m = letter x (get_or sites i d) (ToCell o)

  abbrev pub rest : List Message
  rest = orders_over e x o (drop (i + 1) sites)

  split : ms ++ (letter_if (at e (get_or sites i d)) m ++ rest) ≡ old ++ orders_to e x o
  split = ap (λ ys. ms ++ ys) (sym (at_drop_more (orders_over e x o) sites i d h)) ∙ k

  -- after a cell that is marked
  pub sent_on : at e (get_or sites i d) ≡ true → length old + how_many e ≤ 64 → pushed 64 ms m ++ rest ≡ old ++ orders_to e x o
  sent_on t l =
      let f : ms ++ (m ∷ rest) ≡ old ++ orders_to e x o = ap (λ b. ms ++ (letter_if b m ++ rest)) (sym t) ∙ split in
      let n : length ms + suc (length rest) ≡ length old + how_many e =
      sym (length-append ms (m ∷ rest)) ∙ (ap length f ∙ (length-append old (orders_to e x o) ∙ ap (λ j. length old + j) (length-orders_to e x o))) in
      ap (λ b. cond b (ms ++ (m ∷ [])) ms ++ rest) (sym (lt-true (length ms) 64 (omega (arith, n, l)))) ∙ (append_assoc ms (m ∷ []) rest ∙ f)

  -- after one that is not
  pub passed_on : at e (get_or sites i d) ≡ false → ms ++ rest ≡ old ++ orders_to e x o
  passed_on t = ap (λ b. ms ++ (letter_if b m ++ rest)) (sym t) ∙ split

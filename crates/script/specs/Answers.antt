-- What is printed for a line of a script, and what the line of cells is then.
use Rattle.std.specs.Prelude.{◌≡◌, ℕ, List, [], ◌∷◌, ◌++◌, Some, None, Option}
use Rattle.protocol.specs.declared.calls.Call.{Call}
use Rattle.command.specs.Words.{Reads}
use Rattle.command.specs.Grammar.{call_text, FitsLine}
use Rattle.answer_text.specs.Texts.{text_of, script_text}
use Rattle.answer_text.specs.declared.faults.ScriptFault.TheVariants.{Malformed}
use Rattle.model.specs.Lines.{LineView}
use Rattle.model.specs.Calls.{told}
use Rattle.serial.specs.Runs.{Does}

-- the answer's text and a newline, or the refusal of a line that is no command
abbrev pub printed : {P : Type 0} → (P → List ℕ) → LineView P → ℕ → Option (Call P) → List ℕ
printed shown v n None = script_text (Malformed n) ++ (10 ∷ [])
printed shown v n (Some c) = text_of shown (told v c) ++ (10 ∷ [])

-- a malformed line changes nothing; a call does what the rules say, and every run that led here goes on with it and is serially
-- ordered
abbrev pub Did : {P : Type 0} → LineView P → Option (Call P) → LineView P → Type 0
Did v None w = w ≡ v
Did v (Some c) w = Does v c (told v c) w

-- the line with the number n has this text; `call` is the one call that has it, or none
pub record Answered {P : Type 0} (lawful : P → Type 0) (written shown : P → List ℕ) (v w : LineView P) (n : ℕ) (text bytes : List ℕ) : Type 0 where
  pub call : Option (Call P)
  pub reads : Reads (FitsLine lawful written) (call_text written) text call
  pub prints : bytes ≡ printed shown v n call
  pub does : Did v call w

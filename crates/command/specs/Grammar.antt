-- The text of a script line.
use Rattle.std.specs.Prelude.{◌≡◌, ℕ, ◌≤◌, List, [], ◌∷◌, ◌++◌, length, Some, None, codes, Option}
use Rattle.protocol.specs.declared.calls.Call.{Call}
use Rattle.protocol.specs.declared.calls.Call.TheVariants.{Open, Join, Read, Write, Leave, Submit, GiveUp, Resend, Deliver, Lose, Clock, Fate}
use Rattle.command.specs.declared.kinds.Kind.{Kind}
use Rattle.command.specs.declared.kinds.Kind.TheVariants.{Count, Pose}
use Rattle.command.specs.Words.{spaced, AllSmall}

-- the line that names the kind of payload
abbrev pub kind_text : Kind → List ℕ
kind_text Count = codes "K count"
kind_text Pose = codes "K pose"

-- the capital letter of a call
abbrev pub letter_of : {P : Type 0} → Call P → ℕ
letter_of Open = 79
letter_of (Join x c) = 74
letter_of (Read x c i) = 82
letter_of (Write x c i p) = 87
letter_of (Leave x c) = 76
letter_of (Submit x) = 83
letter_of (GiveUp x) = 71
letter_of (Resend x) = 65
letter_of (Deliver k) = 68
letter_of (Lose k) = 88
letter_of (Clock c t) = 67
letter_of (Fate x) = 70

-- its numbers, in their order
abbrev pub numbers_of : {P : Type 0} → Call P → List ℕ
numbers_of Open = []
numbers_of (Join x c) = x ∷ (c ∷ [])
numbers_of (Read x c i) = x ∷ (c ∷ (i ∷ []))
numbers_of (Write x c i p) = x ∷ (c ∷ (i ∷ []))
numbers_of (Leave x c) = x ∷ (c ∷ [])
numbers_of (Submit x) = x ∷ []
numbers_of (GiveUp x) = x ∷ []
numbers_of (Resend x) = x ∷ []
numbers_of (Deliver k) = k ∷ []
numbers_of (Lose k) = k ∷ []
numbers_of (Clock c t) = c ∷ (t ∷ [])
numbers_of (Fate x) = x ∷ []

-- the payload, which only a write has
abbrev pub payload_of : {P : Type 0} → Call P → Option P
payload_of Open = None
payload_of (Join x c) = None
payload_of (Read x c i) = None
payload_of (Write x c i p) = Some p
payload_of (Leave x c) = None
payload_of (Submit x) = None
payload_of (GiveUp x) = None
payload_of (Resend x) = None
payload_of (Deliver k) = None
payload_of (Lose k) = None
payload_of (Clock c t) = None
payload_of (Fate x) = None

abbrev pub payload_part : {P : Type 0} → (P → List ℕ) → Option P → List ℕ
payload_part written None = []
payload_part written (Some p) = 32 ∷ written p

-- the text of a call: its letter, and after single spaces its numbers and its payload
abbrev pub call_text : {P : Type 0} → (P → List ℕ) → Call P → List ℕ
call_text written c = letter_of c ∷ (spaced (numbers_of c) ++ payload_part written (payload_of c))

abbrev pub LawfulPart : {P : Type 0} → (P → Type 0) → Option P → Type 0
LawfulPart lawful None = Unit {0}
LawfulPart lawful (Some p) = lawful p

-- a call whose numbers are below 2^64 and whose payload a script can give
abbrev pub LawfulCall : {P : Type 0} → (P → Type 0) → Call P → Type 0
LawfulCall lawful c = AllSmall (numbers_of c) × LawfulPart lawful (payload_of c)

-- a call that a line of at most 80 bytes can give
abbrev pub FitsLine : {P : Type 0} → (P → Type 0) → (P → List ℕ) → Call P → Type 0
FitsLine lawful written c = LawfulCall lawful c × (length (call_text written c) ≤ 80)

-- two calls have two texts
abbrev pub OneText : {P : Type 0} → (P → Type 0) → (P → List ℕ) → Type 0
OneText {P} lawful written = (c d : Call P) → LawfulCall lawful c → LawfulCall lawful d → call_text written c ≡ call_text written d → c ≡ d

-- the answer is the only call that has the text
abbrev pub Alone : {P : Type 0} → (P → Type 0) → (P → List ℕ) → List ℕ → Option (Call P) → Type 0
Alone lawful written s None = Unit {0}
Alone lawful written s (Some c) = (d : _) → LawfulCall lawful d → s ≡ call_text written d → d ≡ c

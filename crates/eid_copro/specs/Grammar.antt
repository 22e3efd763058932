-- The grammar of answers, by what writes them. This project's own.
use Rattle.std.specs.Prelude.{◌≡◌, ℕ, ◌≤◌, ◌⊎◌, ◌↔◌, List, [], ◌∷◌, ◌++◌, length, Ok, Err, codes, if◌then◌else◌}
use Rattle.eid_text.specs.Grammars.{Writes, BreaksOff}
use Rattle.eid_text.specs.Hexadecimal.{IsHex}
use Rattle.eid_text.specs.Lines.{text_limit}
use Rattle.eid_copro.specs.Lines.{answers_of}
use Rattle.eid_copro.specs.declared.ask.Answer.{Answer}
use Rattle.eid_copro.specs.declared.ask.Answer.TheVariants as answers

-- a word, and so many bytes in hexadecimal
pub record IsSized (line word : List ℕ) (size : ℕ) (bytes : List ℕ) : Type 0 where
  pub digits : List ℕ
  pub is : line ≡ word ++ digits
  pub hex : IsHex digits bytes
  pub sized : length bytes ≡ size

-- `pair SECRET PUBLIC`, of 32 and of 65 bytes
pub record IsPair (line secret public : List ℕ) : Type 0 where
  pub secret_digits : List ℕ
  pub public_digits : List ℕ
  pub is : line ≡ codes "pair " ++ (secret_digits ++ (32 ∷ public_digits))
  pub secret_hex : IsHex secret_digits secret
  pub public_hex : IsHex public_digits public
  pub secret_sized : length secret ≡ 32
  pub public_sized : length public ≡ 65

-- a line that says one answer
abbrev pub SpellsAnswer : List ℕ → Answer → Type 0
SpellsAnswer line (answers.Nonce bytes) = IsSized line (codes "nonce ") 16 bytes
SpellsAnswer line (answers.Challenge bytes) = IsSized line (codes "challenge ") 8 bytes
SpellsAnswer line (answers.Pair secret public) = IsPair line secret public
SpellsAnswer line (answers.Mapped base) = IsSized line (codes "map ") 65 base
SpellsAnswer line (answers.Shared shared) = IsSized line (codes "agree ") 32 shared
SpellsAnswer line answers.NoPoint = (line ≡ codes "map none") ⊎ (line ≡ codes "agree none")
SpellsAnswer line (answers.Verdict good) = line ≡ codes "verify " ++ (if good then codes "yes" else codes "no")
SpellsAnswer line (answers.Signed signature) = IsSized line (codes "sign ") 64 signature
SpellsAnswer line answers.Fault = line ≡ codes "fault"

-- an empty line says nothing
abbrev pub IsEmpty : List ℕ → Type 0
IsEmpty line = line ≡ []

-- a text whose lines say these answers in this order
abbrev pub IsAnswers : List ℕ → List Answer → Type 0
IsAnswers text list = Writes IsEmpty SpellsAnswer text list

-- a text whose first line that says neither nothing nor an answer has this number
abbrev pub IsBadFrom : List ℕ → ℕ → Type 0
IsBadFrom text number = BreaksOff IsEmpty SpellsAnswer text number

-- the texts that are read, and what they are read to, are those of the grammar; the others are refused by their first
-- bad line
pub record ReadsTheGrammar : Type 0 where
  pub reads : (text : List ℕ) (list : List Answer) → length text ≤ text_limit → (answers_of text ≡ Ok list) ↔ IsAnswers text list
  pub names : (text : List ℕ) (line : ℕ) → length text ≤ text_limit → (answers_of text ≡ Err line) ↔ IsBadFrom text line

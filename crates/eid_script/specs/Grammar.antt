-- The grammar of scripts, by what writes them. This project's own.
use Rattle.std.specs.Prelude.{◌≡◌, ℕ, ◌≤◌, ◌↔◌, List, [], ◌∷◌, ◌++◌, length, Ok, Err, codes, decimal, ⊤}
use Rattle.eid_text.specs.Grammars.{Writes, BreaksOff}
use Rattle.eid_text.specs.Hexadecimal.{IsHex}
use Rattle.eid_text.specs.Lines.{text_limit}
use Rattle.eid_cells.specs.declared.tear.Tear.{Tear}
use Rattle.eid_cells.specs.declared.tear.Tear.TheVariants.{Old, New, Half, Fill}
use Rattle.eid_script.specs.Scripts.{ScriptLine, OnLine, OffLine, ApduLine, CutLine, script_of}

-- `apdu HEX`, of 1 to 65,544 bytes
pub record IsApdu (line bytes : List ℕ) : Type 0 where
  pub digits : List ℕ
  pub is : line ≡ codes "apdu " ++ digits
  pub hex : IsHex digits bytes
  pub some : 1 ≤ length bytes
  pub most : length bytes ≤ 65544

-- `fill XX`
pub record IsFill (words : List ℕ) (byte : ℕ) : Type 0 where
  pub digits : List ℕ
  pub is : words ≡ codes "fill " ++ digits
  pub hex : IsHex digits (byte ∷ [])

-- the words for what a cut leaves
abbrev pub IsTear : List ℕ → Tear → Type 0
IsTear words Old = words ≡ codes "old"
IsTear words New = words ≡ codes "new"
IsTear words Half = words ≡ codes "half"
IsTear words (Fill byte) = IsFill words byte

-- `cut WRITE` and what the cut leaves, with a write from 1 to 1,000,000 in decimal
pub record IsCut (line : List ℕ) (write : ℕ) (tear : Tear) : Type 0 where
  pub words : List ℕ
  pub is : line ≡ codes "cut " ++ (decimal write ++ (32 ∷ words))
  pub leaves : IsTear words tear
  pub some : 1 ≤ write
  pub most : write ≤ 1000000

-- a line that says one thing
abbrev pub Spells : List ℕ → ScriptLine → Type 0
Spells line OnLine = line ≡ codes "on"
Spells line OffLine = line ≡ codes "off"
Spells line (ApduLine bytes) = IsApdu line bytes
Spells line (CutLine write tear) = IsCut line write tear

-- a line that says nothing: an empty one, or a comment, which begins with `#`
abbrev pub IsNote : List ℕ → Type 0
IsNote [] = ⊤
IsNote (c ∷ cs) = c ≡ 35

-- a text whose lines say these things in this order
abbrev pub IsScript : List ℕ → List ScriptLine → Type 0
IsScript text said = Writes IsNote Spells text said

-- a text whose first line that says neither nothing nor a thing has this number
abbrev pub IsBadFrom : List ℕ → ℕ → Type 0
IsBadFrom text number = BreaksOff IsNote Spells text number

-- the texts that are read, and what they are read to, are those of the grammar; the others are refused by their first
-- bad line
pub record ReadsTheGrammar : Type 0 where
  pub reads : (text : List ℕ) (said : List ScriptLine) → length text ≤ text_limit → (script_of text ≡ Ok said) ↔ IsScript text said
  pub names : (text : List ℕ) (line : ℕ) → length text ≤ text_limit → (script_of text ≡ Err line) ↔ IsBadFrom text line

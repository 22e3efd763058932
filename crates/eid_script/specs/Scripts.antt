-- Scripts: one line for each thing that comes, and for each power cut that is planned. This project's own.
use Rattle.std.specs.Prelude.{◌≡◌, ℕ, Bool, true, ◌==◌, ◌&&◌, nat_le, nat_lt, List, [], ◌∷◌, length, take, drop, slice_index}
use Rattle.std.specs.Prelude.{Option, Some, None, if◌then◌else◌, Result, Ok, Err, codes, ⊤}
use Rattle.std.specs.List.{before_first, after_first, list_all}
use Rattle.std.specs.Str.{bytes_eq}
use Rattle.std.specs.Str.Parse.{digits_value}
use Rattle.std.specs.Char.{is_ascii_digit}
use Rattle.hex.specs.Hex.{decode_sized}
use Rattle.hex.specs.declared.error.FromHexError.{FromHexError}
use Rattle.eid_text.specs.Hexadecimal.{bytes_within}
use Rattle.eid_text.specs.Lines.{is_space, said_in}
use Rattle.eid_cells.specs.declared.tear.Tear.{Tear}
use Rattle.eid_cells.specs.declared.tear.Tear.TheVariants.{Old, New, Half, Fill}
use Rattle.eid_script.specs.declared.script.Line.{Line}
use Rattle.eid_script.specs.declared.script.Line.TheVariants.{On, Off, Apdu, Cut}
use Rattle.eid_script.specs.declared.script.ScriptError.{ScriptError}
use Rattle.eid_script.specs.declared.script.ScriptError.TheVariants.{Bad, NoMemory}

-- a line as what it says
pub data ScriptLine : Type 0 where
  OnLine : ScriptLine
  OffLine : ScriptLine
  ApduLine : List ℕ → ScriptLine
  CutLine : ℕ → Tear → ScriptLine

-- the lines of the code as plain ones
abbrev pub plain_line : Line → ScriptLine
plain_line On = OnLine
plain_line Off = OffLine
plain_line (Apdu bytes) = ApduLine bytes.items
plain_line (Cut write tear) = CutLine write tear

-- the command of these bytes, of which there are some
abbrev pub command_line : Option (List ℕ) → Option (List ScriptLine)
command_line None = None
command_line (Some bytes) = if nat_le 1 (length bytes) then Some (ApduLine bytes ∷ []) else None

-- what `fill XX` leaves, the byte in two hexadecimal digits
abbrev pub filled : Result (List ℕ) FromHexError → Option Tear
filled (Err e) = None
filled (Ok bytes) = Some (Fill (slice_index bytes 0))

-- what a cut leaves: `old`, `new`, `half`, or `fill XX`
abbrev pub tear_of : List ℕ → Option Tear
tear_of words =
    if bytes_eq words (codes "old") then Some Old
    else if bytes_eq words (codes "new") then Some New
    else if bytes_eq words (codes "half") then Some Half
    else if bytes_eq (take 5 words) (codes "fill ") then filled (decode_sized (drop 5 words) 1)
    else None

-- one to seven decimal digits, the first of which is not 0
abbrev pub is_plain_number : List ℕ → Bool
is_plain_number word = nat_le 1 (length word) && nat_le (length word) 7 && nat_lt 48 (slice_index word 0) && list_all is_ascii_digit word

-- the number of a write: 1 to 1,000,000 in decimal, without leading zeros
abbrev pub write_of : List ℕ → Option ℕ
write_of word = if is_plain_number word && nat_le (digits_value 10 word) 1000000 then Some (digits_value 10 word) else None

abbrev pub cut_at : Option ℕ → Option Tear → Option (List ScriptLine)
cut_at None tear = None
cut_at (Some write) None = None
cut_at (Some write) (Some tear) = Some (CutLine write tear ∷ [])

-- the words behind `cut `: the number of the write, one space, and what the cut leaves
abbrev pub cut_line : List ℕ → Option (List ScriptLine)
cut_line words = cut_at (write_of (before_first is_space words)) (tear_of (after_first is_space words))

-- an empty line and a comment say nothing
abbrev pub is_skipped : List ℕ → Bool
is_skipped [] = true
is_skipped (c ∷ cs) = c == 35

-- what one line says: nothing, one thing, or it is no line of a script
abbrev pub says : List ℕ → Option (List ScriptLine)
says line =
    if is_skipped line then Some []
    else if bytes_eq line (codes "on") then Some (OnLine ∷ [])
    else if bytes_eq line (codes "off") then Some (OffLine ∷ [])
    else if bytes_eq (take 5 line) (codes "apdu ") then command_line (bytes_within 65544 (drop 5 line))
    else if bytes_eq (take 4 line) (codes "cut ") then cut_line (drop 4 line)
    else None

-- what a script says, or the first line that is none, 0 where the text is too long
abbrev pub script_of : List ℕ → Result (List ScriptLine) ℕ
script_of text = said_in says text

-- a refusal that names a line names that one
abbrev pub NamesLine : ScriptError → Result (List ScriptLine) ℕ → Type 0
NamesLine (Bad line) said = said ≡ Err line
NamesLine NoMemory said = ⊤

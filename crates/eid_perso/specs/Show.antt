-- The text that shows a record. This project's own.
use Rattle.std.specs.Prelude.{ℕ, ◌+◌, Bool, List, [], ◌∷◌, ◌++◌, map, Option, Some, None, if◌then◌else◌, codes, decimal}
use Rattle.hex.specs.Hex.{encode_lower}
use Rattle.eid_record.specs.Plain.{PlainTrustPoint, PlainRecord}
use Rattle.eid_perso.specs.Names.{file_names}

-- a line is a word, a space, a value and LF
abbrev pub line : List ℕ → List ℕ → List ℕ
line word value = word ++ codes " " ++ value ++ codes "\n"

abbrev pub yes_or_no : Bool → List ℕ
yes_or_no b = if b then codes "yes" else codes "no"

-- digits as ASCII
abbrev pub ascii : List ℕ → List ℕ
ascii digits = map (λ d. d + 48) digits

-- the name of a trust point in hexadecimal, or none
abbrev pub name_text : Option PlainTrustPoint → List ℕ
name_text None = codes "none"
name_text (Some t) = encode_lower t.name

-- the line of a file that is there; of an absent file there is none
abbrev pub file_line : List ℕ → Option ℕ → List ℕ
file_line name None = []
file_line name (Some length) = line name (decimal length)

-- the lines of files of these names and lengths
abbrev pub file_lines : List (List ℕ) → List (Option ℕ) → List ℕ
file_lines (name ∷ names) (length ∷ lengths) = file_line name length ++ file_lines names lengths
file_lines _ _ = []

-- the layout and the counters
abbrev pub counter_lines : ℕ → PlainRecord → List ℕ
counter_lines layout r =
    line (codes "layout") (decimal layout)
    ++ line (codes "number") (decimal r.number)
    ++ line (codes "tries") (decimal r.tries)
    ++ line (codes "unblocks") (decimal r.unblocks)

-- the PIN's state, the date and the trust points
abbrev pub state_lines : PlainRecord → List ℕ
state_lines r =
    line (codes "active") (yes_or_no r.active)
    ++ line (codes "date") (ascii r.date)
    ++ line (codes "current") (encode_lower r.current.name)
    ++ line (codes "previous") (name_text r.previous)

-- the text of a record that stands in this layout
abbrev pub shown : ℕ → PlainRecord → List ℕ
shown layout r = counter_lines layout r ++ state_lines r ++ file_lines file_names r.lengths

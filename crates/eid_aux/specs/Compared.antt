-- What the comparisons of auxiliary data give (BSI TR-03110-2 and -3): stored data against what the terminal sent.
use Rattle.std.specs.Prelude.{ℕ, Bool, true, false, nat_le, List, [], ◌∷◌, length, take, if◌then◌else◌}
use Rattle.std.specs.Str.{bytes_eq}
use Rattle.eid_bits.specs.Date.{digits_of, is_long_date, number_of}
use Rattle.eid_aux.specs.declared.compared.Compared.{Compared}
use Rattle.eid_aux.specs.declared.compared.Compared.TheVariants.{Yes, No, NoReference}

abbrev pub answer : Bool → Compared
answer true = Yes
answer false = No

-- a date, YYYYMMDD, as a number: later dates have greater ones
abbrev pub day : List ℕ → ℕ
day text = number_of (digits_of text)

-- age verification: the holder was born on the date that was sent, or before
abbrev pub compared_birth : (stored sent : List ℕ) → Compared
compared_birth stored sent = if is_long_date stored then answer (nat_le (day stored) (day sent)) else NoReference

-- document validity: the document expires on the date that was sent, or later
abbrev pub compared_expiry : (stored sent : List ℕ) → Compared
compared_expiry stored sent = if is_long_date stored then answer (nat_le (day sent) (day stored)) else NoReference

-- the bytes begin with these
abbrev pub begins_with : (bytes front : List ℕ) → Bool
begins_with bytes front = bytes_eq (take (length front) bytes) front

-- community: the identifier that is stored begins with the bytes that were sent
abbrev pub compared_community : (stored sent : List ℕ) → Compared
compared_community [] sent = NoReference
compared_community (first ∷ rest) sent = answer (begins_with (first ∷ rest) sent)

-- The bytes that a command is written as (ISO/IEC 7816-4): of its spellings the one with short length
-- fields, where they can say its lengths, else the one with extended fields.
use Rattle.std.specs.Prelude.{ℕ, Bool, true, false, ◌&&◌, nat_lt, nat_le, List, ◌∷◌, length}
use Rattle.eid_apdu.specs.Command.{PlainCommand, Case, Bare, ShortLe, ShortBody, ShortBodyLe, ExtendedLe, ExtendedBody, ExtendedBodyLe, tail}

-- short length fields can say the lengths
abbrev pub is_short : List ℕ → ℕ → Bool
is_short body ne = nat_le (length body) 255 && nat_le ne 256

-- the case, by whether the length fields are short, and whether there is a body and an expected length
abbrev pub case_of : Bool → Bool → Bool → Case
case_of short false false = Bare
case_of true false true = ShortLe
case_of true true false = ShortBody
case_of true true true = ShortBodyLe
case_of false false true = ExtendedLe
case_of false true false = ExtendedBody
case_of false true true = ExtendedBodyLe

abbrev pub case_written : List ℕ → ℕ → Case
case_written body ne = case_of (is_short body ne) (nat_lt 0 (length body)) (nat_lt 0 ne)

-- the bytes of a command
unfoldable pub written : PlainCommand → List ℕ
written c = c.cla ∷ c.ins ∷ c.p1 ∷ c.p2 ∷ tail (case_written c.body c.ne) c.body c.ne

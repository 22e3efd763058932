-- Which bytes of a file READ BINARY gives and UPDATE BINARY writes, and the status of a reading (ISO/IEC 7816-4).
use Rattle.std.specs.Prelude.{ℕ, ◌-◌, ◌==◌, ◌||◌, ◌&&◌, not, nat_lt, min, Bool, Option, Some, None, Result, Ok, Err, if◌then◌else◌}
use Rattle.eid_base.specs.Rules.{offset_rule, end_rule}
use Rattle.eid_base.specs.declared.codes.Rule.{Rule}
use Rattle.eid_base.specs.declared.codes.Status.{Status}

-- the command was carried out
abbrev pub done : ℕ
done = 0x9000

-- the file ends before all that was expected is read
abbrev pub ends_early : ℕ
ends_early = 0x6282

-- an expected length of 256 or 65,536 asks for all that there is
abbrev pub asks_for_all : ℕ → Bool
asks_for_all expected = expected == 256 || expected == 65536

-- the status of a reading where so many bytes are left behind the offset
abbrev pub read_status : (left expected : ℕ) → ℕ
read_status left expected = if nat_lt left expected && not (asks_for_all expected) then ends_early else done

-- how many bytes are read, and the status; or the rule that failed
abbrev pub read_given : (size offset expected : ℕ) → Result (ℕ × ℕ) ℕ
read_given size offset expected =
    if nat_lt size offset then Err offset_rule else Ok (min expected (size - offset), read_status (size - offset) expected)

-- the rule that a writing fails, if one does
abbrev pub write_refusal : (size offset count : ℕ) → Option ℕ
write_refusal size offset count =
    if nat_lt size offset then Some offset_rule
    else if nat_lt (size - offset) count then Some end_rule
    else None

-- a count and a status, or the number of the rule
abbrev pub range_view : Result (ℕ × Status) Rule → Result (ℕ × ℕ) ℕ
range_view (Ok range) = Ok (range.0, range.1.0)
range_view (Err rule) = Err rule.0

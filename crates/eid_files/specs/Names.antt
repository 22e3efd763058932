-- The files that commands name, by their numbers (BSI TR-03110-3 and -4): EF.CardAccess is 0, EF.CardSecurity is 1,
-- data group n is n + 1. How many data groups there are is this project's own.
use Rattle.std.specs.Prelude.{ℕ, ◌+◌, ◌-◌, ◌==◌, ◌&&◌, nat_le, Bool, Option, Some, None, option_and_then, option_map, if◌then◌else◌}
use Rattle.eid_record.specs.declared.fields.FileNo.{FileNo}

abbrev pub card_access : ℕ
card_access = 0

abbrev pub card_security : ℕ
card_security = 1

abbrev pub data_group : ℕ → ℕ
data_group n = n + 1

-- the number of the last data group; the first one is 1
abbrev pub last_data_group : ℕ
last_data_group = 21

abbrev pub is_data_group : ℕ → Bool
is_data_group n = nat_le 1 n && nat_le n last_data_group

-- the file of a short identifier: 1C, 1D, and n for data group n
abbrev pub file_of_short : ℕ → Option ℕ
file_of_short short =
    if short == 0x1C then Some card_access
    else if short == 0x1D then Some card_security
    else if is_data_group short then Some (data_group short)
    else None

-- an identifier of a file is its short identifier behind the byte 01
abbrev pub short_of : ℕ → Option ℕ
short_of id = if nat_le 0x0100 id && nat_le id 0x01FF then Some (id - 0x0100) else None

-- the file of an identifier: 011C, 011D, and 0100 + n for data group n
abbrev pub file_of_id : ℕ → Option ℕ
file_of_id id = option_and_then file_of_short (short_of id)

-- the data group that a file is
abbrev pub data_group_of : ℕ → Option ℕ
data_group_of file = if is_data_group (file - 1) then Some (file - 1) else None

-- the number of a file that was found
abbrev pub found : Option FileNo → Option ℕ
found file = option_map (λ f. f.0) file

-- Inside: the length fields as the writer makes them, one by one. Only private functions cite these.
use Rattle.std.specs.Prelude.{ℕ, Bool, nat_lt, List, [], ◌∷◌, if◌then◌else◌}
use Rattle.eid_apdu.specs.Command.{short_le, extended_le, two_bytes}

-- the field Lc for a body of this size, or of none
abbrev pub lc_bytes : Bool → ℕ → List ℕ
lc_bytes short size = if nat_lt 0 size then (if short then size ∷ [] else 0 ∷ two_bytes size) else []

-- the field Le behind a body of this size, or of none
abbrev pub le_bytes : Bool → ℕ → ℕ → List ℕ
le_bytes short size ne =
    if nat_lt 0 ne then
    (if short then short_le ne ∷ []
    else if nat_lt 0 size then two_bytes (extended_le ne)
    else 0 ∷ two_bytes (extended_le ne))
    else []

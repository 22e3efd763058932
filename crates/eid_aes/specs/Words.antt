-- Inside: a word of the key expansion, byte by byte. Only private functions cite these.
use Rattle.std.specs.Prelude.{ℕ, List, [], ◌∷◌, slice_index, bit_xor}
use Rattle.eid_aes.specs.Field.{sub}

-- the bytes moved one place to the left and substituted, and the round constant added to the first
abbrev pub rotated_word : List ℕ → ℕ → List ℕ
rotated_word t constant =
    bit_xor (sub (slice_index t 1)) constant ∷ sub (slice_index t 2) ∷ sub (slice_index t 3) ∷ sub (slice_index t 0) ∷ []

-- Inside: a state as four columns, each a number of 32 bits with the byte of row 0 lowest. Only private functions
-- cite these.
use Rattle.std.specs.Prelude.{ℕ, ◌/◌, ◌%◌, List, [], ◌∷◌, map, slice_index, bit_xor}
use Rattle.std.specs.Int.{byte_at}
use Rattle.eid_aes.specs.Field.{product, sub}
use Rattle.eid_aes.specs.Cipher.{places, coefficient, sum_of_four, mixing}

-- the bytes of the columns
unfoldable pub state_of : List ℕ → List ℕ
state_of columns = map (λ i. byte_at (i % 4) (slice_index columns (i / 4))) places

-- the byte of row r of a mixed column, whose bytes stand in the columns a, b, c and d before the rows are shifted, and
-- of the round key's column added to it
abbrev pub round_byte : ℕ → ℕ → ℕ → ℕ → ℕ → ℕ → ℕ
round_byte r a b c d key =
    bit_xor (sum_of_four (product (coefficient mixing r 0) (sub (byte_at 0 a))) (product (coefficient mixing r 1) (sub (byte_at 1 b)))
    (product (coefficient mixing r 2) (sub (byte_at 2 c))) (product (coefficient mixing r 3) (sub (byte_at 3 d))))
    (byte_at r key)

-- the same in the last round, which does not mix
abbrev pub last_byte : ℕ → ℕ → ℕ → ℕ → ℕ → ℕ → ℕ
last_byte r a b c d key = bit_xor (sub (byte_at r (slice_index (a ∷ b ∷ c ∷ d ∷ []) r))) (byte_at r key)

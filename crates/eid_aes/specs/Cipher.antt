-- The block cipher AES (FIPS 197, section 5). A block and each state is a list of 16 bytes, column by column:
-- the byte of row r and column c stands at place r + 4 * c.
use Rattle.std.specs.Prelude.{ℕ, zero, suc, ◌+◌, ◌-◌, ◌*◌, ◌/◌, ◌%◌, ◌==◌, ◌&&◌, ◌≡◌, ◌<◌, ◌≤◌, nat_lt, List, [], ◌∷◌, ◌++◌, length, take, map, slice_index, bit_xor, if◌then◌else◌}
use Rattle.eid_aes.specs.Field.{xtimes, product, sub, inv_sub}

-- the places of a block
abbrev pub places : List ℕ
places = 0 ∷ 1 ∷ 2 ∷ 3 ∷ 4 ∷ 5 ∷ 6 ∷ 7 ∷ 8 ∷ 9 ∷ 10 ∷ 11 ∷ 12 ∷ 13 ∷ 14 ∷ 15 ∷ []

-- a list of 16 bytes
pub record IsBlock (s : List ℕ) : Type 0 where
  pub size : length s ≡ 16
  pub bytes : (i : ℕ) → slice_index s i < 256

-- ---- the steps of a round (5.1), and the steps that undo them (5.3)

unfoldable pub sub_bytes : List ℕ → List ℕ
sub_bytes s = map (λ i. sub (slice_index s i)) places

unfoldable pub inv_sub_bytes : List ℕ → List ℕ
inv_sub_bytes s = map (λ i. inv_sub (slice_index s i)) places

-- row r moves r columns to the left
unfoldable pub shift_rows : List ℕ → List ℕ
shift_rows s = map (λ i. slice_index s ((i + 4 * (i % 4)) % 16)) places

unfoldable pub inv_shift_rows : List ℕ → List ℕ
inv_shift_rows s = map (λ i. slice_index s ((i + 12 * (i % 4)) % 16)) places

-- the coefficient at row r and column k of the matrix whose first row is given, each further row moved one place
-- to the right
abbrev pub coefficient : List ℕ → ℕ → ℕ → ℕ
coefficient row r k = slice_index row ((4 + k - r) % 4)

-- the sum of four elements
abbrev pub sum_of_four : ℕ → ℕ → ℕ → ℕ → ℕ
sum_of_four a b c d = bit_xor (bit_xor (bit_xor a b) c) d

-- the byte at place i of the state whose columns are multiplied by the matrix
abbrev pub mixed_byte : List ℕ → List ℕ → ℕ → ℕ
mixed_byte row s i =
    sum_of_four (product (coefficient row (i % 4) 0) (slice_index s (4 * (i / 4))))
    (product (coefficient row (i % 4) 1) (slice_index s (4 * (i / 4) + 1)))
    (product (coefficient row (i % 4) 2) (slice_index s (4 * (i / 4) + 2)))
    (product (coefficient row (i % 4) 3) (slice_index s (4 * (i / 4) + 3)))

abbrev pub mixing : List ℕ
mixing = 0x02 ∷ 0x03 ∷ 0x01 ∷ 0x01 ∷ []

abbrev pub inv_mixing : List ℕ
inv_mixing = 0x0e ∷ 0x0b ∷ 0x0d ∷ 0x09 ∷ []

unfoldable pub mix_columns : List ℕ → List ℕ
mix_columns s = map (mixed_byte mixing s) places

unfoldable pub inv_mix_columns : List ℕ → List ℕ
inv_mix_columns s = map (mixed_byte inv_mixing s) places

-- two blocks added byte by byte
unfoldable pub xor_block : List ℕ → List ℕ → List ℕ
xor_block a b = map (λ i. bit_xor (slice_index a i) (slice_index b i)) places

-- round key r of the expanded key w
unfoldable pub round_key : List ℕ → ℕ → List ℕ
round_key w r = map (λ i. slice_index w (16 * r + i)) places

abbrev pub add_round_key : List ℕ → ℕ → List ℕ → List ℕ
add_round_key w r s = xor_block s (round_key w r)

-- ---- key expansion (5.2)

-- the number of words of a key, Nk, and of its rounds, Nr: 10, 12 and 14 for 16, 24 and 32 bytes
abbrev pub words_of : List ℕ → ℕ
words_of key = length key / 4

abbrev pub rounds_of : List ℕ → ℕ
rounds_of key = words_of key + 6

-- x to the n
unfoldable pub power_of_x : ℕ → ℕ
power_of_x zero = 1
power_of_x (suc n) = xtimes (power_of_x n)

-- word i of an expanded key of bytes
abbrev pub word_at : List ℕ → ℕ → List ℕ
word_at w i = slice_index w (4 * i) ∷ slice_index w (4 * i + 1) ∷ slice_index w (4 * i + 2) ∷ slice_index w (4 * i + 3) ∷ []

-- SUBWORD: the four bytes substituted
abbrev pub sub_word : List ℕ → List ℕ
sub_word t = map (λ j. sub (slice_index t j)) (0 ∷ 1 ∷ 2 ∷ 3 ∷ [])

-- ROTWORD: the four bytes moved one place to the left
abbrev pub rot_word : List ℕ → List ℕ
rot_word t = slice_index t 1 ∷ slice_index t 2 ∷ slice_index t 3 ∷ slice_index t 0 ∷ []

-- two words added byte by byte
abbrev pub xor_word : List ℕ → List ℕ → List ℕ
xor_word a b = map (λ j. bit_xor (slice_index a j) (slice_index b j)) (0 ∷ 1 ∷ 2 ∷ 3 ∷ [])

-- what word i of a key of nk words is added to: the word t before it, transformed where its place asks for that
unfoldable pub transformed_word : ℕ → ℕ → List ℕ → List ℕ
transformed_word nk i t =
    if i % nk == 0 then xor_word (sub_word (rot_word t)) (power_of_x (i / nk - 1) ∷ 0 ∷ 0 ∷ 0 ∷ [])
    else if nat_lt 6 nk && (i % nk == 4) then sub_word t
    else t

-- word i of the expanded key, from the words before it
unfoldable pub next_word : ℕ → ℕ → List ℕ → List ℕ
next_word nk i w = xor_word (word_at w (i - nk)) (transformed_word nk i (word_at w (i - 1)))

-- the key with n words more
unfoldable pub expanded : List ℕ → ℕ → List ℕ
expanded key zero = key
expanded key (suc n) = expanded key n ++ next_word (words_of key) (words_of key + n) (expanded key n)

-- a round key for each round and one more
unfoldable pub key_expansion : List ℕ → List ℕ
key_expansion key = expanded key (4 * (rounds_of key + 1) - words_of key)

-- the key that an expanded key for a number of rounds begins with
abbrev pub key_of : ℕ → List ℕ → List ℕ
key_of rounds w = take (4 * (rounds - 6)) w

-- 240 bytes, room for 15 round keys, begin with an expanded key
pub record IsSchedule (rounds : ℕ) (w : List ℕ) : Type 0 where
  pub least : 10 ≤ rounds
  pub most : rounds ≤ 14
  pub size : length w ≡ 240
  pub bytes : (i : ℕ) → slice_index (key_of rounds w) i < 256
  pub made : take (16 * (rounds + 1)) w ≡ key_expansion (key_of rounds w)

-- ---- the cipher (5.1) and its inverse (5.3)

-- the state after the first round key and n whole rounds
unfoldable pub after_rounds : List ℕ → ℕ → List ℕ → List ℕ
after_rounds w zero block = add_round_key w 0 block
after_rounds w (suc n) block = add_round_key w (suc n) (mix_columns (shift_rows (sub_bytes (after_rounds w n block))))

-- the last round of nr has no mixing
unfoldable pub cipher_rounds : List ℕ → ℕ → List ℕ → List ℕ
cipher_rounds w nr block = add_round_key w nr (shift_rows (sub_bytes (after_rounds w (nr - 1) block)))

-- the block that a state after n whole rounds comes from
unfoldable pub before_rounds : List ℕ → ℕ → List ℕ → List ℕ
before_rounds w zero s = add_round_key w 0 s
before_rounds w (suc n) s = before_rounds w n (inv_sub_bytes (inv_shift_rows (inv_mix_columns (add_round_key w (suc n) s))))

unfoldable pub inv_cipher_rounds : List ℕ → ℕ → List ℕ → List ℕ
inv_cipher_rounds w nr block = before_rounds w (nr - 1) (inv_sub_bytes (inv_shift_rows (add_round_key w nr block)))

-- the block encrypted under a key of 16, 24 or 32 bytes
unfoldable pub cipher : List ℕ → List ℕ → List ℕ
cipher key block = cipher_rounds (key_expansion key) (rounds_of key) block

-- the block decrypted
unfoldable pub inv_cipher : List ℕ → List ℕ → List ℕ
inv_cipher key block = inv_cipher_rounds (key_expansion key) (rounds_of key) block

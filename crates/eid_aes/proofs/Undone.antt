-- Decryption undoes encryption, and encryption decryption.
use Rattle.std.proofs.Common.{◌≡◌, ℕ, zero, suc, ◌+◌, ◌-◌, ◌*◌, ◌/◌, ◌%◌, ◌<◌, List, [], ◌∷◌, length, map, refl, sym, ap, ◌∙◌, slice_index, bit_xor, arith, inl, inr}
use Rattle.std.proofs.lemmas.List.{get_or_past}
use Rattle.std.proofs.lemmas.Nat.{xor_of_8}
use Rattle.std.proofs.lemmas.Bool.{cases_lt}
use Rattle.eid_aes.specs.Field.{sub, inv_sub}
use Rattle.eid_aes.specs.Cipher.{places, IsBlock, mixed_byte, mixing, inv_mixing, sub_bytes, inv_sub_bytes, shift_rows, inv_shift_rows, mix_columns, inv_mix_columns, xor_block, round_key, add_round_key, after_rounds, before_rounds, cipher_rounds, inv_cipher_rounds}
use Rattle.eid_aes.proofs.BlockFacts.{at_place, by_places}
use Rattle.eid_aes.proofs.FieldFacts.{xor_twice, sub-lt, inv_sub-lt, inv_sub-sub, sub-inv_sub, row_sum, row_sum-lt, Undoes, column_undone, mixing_undoes, inv_mixing_undoes}

-- a block by its places
block_from : (f : ℕ → ℕ) → ((k : ℕ) → k < 16 → f k < 256) → IsBlock (map f places)
block_from f below = record {
  size = refl;
  bytes = λ i. elim (cases_lt i 16) [
    | inl h ↦ rw (at_place f i h) (below i h)
    | inr h ↦ rw (get_or_past (map f places) i 0 h) (omega arith)
  ];
}

block_places : (s : List ℕ) → IsBlock s → map (slice_index s) places ≡ s
block_places s b = sym (by_places (slice_index s) s b.size (λ k h. refl))

-- ---- blocks stay blocks

sub_bytes-block : (s : List ℕ) → IsBlock s → IsBlock (sub_bytes s)
unfolding sub_bytes
sub_bytes-block s b = block_from _ (λ k h. sub-lt _ (b.bytes k))

inv_sub_bytes-block : (s : List ℕ) → IsBlock s → IsBlock (inv_sub_bytes s)
unfolding inv_sub_bytes
inv_sub_bytes-block s b = block_from _ (λ k h. inv_sub-lt _ (b.bytes k))

shift_rows-block : (s : List ℕ) → IsBlock s → IsBlock (shift_rows s)
unfolding shift_rows
shift_rows-block s b = block_from (λ i. slice_index s ((i + 4 * (i % 4)) % 16)) (λ k h. b.bytes ((k + 4 * (k % 4)) % 16))

inv_shift_rows-block : (s : List ℕ) → IsBlock s → IsBlock (inv_shift_rows s)
unfolding inv_shift_rows
inv_shift_rows-block s b = block_from (λ i. slice_index s ((i + 12 * (i % 4)) % 16)) (λ k h. b.bytes ((k + 12 * (k % 4)) % 16))

mix_columns-block : (s : List ℕ) → IsBlock s → IsBlock (mix_columns s)
unfolding mix_columns
mix_columns-block s b = block_from (mixed_byte mixing s) (λ k h. row_sum-lt mixing (k % 4) _ _ _ _ (b.bytes (4 * (k / 4))) (b.bytes (4 * (k / 4) + 1)) (b.bytes (4 * (k / 4) + 2)) (b.bytes (4 * (k / 4) + 3)))

inv_mix_columns-block : (s : List ℕ) → IsBlock s → IsBlock (inv_mix_columns s)
unfolding inv_mix_columns
inv_mix_columns-block s b = block_from (mixed_byte inv_mixing s) (λ k h. row_sum-lt inv_mixing (k % 4) _ _ _ _ (b.bytes (4 * (k / 4))) (b.bytes (4 * (k / 4) + 1)) (b.bytes (4 * (k / 4) + 2)) (b.bytes (4 * (k / 4) + 3)))

pub xor_block-block : (s t : List ℕ) → IsBlock s → ((i : ℕ) → slice_index t i < 256) → IsBlock (xor_block s t)
unfolding xor_block
xor_block-block s t b below = block_from _ (λ k h. xor_of_8 _ _ (b.bytes k) (below k))

round_key-bytes : (w : List ℕ) (r : ℕ) → ((i : ℕ) → slice_index w i < 256) → (i : ℕ) → slice_index (round_key w r) i < 256
unfolding round_key
round_key-bytes w r below = (block_from _ (λ k h. below (16 * r + k))).bytes

-- ---- each step undone

pub xor_block_twice : (s t : List ℕ) → length s ≡ 16 → xor_block (xor_block s t) t ≡ s
unfolding xor_block
xor_block_twice s t len =
    sym (by_places _ s len (λ k h. sym (ap (λ (n : ℕ). bit_xor n (slice_index t k)) (at_place (λ i. bit_xor (slice_index s i) (slice_index t i)) k h) ∙ xor_twice (slice_index s k) (slice_index t k))))

inv_sub_bytes-sub_bytes : (s : List ℕ) → IsBlock s → inv_sub_bytes (sub_bytes s) ≡ s
unfolding inv_sub_bytes sub_bytes
inv_sub_bytes-sub_bytes s b =
    sym (by_places _ s b.size (λ k h. sym (ap inv_sub (at_place (λ i. sub (slice_index s i)) k h) ∙ inv_sub-sub (slice_index s k) (b.bytes k))))

sub_bytes-inv_sub_bytes : (s : List ℕ) → IsBlock s → sub_bytes (inv_sub_bytes s) ≡ s
unfolding inv_sub_bytes sub_bytes
sub_bytes-inv_sub_bytes s b =
    sym (by_places _ s b.size (λ k h. sym (ap sub (at_place (λ i. inv_sub (slice_index s i)) k h) ∙ sub-inv_sub (slice_index s k) (b.bytes k))))

inv_shift_rows-shift_rows : (s : List ℕ) → length s ≡ 16 → inv_shift_rows (shift_rows s) ≡ s
unfolding inv_shift_rows shift_rows
inv_shift_rows-shift_rows s len = sym (by_places (slice_index s) s len (λ k h. refl))

shift_rows-inv_shift_rows : (s : List ℕ) → length s ≡ 16 → shift_rows (inv_shift_rows s) ≡ s
unfolding inv_shift_rows shift_rows
shift_rows-inv_shift_rows s len = sym (by_places (slice_index s) s len (λ k h. refl))

column_at : (s : List ℕ) (c r : ℕ) → r < 4 → slice_index (slice_index s c ∷ slice_index s (c + 1) ∷ slice_index s (c + 2) ∷ slice_index s (c + 3) ∷ []) r ≡ slice_index s (c + r)
column_at s c zero h = ap (slice_index s) (omega arith)
column_at s c (suc zero) h = refl
column_at s c (suc (suc zero)) h = refl
column_at s c (suc (suc (suc zero))) h = refl
column_at s c (suc (suc (suc (suc r)))) h = absurd (omega arith)

-- the byte of a column
in_column : (s : List ℕ) (i : ℕ) → i < 16
    → slice_index (slice_index s (4 * (i / 4)) ∷ slice_index s (4 * (i / 4) + 1) ∷ slice_index s (4 * (i / 4) + 2) ∷ slice_index s (4 * (i / 4) + 3) ∷ []) (i % 4) ≡ slice_index s i
in_column s i h = column_at s (4 * (i / 4)) (i % 4) (omega arith) ∙ ap (slice_index s) (omega arith)

mixed_undone : (row other s : List ℕ) → Undoes row other → IsBlock s → map (mixed_byte row (map (mixed_byte other s) places)) places ≡ s
mixed_undone row other s undoes b = sym (by_places (mixed_byte row (map (mixed_byte other s) places)) s b.size (λ i h.
    let c : ℕ = 4 * (i / 4) in
    let at : (k : ℕ) → k < 4 → slice_index (map (mixed_byte other s) places) (4 * (i / 4) + k)
    ≡ row_sum other k (slice_index s c) (slice_index s (c + 1)) (slice_index s (c + 2)) (slice_index s (c + 3)) =
    λ k hk.
    let row_is : (4 * (i / 4) + k) % 4 ≡ k = omega arith in
    let column_is : (4 * (i / 4) + k) / 4 ≡ i / 4 = omega arith in
    at_place (mixed_byte other s) (4 * (i / 4) + k) (omega arith) ∙ rw (row_is, column_is) refl in
    let first : slice_index (map (mixed_byte other s) places) (4 * (i / 4)) ≡ slice_index (map (mixed_byte other s) places) (4 * (i / 4) + 0) =
    ap (slice_index (map (mixed_byte other s) places)) (omega arith) in
    sym (rw (first, at 0 (omega arith), at 1 (omega arith), at 2 (omega arith), at 3 (omega arith))
    (column_undone row other undoes (i % 4) _ _ _ _ (omega arith) (b.bytes c) (b.bytes (c + 1)) (b.bytes (c + 2)) (b.bytes (c + 3)) ∙ in_column s i h))))

inv_mix_columns-mix_columns : (s : List ℕ) → IsBlock s → inv_mix_columns (mix_columns s) ≡ s
unfolding inv_mix_columns mix_columns
inv_mix_columns-mix_columns s b = mixed_undone inv_mixing mixing s inv_mixing_undoes b

mix_columns-inv_mix_columns : (s : List ℕ) → IsBlock s → mix_columns (inv_mix_columns s) ≡ s
unfolding inv_mix_columns mix_columns
mix_columns-inv_mix_columns s b = mixed_undone mixing inv_mixing s mixing_undoes b

-- ---- rounds undone

-- an expanded key of bytes
abbrev IsBytes : List ℕ → Type 0
IsBytes w = (i : ℕ) → slice_index w i < 256

added-block : (w s : List ℕ) (r : ℕ) → IsBytes w → IsBlock s → IsBlock (add_round_key w r s)
added-block w s r bytes b = xor_block-block s (round_key w r) b (round_key-bytes w r bytes)

after_rounds-block : (w block : List ℕ) (n : ℕ) → IsBytes w → IsBlock block → IsBlock (after_rounds w n block)
unfolding after_rounds
after_rounds-block w block zero bytes b = added-block w block 0 bytes b
after_rounds-block w block (suc n) bytes b =
    added-block w _ (suc n) bytes (mix_columns-block _ (shift_rows-block _ (sub_bytes-block _ (after_rounds-block w block n bytes b))))

before_rounds-block : (w s : List ℕ) (n : ℕ) → IsBytes w → IsBlock s → IsBlock (before_rounds w n s)
unfolding before_rounds
before_rounds-block w s zero bytes b = added-block w s 0 bytes b
before_rounds-block w s (suc n) bytes b =
    before_rounds-block w (inv_sub_bytes (inv_shift_rows (inv_mix_columns (add_round_key w (suc n) s)))) n bytes (inv_sub_bytes-block _ (inv_shift_rows-block _ (inv_mix_columns-block _ (added-block w s (suc n) bytes b))))

last_undone : (w s : List ℕ) (r : ℕ) → IsBlock s → inv_sub_bytes (inv_shift_rows (add_round_key w r (add_round_key w r (shift_rows (sub_bytes s))))) ≡ s
last_undone w s r b =
    let subbed : IsBlock (sub_bytes s) = sub_bytes-block s b in
    let shifted : IsBlock (shift_rows (sub_bytes s)) = shift_rows-block (sub_bytes s) subbed in
    rw (xor_block_twice (shift_rows (sub_bytes s)) (round_key w r) shifted.size, inv_shift_rows-shift_rows (sub_bytes s) subbed.size) (inv_sub_bytes-sub_bytes s b)

round_undone : (w s : List ℕ) (r : ℕ) → IsBlock s
    → inv_sub_bytes (inv_shift_rows (inv_mix_columns (add_round_key w r (add_round_key w r (mix_columns (shift_rows (sub_bytes s))))))) ≡ s
round_undone w s r b =
    let subbed : IsBlock (sub_bytes s) = sub_bytes-block s b in
    let shifted : IsBlock (shift_rows (sub_bytes s)) = shift_rows-block (sub_bytes s) subbed in
    let mixed : IsBlock (mix_columns (shift_rows (sub_bytes s))) = mix_columns-block _ shifted in
    rw (
      xor_block_twice (mix_columns (shift_rows (sub_bytes s))) (round_key w r) mixed.size,
      inv_mix_columns-mix_columns (shift_rows (sub_bytes s)) shifted,
      inv_shift_rows-shift_rows (sub_bytes s) subbed.size,
    ) (inv_sub_bytes-sub_bytes s b)

before-after_rounds : (w block : List ℕ) (n : ℕ) → IsBytes w → IsBlock block → before_rounds w n (after_rounds w n block) ≡ block
unfolding before_rounds after_rounds
before-after_rounds w block zero bytes b = xor_block_twice block (round_key w 0) b.size
before-after_rounds w block (suc n) bytes b =
    rw (round_undone w (after_rounds w n block) (suc n) (after_rounds-block w block n bytes b)) (before-after_rounds w block n bytes b)

pub inv_cipher_rounds-cipher_rounds : (w block : List ℕ) (nr : ℕ) → IsBytes w → IsBlock block → inv_cipher_rounds w nr (cipher_rounds w nr block) ≡ block
unfolding inv_cipher_rounds cipher_rounds
inv_cipher_rounds-cipher_rounds w block nr bytes b =
    rw (last_undone w (after_rounds w (nr - 1) block) nr (after_rounds-block w block (nr - 1) bytes b)) (before-after_rounds w block (nr - 1) bytes b)

-- the same the other way round

last_redone : (w s : List ℕ) (r : ℕ) → IsBytes w → IsBlock s → add_round_key w r (shift_rows (sub_bytes (inv_sub_bytes (inv_shift_rows (add_round_key w r s))))) ≡ s
last_redone w s r bytes b =
    let added : IsBlock (add_round_key w r s) = added-block w s r bytes b in
    let shifted : IsBlock (inv_shift_rows (add_round_key w r s)) = inv_shift_rows-block _ added in
    rw (sub_bytes-inv_sub_bytes (inv_shift_rows (add_round_key w r s)) shifted, shift_rows-inv_shift_rows (add_round_key w r s) added.size) (xor_block_twice s (round_key w r) b.size)

round_redone : (w s : List ℕ) (r : ℕ) → IsBytes w → IsBlock s
    → add_round_key w r (mix_columns (shift_rows (sub_bytes (inv_sub_bytes (inv_shift_rows (inv_mix_columns (add_round_key w r s))))))) ≡ s
round_redone w s r bytes b =
    let added : IsBlock (add_round_key w r s) = added-block w s r bytes b in
    let mixed : IsBlock (inv_mix_columns (add_round_key w r s)) = inv_mix_columns-block _ added in
    let shifted : IsBlock (inv_shift_rows (inv_mix_columns (add_round_key w r s))) = inv_shift_rows-block _ mixed in
    rw (
      sub_bytes-inv_sub_bytes (inv_shift_rows (inv_mix_columns (add_round_key w r s))) shifted,
      shift_rows-inv_shift_rows (inv_mix_columns (add_round_key w r s)) mixed.size,
      mix_columns-inv_mix_columns (add_round_key w r s) added,
    ) (xor_block_twice s (round_key w r) b.size)

after-before_rounds : (w s : List ℕ) (n : ℕ) → IsBytes w → IsBlock s → after_rounds w n (before_rounds w n s) ≡ s
unfolding before_rounds after_rounds
after-before_rounds w s zero bytes b = xor_block_twice s (round_key w 0) b.size
after-before_rounds w s (suc n) bytes b =
    let added : IsBlock (add_round_key w (suc n) s) = added-block w s (suc n) bytes b in
    rw (after-before_rounds w (inv_sub_bytes (inv_shift_rows (inv_mix_columns (add_round_key w (suc n) s)))) n bytes
    (inv_sub_bytes-block _ (inv_shift_rows-block _ (inv_mix_columns-block _ added)))) (round_redone w s (suc n) bytes b)

pub cipher_rounds-inv_cipher_rounds : (w block : List ℕ) (nr : ℕ) → IsBytes w → IsBlock block → cipher_rounds w nr (inv_cipher_rounds w nr block) ≡ block
unfolding inv_cipher_rounds cipher_rounds
cipher_rounds-inv_cipher_rounds w block nr bytes b =
    let added : IsBlock (add_round_key w nr block) = added-block w block nr bytes b in
    rw (after-before_rounds w (inv_sub_bytes (inv_shift_rows (add_round_key w nr block))) (nr - 1) bytes (inv_sub_bytes-block _ (inv_shift_rows-block _ added)))
    (last_redone w block nr bytes b)

pub cipher_rounds-block : (w block : List ℕ) (nr : ℕ) → IsBytes w → IsBlock block → IsBlock (cipher_rounds w nr block)
unfolding cipher_rounds
cipher_rounds-block w block nr bytes b = added-block w _ nr bytes (shift_rows-block _ (sub_bytes-block _ (after_rounds-block w block (nr - 1) bytes b)))

pub inv_cipher_rounds-block : (w block : List ℕ) (nr : ℕ) → IsBytes w → IsBlock block → IsBlock (inv_cipher_rounds w nr block)
unfolding inv_cipher_rounds
inv_cipher_rounds-block w block nr bytes b = before_rounds-block w _ (nr - 1) bytes (inv_sub_bytes-block _ (inv_shift_rows-block _ (added-block w block nr bytes b)))

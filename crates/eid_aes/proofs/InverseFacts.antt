-- The tables of the inverse matrix, byte by byte.
use Rattle.std.proofs.Common.{◌≡◌, ℕ, ◌<◌, Bool, true, List, [], ◌∷◌, refl, ap, ◌∙◌, get_or, bit_xor, arith}
use Rattle.std.specs.Prelude.{nat_eq}
use Rattle.std.specs.Int.{w32, byte_at, to_le_bytes}
use Rattle.eid_aes.specs.Field.{product, product_of_bits, xtimes}
use Rattle.eid_aes.specs.Cipher.{coefficient, sum_of_four, inv_mixing}
use Rattle.eid_aes.specs.declared.tables.TheConstants.{INVERSE_MIXED_0, INVERSE_MIXED_1, INVERSE_MIXED_2, INVERSE_MIXED_3}
use Rattle.eid_aes.proofs.FieldFacts.{each, each_pair}
use Rattle.eid_aes.proofs.ColumnFacts.{byte_at-xor, same_sum}

abbrev entries : List ℕ → ℕ → Bool
entries table k = each 256 (λ x. each 4 (λ r. nat_eq (byte_at r (get_or table x 0)) (product (coefficient inv_mixing r k) x)))

entry_of : (table : List ℕ) (k : ℕ) → entries table k ≡ true → (x r : ℕ) → x < 256 → r < 4 → byte_at r (get_or table x 0) ≡ product (coefficient inv_mixing r k) x
entry_of table k h x r hx hr = each_pair 256 4 (λ y s. byte_at s (get_or table y 0)) (λ y s. product (coefficient inv_mixing s k) y) x r h hx hr

inverse_mixed_0 : entries INVERSE_MIXED_0 0 ≡ true
unfolding xtimes product_of_bits product
inverse_mixed_0 = refl

inverse_mixed_1 : entries INVERSE_MIXED_1 1 ≡ true
unfolding xtimes product_of_bits product
inverse_mixed_1 = refl

inverse_mixed_2 : entries INVERSE_MIXED_2 2 ≡ true
unfolding xtimes product_of_bits product
inverse_mixed_2 = refl

inverse_mixed_3 : entries INVERSE_MIXED_3 3 ≡ true
unfolding xtimes product_of_bits product
inverse_mixed_3 = refl

abbrev pub column_of : ℕ → ℕ → ℕ → ℕ → ℕ
column_of a b c d =
    bit_xor (bit_xor (bit_xor (get_or INVERSE_MIXED_0 a 0) (get_or INVERSE_MIXED_1 b 0)) (get_or INVERSE_MIXED_2 c 0)) (get_or INVERSE_MIXED_3 d 0)

-- a byte of a sum of entries
byte_of : (a b c d : ℕ) → a < 256 → b < 256 → c < 256 → d < 256 → (r : ℕ) → r < 4
    → byte_at r (column_of a b c d)
    ≡ sum_of_four (product (coefficient inv_mixing r 0) a) (product (coefficient inv_mixing r 1) b) (product (coefficient inv_mixing r 2) c) (product (coefficient inv_mixing r 3) d)
byte_of a b c d ha hb hc hd r h =
    let t0 : ℕ = get_or INVERSE_MIXED_0 a 0 in
    let t1 : ℕ = get_or INVERSE_MIXED_1 b 0 in
    let t2 : ℕ = get_or INVERSE_MIXED_2 c 0 in
    let t3 : ℕ = get_or INVERSE_MIXED_3 d 0 in
    let e0 = entry_of INVERSE_MIXED_0 0 inverse_mixed_0 a r ha h in
    let e1 = entry_of INVERSE_MIXED_1 1 inverse_mixed_1 b r hb h in
    let e2 = entry_of INVERSE_MIXED_2 2 inverse_mixed_2 c r hc h in
    let e3 = entry_of INVERSE_MIXED_3 3 inverse_mixed_3 d r hd h in
    byte_at-xor r (bit_xor (bit_xor t0 t1) t2) t3 h ∙ same_sum (byte_at-xor r (bit_xor t0 t1) t2 h ∙ same_sum (byte_at-xor r t0 t1 h ∙ same_sum e0 e1) e2) e3

same_four : {a b c d i j k l : ℕ} → a ≡ i → b ≡ j → c ≡ k → d ≡ l → (a ∷ b ∷ c ∷ d ∷ []) ≡ (i ∷ j ∷ k ∷ l ∷ [])
same_four e f g h = cc

four_bytes : (n : ℕ) → to_le_bytes w32 n ≡ byte_at 0 n ∷ byte_at 1 n ∷ byte_at 2 n ∷ byte_at 3 n ∷ []
four_bytes n = refl

-- a column multiplied by the inverse matrix
pub inverse_column : (a b c d n : ℕ) → a < 256 → b < 256 → c < 256 → d < 256 → n ≡ column_of a b c d
    → to_le_bytes w32 n
    ≡ sum_of_four (product 14 a) (product 11 b) (product 13 c) (product 9 d)
    ∷ sum_of_four (product 9 a) (product 14 b) (product 11 c) (product 13 d)
    ∷ sum_of_four (product 13 a) (product 9 b) (product 14 c) (product 11 d)
    ∷ sum_of_four (product 11 a) (product 13 b) (product 9 c) (product 14 d) ∷ []
inverse_column a b c d n ha hb hc hd e =
    ap (to_le_bytes w32) e ∙ four_bytes (column_of a b c d)
    ∙ same_four (byte_of a b c d ha hb hc hd 0 (omega arith)) (byte_of a b c d ha hb hc hd 1 (omega arith)) (byte_of a b c d ha hb hc hd 2 (omega arith)) (byte_of a b c d ha hb hc hd 3 (omega arith))

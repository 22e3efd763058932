-- The field of 256 elements and the substitution (FIPS 197, sections 4 and 5.1.1). A byte is a number
-- below 256; its bits are the coefficients of a polynomial in x, and a sum is `bit_xor`.
use Rattle.std.specs.Prelude.{ℕ, zero, suc, ◌*◌, ◌/◌, ◌%◌, ◌==◌, nat_lt, bit_xor, if◌then◌else◌}
use Rattle.std.specs.Int.{w8, rotate_left}

-- XTIMES, the product with x, modulo x^8 + x^4 + x^3 + x + 1
unfoldable pub xtimes : ℕ → ℕ
xtimes a = bit_xor (2 * a % 256) (if nat_lt a 128 then 0 else 0x1b)

-- the product of the polynomial of a's n lowest bits and b
unfoldable pub product_of_bits : ℕ → ℕ → ℕ → ℕ
product_of_bits zero a b = 0
product_of_bits (suc n) a b = bit_xor (if a % 2 == 1 then b else 0) (product_of_bits n (a / 2) (xtimes b))

-- the product of two elements
unfoldable pub product : ℕ → ℕ → ℕ
product a b = product_of_bits 8 a b

-- the element below n whose product with a is 1, or 0 where there is none
unfoldable pub inverse_below : ℕ → ℕ → ℕ
inverse_below zero a = 0
inverse_below (suc n) a = if product a n == 1 then n else inverse_below n a

-- the multiplicative inverse, and 0 for 0
unfoldable pub inverse : ℕ → ℕ
inverse a = inverse_below 256 a

-- the affine map: bit i of the result is the sum of the bits i, i + 4, i + 5, i + 6 and i + 7 modulo 8 of a,
-- and of bit i of 63
unfoldable pub affine : ℕ → ℕ
affine a =
    bit_xor (bit_xor (bit_xor (bit_xor (bit_xor a (rotate_left w8 a 1)) (rotate_left w8 a 2)) (rotate_left w8 a 3)) (rotate_left w8 a 4))
    0x63

-- the affine map undone
unfoldable pub affine_undone : ℕ → ℕ
affine_undone a = bit_xor (bit_xor (bit_xor (rotate_left w8 a 1) (rotate_left w8 a 3)) (rotate_left w8 a 6)) 0x05

-- the substitution of a byte
unfoldable pub sub : ℕ → ℕ
sub a = affine (inverse a)

-- the inverse substitution of a byte
unfoldable pub inv_sub : ℕ → ℕ
inv_sub a = inverse (affine_undone a)

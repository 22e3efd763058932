-- The rights under their mask.
use Rattle.std.proofs.Common.{◌≡◌, ℕ, ◌-◌, ◌<◌, ◌≤◌, ◌^◌, ◌==◌, ◌&&◌, ◌⊎◌, inl, inr, true, false, List, refl, ◌∙◌, arith, min, nat_lt}
use Rattle.std.specs.Int.{bit_at}
use Rattle.std.specs.Int.Bits.{bit_and}
use Rattle.std.proofs.lemmas.Bool.{cases_lt}
use Rattle.std.proofs.lemmas.Bool.Decides.{nat_tests}
use Rattle.std.proofs.lemmas.Nat.Bits.{bit_at_and, bit_at_ones, bit_at_ones_above, bit_at-zero, bit_at_cat_low, bit_at_cat_high, bit_at-lt, bit_at_above}
use Rattle.bitflags.specs.Sets.{known_bits, known_from}
use Rattle.eid_bits.specs.RightNames.{right_flags}
use Rattle.eid_bits.specs.Rights.{is_right}
use Rattle.eid_bits.specs.Template.{template_bit, template_number}

abbrev mask : ℕ
mask = 0x3E1FFFFFFF

-- a number of 64 bits has none above
pub no_bit_above : (n bit : ℕ) → n < 2 ^ 64 → 64 ≤ bit → nat_lt bit 64 ≡ (bit_at n bit == 1)
no_bit_above n bit below above =
    let beyond : nat_lt bit 64 ≡ false = grind (arith, nat_tests) in
    rw (beyond, bit_at_above n 64 bit below above) refl

-- the mask has exactly the bits of rights
mask_bit : (bit : ℕ) → ((bit_at mask bit ≡ 1) × (is_right bit ≡ true)) ⊎ ((bit_at mask bit ≡ 0) × (is_right bit ≡ false))
mask_bit bit = elim (cases_lt bit 33) [
  | inl low ↦ elim (cases_lt bit 29) [
    | inl right ↦ inl (bit_at_cat_low 31 33 (2 ^ 29 - 1) bit low ∙ bit_at_ones 29 bit right, grind (arith, nat_tests))
    | inr none ↦ inr (bit_at_cat_low 31 33 (2 ^ 29 - 1) bit low ∙ bit_at_ones_above 29 bit none, grind (arith, nat_tests))
  ]
  | inr high ↦ elim (cases_lt bit 38) [
    | inl right ↦ inl (bit_at_cat_high 31 33 (2 ^ 29 - 1) bit (omega arith) high ∙ bit_at_ones 5 (bit - 33) (omega arith), grind (arith, nat_tests))
    | inr none ↦ inr (bit_at_cat_high 31 33 (2 ^ 29 - 1) bit (omega arith) high ∙ bit_at_ones_above 5 (bit - 33) (omega arith), grind (arith, nat_tests))
  ]
]

-- the named rights are those of the mask
mask_of_names : known_bits right_flags ≡ mask
unfolding known_from
mask_of_names = refl

-- of the bits of a template, those of the named rights are kept
pub rights_kept : (bytes : List ℕ) (bit : ℕ) → (bit_at (bit_and (template_number bytes) (known_bits right_flags)) bit == 1) ≡ (is_right bit && template_bit bytes bit)
unfolding template_bit
rights_kept bytes bit = rw mask_of_names (under (template_number bytes)) where
  under : (n : ℕ) → (bit_at (bit_and n mask) bit == 1) ≡ (is_right bit && (bit_at n bit == 1))
  under n = elim (mask_bit bit) [
    | inl (set, right) ↦
        let below : bit_at n bit < 2 = bit_at-lt n bit in
        let least : min (bit_at n bit) 1 ≡ bit_at n bit = omega arith in
        rw (bit_at_and n mask bit, set, right, least) refl
    | inr (clear, none) ↦
        let least : min (bit_at n bit) 0 ≡ 0 = omega arith in
        rw (bit_at_and n mask bit, clear, none, least) refl
  ]

-- a number without bits has none of the rights
pub none_has : (n : ℕ) → n ≡ 0 → (bit : ℕ) → (bit_at n bit == 1) ≡ false
none_has n zero bit = rw (zero, bit_at-zero bit) refl

-- two bits, and the lesser of them
both_set : (a b : ℕ) → a < 2 → b < 2 → (min a b == 1) ≡ ((a == 1) && (b == 1))
both_set a b a_bit b_bit = grind (arith, nat_tests)

-- the bits in common are those that both have
pub both_have : (a b n : ℕ) → n ≡ bit_and a b → (bit : ℕ) → (bit_at n bit == 1) ≡ ((bit_at a bit == 1) && (bit_at b bit == 1))
both_have a b n common bit = rw (common, bit_at_and a b bit) (both_set (bit_at a bit) (bit_at b bit) (bit_at-lt a bit) (bit_at-lt b bit))

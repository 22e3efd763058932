-- The forms of tags and lengths, and that bytes begin with at most one of each.
use Rattle.std.proofs.Common.{◌≡◌, ◌≢◌, ℕ, ◌+◌, ◌-◌, ◌*◌, ◌/◌, ◌%◌, ◌<◌, ◌≤◌, true, ◌⊎◌, inl, inr, List, [], ◌∷◌, ◌++◌, length, take, drop, get_or, refl, sym, ◌∙◌, ap, arith, IsTrue}
use Rattle.std.proofs.lemmas.Bool.{cases_lt}
use Rattle.std.proofs.lemmas.Bool.Decides.{nat_tests}
use Rattle.std.proofs.lemmas.List.{take_all}
use Rattle.eid_tlv.specs.Objects.{is_tag, tag_bytes, length_bytes}

pub record IsOneByte (tag : ℕ) : Type 0 where
  pub below : tag < 256
  pub ends : tag % 32 ≢ 31

pub record IsTwoBytes (tag : ℕ) : Type 0 where
  pub from : 256 ≤ tag
  pub below : tag < 65536
  pub first : tag / 256 % 32 ≡ 31
  pub low : 0x1F ≤ tag % 256
  pub high : tag % 256 ≤ 0x7F

pub is_tag-one : (tag : ℕ) → IsOneByte tag → is_tag tag ≡ true
is_tag-one tag one =
    let below : tag < 256 = one.below in
    let ends : tag % 32 ≢ 31 = one.ends in
    grind (arith, nat_tests)

pub is_tag-two : (tag : ℕ) → IsTwoBytes tag → is_tag tag ≡ true
is_tag-two tag two =
    let from : 256 ≤ tag = two.from in
    let below : tag < 65536 = two.below in
    let first : tag / 256 % 32 ≡ 31 = two.first in
    let low : 0x1F ≤ tag % 256 = two.low in
    let high : tag % 256 ≤ 0x7F = two.high in
    grind (arith, nat_tests)

pub tag_form : (tag : ℕ) → is_tag tag ≡ true → IsOneByte tag ⊎ IsTwoBytes tag
tag_form tag tagged = elim (cases_lt tag 256) [
  | inl short ↦ inl (record { below = short; ends = grind (arith, nat_tests) })
  | inr long ↦ inr (record {
    from = long;
    below = grind (arith, nat_tests);
    first = grind (arith, nat_tests);
    low = grind (arith, nat_tests);
    high = grind (arith, nat_tests);
  })
]

pub tag_bytes-one : (tag : ℕ) → tag < 256 → tag_bytes tag ≡ tag ∷ []
unfolding tag_bytes
tag_bytes-one tag short = grind (arith, nat_tests)

pub tag_bytes-two : (tag : ℕ) → 256 ≤ tag → tag_bytes tag ≡ tag / 256 ∷ tag % 256 ∷ []
unfolding tag_bytes
tag_bytes-two tag long = grind (arith, nat_tests)

pub length_bytes-one : (size : ℕ) → size < 0x80 → length_bytes size ≡ size ∷ []
unfolding length_bytes
length_bytes-one size short = grind (arith, nat_tests)

pub length_bytes-two : (size : ℕ) → 0x80 ≤ size → size < 0x100 → length_bytes size ≡ 0x81 ∷ size ∷ []
unfolding length_bytes
length_bytes-two size from below = grind (arith, nat_tests)

pub length_bytes-three : (size : ℕ) → 0x100 ≤ size → length_bytes size ≡ 0x82 ∷ size / 256 ∷ size % 256 ∷ []
unfolding length_bytes
length_bytes-three size from = grind (arith, nat_tests)

-- the first byte of a list, and the rest
head_first : (bytes : List ℕ) → 1 ≤ length bytes → bytes ≡ get_or bytes 0 0 ∷ take (length bytes - 1) (drop 1 bytes)
head_first [] some = absurd (omega arith)
head_first (first ∷ rest) some = ap (λ r. first ∷ r) (sym (take_all _ rest (omega arith)))

head_two : (bytes : List ℕ) → 2 ≤ length bytes → bytes ≡ get_or bytes 0 0 ∷ get_or bytes 1 0 ∷ take (length bytes - 2) (drop 2 bytes)
head_two [] some = absurd (omega arith)
head_two (first ∷ []) some = absurd (omega arith)
head_two (first ∷ second ∷ rest) some = ap (λ r. first ∷ second ∷ r) (sym (take_all _ rest (omega arith)))

head_three : (bytes : List ℕ) → 3 ≤ length bytes → bytes ≡ get_or bytes 0 0 ∷ get_or bytes 1 0 ∷ get_or bytes 2 0 ∷ take (length bytes - 3) (drop 3 bytes)
head_three [] some = absurd (omega arith)
head_three (first ∷ []) some = absurd (omega arith)
head_three (first ∷ second ∷ []) some = absurd (omega arith)
head_three (first ∷ second ∷ third ∷ rest) some = ap (λ r. first ∷ second ∷ third ∷ r) (sym (take_all _ rest (omega arith)))

-- what the arms of the readers found
pub begins_one_byte_tag : (bytes : List ℕ) (tag : ℕ) → 1 ≤ length bytes → tag ≡ get_or bytes 0 0 → tag < 256 → tag % 32 ≢ 31
    → IsTrue (is_tag tag) × (bytes ≡ tag_bytes tag ++ take (length bytes - 1) (drop 1 bytes))
begins_one_byte_tag bytes tag some is_first below ends = (
  is_tag-one tag (record { below = below; ends = ends }),
  head_first bytes some ∙ rw (tag_bytes-one tag below, is_first) refl,
)

pub begins_two_byte_tag : (bytes : List ℕ) (first second : ℕ) → 2 ≤ length bytes → first ≡ get_or bytes 0 0 → second ≡ get_or bytes 1 0
    → first < 256 → first % 32 ≡ 31 → 0x1F ≤ second → second ≤ 0x7F
    → IsTrue (is_tag (first * 256 + second)) × (bytes ≡ tag_bytes (first * 256 + second) ++ take (length bytes - 2) (drop 2 bytes))
begins_two_byte_tag bytes first second some is_first is_second below on low high =
    let high_part : (first * 256 + second) / 256 ≡ first = omega arith in
    let low_part : (first * 256 + second) % 256 ≡ second = omega arith in
    let two : IsTwoBytes (first * 256 + second) = record {
      from = omega arith;
      below = omega arith;
      first = rw high_part on;
      low = omega arith;
      high = omega arith;
    } in (
      is_tag-two (first * 256 + second) two,
      head_two bytes some ∙ rw (tag_bytes-two (first * 256 + second) two.from, high_part, low_part, is_first, is_second) refl,
    )

pub begins_one_byte_length : (bytes : List ℕ) (size : ℕ) → 1 ≤ length bytes → size ≡ get_or bytes 0 0 → size < 0x80
    → (size ≤ 65535) × (bytes ≡ length_bytes size ++ take (length bytes - 1) (drop 1 bytes))
begins_one_byte_length bytes size some is_first short =
    (omega arith, head_first bytes some ∙ rw (length_bytes-one size short, is_first) refl)

pub begins_two_byte_length : (bytes : List ℕ) (size : ℕ) → 2 ≤ length bytes → get_or bytes 0 0 ≡ 0x81 → size ≡ get_or bytes 1 0
    → 0x80 ≤ size → size < 0x100
    → (size ≤ 65535) × (bytes ≡ length_bytes size ++ take (length bytes - 2) (drop 2 bytes))
begins_two_byte_length bytes size some is_form is_size low high =
    (omega arith, head_two bytes some ∙ rw (length_bytes-two size low high, is_form, is_size) refl)

pub begins_three_byte_length : (bytes : List ℕ) (high low : ℕ) → 3 ≤ length bytes → get_or bytes 0 0 ≡ 0x82 → high ≡ get_or bytes 1 0
    → low ≡ get_or bytes 2 0 → 0 < high → high < 256 → low < 256
    → (high * 256 + low ≤ 65535) × (bytes ≡ length_bytes (high * 256 + low) ++ take (length bytes - 3) (drop 3 bytes))
begins_three_byte_length bytes high low some is_form is_high is_low from below low_below =
    let high_part : (high * 256 + low) / 256 ≡ high = omega arith in
    let low_part : (high * 256 + low) % 256 ≡ low = omega arith in (
      omega arith,
      head_three bytes some
          ∙ rw (length_bytes-three (high * 256 + low) (omega arith), high_part, low_part, is_form, is_high, is_low) refl,
    )

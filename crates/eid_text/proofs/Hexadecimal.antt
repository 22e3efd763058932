-- What decodes is what hexadecimal digits write.
use Rattle.std.proofs.Common.{◌≡◌, ℕ, zero, suc, ◌+◌, ◌*◌, ◌/◌, ◌%◌, ◌<◌, ◌==◌, Bool, true, false, ◌&&◌, ◌||◌, ◌⊎◌, inl, inr, List, [], ◌∷◌, length, slice_index, Option, Some, None, Result, Ok, Err, refl, sym, ap, ◌∙◌, subst, arith}
use Rattle.std.specs.Result.{result_unwrap_or}
use Rattle.std.proofs.lemmas.Bool.{and_parts, cases_lt, eqb-true}
use Rattle.hex.specs.Hex.{decode_of, decode_sized, decode_pairs, digit_or_error, hex_digit_value, lower_digits, upper_digits, pair_value, value_at, ◌>>=◌}
use Rattle.hex.specs.declared.error.FromHexError.{FromHexError}
use Rattle.hex.proofs.Pairs.{cons_byte, decode_pairs-ok_pair}
use Rattle.hex.proofs.HexLemmas.{IsDigits-lower_digits, IsDigits-upper_digits, decode_of-even, decode_of-ok, decode_sized-ok, decode_sized-twice}
use Rattle.eid_text.specs.Hexadecimal.{IsDigit, IsHex}

-- ---- one digit

pub digit_reads : (c v : ℕ) → v < 16 → IsDigit c v → hex_digit_value c ≡ Some v
digit_reads c v small (inl lower) = rw lower (IsDigits-lower_digits v small)
digit_reads c v small (inr upper) = rw upper (IsDigits-upper_digits v small)

-- the test that a digit is the one of its value, which computes
abbrev is_its_digit : ℕ → Option ℕ → Bool
is_its_digit c None = true
is_its_digit c (Some v) = (c == slice_index lower_digits v) || (c == slice_index upper_digits v)

abbrev all_are_digits : ℕ → Bool
all_are_digits zero = true
all_are_digits (suc n) = is_its_digit n (hex_digit_value n) && all_are_digits n

all_are_digits-at : (n k : ℕ) → all_are_digits n ≡ true → k < n → is_its_digit k (hex_digit_value k) ≡ true
all_are_digits-at zero k h lt = absurd (omega arith)
all_are_digits-at (suc n) k h lt =
    let parts = and_parts (is_its_digit n (hex_digit_value n)) (all_are_digits n) h in
    elim (cases_lt k n) [
      | inl below ↦ all_are_digits-at n k parts.1 below
      | inr top ↦
          let e : k ≡ n = omega arith in
          rw e parts.0
    ]

either : (a b : Bool) → (a || b) ≡ true → (a ≡ true) ⊎ (b ≡ true)
either true b h = inl refl
either false b h = inr h

its_digit : (c v : ℕ) (o : Option ℕ) → o ≡ Some v → is_its_digit c o ≡ true → IsDigit c v
its_digit c v None e h = absurd (cc)
its_digit c v (Some w) e h =
    let same : w ≡ v = cc in
    let at : ((c == slice_index lower_digits v) || (c == slice_index upper_digits v)) ≡ true = rw same at h in
    elim (either (c == slice_index lower_digits v) (c == slice_index upper_digits v) at) [
      | inl lower ↦ inl (eqb-true c (slice_index lower_digits v) lower)
      | inr upper ↦ inr (eqb-true c (slice_index upper_digits v) upper)
    ]

digit_below : (c v : ℕ) → hex_digit_value c ≡ Some v → c < 103
digit_below c v h = grind (arith)

digit_small : (c v : ℕ) → hex_digit_value c ≡ Some v → v < 16
digit_small c v h = grind (arith)

digit_writes : (c v : ℕ) → hex_digit_value c ≡ Some v → IsDigit c v
digit_writes c v h = its_digit c v (hex_digit_value c) h (all_are_digits-at 103 c refl (digit_below c v h))

-- ---- all digits

bind_ok : {A B : Type 0} (r : Result A FromHexError) (f : A → Result B FromHexError) (y : B) → (r >>= f) ≡ Ok y → (x : A) × (r ≡ Ok x) × (f x ≡ Ok y)
bind_ok (Ok x) f y h = (x, refl, h)
bind_ok (Err e) f y h = absurd (cc)

digit_read : (c i : ℕ) (o : Option ℕ) (v : ℕ) → digit_or_error c i o ≡ Ok v → o ≡ Some v
digit_read c i (Some w) v h = ap Some (ap (λ (r : Result ℕ FromHexError). result_unwrap_or r 0) h)
digit_read c i None v h = absurd (cc)

pub hex_reads : (i : ℕ) (digits bytes : List ℕ) → IsHex digits bytes → decode_pairs i digits ≡ Ok bytes
unfolding decode_pairs
hex_reads i [] [] h = refl
hex_reads i [] (byte ∷ bytes) h = absurd h
hex_reads i (high ∷ []) bytes h = absurd h
hex_reads i (high ∷ low ∷ digits) [] h = absurd h
hex_reads i (high ∷ low ∷ digits) (byte ∷ bytes) h =
    let fits : byte < 256 = h.0 in
    let above = digit_reads high (byte / 16) (omega arith) h.1 in
    let below = digit_reads low (byte % 16) (omega arith) h.2 in
    let first : value_at high i ≡ Ok (byte / 16) = ap (digit_or_error high i) above in
    let second : value_at low (i + 1) ≡ Ok (byte % 16) = ap (digit_or_error low (i + 1)) below in
    let pair : pair_value high low i ≡ Ok (byte / 16 * 16 + byte % 16) = rw (first, second) refl in
    let rest = hex_reads (i + 2) digits bytes h.3 in
    let whole : byte / 16 * 16 + byte % 16 ≡ byte = omega arith in
    decode_pairs-ok_pair i high low _ digits pair
    ∙ ap (cons_byte (byte / 16 * 16 + byte % 16)) rest ∙ ap (λ (v : ℕ). Ok (v ∷ bytes)) whole

one_more : (high low a b byte : ℕ) (digits bytes all : List ℕ) → hex_digit_value high ≡ Some a → hex_digit_value low ≡ Some b → byte ≡ a * 16 + b → IsHex digits bytes → byte ∷ bytes ≡ all → IsHex (high ∷ low ∷ digits) all
one_more high low a b byte digits bytes [] ha hb is rest e = absurd (cc)
one_more high low a b byte digits bytes (first ∷ others) ha hb is rest e =
    let la = digit_small high a ha in
    let lb = digit_small low b hb in
    let same : byte ≡ first = cc in
    let tail : bytes ≡ others = cc in
    let above : a ≡ first / 16 = omega arith in
    let under : b ≡ first % 16 = omega arith in
    (omega arith, rw above at (digit_writes high a ha), rw under at (digit_writes low b hb), rw tail at rest)

pub hex_writes : (i : ℕ) (digits bytes : List ℕ) → decode_pairs i digits ≡ Ok bytes → IsHex digits bytes
unfolding decode_pairs
hex_writes i [] [] h = tt
hex_writes i [] (byte ∷ bytes) h = absurd (cc)
hex_writes i (high ∷ []) bytes h = absurd (cc)
hex_writes i (high ∷ low ∷ digits) bytes h =
    let p0 = bind_ok (pair_value high low i) _ bytes h in
    let p1 = bind_ok (value_at high i) _ p0.0 p0.1 in
    let p2 = bind_ok (value_at low (i + 1)) _ p0.0 p1.2 in
    let p3 = bind_ok (decode_pairs (i + 2) digits) _ bytes p0.2 in
    let rest = hex_writes (i + 2) digits p3.0 p3.1 in
    let e : p0.0 ∷ p3.0 ≡ bytes = ap (λ (r : Result (List ℕ) FromHexError). result_unwrap_or r []) p3.2 in
    let byte : p1.0 * 16 + p2.0 ≡ p0.0 = ap (λ (r : Result ℕ FromHexError). result_unwrap_or r 0) p2.2 in
    one_more high low p1.0 p2.0 p0.0 digits p3.0 bytes (digit_read high i (hex_digit_value high) p1.0 p1.1) (digit_read low (i + 1) (hex_digit_value low) p2.0 p2.1) (sym byte) rest e

pub hex_length : (digits bytes : List ℕ) → IsHex digits bytes → length digits ≡ 2 * length bytes
hex_length [] [] h = refl
hex_length [] (byte ∷ bytes) h = absurd h
hex_length (high ∷ []) bytes h = absurd h
hex_length (high ∷ low ∷ digits) [] h = absurd h
hex_length (high ∷ low ∷ digits) (byte ∷ bytes) h = omega (arith, hex_length digits bytes h.3)

pub decodes : (digits bytes : List ℕ) → IsHex digits bytes → decode_of digits ≡ Ok bytes
decodes digits bytes h =
    let twice = hex_length digits bytes h in
    decode_of-even digits (omega arith) ∙ hex_reads 0 digits bytes h

pub decoded : (digits bytes : List ℕ) → decode_of digits ≡ Ok bytes → IsHex digits bytes
decoded digits bytes h =
    let parts = decode_of-ok digits bytes h in
    hex_writes 0 digits bytes (sym (decode_of-even digits parts.0) ∙ h)

-- the same where the number of bytes is known
pub decodes_sized : (digits bytes : List ℕ) (n : ℕ) → IsHex digits bytes → length bytes ≡ n → decode_sized digits n ≡ Ok bytes
decodes_sized digits bytes n h size =
    let twice = hex_length digits bytes h in
    decode_sized-twice digits n (omega (arith, twice, size)) ∙ decodes digits bytes h

pub decoded_sized : (digits bytes : List ℕ) (n : ℕ) → decode_sized digits n ≡ Ok bytes → IsHex digits bytes × (length bytes ≡ n)
decoded_sized digits bytes n h =
    let two = decode_sized-ok digits n bytes h in
    let plain : decode_of digits ≡ Ok bytes = sym (decode_sized-twice digits n two) ∙ h in
    let parts = decode_of-ok digits bytes plain in
    (decoded digits bytes plain, omega (arith, two, parts.2))

-- one byte
pub decodes_one : (digits : List ℕ) (byte : ℕ) → IsHex digits (byte ∷ []) → decode_sized digits 1 ≡ Ok (byte ∷ [])
decodes_one digits byte h = decodes_sized digits (byte ∷ []) 1 h refl

one_byte : (bytes : List ℕ) → length bytes ≡ 1 → bytes ≡ slice_index bytes 0 ∷ []
one_byte [] h = absurd (omega arith)
one_byte (byte ∷ []) h = refl
one_byte (byte ∷ other ∷ bytes) h = absurd (omega arith)

pub decoded_one : (digits bytes : List ℕ) → decode_sized digits 1 ≡ Ok bytes → IsHex digits (slice_index bytes 0 ∷ [])
decoded_one digits bytes h =
    let parts = decoded_sized digits bytes 1 h in
    subst (λ (b : List ℕ). IsHex digits b) (one_byte bytes parts.1) parts.0

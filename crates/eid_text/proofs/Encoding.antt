-- Hexadecimal of bytes in two parts, and of one byte more.
use Rattle.std.proofs.Common.{◌≡◌, ℕ, ◌+◌, ◌/◌, ◌%◌, ◌<◌, List, [], ◌∷◌, ◌++◌, length, take, get_or, slice_index, refl, sym, ap, ◌∙◌, append_assoc, append-nil}
use Rattle.std.proofs.lemmas.List.{take_more}
use Rattle.hex.specs.Hex.{encode_with, encode_lower, lower_digits}

encode_with_append : (t xs ys : List ℕ) → encode_with t (xs ++ ys) ≡ encode_with t xs ++ encode_with t ys
unfolding encode_with
encode_with_append t [] ys = refl
encode_with_append t (x ∷ xs) ys = rw (encode_with_append t xs ys) refl

pub encode_append : (xs ys : List ℕ) → encode_lower (xs ++ ys) ≡ encode_lower xs ++ encode_lower ys
encode_append xs ys = encode_with_append lower_digits xs ys

-- a text, and behind it the hexadecimal of bytes in two parts
pub encode_parts : (text xs ys : List ℕ) → (text ++ encode_lower xs) ++ encode_lower ys ≡ text ++ encode_lower (xs ++ ys)
encode_parts text xs ys = rw (encode_append xs ys) (append_assoc text (encode_lower xs) (encode_lower ys))

encode_one : (byte : ℕ) → encode_lower (byte ∷ []) ≡ slice_index lower_digits (byte / 16) ∷ slice_index lower_digits (byte % 16) ∷ []
unfolding encode_with
encode_one byte = refl

-- the hexadecimal of the first bytes, and of one byte more
pub encode_more : (before text : List ℕ) (bytes : List ℕ) (i : ℕ) → i < length bytes → text ≡ before ++ encode_lower (take i bytes)
    → (text ++ slice_index lower_digits (get_or bytes i 0 / 16) ∷ []) ++ slice_index lower_digits (get_or bytes i 0 % 16) ∷ [] ≡ before ++ encode_lower (take (i + 1) bytes)
encode_more before text bytes i within is =
    let byte = get_or bytes i 0 in
    let high = slice_index lower_digits (byte / 16) in
    let low = slice_index lower_digits (byte % 16) in
    append_assoc text (high ∷ []) (low ∷ [])
    ∙ ap (λ (t : List ℕ). t ++ high ∷ low ∷ []) is
    ∙ ap (λ (t : List ℕ). (before ++ encode_lower (take i bytes)) ++ t) (sym (encode_one byte))
    ∙ encode_parts before (take i bytes) (byte ∷ [])
    ∙ ap (λ (t : List ℕ). before ++ encode_lower t) (sym (take_more bytes i 0 within))

-- the hexadecimal of no byte
pub encode_none : (text : List ℕ) → text ≡ text ++ encode_lower []
unfolding encode_with
encode_none text = sym (append-nil text)

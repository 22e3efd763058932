-- Bytes as hexadecimal digits, of either case.
use Rattle.std.specs.Prelude.{◌≡◌, ℕ, ◌/◌, ◌%◌, ◌<◌, ◌⊎◌, List, [], ◌∷◌, length, slice_index, codes, ⊤}
use Rattle.std.specs.Prelude.{nat_le, Option, Some, None, option_and_then, if◌then◌else◌}
use Rattle.std.specs.Result.{result_ok}
use Rattle.hex.specs.Hex.{decode_of}

-- a hexadecimal digit of this value, in either case
abbrev pub IsDigit : ℕ → ℕ → Type 0
IsDigit c value = (c ≡ slice_index (codes "0123456789abcdef") value) ⊎ (c ≡ slice_index (codes "0123456789ABCDEF") value)

-- two hexadecimal digits for each byte, the high four bits first
abbrev pub IsHex : List ℕ → List ℕ → Type 0
IsHex [] [] = ⊤
IsHex [] (byte ∷ bytes) = ⊥
IsHex (high ∷ []) bytes = ⊥
IsHex (high ∷ low ∷ digits) [] = ⊥
IsHex (high ∷ low ∷ digits) (byte ∷ bytes) =
    (byte < 256) × IsDigit high (byte / 16) × IsDigit low (byte % 16) × IsHex digits bytes

-- a list, where it has at most so many items
abbrev pub at_most : {A : Type 0} → ℕ → List A → Option (List A)
at_most most list = if nat_le (length list) most then Some list else None

-- the bytes that a text of digits writes, where they are at most so many
abbrev pub bytes_within : ℕ → List ℕ → Option (List ℕ)
bytes_within most text = option_and_then (at_most most) (result_ok (decode_of text))

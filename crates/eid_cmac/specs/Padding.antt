-- Padding to whole blocks (ISO/IEC 7816-4, the padding of secure messaging; padding method 2 of ISO/IEC 9797-1).
use Rattle.std.specs.Prelude.{ℕ, ◌-◌, ◌%◌, List, ◌∷◌, ◌++◌, length, replicate}

-- 80, and then 00 up to a multiple of 16 bytes
abbrev pub padding : ℕ → List ℕ
padding size = 0x80 ∷ replicate (15 - size % 16) 0

-- the bytes and their padding
abbrev pub padded : List ℕ → List ℕ
padded bytes = bytes ++ padding (length bytes)

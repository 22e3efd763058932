-- The points, secrets and nonces of the model coprocessor, which are numbers of 64 bits. This
-- project's own.
use Rattle.std.specs.Prelude.{ℕ, ◌+◌, ◌-◌, ◌*◌, ◌%◌, ◌^◌, List, ◌∷◌, ◌++◌, length, drop, replicate, slice_range}
use Rattle.std.specs.Prelude.{◌==◌, if◌then◌else◌, Option, Some, None}
use Rattle.std.specs.Int.{w64, from_be_bytes, to_be_bytes}
use Rattle.std.specs.Str.{bytes_eq}

-- 04, then X of 32 bytes with the number in its last eight, then 32 bytes 00; the number 0 has a
-- spelling too, but is no point
unfoldable pub point_of : ℕ → List ℕ
point_of number = 0x04 ∷ replicate 24 0 ++ to_be_bytes w64 number ++ replicate 32 0

-- the number of a point, and 0 for each other spelling
unfoldable pub point_number : List ℕ → ℕ
point_number point =
    let number = from_be_bytes w64 (slice_range point 25 33) in
    if bytes_eq point (point_of number) then number else 0

-- a secret and a nonce stand for their last eight bytes
unfoldable pub scalar : List ℕ → ℕ
scalar bytes = from_be_bytes w64 (drop (length bytes - 8) bytes)

unfoldable pub secret_of : ℕ → List ℕ
secret_of number = replicate 24 0 ++ to_be_bytes w64 number

abbrev pub generator : ℕ
generator = 5

-- products and sums keep 64 bits
abbrev pub times : ℕ → ℕ → ℕ
times a b = a * b % 2 ^ 64

abbrev pub plus : ℕ → ℕ → ℕ
plus a b = (a + b) % 2 ^ 64

-- the X half of a point
abbrev pub x_half : List ℕ → List ℕ
x_half point = slice_range point 1 33

-- the public point of a secret
abbrev pub public_of : List ℕ → List ℕ
public_of secret = point_of (times (scalar secret) generator)

-- a pair has the generator as its base where none is given, or what is given is no point
abbrev pub base_number : Option (List ℕ) → ℕ
base_number None = generator
base_number (Some point) = let number = point_number point in if number == 0 then generator else number

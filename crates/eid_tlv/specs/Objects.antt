-- BER-TLV data objects (ISO/IEC 7816-4): a tag, the shortest form of the value's length, the value.
use Rattle.std.specs.Prelude.{ℕ, ◌/◌, ◌%◌, ◌≤◌, Bool, not, ◌&&◌, ◌==◌, nat_lt, nat_le, List, [], ◌∷◌, ◌++◌, length, IsTrue, if◌then◌else◌}
use Rattle.std.specs.List.{flat_map}

-- a first byte whose low five bits are all set says that the tag goes on
abbrev pub goes_on : ℕ → Bool
goes_on first = first % 32 == 31

-- one byte that does not go on, or one that does, and then a byte from 1F to 7F
abbrev pub is_tag : ℕ → Bool
is_tag tag =
    if nat_lt tag 256 then not (goes_on tag)
    else nat_lt tag 65536 && goes_on (tag / 256) && nat_le 0x1F (tag % 256) && nat_le (tag % 256) 0x7F

unfoldable pub tag_bytes : ℕ → List ℕ
tag_bytes tag = if nat_lt tag 256 then tag ∷ [] else tag / 256 ∷ tag % 256 ∷ []

unfoldable pub length_bytes : ℕ → List ℕ
length_bytes size =
    if nat_lt size 0x80 then size ∷ []
    else if nat_lt size 0x100 then 0x81 ∷ size ∷ []
    else 0x82 ∷ size / 256 ∷ size % 256 ∷ []

unfoldable pub object : ℕ → List ℕ → List ℕ
object tag value = tag_bytes tag ++ length_bytes (length value) ++ value

-- a tag, and a value whose length can be written
pub record IsObject (tag : ℕ) (value : List ℕ) : Type 0 where
  pub tagged : IsTrue (is_tag tag)
  pub sized : length value ≤ 65535

-- an object as a plain value, and the bytes of a list of them
pub record Object : Type 0 where
  pub tag : ℕ
  pub value : List ℕ

abbrev pub objects : List Object → List ℕ
objects list = flat_map (λ (o : Object). object o.tag o.value) list

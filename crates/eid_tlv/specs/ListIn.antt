-- The list of data objects that bytes are, as a function: at each place the object whose tag and length, written,
-- are what stands there (ISO/IEC 7816-4).
use Rattle.std.specs.Prelude.{ℕ, zero, suc, ◌+◌, ◌*◌, Bool, ◌&&◌, nat_le, List, [], ◌∷◌, ◌++◌, length, take, drop, slice_index, Option, Some, None, option_map, option_and_then}
use Rattle.std.specs.List.{find}
use Rattle.std.specs.Str.{bytes_eq}
use Rattle.eid_tlv.specs.Objects.{Object, is_tag, tag_bytes, length_bytes}

-- what stands before a value: its tag and its length
pub record Header : Type 0 where
  pub tag : ℕ
  pub size : ℕ

abbrev pub header_bytes : Header → List ℕ
header_bytes h = tag_bytes h.tag ++ length_bytes h.size

-- the bytes begin with this header, and have the value that it says
unfoldable pub begins_with : List ℕ → Header → Bool
begins_with bytes h =
    is_tag h.tag && nat_le h.size 65535 && bytes_eq (take (length (header_bytes h)) bytes) (header_bytes h)
    && nat_le (length (header_bytes h) + h.size) (length bytes)

-- the headers that the first bytes can be: a tag of one byte or two, with a length of one byte, of 81 and one,
-- or of 82 and two
abbrev pub headers_of : ℕ → List ℕ → List Header
headers_of tag after =
    record { tag = tag; size = slice_index after 0 } ∷
    record { tag = tag; size = slice_index after 1 } ∷
    record { tag = tag; size = 256 * slice_index after 1 + slice_index after 2 } ∷ []

abbrev pub headers : List ℕ → List Header
headers bytes =
    headers_of (slice_index bytes 0) (drop 1 bytes)
    ++ headers_of (256 * slice_index bytes 0 + slice_index bytes 1) (drop 2 bytes)

unfoldable pub header_in : List ℕ → Option Header
header_in bytes = find (begins_with bytes) (headers bytes)

-- the object with this header, and what stands behind it
abbrev pub object_behind : List ℕ → Header → Object
object_behind bytes h = record { tag = h.tag; value = take h.size (drop (length (header_bytes h)) bytes) }

abbrev pub bytes_behind : List ℕ → Header → List ℕ
bytes_behind bytes h = drop (length (header_bytes h) + h.size) bytes

-- a list of at most n objects
unfoldable pub list_within : ℕ → List ℕ → Option (List Object)
list_within n [] = Some []
list_within zero (first ∷ rest) = None
list_within (suc n) (first ∷ rest) =
    option_and_then (λ h. option_map (λ later. object_behind (first ∷ rest) h ∷ later) (list_within n (bytes_behind (first ∷ rest) h))) (header_in (first ∷ rest))

-- the list that the bytes are, where they are one
abbrev pub list_in : List ℕ → Option (List Object)
list_in bytes = list_within (length bytes) bytes

-- The bodies of commands (BSI TR-03110-3; ISO/IEC 7816-4).
use Rattle.std.specs.Prelude.{ℕ, Bool, ◌==◌, ◌&&◌, List, [], ◌∷◌, length, drop, slice_index, Option, Some, None, option_and_then, if◌then◌else◌}
use Rattle.std.specs.Str.{bytes_eq}
use Rattle.eid_bits.specs.Date.{is_between}
use Rattle.eid_tlv.specs.Objects.{object}
use Rattle.eid_tlv.specs.Lists.{values, HasOnly}
use Rattle.eid_tlv.specs.ListIn.{list_in}
use Rattle.eid_cvc.specs.Certificates.{IsReference}

-- ---- MSE:Set DST: the name of a public key

-- the body is a list of data objects with one 83, a name of 1 to 16 bytes; others may stand there too
abbrev pub NamesKey : List ℕ → List ℕ → Type 0
NamesKey body name = HasOnly 0x83 name body × IsReference name

-- the one value, where it is such a name
abbrev pub one_name : List (List ℕ) → Option (List ℕ)
one_name [] = None
one_name (value ∷ []) = if is_between 1 16 (length value) then Some value else None
one_name (value ∷ other ∷ later) = None

-- the name in such a body
unfoldable pub key_name_in : List ℕ → Option (List ℕ)
key_name_in body = option_and_then (λ list. one_name (values 0x83 list)) (list_in body)

-- ---- GENERAL AUTHENTICATE of PACE and of chip authentication: dynamic authentication data, one object 7C, which is empty
-- or holds one object

-- 7C, and in it an object with this tag and value
unfoldable pub authentication_data : ℕ → List ℕ → List ℕ
authentication_data tag value = object 0x7C (object tag value)

-- the empty 7C
unfoldable pub no_data : List ℕ
no_data = object 0x7C []

-- the value in such a body of one short object
abbrev pub data_in : List ℕ → List ℕ
data_in body = drop 4 body

-- the body holds a value of this many bytes under the tag
unfoldable pub holds_value : ℕ → ℕ → List ℕ → Bool
holds_value tag size body = bytes_eq body (authentication_data tag (data_in body)) && length (data_in body) == size

-- a point begins with 04
unfoldable pub holds_point : ℕ → List ℕ → Bool
holds_point tag body = holds_value tag 65 body && slice_index (data_in body) 0 == 4

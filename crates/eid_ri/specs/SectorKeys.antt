-- The sector keys in the body of GENERAL AUTHENTICATE for restricted identification (BSI TR-03110-3), by writing
-- them: 7C {A0 {the first key}, A2 {the second key}}, of which one may be left out.
use Rattle.std.specs.Prelude.{◌≡◌, ℕ, Bool, ◌||◌, true, List, ◌++◌, ◌≤◌, length, Option, is_some, option_map, IfSome}
use Rattle.eid_bits.specs.declared.identifier.Known.TheVariants.{RiSha256}
use Rattle.eid_tlv.specs.Objects.{object}
use Rattle.eid_cvc.specs.PublicKeys.{optional, IsPublicKey}

-- a sector key: its whole object 7F49, and its point
pub record PlainSectorKey : Type 0 where
  pub object : List ℕ
  pub point : List ℕ

-- the keys of the terminal's first and second sector
pub record PlainSectorKeys : Type 0 where
  pub first : Option PlainSectorKey
  pub second : Option PlainSectorKey

-- a public key for restricted identification, whose object can be written
pub record IsSectorKey (key : PlainSectorKey) : Type 0 where
  pub value : List ℕ
  pub whole : key.object ≡ object 0x7F49 value
  pub is_key : IsPublicKey RiSha256 value key.point
  pub short : length key.object ≤ 65535

-- there is none, or it is a sector key
abbrev pub IsIfAny : Option PlainSectorKey → Type 0
IsIfAny key = IfSome key IsSectorKey

abbrev pub key_object : PlainSectorKey → List ℕ
key_object key = key.object

-- the value of 7C
abbrev pub keys_value : PlainSectorKeys → List ℕ
keys_value keys = optional 0xA0 (option_map key_object keys.first) ++ optional 0xA2 (option_map key_object keys.second)

abbrev pub is_some_key : PlainSectorKeys → Bool
is_some_key keys = is_some keys.first || is_some keys.second

-- the body has these keys, at least one of them
pub record AreSectorKeys (body : List ℕ) (keys : PlainSectorKeys) : Type 0 where
  pub first : IsIfAny keys.first
  pub second : IsIfAny keys.second
  pub some : is_some_key keys ≡ true
  pub spelled : body ≡ object 0x7C (keys_value keys)
  pub short : length (keys_value keys) ≤ 65535

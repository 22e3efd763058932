-- Certificate extensions (BSI TR-03110-3): the value of an object 65, by writing it, and the hashes of sector keys in it.
use Rattle.std.specs.Prelude.{◌≡◌, ℕ, Bool, List, [], ◌∷◌, ◌++◌, length, Option, Some, None, option_map, IfSome, slice_index_or}
use Rattle.std.specs.List.{find, flat_map}
use Rattle.std.specs.Str.{bytes_eq}
use Rattle.eid_bits.specs.Identifiers.{known_bytes}
use Rattle.eid_bits.specs.declared.identifier.Known.TheVariants.{Sector}
use Rattle.eid_tlv.specs.Objects.{object}
use Rattle.eid_cvc.specs.PublicKeys.{optional}

-- An extension: its identifier, and whatever stands behind it.
pub record Extension : Type 0 where
  pub identifier : List ℕ
  pub data_objects : List ℕ

abbrev pub extension_bytes : Extension → List ℕ
extension_bytes e = object 0x73 (object 0x06 e.identifier ++ e.data_objects)

-- all of them, one behind the other
abbrev pub extensions : List Extension → List ℕ
extensions list = flat_map extension_bytes list

abbrev pub is_sector : Extension → Bool
is_sector e = bytes_eq e.identifier (known_bytes Sector)

-- what stands behind the identifier in the first extension for terminal sectors
abbrev pub sector_data : List Extension → Option (List ℕ)
sector_data list = option_map (λ (e : Extension). e.data_objects) (find is_sector list)

-- the hashes of the first and of the second sector key, each of which may be left out
abbrev pub sector_hashes : List (Option (List ℕ)) → List ℕ
sector_hashes [] = []
sector_hashes (first ∷ []) = optional 0x80 first
sector_hashes (first ∷ second ∷ later) = optional 0x80 first ++ optional 0x81 second

-- two, of 32 bytes each where they are there
pub record AreHashes (hashes : List (Option (List ℕ))) : Type 0 where
  pub two : length hashes ≡ 2
  pub first : IfSome (slice_index_or hashes 0 None) (λ hash. length hash ≡ 32)
  pub second : IfSome (slice_index_or hashes 1 None) (λ hash. length hash ≡ 32)

-- the hashes that data of an extension for terminal sectors give; none where there is no such extension
abbrev pub AreHashesIn : Option (List ℕ) → List (Option (List ℕ)) → Type 0
AreHashesIn None hashes = hashes ≡ None ∷ None ∷ []
AreHashesIn (Some data_objects) hashes = AreHashes hashes × (data_objects ≡ sector_hashes hashes)

-- The bytes that certificates are written as (BSI TR-03110-3): without domain parameters, and with no other extension than that
-- for terminal sectors.
use Rattle.std.specs.Prelude.{◌≡◌, ℕ, ◌≤◌, List, length, slice_index, [], ◌∷◌, ◌++◌, Option, Some, None, is_some, if◌then◌else◌}
use Rattle.std.specs.List.{list_any}
use Rattle.eid_bits.specs.Identifiers.{known_bytes}
use Rattle.eid_bits.specs.declared.identifier.Known.TheVariants.{Sector}
use Rattle.eid_tlv.specs.Objects.{object}
use Rattle.eid_cvc.specs.PublicKeys.{no_domain}
use Rattle.eid_cvc.specs.Extensions.{Extension, sector_hashes}
use Rattle.eid_cvc.specs.Certificates.{PlainBody, PlainCertificate, body_value}

-- what can be written: both references are there, and the key begins with 04
pub record IsWritable (b : PlainBody) : Type 0 where
  pub issuer : 1 ≤ length b.issuer
  pub holder : 1 ≤ length b.holder
  pub key : slice_index b.key 0 ≡ 4

-- one extension with the hashes, where there is one of them
abbrev pub extra_written : List (Option (List ℕ)) → Option (List Extension)
extra_written hashes =
    if list_any (λ (hash : Option (List ℕ)). is_some hash) hashes
    then Some (record { identifier = known_bytes Sector; data_objects = sector_hashes hashes } ∷ [])
    else None

-- the object 7F4E
unfoldable pub written_body : PlainBody → List ℕ
written_body b = object 0x7F4E (body_value b no_domain (extra_written b.sectors))

-- the whole certificate
unfoldable pub written_certificate : PlainBody → List ℕ → List ℕ
written_certificate b signature = written_body b ++ object 0x5F37 signature

-- and what it is as a certificate
abbrev pub certificate_with : PlainBody → List ℕ → PlainCertificate
certificate_with b signature = record { whole = written_body b; body = b; signature = signature }

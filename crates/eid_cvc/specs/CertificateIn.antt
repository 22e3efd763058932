-- The certificate that bytes are, as a function, where they are one.
use Rattle.std.specs.Prelude.{ℕ, zero, suc, ◌==◌, ◌&&◌, Bool, List, [], ◌∷◌, length, slice_index, Option, Some, None, option_map, if◌then◌else◌}
use Rattle.std.specs.Str.{bytes_eq}
use Rattle.eid_bits.specs.Date.{is_between, is_date}
use Rattle.eid_bits.specs.Identifiers.{known_bytes}
use Rattle.eid_bits.specs.declared.identifier.Known.{Known}
use Rattle.eid_bits.specs.declared.identifier.Known.TheVariants.{TaSha256}
use Rattle.eid_tlv.specs.Objects.{object}
use Rattle.eid_cvc.specs.Fronts.{PlainFront, ◌>>=◌, front_in, behind}
use Rattle.eid_cvc.specs.Templates.{template_in}
use Rattle.eid_cvc.specs.Extensions.{Extension, sector_data}
use Rattle.eid_cvc.specs.Certificates.{PlainBody, PlainCertificate}

-- 65 bytes that begin with 04
abbrev pub is_point : List ℕ → Bool
is_point value = length value == 65 && slice_index value 0 == 4

abbrev pub point_of : List ℕ → Option (List ℕ)
point_of value = if is_point value then Some value else None

-- behind the domain parameters
unfoldable pub behind_parameters : List ℕ → List ℕ
behind_parameters bytes = behind 0x85 (behind 0x84 (behind 0x83 (behind 0x82 (behind 0x81 bytes))))

-- the point of a public key of this use, in the value of a 7F49
unfoldable pub public_key_in : Known → List ℕ → Option (List ℕ)
public_key_in use_of value = do
  identifier ← front_in 0x06 value
  point ← front_in 0x86 (behind_parameters identifier.rest)
  key ← point_of point.value
  if bytes_eq identifier.value (known_bytes use_of) && length (behind 0x87 point.rest) == 0 then Some key else None

-- an extension in the value of a 73
unfoldable pub extension_in : List ℕ → Option Extension
extension_in value = do
  identifier ← front_in 0x06 value
  Some (record { identifier = identifier.value; data_objects = identifier.rest })

-- at most n extensions, one behind the other
unfoldable pub extensions_within : ℕ → List ℕ → Option (List Extension)
extensions_within n [] = Some []
extensions_within zero (first ∷ rest) = None
extensions_within (suc n) (first ∷ rest) = do
  front ← front_in 0x73 (first ∷ rest)
  extension ← extension_in front.value
  option_map (λ later. extension ∷ later) (extensions_within n front.rest)

-- the extensions in the value of a 65
abbrev pub extensions_in : List ℕ → Option (List Extension)
extensions_in value = extensions_within (length value) value

-- A hash that may be left out, and the bytes behind it.
pub record PlainHash : Type 0 where
  pub hash : Option (List ℕ)
  pub rest : List ℕ

abbrev pub hash_with : List ℕ → Option PlainFront → Option PlainHash
hash_with bytes None = Some (record { hash = None; rest = bytes })
hash_with bytes (Some front) =
    if length front.value == 32 then Some (record { hash = Some front.value; rest = front.rest }) else None

-- the hash in an object with this tag, where one stands at the front
unfoldable pub hash_in : ℕ → List ℕ → Option PlainHash
hash_in tag bytes = hash_with bytes (front_in tag bytes)

-- the hashes in the data of an extension for terminal sectors
unfoldable pub hashes_in : List ℕ → Option (List (Option (List ℕ)))
hashes_in data_objects = do
  first ← hash_in 0x80 data_objects
  second ← hash_in 0x81 first.rest
  if length second.rest == 0 then Some (first.hash ∷ second.hash ∷ []) else None

-- the hashes in that data, where there is such an extension
abbrev pub hashes_if_any : Option (List ℕ) → Option (List (Option (List ℕ)))
hashes_if_any None = Some (None ∷ None ∷ [])
hashes_if_any (Some data_objects) = hashes_in data_objects

-- the hashes in what stands behind the dates: nothing, or the object 65
unfoldable pub sectors_in : List ℕ → Option (List (Option (List ℕ)))
sectors_in [] = Some (None ∷ None ∷ [])
sectors_in (first ∷ rest) = do
  front ← front_in 0x65 (first ∷ rest)
  list ← extensions_in front.value
  hashes ← hashes_if_any (sector_data list)
  if length front.rest == 0 then Some hashes else None

-- a reference in an object with this tag
unfoldable pub reference_in : ℕ → List ℕ → Option PlainFront
reference_in tag bytes = do
  front ← front_in tag bytes
  if is_between 1 16 (length front.value) then Some front else None

-- a date in an object with this tag
unfoldable pub date_in : ℕ → List ℕ → Option PlainFront
date_in tag bytes = do
  front ← front_in tag bytes
  if is_date front.value then Some front else None

-- What a certificate says of its holder behind the public key.
pub record PlainHolder : Type 0 where
  pub name : List ℕ
  pub template : List ℕ
  pub effective : List ℕ
  pub expiry : List ℕ
  pub sectors : List (Option (List ℕ))

-- what stands behind the public key
unfoldable pub holder_in : List ℕ → Option PlainHolder
holder_in bytes = do
  name ← reference_in 0x5F20 bytes
  authorization ← front_in 0x7F4C name.rest
  template ← template_in authorization.value
  effective ← date_in 0x5F25 authorization.rest
  expiry ← date_in 0x5F24 effective.rest
  sectors ← sectors_in expiry.rest
  Some (record { name = name.value; template = template; effective = effective.value; expiry = expiry.value; sectors = sectors })

-- what a certificate says, in the value of a 7F4E
unfoldable pub body_in : List ℕ → Option PlainBody
body_in value = do
  profile ← front_in 0x5F29 value
  issuer ← reference_in 0x42 profile.rest
  key ← front_in 0x7F49 issuer.rest
  point ← public_key_in TaSha256 key.value
  holder ← holder_in key.rest
  if bytes_eq profile.value (0 ∷ [])
      then Some (record {
        issuer = issuer.value;
        key = point;
        holder = holder.name;
        template = holder.template;
        effective = holder.effective;
        expiry = holder.expiry;
        sectors = holder.sectors;
      })
      else None

-- a signature has 64 bytes
abbrev pub signature_of : List ℕ → Option (List ℕ)
signature_of value = if length value == 64 then Some value else None

-- the object 7F4E, a signature, and nothing behind it
unfoldable pub certificate_in : List ℕ → Option PlainCertificate
certificate_in bytes = do
  front ← front_in 0x7F4E bytes
  body ← body_in front.value
  last ← front_in 0x5F37 front.rest
  signature ← signature_of last.value
  if length last.rest == 0 then Some (record { whole = object 0x7F4E front.value; body = body; signature = signature }) else None

-- Card verifiable certificates (BSI TR-03110-3), by writing them.
use Rattle.std.specs.Prelude.{◌≡◌, ℕ, ◌≤◌, List, [], ◌∷◌, ◌++◌, length, Option, option_map, option_and_then, IsTrue}
use Rattle.eid_bits.specs.Date.{is_date}
use Rattle.eid_bits.specs.declared.identifier.Known.TheVariants.{TaSha256}
use Rattle.eid_tlv.specs.Objects.{object}
use Rattle.eid_cvc.specs.Templates.{template_value}
use Rattle.eid_cvc.specs.PublicKeys.{Domain, IsPoint, optional, public_key}
use Rattle.eid_cvc.specs.Extensions.{AreHashes, AreHashesIn, Extension, extensions, sector_data}

-- What a certificate says before its signature.
pub record PlainBody : Type 0 where
  pub issuer : List ℕ
  pub key : List ℕ
  pub holder : List ℕ
  pub template : List ℕ
  pub effective : List ℕ
  pub expiry : List ℕ
  -- the hashes of the terminal's first and second sector key
  pub sectors : List (Option (List ℕ))

-- A certificate: the object 7F4E whole, what it says, and the signature.
pub record PlainCertificate : Type 0 where
  pub whole : List ℕ
  pub body : PlainBody
  pub signature : List ℕ

-- a reference has 1 to 16 bytes
abbrev pub IsReference : List ℕ → Type 0
IsReference name = (1 ≤ length name) × (length name ≤ 16)

-- each value has its form
pub record IsBody (b : PlainBody) : Type 0 where
  pub issuer : IsReference b.issuer
  pub key : IsPoint b.key
  pub holder : IsReference b.holder
  pub template : length b.template ≡ 5
  pub effective : IsTrue (is_date b.effective)
  pub expiry : IsTrue (is_date b.expiry)
  pub sectors : AreHashes b.sectors

-- the profile's number, the issuer, the public key, the holder, the template, the dates, and extensions, where there are any
unfoldable pub body_value : PlainBody → Domain → Option (List Extension) → List ℕ
body_value b domain extra =
    object 0x5F29 (0 ∷ []) ++ object 0x42 b.issuer ++ object 0x7F49 (public_key TaSha256 domain b.key) ++ object 0x5F20 b.holder
    ++ object 0x7F4C (template_value b.template) ++ object 0x5F25 b.effective ++ object 0x5F24 b.expiry
    ++ optional 0x65 (option_map extensions extra)

-- the bytes are this certificate and nothing behind it
pub record IsCertificate (bytes : List ℕ) (c : PlainCertificate) : Type 0 where
  pub domain : Domain
  pub extra : Option (List Extension)
  pub valid : IsBody c.body
  pub size : length (body_value c.body domain extra) ≤ 65535
  pub sectors : AreHashesIn (option_and_then sector_data extra) c.body.sectors
  pub signature : length c.signature ≡ 64
  pub whole : c.whole ≡ object 0x7F4E (body_value c.body domain extra)
  pub spelled : bytes ≡ c.whole ++ object 0x5F37 c.signature

-- How long objects are.
use Rattle.std.proofs.Common.{◌≡◌, ℕ, ◌+◌, ◌<◌, ◌≤◌, IsTrue, List, [], ◌∷◌, ◌++◌, length, Option, Some, None, ◌∙◌, ap, arith, append_assoc, length-append, inl, inr}
use Rattle.std.proofs.lemmas.Bool.{cases_lt, false≢true}
use Rattle.std.specs.Prelude.{IfSome, option_map}
use Rattle.eid_bits.specs.Date.{is_date}
use Rattle.eid_bits.specs.Identifiers.{known_bytes}
use Rattle.eid_bits.specs.declared.identifier.Known.{Known}
use Rattle.eid_bits.specs.declared.identifier.Known.TheVariants as known
use Rattle.eid_bits.specs.declared.identifier.Known.TheVariants.{AtTemplate, Sector, TaSha256}
use Rattle.eid_tlv.specs.Objects.{object, tag_bytes, length_bytes}
use Rattle.eid_tlv.proofs.Forms.{tag_bytes-one, length_bytes-one, length_bytes-two}
use Rattle.eid_tlv.proofs.Sizes.{object_size, tag_size, length_size}
use Rattle.eid_cvc.specs.Certificates.{PlainBody, IsBody, body_value}
use Rattle.eid_cvc.specs.Extensions.{AreHashes, extensions, sector_hashes}
use Rattle.eid_cvc.specs.PublicKeys.{no_domain, optional, parameters, public_key}
use Rattle.eid_cvc.specs.Templates.{template_value}
use Rattle.eid_cvc.specs.Writing.{extra_written, written_body}

-- an object has at most five bytes more than its value
pub object_fits : (tag : ℕ) (value : List ℕ) → length (object tag value) ≤ length value + 5
object_fits tag value = omega (arith, object_size tag value, tag_size tag, length_size (length value))

-- a buffer with an object more
pub appended_size : (old new : List ℕ) (tag : ℕ) (value : List ℕ) → new ≡ old ++ object tag value → length new ≤ length old + length value + 5
appended_size old new tag value e =
    let size : length new ≡ length old + length (object tag value) = ap length e ∙ length-append old (object tag value) in
    omega (arith, object_fits tag value)

-- a short value behind a tag of one byte
one_byte : (tag : ℕ) (value : List ℕ) (most : ℕ) → tag < 256 → length value ≤ most → most < 128 → length (object tag value) ≤ most + 2
one_byte tag value most tag_short short fits =
    let tag_long : length (tag_bytes tag) ≡ 1 = ap length (tag_bytes-one tag tag_short) in
    let head_long : length (length_bytes (length value)) ≡ 1 = ap length (length_bytes-one (length value) (omega (arith, short, fits))) in
    omega (arith, object_size tag value)

-- behind a tag of two
pub two_bytes : (tag : ℕ) (value : List ℕ) (most : ℕ) → length value ≤ most → most < 128 → length (object tag value) ≤ most + 3
two_bytes tag value most short fits =
    let head_long : length (length_bytes (length value)) ≡ 1 = ap length (length_bytes-one (length value) (omega (arith, short, fits))) in
    omega (arith, object_size tag value, tag_size tag)

-- a longer value: a length of two bytes suffices
longer : (tag : ℕ) (value : List ℕ) (most : ℕ) → length value ≤ most → most < 256 → length (object tag value) ≤ most + 4
longer tag value most short fits = elim (cases_lt (length value) 128) [
  | inl less ↦
      let head_long : length (length_bytes (length value)) ≡ 1 = ap length (length_bytes-one (length value) less) in
      omega (arith, object_size tag value, tag_size tag)
  | inr more ↦
      let head_long : length (length_bytes (length value)) ≡ 2 = ap length (length_bytes-two (length value) more (omega (arith, short, fits))) in
      omega (arith, object_size tag value, tag_size tag)
]

-- an identifier has at most ten bytes
short_identifier : (identifier : Known) → length (known_bytes identifier) ≤ 10
short_identifier known.Application = omega arith
short_identifier known.PaceAes128 = omega arith
short_identifier known.PaceAes256 = omega arith
short_identifier known.CaAes128 = omega arith
short_identifier known.CaAes256 = omega arith
short_identifier known.TaSha256 = omega arith
short_identifier known.RiSha256 = omega arith
short_identifier known.AtTemplate = omega arith
short_identifier known.Birth = omega arith
short_identifier known.Expiry = omega arith
short_identifier known.Community = omega arith
short_identifier known.Sector = omega arith

-- the objects of a public key
pub identifier_size : (identifier : Known) → length (object 0x06 (known_bytes identifier)) ≤ 12
identifier_size identifier = one_byte 0x06 (known_bytes identifier) 10 (omega arith) (short_identifier identifier) (omega arith)

pub point_size : (point : List ℕ) → length point ≡ 65 → length (object 0x86 point) ≤ 67
point_size point long = one_byte 0x86 point 65 (omega arith) (omega (arith, long)) (omega arith)

pub key_size : (value : List ℕ) → length value ≤ 79 → length (object 0x7F49 value) ≤ 82
key_size value short = two_bytes 0x7F49 value 79 short (omega arith)

public_key_size : (key : List ℕ) → length key ≡ 65 → length (public_key TaSha256 no_domain key) ≤ 79
unfolding public_key parameters
public_key_size key long =
    let identifier = identifier_size TaSha256 in
    let point = point_size key long in
    let both = object 0x06 (known_bytes TaSha256) ++ object 0x86 key in
    let is : public_key TaSha256 no_domain key ≡ both ++ [] = ap (λ (o : List ℕ). o ++ []) (append_assoc (object 0x06 (known_bytes TaSha256)) [] (object 0x86 key)) in
    let size : length (public_key TaSha256 no_domain key) ≡ length both + 0 = ap length is ∙ length-append both [] in
    omega (arith, length-append (object 0x06 (known_bytes TaSha256)) (object 0x86 key))

template_size : (template : List ℕ) → length template ≡ 5 → length (template_value template) ≤ 18
unfolding template_value
template_size template long =
    let identifier = one_byte 0x06 (known_bytes AtTemplate) 9 (omega arith) (omega arith) (omega arith) in
    let rights = one_byte 0x53 template 5 (omega arith) (omega (arith, long)) (omega arith) in
    omega (arith, length-append (object 0x06 (known_bytes AtTemplate)) (object 0x53 template))

hash_size : (tag : ℕ) (hash : Option (List ℕ)) → tag < 256 → IfSome hash (λ bytes. length bytes ≡ 32) → length (optional tag hash) ≤ 34
hash_size tag None short is = omega arith
hash_size tag (Some bytes) short is = one_byte tag bytes 32 short (omega (arith, is)) (omega arith)

hashes_size : (first second : Option (List ℕ)) → IfSome first (λ bytes. length bytes ≡ 32) → IfSome second (λ bytes. length bytes ≡ 32)
    → length (optional 0x80 first ++ optional 0x81 second) ≤ 68
hashes_size first second one two =
    omega (arith, length-append (optional 0x80 first) (optional 0x81 second), hash_size 0x80 first (omega arith) one, hash_size 0x81 second (omega arith) two)

-- the objects 73 and 65 around the hashes
extension_size : (data_objects : List ℕ) → length data_objects ≤ 68
    → length (object 0x65 (object 0x73 (object 0x06 (known_bytes Sector) ++ data_objects) ++ [])) ≤ 83
extension_size data_objects short =
    let identifier = one_byte 0x06 (known_bytes Sector) 9 (omega arith) (omega arith) (omega arith) in
    let value = object 0x06 (known_bytes Sector) ++ data_objects in
    let inner = one_byte 0x73 value 79 (omega arith) (omega (arith, length-append (object 0x06 (known_bytes Sector)) data_objects)) (omega arith) in
    one_byte 0x65 (object 0x73 value ++ []) 81 (omega arith) (omega (arith, length-append (object 0x73 value) [])) (omega arith)

extra_size : (hashes : List (Option (List ℕ))) → AreHashes hashes → length (optional 0x65 (option_map extensions (extra_written hashes))) ≤ 83
extra_size [] are = absurd (omega (arith, are.two))
extra_size (one ∷ []) are = absurd (omega (arith, are.two))
extra_size (None ∷ None ∷ []) are = omega arith
extra_size (None ∷ Some second ∷ []) are = extension_size (sector_hashes (None ∷ Some second ∷ [])) (hashes_size None (Some second) are.first are.second)
extra_size (Some first ∷ second ∷ []) are = extension_size (sector_hashes (Some first ∷ second ∷ [])) (hashes_size (Some first) second are.first are.second)
extra_size (one ∷ two ∷ three ∷ more) are = absurd (omega (arith, are.two))

date_size : (date : List ℕ) → IsTrue (is_date date) → length date ≤ 6
date_size [] is = absurd (false≢true is)
date_size (y1 ∷ []) is = absurd (false≢true is)
date_size (y1 ∷ y2 ∷ []) is = absurd (false≢true is)
date_size (y1 ∷ y2 ∷ m1 ∷ []) is = absurd (false≢true is)
date_size (y1 ∷ y2 ∷ m1 ∷ m2 ∷ []) is = absurd (false≢true is)
date_size (y1 ∷ y2 ∷ m1 ∷ m2 ∷ d1 ∷ []) is = absurd (false≢true is)
date_size (y1 ∷ y2 ∷ m1 ∷ m2 ∷ d1 ∷ d2 ∷ []) is = omega arith
date_size (y1 ∷ y2 ∷ m1 ∷ m2 ∷ d1 ∷ d2 ∷ more ∷ later) is = absurd (false≢true is)

pub value_size : (b : PlainBody) → IsBody b → length (body_value b no_domain (extra_written b.sectors)) ≤ 245
unfolding body_value
value_size b is =
    let profile = two_bytes 0x5F29 (0 ∷ []) 1 (omega arith) (omega arith) in
    let issuer = one_byte 0x42 b.issuer 16 (omega arith) is.issuer.1 (omega arith) in
    let key = key_size (public_key TaSha256 no_domain b.key) (public_key_size b.key is.key.size) in
    let holder = two_bytes 0x5F20 b.holder 16 is.holder.1 (omega arith) in
    let template = two_bytes 0x7F4C (template_value b.template) 18 (template_size b.template is.template) (omega arith) in
    let effective = two_bytes 0x5F25 b.effective 6 (date_size b.effective is.effective) (omega arith) in
    let expiry = two_bytes 0x5F24 b.expiry 6 (date_size b.expiry is.expiry) (omega arith) in
    let extra = extra_size b.sectors is.sectors in
    eight (object 0x5F29 (0 ∷ [])) (object 0x42 b.issuer) (object 0x7F49 (public_key TaSha256 no_domain b.key)) (object 0x5F20 b.holder)
    (object 0x7F4C (template_value b.template)) (object 0x5F25 b.effective) (object 0x5F24 b.expiry) (optional 0x65 (option_map extensions (extra_written b.sectors)))
    (omega arith)
  where
    eight : (a b c d e f g h : List ℕ) → length a + length b + length c + length d + length e + length f + length g + length h ≤ 245
        → length (a ++ b ++ c ++ d ++ e ++ f ++ g ++ h) ≤ 245
    eight a b c d e f g h fits = grind (arith, length-append)

pub body_size : (b : PlainBody) → IsBody b → length (written_body b) ≤ 249
unfolding written_body
body_size b is = longer 0x7F4E (body_value b no_domain (extra_written b.sectors)) 245 (value_size b is) (omega arith)

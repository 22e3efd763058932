-- Facts on the objects of protected messages.
use Rattle.std.proofs.Common.{◌≡◌, ℕ, ◌+◌, ◌<◌, ◌≤◌, ◌==◌, Bool, true, false, IsTrue, List, [], ◌∷◌, ◌++◌, length, refl, sym, ap, ◌∙◌, arith, append_assoc, length-append}
use Rattle.std.specs.Bool.{OnTrue}
use Rattle.std.proofs.lemmas.Bool.{false≢true, eqb-true}
use Rattle.std.proofs.lemmas.List.{append-nil}
use Rattle.eid_tlv.specs.Objects.{is_tag, object, tag_bytes, length_bytes}
use Rattle.eid_tlv.specs.Reading.{BeginsWith}
use Rattle.eid_tlv.proofs.Sizes.{object_size, tag_size, length_size}
use Rattle.eid_cmac.specs.Padding.{padding}
use Rattle.eid_sm.specs.Parts.{cryptogram, encrypted_object, padded_objects}

-- an object has at most five bytes more than its value
pub object_fits : (tag : ℕ) (value : List ℕ) → length (object tag value) ≤ length value + 5
object_fits tag value = omega (arith, object_size tag value, tag_size tag, length_size (length value))

-- what is written behind objects pads them
pub padded_some : (b : ℕ) (bs : List ℕ) → (b ∷ bs) ++ padding (length (b ∷ bs)) ≡ padded_objects (b ∷ bs)
unfolding padded_objects
padded_some b bs = refl

pub padded_none : padded_objects [] ≡ []
unfolding padded_objects
padded_none = refl

pub message_in_parts : (start objects behind whole : List ℕ) → objects ++ behind ≡ whole → start ++ objects ++ behind ≡ start ++ whole
message_in_parts start objects behind whole e = append_assoc start objects behind ∙ ap (λ s. start ++ s) e

-- a buffer with an object more
pub appended_size : (old new : List ℕ) (tag : ℕ) (value : List ℕ) → new ≡ old ++ object tag value → length new ≤ length old + length value + 5
appended_size old new tag value e =
    let size : length new ≡ length old + length (object tag value) = ap length e ∙ length-append old (object tag value) in
    omega (arith, object_fits tag value)

pub encrypted_none : (key count plain out : List ℕ) → length plain ≡ 0 → out ≡ out ++ encrypted_object key count plain
unfolding encrypted_object
encrypted_none key count [] out none = sym (append-nil out)
encrypted_none key count (b ∷ bs) out none = absurd (omega (arith, none))

pub encrypted_some : (key count plain : List ℕ) → 0 < length plain → encrypted_object key count plain ≡ object 0x87 (0x01 ∷ cryptogram key count plain)
unfolding encrypted_object
encrypted_some key count [] some = absurd (omega (arith, some))
encrypted_some key count (b ∷ bs) some = refl

-- bytes that are an object begin with it, and nothing follows
pub one_object : (bytes : List ℕ) (tag : ℕ) (value : List ℕ) → IsTrue (is_tag tag) → length bytes ≤ 2200 → bytes ≡ object tag value → BeginsWith bytes tag value []
one_object bytes tag value tagged short e =
    let size : length bytes ≡ length (object tag value) = ap length e in
    record { fits = record { tagged = tagged; sized = omega (arith, object_size tag value) }; spelled = e ∙ sym (append-nil (object tag value)) }

pub not_empty : (s : List ℕ) → false ≡ (length s == 0) → s ≡ [] → ⊥
not_empty s told is =
    let empty : (length s == 0) ≡ true = rw is refl in
    false≢true (told ∙ empty)

pub empty : (s : List ℕ) → true ≡ (length s == 0) → s ≡ []
empty s told = none s (eqb-true (length s) 0 (sym told)) where
  none : (s : List ℕ) → length s ≡ 0 → s ≡ []
  none [] size = refl
  none (b ∷ bs) size = absurd (omega arith)

-- bytes that are not none are some
pub some_bytes : (s : List ℕ) → false ≡ (length s == 0) → 0 < length s
some_bytes [] told = absurd (not_empty [] told refl)
some_bytes (b ∷ bs) told = omega arith

no_object : (value : List ℕ) → object 0x87 value ≡ [] → ⊥
unfolding object tag_bytes
no_object value e = cc

-- ---- what object 87 protects

pub encrypted_nothing : (key count : List ℕ) → encrypted_object key count [] ≡ []
unfolding encrypted_object
encrypted_nothing key count = refl

pub nothing_encrypted : (key count p : List ℕ) → encrypted_object key count p ≡ [] → p ≡ []
unfolding encrypted_object
nothing_encrypted key count [] e = refl
nothing_encrypted key count (b ∷ bs) e = absurd (no_object _ e)

pub some_encrypted : (key count p bytes : List ℕ) → bytes ≡ encrypted_object key count p → (bytes ≡ [] → ⊥) → 0 < length p
some_encrypted key count [] bytes e some = absurd (some (e ∙ encrypted_nothing key count))
some_encrypted key count (b ∷ bs) bytes e some = omega arith

pub opened_object : (key count bytes inner plain : List ℕ) (r : Bool) → bytes ≡ object 0x87 (0x01 ∷ inner)
    → OnTrue r ((inner ≡ cryptogram key count plain) × (0 < length plain)) → OnTrue r (bytes ≡ encrypted_object key count plain)
opened_object key count bytes inner plain true e found = e ∙ ap (λ s. object 0x87 (0x01 ∷ s)) found.0 ∙ sym (encrypted_some key count plain found.1)
opened_object key count bytes inner plain false e found = tt

-- object 99 as bytes
pub status_object_is : (sw1 sw2 : ℕ) → object 0x99 (sw1 ∷ sw2 ∷ []) ≡ 0x99 ∷ 2 ∷ sw1 ∷ sw2 ∷ []
unfolding object tag_bytes length_bytes
status_object_is sw1 sw2 = refl

-- object 97 as bytes
pub le_object_one : (le : ℕ) → object 0x97 (le ∷ []) ≡ 0x97 ∷ 1 ∷ le ∷ []
unfolding object tag_bytes length_bytes
le_object_one le = refl

pub le_object_two : (high low : ℕ) → object 0x97 (high ∷ low ∷ []) ≡ 0x97 ∷ 2 ∷ high ∷ low ∷ []
unfolding object tag_bytes length_bytes
le_object_two high low = refl

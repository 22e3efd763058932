-- From the parts of an object to the whole of it, and from what a reader found to its exact answer.
use Rattle.std.proofs.Common.{◌≡◌, ℕ, ◌+◌, ◌-◌, ◌*◌, ◌/◌, ◌%◌, ◌<◌, ◌≤◌, true, inl, inr, List, [], ◌∷◌, ◌++◌, length, take, drop, get_or, replicate, refl, sym, ◌∙◌, ap, arith, append_assoc, length-append, Result, Ok, Err, IfOk, IfErr, IsOkAnd}
use Rattle.std.proofs.lemmas.List.{take-append-drop, length-replicate, length-take-le}
use Rattle.eid_tlv.specs.Objects.{is_tag, tag_bytes, length_bytes, object}
use Rattle.eid_tlv.specs.Reading.{BeginsWith, IsCutShort, HasBadTag, HasBadLength}
use Rattle.eid_tlv.specs.Parts.{IsRefusal, IsTagRefusal, IsLengthRefusal}
use Rattle.eid_tlv.specs.declared.reading.TlvError.{TlvError}
use Rattle.eid_tlv.specs.declared.reading.TlvError.TheVariants.{Short, BadTag, BadLength}
use Rattle.eid_tlv.proofs.Forms.{IsTwoBytes, is_tag-two, tag_bytes-one, tag_bytes-two, length_bytes-one, length_bytes-two, length_bytes-three}
use Rattle.eid_tlv.proofs.Distinct.{on, one_object, whole_or_cut, whole_or_bad_tag, whole_or_bad_length, cut_or_bad_tag, cut_or_bad_length, bad_tag_or_length}

-- tag, length and value joined
object_of : (tag size : ℕ) (value : List ℕ) → length value ≡ size → tag_bytes tag ++ (length_bytes size ++ value) ≡ object tag value
unfolding object
object_of tag size value sized = rw (← sized) (sym (append_assoc (tag_bytes tag) (length_bytes (length value)) value))

pub begins_with : (bytes after more : List ℕ) (tag size : ℕ) → is_tag tag ≡ true → bytes ≡ tag_bytes tag ++ after
    → size ≤ 65535 → after ≡ length_bytes size ++ more → size ≤ length more → BeginsWith bytes tag (take size more) (drop size more)
begins_with bytes after more tag size tagged is_bytes small is_after enough =
    let value = take size more in
    let rest = drop size more in
    let sized : length value ≡ size = length-take-le size more enough in
    record {
      fits = record { tagged = tagged; sized = omega arith };
      spelled =
          let whole : tag_bytes tag ++ (length_bytes size ++ (value ++ rest)) ≡ object tag value ++ rest =
          simp append_assoc at (ap (λ s. s ++ rest) (object_of tag size value sized)) in
          is_bytes ∙ ap (λ s. tag_bytes tag ++ s) is_after
          ∙ ap (λ s. tag_bytes tag ++ (length_bytes size ++ s)) (sym (take-append-drop size more)) ∙ whole;
    }

-- some bytes of the value are missing
pub value_cut_short : (bytes after more : List ℕ) (tag size : ℕ) → is_tag tag ≡ true → bytes ≡ tag_bytes tag ++ after
    → size ≤ 65535 → after ≡ length_bytes size ++ more → length more < size → IsCutShort bytes
value_cut_short bytes after more tag size tagged is_bytes small is_after few =
    let missing = replicate (size - length more) 0 in
    let missing_size : length missing ≡ size - length more = length-replicate (size - length more) 0 in
    let sized : length (more ++ missing) ≡ size = omega (arith, length-append more missing) in
    record {
      tag = tag;
      value = more ++ missing;
      missing = missing;
      fits = record { tagged = tagged; sized = omega arith };
      some = omega arith;
      whole =
          let whole_bytes : bytes ≡ tag_bytes tag ++ (length_bytes size ++ more) = is_bytes ∙ ap (λ s. tag_bytes tag ++ s) is_after in
          let regrouped : (tag_bytes tag ++ (length_bytes size ++ more)) ++ missing ≡ tag_bytes tag ++ (length_bytes size ++ (more ++ missing)) =
          simp append_assoc in
          ap (λ s. s ++ missing) whole_bytes ∙ regrouped ∙ object_of tag size (more ++ missing) sized;
    }

-- some bytes of the length are missing, and then the value
length_cut_short : (bytes after missing : List ℕ) (tag size : ℕ) → is_tag tag ≡ true → bytes ≡ tag_bytes tag ++ after
    → size ≤ 65535 → after ++ missing ≡ length_bytes size → 0 < length missing → IsCutShort bytes
length_cut_short bytes after missing tag size tagged is_bytes small is_length some =
    let value = replicate size 0 in
    let sized : length value ≡ size = length-replicate size 0 in
    record {
      tag = tag;
      value = value;
      missing = missing ++ value;
      fits = record { tagged = tagged; sized = omega arith };
      some = omega (arith, length-append missing value);
      whole =
          let regrouped : (tag_bytes tag ++ after) ++ (missing ++ value) ≡ tag_bytes tag ++ ((after ++ missing) ++ value) = simp append_assoc in
          ap (λ s. s ++ (missing ++ value)) is_bytes ∙ regrouped
          ∙ ap (λ s. tag_bytes tag ++ (s ++ value)) is_length ∙ object_of tag size value sized;
    }

pub from_length_refusal : (bytes after : List ℕ) (tag : ℕ) (refusal : TlvError) → is_tag tag ≡ true → bytes ≡ tag_bytes tag ++ after
    → IsLengthRefusal after refusal → IsRefusal bytes refusal
from_length_refusal bytes [] tag Short tagged is_bytes refused =
    length_cut_short bytes [] (0 ∷ []) tag 0 tagged is_bytes (omega arith) (sym (length_bytes-one 0 (omega arith))) (omega arith)
from_length_refusal bytes (form ∷ []) tag Short tagged is_bytes refused = elim refused [
  | inl is ↦ length_cut_short bytes (form ∷ []) (0x80 ∷ []) tag 0x80 tagged is_bytes (omega arith)
      (ap (λ f. f ∷ 0x80 ∷ []) is ∙ sym (length_bytes-two 0x80 (omega arith) (omega arith))) (omega arith)
  | inr is ↦ length_cut_short bytes (form ∷ []) (1 ∷ 0 ∷ []) tag 0x100 tagged is_bytes (omega arith)
      (ap (λ f. f ∷ 1 ∷ 0 ∷ []) is ∙ sym (length_bytes-three 0x100 (omega arith))) (omega arith)
]
from_length_refusal bytes (form ∷ size ∷ []) tag Short tagged is_bytes refused =
    let is : form ≡ 0x82 = refused.0 in
    let some : 0 < size = refused.1 in
    let below : size < 256 = refused.2 in
    let high_part : size * 256 / 256 ≡ size = omega arith in
    let low_part : size * 256 % 256 ≡ 0 = omega arith in
    let written : form ∷ size ∷ 0 ∷ [] ≡ length_bytes (size * 256) =
    rw (length_bytes-three (size * 256) (omega arith), high_part, low_part, is) refl in
    length_cut_short bytes (form ∷ size ∷ []) (0 ∷ []) tag (size * 256) tagged is_bytes (omega arith) written (omega arith)
from_length_refusal bytes (form ∷ size ∷ low ∷ rest) tag Short tagged is_bytes refused = absurd refused
from_length_refusal bytes after tag BadTag tagged is_bytes refused = absurd refused
from_length_refusal bytes after tag BadLength tagged is_bytes refused =
    record { tag = tag; after = after; tagged = tagged; spelled = is_bytes; bad = refused }

pub from_tag_refusal : (bytes : List ℕ) (refusal : TlvError) → get_or bytes 0 0 < 256 → IsTagRefusal bytes refusal → IsRefusal bytes refusal
from_tag_refusal [] Short below refused = record {
  tag = 0;
  value = [];
  missing = 0 ∷ 0 ∷ [];
  fits = record { tagged = refl; sized = omega arith };
  some = omega arith;
  whole = rw (← object_of 0 0 [] refl, tag_bytes-one 0 (omega arith), length_bytes-one 0 (omega arith)) refl;
}
from_tag_refusal (first ∷ []) Short below refused =
    let tag = first * 256 + 0x1F in
    let goes : first % 32 ≡ 31 = on first refused in
    let high_part : (first * 256 + 0x1F) / 256 ≡ first = omega arith in
    let low_part : (first * 256 + 0x1F) % 256 ≡ 0x1F = omega arith in
    let from : 256 ≤ first * 256 + 0x1F = omega arith in
    let two : IsTwoBytes (first * 256 + 0x1F) =
    record { from = from; below = omega arith; first = rw high_part goes; low = omega arith; high = omega arith } in
    record {
      tag = tag;
      value = [];
      missing = 0x1F ∷ 0 ∷ [];
      fits = record { tagged = is_tag-two tag two; sized = omega arith };
      some = omega arith;
      whole = rw (← object_of (first * 256 + 0x1F) 0 [] refl, tag_bytes-two (first * 256 + 0x1F) from, high_part, low_part, length_bytes-one 0 (omega arith)) refl;
    }
from_tag_refusal (first ∷ second ∷ rest) Short below refused = absurd refused
from_tag_refusal bytes BadTag below refused = refused
from_tag_refusal bytes BadLength below refused = absurd refused

module _ {X : Type 0} (tag_of : X → ℕ) (value_of rest_of : X → List ℕ) where
  pub only_from : (bytes : List ℕ) (r : Result X TlvError) → IfOk r (λ x. BeginsWith bytes (tag_of x) (value_of x) (rest_of x))
      → IfErr r (IsRefusal bytes) → (tag : ℕ) (value rest : List ℕ) → BeginsWith bytes tag value rest
      → IsOkAnd r (λ x. (tag_of x ≡ tag) × (value_of x ≡ value) × (rest_of x ≡ rest))
  only_from bytes (Ok x) found refused tag value rest whole = one_object bytes (tag_of x) tag (value_of x) value (rest_of x) rest found whole
  only_from bytes (Err Short) found refused tag value rest whole = absurd (whole_or_cut bytes tag value rest whole refused)
  only_from bytes (Err BadTag) found refused tag value rest whole = absurd (whole_or_bad_tag bytes tag value rest whole refused)
  only_from bytes (Err BadLength) found refused tag value rest whole = absurd (whole_or_bad_length bytes tag value rest whole refused)

  pub exactly_short : (bytes : List ℕ) (r : Result X TlvError) → IfOk r (λ x. BeginsWith bytes (tag_of x) (value_of x) (rest_of x))
      → IfErr r (IsRefusal bytes) → (r ≡ Err Short → IsCutShort bytes) × (IsCutShort bytes → r ≡ Err Short)
  exactly_short bytes (Ok x) found refused =
      (λ is. cc, λ short. absurd (whole_or_cut bytes (tag_of x) (value_of x) (rest_of x) found short))
  exactly_short bytes (Err Short) found refused = (λ is. refused, λ short. refl)
  exactly_short bytes (Err BadTag) found refused = (λ is. cc, λ short. absurd (cut_or_bad_tag bytes short refused))
  exactly_short bytes (Err BadLength) found refused = (λ is. cc, λ short. absurd (cut_or_bad_length bytes short refused))

  pub exactly_bad_tag : (bytes : List ℕ) (r : Result X TlvError) → IfOk r (λ x. BeginsWith bytes (tag_of x) (value_of x) (rest_of x))
      → IfErr r (IsRefusal bytes) → (r ≡ Err BadTag → HasBadTag bytes) × (HasBadTag bytes → r ≡ Err BadTag)
  exactly_bad_tag bytes (Ok x) found refused =
      (λ is. cc, λ bad. absurd (whole_or_bad_tag bytes (tag_of x) (value_of x) (rest_of x) found bad))
  exactly_bad_tag bytes (Err Short) found refused = (λ is. cc, λ bad. absurd (cut_or_bad_tag bytes refused bad))
  exactly_bad_tag bytes (Err BadTag) found refused = (λ is. refused, λ bad. refl)
  exactly_bad_tag bytes (Err BadLength) found refused = (λ is. cc, λ bad. absurd (bad_tag_or_length bytes bad refused))

  pub exactly_bad_length : (bytes : List ℕ) (r : Result X TlvError) → IfOk r (λ x. BeginsWith bytes (tag_of x) (value_of x) (rest_of x))
      → IfErr r (IsRefusal bytes) → (r ≡ Err BadLength → HasBadLength bytes) × (HasBadLength bytes → r ≡ Err BadLength)
  exactly_bad_length bytes (Ok x) found refused =
      (λ is. cc, λ bad. absurd (whole_or_bad_length bytes (tag_of x) (value_of x) (rest_of x) found bad))
  exactly_bad_length bytes (Err Short) found refused = (λ is. cc, λ bad. absurd (cut_or_bad_length bytes refused bad))
  exactly_bad_length bytes (Err BadTag) found refused = (λ is. cc, λ bad. absurd (bad_tag_or_length bytes refused bad))
  exactly_bad_length bytes (Err BadLength) found refused = (λ is. refused, λ bad. refl)

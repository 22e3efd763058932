-- The forms of dynamic authentication data: two tags and two lengths of a byte each, and the value.
use Rattle.std.proofs.Common.{◌≡◌, ℕ, ◌+◌, ◌<◌, ◌≤◌, true, List, ◌∷◌, length, drop, refl, sym, ap, ◌∙◌, arith}
use Rattle.std.specs.Prelude.{◌==◌, ◌↔◌}
use Rattle.std.specs.Str.{bytes_eq}
use Rattle.std.proofs.lemmas.Bool.{and_parts, and_from}
use Rattle.std.proofs.lemmas.Bool.Decides.{Decides-eqb}
use Rattle.std.proofs.lemmas.Slice.Eq.{bytes_eq-Decides}
use Rattle.eid_tlv.specs.Objects.{object}
use Rattle.eid_tlv.proofs.Forms.{tag_bytes-one, length_bytes-one}
use Rattle.eid_model.specs.Bodies.{authentication_data, data_in, holds_value}

-- an object with a tag and a length of a byte each
pub short_object : (tag : ℕ) (value : List ℕ) → tag < 256 → length value < 0x80 → object tag value ≡ tag ∷ length value ∷ value
unfolding object
short_object tag value low short = rw (tag_bytes-one tag low, length_bytes-one (length value) short) refl

pub data_spelled : (tag : ℕ) (value : List ℕ) → tag < 256 → length value ≤ 100 → authentication_data tag value ≡ 0x7C ∷ (length value + 2) ∷ tag ∷ length value ∷ value
unfolding authentication_data
data_spelled tag value low short =
    let inner : object tag value ≡ tag ∷ length value ∷ value = short_object tag value low (omega arith) in
    rw inner (short_object 0x7C (tag ∷ length value ∷ value) (omega arith) (omega arith) ∙ ap (λ (n : ℕ). 0x7C ∷ n ∷ tag ∷ length value ∷ value) (omega arith))

-- the value in such a body is the one that was written
pub data_written : (tag : ℕ) (value : List ℕ) → tag < 256 → length value ≤ 100 → data_in (authentication_data tag value) ≡ value
data_written tag value low short = ap (drop 4) (data_spelled tag value low short)

-- a body is of the form exactly where some value was written so
pub form_written : (tag size : ℕ) (body : List ℕ) → tag < 256 → size ≤ 100 → (holds_value tag size body ≡ true) ↔ ((value : List ℕ) × (body ≡ authentication_data tag value) × (length value ≡ size))
unfolding holds_value
form_written tag size body low short = (
  λ h.
      let both = and_parts (bytes_eq body (authentication_data tag (data_in body))) (length (data_in body) == size) h in
      (data_in body, (bytes_eq-Decides body _).0 both.0, (Decides-eqb (length (data_in body)) size).0 both.1),
  λ w.
      let value = w.0 in
      let long : length value ≡ size = w.2 in
      let same : data_in body ≡ value = ap data_in w.1 ∙ data_written tag value low (omega (arith, long)) in
      let whole : body ≡ authentication_data tag (data_in body) = w.1 ∙ ap (authentication_data tag) (sym same) in
      and_from _ _ ((bytes_eq-Decides body _).1 whole) ((Decides-eqb (length (data_in body)) size).1 (ap (λ (v : List ℕ). length v) same ∙ long)),
)

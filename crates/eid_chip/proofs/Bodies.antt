-- The bytes of dynamic authentication data: two tags and two lengths of a byte each, and the value.
use Rattle.std.proofs.Common.{◌≡◌, ℕ, ◌+◌, ◌<◌, ◌≤◌, true, false, List, [], ◌∷◌, ◌++◌, length, take, drop, refl, sym, ap, ◌∙◌, arith, length-append}
use Rattle.std.specs.Prelude.{◌==◌, ◌&&◌, Bool, slice_index}
use Rattle.std.specs.Str.{bytes_eq}
use Rattle.std.proofs.lemmas.Bool.{and_parts, and_from}
use Rattle.std.proofs.lemmas.Bool.Decides.{Decides-eqb}
use Rattle.std.proofs.lemmas.List.{take-append-drop}
use Rattle.std.proofs.lemmas.Slice.Eq.{bytes_eq-Decides}
use Rattle.eid_tlv.specs.Objects.{object}
use Rattle.eid_tlv.proofs.Sizes.{object_size, tag_size, length_size}
use Rattle.eid_model.specs.Bodies.{authentication_data, holds_value, holds_point}
use Rattle.eid_model.proofs.Forms.{data_spelled}

abbrev header : ℕ → ℕ → List ℕ
header tag size = 0x7C ∷ (size + 2) ∷ tag ∷ size ∷ []

-- what begins with such a header, and has the bytes behind it
pub holds : (tag size : ℕ) (body : List ℕ) → tag < 256 → size ≤ 100 → bytes_eq (take 4 body) (header tag size) ≡ true → length (drop 4 body) ≡ size → holds_value tag size body ≡ true
unfolding holds_value
holds tag size body low short front long =
    let whole : body ≡ authentication_data tag (drop 4 body) =
    sym (take-append-drop 4 body) ∙ ap (λ (h : List ℕ). h ++ drop 4 body) ((bytes_eq-Decides (take 4 body) (header tag size)).0 front)
    ∙ ap (λ (n : ℕ). header tag n ++ drop 4 body) (sym long) ∙ sym (data_spelled tag (drop 4 body) low (omega (arith, long))) in
    and_from _ _ ((bytes_eq-Decides body _).1 whole) ((Decides-eqb (length (drop 4 body)) size).1 long)

-- and conversely
pub header_of : (tag size : ℕ) (body : List ℕ) → tag < 256 → size ≤ 100 → holds_value tag size body ≡ true → (bytes_eq (take 4 body) (header tag size) ≡ true) × (length (drop 4 body) ≡ size)
unfolding holds_value
header_of tag size body low short h =
    let both = and_parts (bytes_eq body (authentication_data tag (drop 4 body))) (length (drop 4 body) == size) h in
    let long : length (drop 4 body) ≡ size = (Decides-eqb (length (drop 4 body)) size).0 both.1 in
    let whole : body ≡ 0x7C ∷ (length (drop 4 body) + 2) ∷ tag ∷ length (drop 4 body) ∷ drop 4 body = (bytes_eq-Decides body _).0 both.0 ∙ data_spelled tag (drop 4 body) low (omega (arith, long)) in
    let front : take 4 body ≡ header tag size = ap (take 4) whole ∙ ap (header tag) long in (
      (bytes_eq-Decides (take 4 body) (header tag size)).1 front,
      long,
    )

untrue : (b : Bool) → (b ≡ true → ⊥) → b ≡ false
untrue true h = absurd (h refl)
untrue false h = refl

pub without_header : (tag size : ℕ) (body : List ℕ) → tag < 256 → size ≤ 100 → bytes_eq (take 4 body) (header tag size) ≡ false → holds_value tag size body ≡ false
without_header tag size body low short front =
    untrue (holds_value tag size body) (λ h. let begins = (header_of tag size body low short h).0 in absurd cc)

pub without_length : (tag size : ℕ) (body : List ℕ) → tag < 256 → size ≤ 100 → (length (drop 4 body) ≡ size → ⊥) → holds_value tag size body ≡ false
without_length tag size body low short other =
    untrue (holds_value tag size body) (λ h. other (header_of tag size body low short h).1)

-- an object has at most five bytes more than its value
pub object_fits : (tag : ℕ) (value : List ℕ) → length (object tag value) ≤ length value + 5
object_fits tag value = omega (arith, object_size tag value, tag_size tag, length_size (length value))

pub appended : (old new : List ℕ) (tag : ℕ) (value : List ℕ) → new ≡ old ++ object tag value → length new ≤ length old + length value + 5
appended old new tag value e =
    let size : length new ≡ length old + length (object tag value) = ap length e ∙ length-append old (object tag value) in
    omega (arith, object_fits tag value)

-- a point begins with 04
pub without_value : (tag : ℕ) (body : List ℕ) → holds_value tag 65 body ≡ false → holds_point tag body ≡ false
unfolding holds_point
without_value tag body h = rw h refl

pub without_four : (tag : ℕ) (body : List ℕ) → (slice_index (drop 4 body) 0 ≡ 4 → ⊥) → holds_point tag body ≡ false
unfolding holds_point
without_four tag body other = untrue (holds_value tag 65 body && slice_index (drop 4 body) 0 == 4) (λ h.
    other ((Decides-eqb (slice_index (drop 4 body) 0) 4).0 (and_parts (holds_value tag 65 body) (slice_index (drop 4 body) 0 == 4) h).1))

pub is_point : (tag : ℕ) (body : List ℕ) → holds_value tag 65 body ≡ true → slice_index (drop 4 body) 0 ≡ 4 → holds_point tag body ≡ true
unfolding holds_point
is_point tag body h four = and_from (holds_value tag 65 body) (slice_index (drop 4 body) 0 == 4) h ((Decides-eqb (slice_index (drop 4 body) 0) 4).1 four)

-- What a terminal finds in the replies of a chip.
use Rattle.std.proofs.Common.{◌≡◌, ℕ, ◌+◌, ◌≤◌, true, ◌==◌, List, length, Option, Some, None, refl, ap, ◌∙◌, arith, eq-eqb}
use Rattle.std.specs.Prelude.{if◌then◌else◌}
use Rattle.eid_cvc.specs.Fronts.{PlainFront, ◌>>=◌}
use Rattle.eid_cvc.proofs.FrontFacts.{front_of_last}
use Rattle.eid_tlv.specs.Objects.{is_tag, object}
use Rattle.eid_chip.proofs.Bodies.{object_fits}
use Rattle.eid_model.specs.Answers.{data_alone}
use Rattle.eid_model.specs.Bodies.{authentication_data}
use Rattle.eid_terminal.specs.Replies.{data_objects_in, sized, value_in, whole_object}

-- an object is found, whole
pub whole_found : (tag : ℕ) (value : List ℕ) → is_tag tag ≡ true → length value ≤ 65535 → whole_object tag (object tag value) ≡ Some value
unfolding whole_object
whole_found tag value tagged short =
    ap (λ (f : Option PlainFront). f >>= (λ front. if length front.rest == 0 then Some front.value else None)) (front_of_last tag value tagged short)

-- what an object 7C holds
pub held_found : (held : List ℕ) → length held ≤ 65535 → data_objects_in (data_alone (object 0x7C held)) ≡ Some held
unfolding data_objects_in
held_found held short = whole_found 0x7C held refl short

size_of : (tag : ℕ) (value : List ℕ) (most : ℕ) → length value ≤ most → length (object tag value) ≤ most + 5
size_of tag value most short = omega (arith, object_fits tag value)

pub sized_so : (size : ℕ) (value : List ℕ) → length value ≡ size → sized size value ≡ Some value
sized_so size value is = rw (eq-eqb (length value) size is) refl

-- one value of so many bytes
pub value_found : (tag size : ℕ) (value : List ℕ) → is_tag tag ≡ true → length value ≡ size → size ≤ 1000 → value_in tag size (data_alone (authentication_data tag value)) ≡ Some value
unfolding value_in authentication_data
value_found tag size value tagged is short =
    let value_short : length value ≤ 1000 = rw is short in
    ap (λ (h : Option (List ℕ)). h >>= (λ held. whole_object tag held >>= (λ v. sized size v))) (held_found (object tag value) (omega (arith, size_of tag value 1000 value_short)))
    ∙ ap (λ (v : Option (List ℕ)). v >>= (λ x. sized size x)) (whole_found tag value tagged (omega (arith, value_short)))
    ∙ sized_so size value is

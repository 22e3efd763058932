-- What an announcement that was read says of the body.
use Rattle.std.proofs.Common.{◌≡◌, ◌↔◌, ℕ, ◌==◌, ◌≤◌, true, List, [], ◌∷◌, length, Option, Some, None, Ok, refl, sym, ◌∙◌, ap, subst, arith}
use Rattle.std.specs.Option.{option_to_list}
use Rattle.std.specs.Str.{bytes_eq}
use Rattle.std.proofs.lemmas.Bool.{eqb-true, eq-eqb}
use Rattle.std.proofs.lemmas.Bool.Decides.{nat_tests}
use Rattle.std.proofs.lemmas.Option.{cond_some, same_Some}
use Rattle.std.proofs.lemmas.Slice.Eq.{bytes_eq-Decides}
use Rattle.eid_bits.specs.Date.{is_between}
use Rattle.eid_bits.specs.Identifiers.{known_bytes}
use Rattle.eid_bits.specs.declared.identifier.Known.TheVariants.{TaSha256}
use Rattle.eid_tlv.specs.Lists.{HasValues}
use Rattle.eid_cvc.specs.Chains.{PlainAux, no_aux}
use Rattle.eid_cvc.proofs.FrontFacts.{bound}
use Rattle.eid_ta.specs.Announcements.{AreDataIn, IsAnnouncement}
use Rattle.eid_ta.specs.AnnouncementIn.{announcement_in, auxiliary_if_any, key_in, reference_in, whole}
use Rattle.eid_ta.specs.Announcing.{of_form}
use Rattle.eid_ta.specs.Objects.{only_in, optional_in}
use Rattle.eid_ta.specs.States.{PlainAnnouncement}
use Rattle.eid_ta.proofs.ObjectFacts.{only_found, only_with, optional_found, optional_is, value_sized, value_within}
use Rattle.eid_ta.proofs.EntryFacts.{auxiliary_found, auxiliary_complete}

pub has_form : (o : Option PlainAnnouncement) (announcement : PlainAnnouncement) → Ok announcement ≡ of_form o → o ≡ Some announcement
has_form None announcement is = cc
has_form (Some other) announcement is = cc

whole_within : (body : List ℕ) (value : Option (List ℕ)) → HasValues 0x67 (option_to_list value) body → length (whole value) ≤ length body
whole_within body None has = omega arith
whole_within body (Some value) has = value_within 0x67 body value has

-- the object 67 is not longer than the body
pub sent_within : (body : List ℕ) (announcement : PlainAnnouncement) → announcement_in body ≡ Some announcement
    → length announcement.sent ≤ length body
unfolding announcement_in
sent_within body announcement is =
    let protocol = bound (only_in 0x80 body) _ announcement is in
    let reference = bound (reference_in body) _ announcement protocol.2 in
    let key = bound (key_in body) _ announcement reference.2 in
    let value = bound (optional_in 0x67 body) _ announcement key.2 in
    let aux = bound (auxiliary_if_any value.0) _ announcement value.2 in
    let kept = cond_some (bytes_eq protocol.0 (known_bytes TaSha256))
    (record { reference = reference.0; key_x = key.0; sent = whole value.0; aux = aux.0 }) announcement aux.2 in
    let same : whole value.0 ≡ announcement.sent = ap (λ (a : PlainAnnouncement). a.sent) kept.1 in
    omega (arith, whole_within body value.0 (optional_found 0x67 body value.0 value.1), ap length same)

-- ---- the announcement that was read is that of the body

auxiliary_is : (value : Option (List ℕ)) (aux : PlainAux) → auxiliary_if_any value ≡ Some aux → AreDataIn value aux
auxiliary_is None aux is = sym (same_Some no_aux aux is)
auxiliary_is (Some value) aux is = auxiliary_found value aux is

is_auxiliary : (body : List ℕ) (value : Option (List ℕ)) (aux : PlainAux) → HasValues 0x67 (option_to_list value) body → AreDataIn value aux
    → auxiliary_if_any value ≡ Some aux
is_auxiliary body None aux has is = ap (λ (a : PlainAux). Some a) (sym is)
is_auxiliary body (Some value) aux has is = auxiliary_complete value aux (value_sized 0x67 body value has) is

reference_is : (body reference : List ℕ) → reference_in body ≡ Some reference
    → HasValues 0x83 (reference ∷ []) body × (1 ≤ length reference) × (length reference ≤ 16)
unfolding reference_in
reference_is body reference is =
    let value = bound (only_in 0x83 body) _ reference is in
    let kept = cond_some (is_between 1 16 (length value.0)) value.0 reference value.2 in
    let sized : is_between 1 16 (length reference) ≡ true = ap (λ (v : List ℕ). is_between 1 16 (length v)) (sym kept.1) ∙ kept.0 in
    (only_found 0x83 body reference (value.1 ∙ ap (λ (v : List ℕ). Some v) kept.1), grind (arith, nat_tests), grind (arith, nat_tests))

is_reference : (body reference : List ℕ) → HasValues 0x83 (reference ∷ []) body → 1 ≤ length reference → length reference ≤ 16
    → reference_in body ≡ Some reference
unfolding reference_in
is_reference body reference has some short =
    let value : only_in 0x83 body ≡ Some reference = sym (only_with 0x83 body (reference ∷ []) has) in
    let sized : is_between 1 16 (length reference) ≡ true = grind (arith, nat_tests) in
    rw (value, sized) refl

key_is : (body key : List ℕ) → key_in body ≡ Some key → HasValues 0x91 (key ∷ []) body × (length key ≡ 32)
unfolding key_in
key_is body key is =
    let value = bound (only_in 0x91 body) _ key is in
    let kept = cond_some (length value.0 == 32) value.0 key value.2 in (
      only_found 0x91 body key (value.1 ∙ ap (λ (v : List ℕ). Some v) kept.1),
      ap length (sym kept.1) ∙ eqb-true (length value.0) 32 kept.0,
    )

is_key : (body key : List ℕ) → HasValues 0x91 (key ∷ []) body → length key ≡ 32 → key_in body ≡ Some key
unfolding key_in
is_key body key has size =
    let value : only_in 0x91 body ≡ Some key = sym (only_with 0x91 body (key ∷ []) has) in
    let sized : (length key == 32) ≡ true = eq-eqb (length key) 32 size in
    rw (value, sized) refl

announcement_found : (body : List ℕ) (announcement : PlainAnnouncement) → announcement_in body ≡ Some announcement → IsAnnouncement body announcement
unfolding announcement_in
announcement_found body announcement is =
    let protocol = bound (only_in 0x80 body) _ announcement is in
    let reference = bound (reference_in body) _ announcement protocol.2 in
    let key = bound (key_in body) _ announcement reference.2 in
    let value = bound (optional_in 0x67 body) _ announcement key.2 in
    let aux = bound (auxiliary_if_any value.0) _ announcement value.2 in
    let read : PlainAnnouncement = record { reference = reference.0; key_x = key.0; sent = whole value.0; aux = aux.0 } in
    let kept = cond_some (bytes_eq protocol.0 (known_bytes TaSha256)) read announcement aux.2 in
    let named = (bytes_eq-Decides protocol.0 (known_bytes TaSha256)).0 kept.0 in
    let name = reference_is body reference.0 reference.1 in
    let half = key_is body key.0 key.1 in
    let parts : IsAnnouncement body read = record {
      protocol = only_found 0x80 body (known_bytes TaSha256) (protocol.1 ∙ ap (λ (v : List ℕ). Some v) named);
      reference = name.0;
      some = name.1;
      short = name.2;
      key_x = half.0;
      size = half.1;
      auxiliary = record {
        value = value.0;
        those = optional_found 0x67 body value.0 value.1;
        is_whole = refl;
        says = auxiliary_is value.0 aux.0 aux.1;
      };
    } in
    subst (λ (a : PlainAnnouncement). IsAnnouncement body a) kept.1 parts

announcement_complete : (body : List ℕ) (announcement : PlainAnnouncement) → IsAnnouncement body announcement → announcement_in body ≡ Some announcement
unfolding announcement_in
announcement_complete body announcement is =
    let value : Option (List ℕ) = is.auxiliary.value in
    let protocol : only_in 0x80 body ≡ Some (known_bytes TaSha256) = sym (only_with 0x80 body (known_bytes TaSha256 ∷ []) is.protocol) in
    let reference : reference_in body ≡ Some announcement.reference = is_reference body announcement.reference is.reference is.some is.short in
    let key : key_in body ≡ Some announcement.key_x = is_key body announcement.key_x is.key_x is.size in
    let object : optional_in 0x67 body ≡ Some value = optional_is 0x67 body value is.auxiliary.those in
    let aux : auxiliary_if_any value ≡ Some announcement.aux = is_auxiliary body value announcement.aux is.auxiliary.those is.auxiliary.says in
    rw (protocol, reference, key, object, aux)
    (ap (λ (sent : List ℕ). Some (record { reference = announcement.reference; key_x = announcement.key_x; sent = sent; aux = announcement.aux }))
    (sym is.auxiliary.is_whole))

pub announcement_in-exact : (body : List ℕ) (announcement : PlainAnnouncement) → announcement_in body ≡ Some announcement ↔ IsAnnouncement body announcement
announcement_in-exact body announcement = (announcement_found body announcement, announcement_complete body announcement)

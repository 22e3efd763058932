-- The sector keys that are read in a body are those that were written.
use Rattle.std.proofs.Common.{◌≡◌, ◌↔◌, ℕ, ◌==◌, ◌≤◌, ◌&&◌, true, List, [], ◌++◌, length, Option, Some, None, option_map, refl, sym, ◌∙◌, ap, subst, arith}
use Rattle.std.proofs.lemmas.Bool.{and_parts}
use Rattle.std.proofs.lemmas.List.{append-nil}
use Rattle.std.proofs.lemmas.Option.{cond_some, same_Some}
use Rattle.eid_bits.specs.declared.identifier.Known.TheVariants.{RiSha256}
use Rattle.eid_tlv.specs.Objects.{is_tag, object}
use Rattle.eid_cvc.specs.CertificateIn.{public_key_in}
use Rattle.eid_cvc.specs.Fronts.{PlainFront, front_in}
use Rattle.eid_cvc.specs.PublicKeys.{optional, IsSized}
use Rattle.eid_cvc.proofs.FrontFacts.{bound, front_empty, front_found, front_of_last, front_of_object, no_rest, not_there, value_fits}
use Rattle.eid_cvc.proofs.KeyFacts as keys
use Rattle.eid_ri.specs.SectorKeys.{PlainSectorKey, PlainSectorKeys, IsSectorKey, IsIfAny, AreSectorKeys, key_object, keys_value, is_some_key}
use Rattle.eid_ri.specs.SectorKeysIn.{PlainMaybeKey, sector_key_in, key_behind, key_with, key_if_any, both_of, keys_in, sector_keys_in}

-- an object with nothing behind it
alone : (tag : ℕ) (value bytes rest : List ℕ) → bytes ≡ object tag value ++ rest → rest ≡ [] → bytes ≡ object tag value
alone tag value bytes rest spelled none = spelled ∙ ap (λ (r : List ℕ). object tag value ++ r) none ∙ append-nil (object tag value)

-- a key that was read is a sector key, and its object is what it was read in
record IsRead (value : List ℕ) (key : PlainSectorKey) : Type 0 where
  is_key : IsSectorKey key
  same : key.object ≡ value

key_found : (value : List ℕ) (key : PlainSectorKey) → length value ≤ 65535 → sector_key_in value ≡ Some key → IsRead value key
unfolding sector_key_in
key_found value key short is =
    let first = bound (front_in 0x7F49 value) _ key is in
    let f : PlainFront = first.0 in
    let second = bound (public_key_in RiSha256 f.value) _ key first.2 in
    let p : List ℕ = second.0 in
    let third = cond_some (length f.rest == 0) (record { object = value; point = p }) key second.2 in
    let begins = front_found 0x7F49 value f first.1 in
    let read : IsRead value (record { object = value; point = p }) = record {
      is_key = record {
        value = f.value;
        whole = alone 0x7F49 f.value value f.rest begins.spelled (no_rest f.rest third.0);
        is_key = keys.key_found RiSha256 f.value p second.1;
        short = short;
      };
      same = refl;
    } in
    subst (λ (k : PlainSectorKey). IsRead value k) third.1 read

key_complete : (key : PlainSectorKey) → IsSectorKey key → sector_key_in key.object ≡ Some key
unfolding sector_key_in
key_complete key is =
    let long = value_fits 0x7F49 is.value [] in
    let size : length key.object ≡ length (object 0x7F49 is.value ++ []) = ap length (is.whole ∙ sym (append-nil (object 0x7F49 is.value))) in
    let short : length is.value ≤ 65535 = omega (arith, long, size, is.short) in
    let first : front_in 0x7F49 key.object ≡ Some (record { value = is.value; rest = [] }) =
    ap (front_in 0x7F49) is.whole ∙ front_of_last 0x7F49 is.value refl short in
    let second = keys.key_complete RiSha256 is.value key.point is.is_key in
    rw (first, second) refl

-- the bytes are a key that may be left out, and then the rest
record IsMaybe (tag : ℕ) (bytes : List ℕ) (maybe : PlainMaybeKey) : Type 0 where
  key : IsIfAny maybe.key
  spelled : bytes ≡ optional tag (option_map key_object maybe.key) ++ maybe.rest

maybe_found : (tag : ℕ) (bytes : List ℕ) (maybe : PlainMaybeKey) → key_if_any tag bytes ≡ Some maybe → IsMaybe tag bytes maybe
unfolding key_if_any
maybe_found tag bytes maybe is = by (front_in tag bytes) refl is where
  by : (o : Option PlainFront) → front_in tag bytes ≡ o → key_with bytes o ≡ Some maybe → IsMaybe tag bytes maybe
  by None front same =
      subst (λ (m : PlainMaybeKey). IsMaybe tag bytes m) (same_Some (record { key = None; rest = bytes }) maybe same)
      (record { key = _; spelled = refl })
  by (Some f) front same =
      let begins = front_found tag bytes f front in
      let parts = bound (sector_key_in f.value) (key_behind f.rest) maybe same in
      let k : PlainSectorKey = parts.0 in
      let read = key_found f.value k begins.fits.sized parts.1 in
      subst (λ (m : PlainMaybeKey). IsMaybe tag bytes m) (same_Some (record { key = Some k; rest = f.rest }) maybe parts.2)
      (record { key = read.is_key; spelled = begins.spelled ∙ ap (λ (v : List ℕ). object tag v ++ f.rest) (sym read.same) })

maybe_complete : (tag : ℕ) (key : Option PlainSectorKey) (rest : List ℕ) → is_tag tag ≡ true → IsIfAny key → front_in tag rest ≡ None
    → key_if_any tag (optional tag (option_map key_object key) ++ rest) ≡ Some (record { key = key; rest = rest })
unfolding key_if_any
maybe_complete tag None rest tagged is none = ap (key_with rest) none
maybe_complete tag (Some key) rest tagged is none =
    let complete = key_complete key is in
    ap (key_with (object tag key.object ++ rest)) (front_of_object tag key.object rest tagged is.short) ∙ rw complete refl

sized : (key : Option PlainSectorKey) → IsIfAny key → IsSized (option_map key_object key)
sized None is = _
sized (Some key) is = is.short

-- what the value of 7C says of the keys
record AreKeys (value : List ℕ) (keys : PlainSectorKeys) : Type 0 where
  first : IsIfAny keys.first
  second : IsIfAny keys.second
  some : is_some_key keys ≡ true
  spelled : value ≡ keys_value keys

keys_found : (value : List ℕ) (keys : PlainSectorKeys) → keys_in value ≡ Some keys → AreKeys value keys
unfolding keys_in
keys_found value keys is =
    let one = bound (key_if_any 0xA0 value) _ keys is in
    let a : PlainMaybeKey = one.0 in
    let two = bound (key_if_any 0xA2 a.rest) _ keys one.2 in
    let b : PlainMaybeKey = two.0 in
    let kept = cond_some (length b.rest == 0 && is_some_key (both_of a b)) (both_of a b) keys two.2 in
    let tests = and_parts (length b.rest == 0) (is_some_key (both_of a b)) kept.0 in
    let first = maybe_found 0xA0 value a one.1 in
    let second = maybe_found 0xA2 a.rest b two.1 in
    let last : List ℕ = optional 0xA2 (option_map key_object b.key) in
    let ends : a.rest ≡ last = second.spelled ∙ ap (λ (r : List ℕ). last ++ r) (no_rest b.rest tests.0) ∙ append-nil last in
    let are : AreKeys value (both_of a b) = record {
      first = first.key;
      second = second.key;
      some = tests.1;
      spelled = first.spelled ∙ ap (λ (r : List ℕ). optional 0xA0 (option_map key_object a.key) ++ r) ends;
    } in
    subst (λ (k : PlainSectorKeys). AreKeys value k) kept.1 are

keys_complete : (keys : PlainSectorKeys) → IsIfAny keys.first → IsIfAny keys.second → is_some_key keys ≡ true
    → keys_in (keys_value keys) ≡ Some keys
unfolding keys_in
keys_complete keys one two some =
    let last : List ℕ = optional 0xA2 (option_map key_object keys.second) in
    let whole : last ++ [] ≡ last = append-nil last in
    let absent : front_in 0xA0 last ≡ None =
    ap (front_in 0xA0) (sym whole)
    ∙ not_there 0xA0 0xA2 (option_map key_object keys.second) [] refl (omega arith) (sized keys.second two) (front_empty 0xA0) in
    let first : key_if_any 0xA0 (keys_value keys) ≡ Some (record { key = keys.first; rest = last }) =
    maybe_complete 0xA0 keys.first last refl one absent in
    let second : key_if_any 0xA2 last ≡ Some (record { key = keys.second; rest = [] }) =
    ap (key_if_any 0xA2) (sym whole) ∙ maybe_complete 0xA2 keys.second [] refl two (front_empty 0xA2) in
    rw (first, second, some) refl

found : (body : List ℕ) (keys : PlainSectorKeys) → sector_keys_in body ≡ Some keys → AreSectorKeys body keys
unfolding sector_keys_in
found body keys is =
    let first = bound (front_in 0x7C body) _ keys is in
    let f : PlainFront = first.0 in
    let second = bound (keys_in f.value) _ keys first.2 in
    let read : PlainSectorKeys = second.0 in
    let kept = cond_some (length f.rest == 0) read keys second.2 in
    let begins = front_found 0x7C body f first.1 in
    let are = keys_found f.value read second.1 in
    let body_is : AreSectorKeys body read = record {
      first = are.first;
      second = are.second;
      some = are.some;
      spelled = alone 0x7C f.value body f.rest begins.spelled (no_rest f.rest kept.0) ∙ ap (object 0x7C) are.spelled;
      short = subst (λ (v : List ℕ). length v ≤ 65535) are.spelled begins.fits.sized;
    } in
    subst (λ (k : PlainSectorKeys). AreSectorKeys body k) kept.1 body_is

complete : (body : List ℕ) (keys : PlainSectorKeys) → AreSectorKeys body keys → sector_keys_in body ≡ Some keys
unfolding sector_keys_in
complete body keys are =
    let first : front_in 0x7C body ≡ Some (record { value = keys_value keys; rest = [] }) =
    ap (front_in 0x7C) are.spelled ∙ front_of_last 0x7C (keys_value keys) refl are.short in
    let second = keys_complete keys are.first are.second are.some in
    rw (first, second) refl

pub sector_keys_in-exact : (body : List ℕ) (keys : PlainSectorKeys) → sector_keys_in body ≡ Some keys ↔ AreSectorKeys body keys
sector_keys_in-exact body keys = (found body keys, complete body keys)

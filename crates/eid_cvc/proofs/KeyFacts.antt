-- The point that is read in a public key is the one that was written.
use Rattle.std.proofs.Common.{◌≡◌, ◌≢◌, ℕ, ◌==◌, ◌≤◌, ◌&&◌, true, List, [], ◌++◌, length, slice_index, Option, Some, None, refl, sym, ◌∙◌, ap, subst, arith, append_assoc}
use Rattle.std.specs.Prelude.{IfSome}
use Rattle.std.specs.Str.{bytes_eq}
use Rattle.std.proofs.lemmas.Bool.{and_parts, eqb-true, eq-eqb}
use Rattle.std.proofs.lemmas.List.{append-nil}
use Rattle.std.proofs.lemmas.Option.{cond_some}
use Rattle.std.proofs.lemmas.Slice.Eq.{bytes_eq-Decides}
use Rattle.eid_bits.specs.Identifiers.{known_bytes}
use Rattle.eid_bits.specs.declared.identifier.Known.{Known}
use Rattle.eid_bits.specs.declared.identifier.Known.TheVariants.{Application, PaceAes128, PaceAes256, CaAes128, CaAes256, TaSha256, RiSha256, AtTemplate, Birth, Expiry, Community, Sector}
use Rattle.eid_tlv.specs.Objects.{object}
use Rattle.eid_cvc.specs.Fronts.{PlainFront, front_in, behind}
use Rattle.eid_cvc.specs.PublicKeys.{optional, Domain, IsSized, AreSized, IsPublicKey, parameters, public_key}
use Rattle.eid_cvc.specs.CertificateIn.{is_point, point_of, behind_parameters, public_key_in}
use Rattle.eid_cvc.proofs.FrontFacts.{IsBehind, bound, value_fits, front_found, front_of_object, front_other, front_empty, begins, no_rest, behind_found, behind_complete, not_there}

-- the parameters and what stands behind them, one behind the other
parameters_then : (d : Domain) (rest : List ℕ)
    → parameters d ++ rest ≡ optional 0x81 d.prime ++ (optional 0x82 d.first_coefficient ++ (optional 0x83 d.second_coefficient
    ++ (optional 0x84 d.base_point ++ (optional 0x85 d.order ++ rest))))
unfolding parameters
parameters_then d rest = simp append_assoc

key_then : (use_of : Known) (d : Domain) (point : List ℕ)
    → public_key use_of d point ≡ object 0x06 (known_bytes use_of) ++ (parameters d ++ (object 0x86 point ++ optional 0x87 d.cofactor))
unfolding public_key
key_then use_of d point = simp append_assoc

-- where a point follows, the parameters are passed over
parameters_passed : (d : Domain) (point more : List ℕ) → AreSized d → length point ≤ 65535
    → behind_parameters (parameters d ++ (object 0x86 point ++ more)) ≡ object 0x86 point ++ more
unfolding behind_parameters
parameters_passed d point more fits sized =
    let rest : List ℕ = object 0x86 point ++ more in
    let fifth : List ℕ = optional 0x85 d.order ++ rest in
    let fourth : List ℕ = optional 0x84 d.base_point ++ fifth in
    let third : List ℕ = optional 0x83 d.second_coefficient ++ fourth in
    let second : List ℕ = optional 0x82 d.first_coefficient ++ third in
    let at_point : (tag : ℕ) → 0x86 ≢ tag → front_in tag rest ≡ None =
    (λ tag differs. front_other tag 0x86 rest point more (begins 0x86 point more refl sized) differs) in
    let at_fifth : (tag : ℕ) → 0x85 ≢ tag → 0x86 ≢ tag → front_in tag fifth ≡ None =
    (λ tag differs later. not_there tag 0x85 d.order rest refl differs fits.order (at_point tag later)) in
    let at_fourth : (tag : ℕ) → 0x84 ≢ tag → 0x85 ≢ tag → 0x86 ≢ tag → front_in tag fourth ≡ None =
    (λ tag differs next later. not_there tag 0x84 d.base_point fifth refl differs fits.base_point (at_fifth tag next later)) in
    let at_third : (tag : ℕ) → 0x83 ≢ tag → 0x84 ≢ tag → 0x85 ≢ tag → 0x86 ≢ tag → front_in tag third ≡ None =
    (λ tag differs next after later. not_there tag 0x83 d.second_coefficient fourth refl differs fits.second_coefficient (at_fourth tag next after later)) in
    let at_second : front_in 0x81 second ≡ None =
    not_there 0x81 0x82 d.first_coefficient third refl (omega arith) fits.first_coefficient
    (at_third 0x81 (omega arith) (omega arith) (omega arith) (omega arith)) in
    ap behind_parameters (parameters_then d rest)
    ∙ ap (λ (b : List ℕ). behind 0x85 (behind 0x84 (behind 0x83 (behind 0x82 b)))) (behind_complete 0x81 d.prime second refl fits.prime at_second)
    ∙ ap (λ (b : List ℕ). behind 0x85 (behind 0x84 (behind 0x83 b)))
    (behind_complete 0x82 d.first_coefficient third refl fits.first_coefficient (at_third 0x82 (omega arith) (omega arith) (omega arith) (omega arith)))
    ∙ ap (λ (b : List ℕ). behind 0x85 (behind 0x84 b))
    (behind_complete 0x83 d.second_coefficient fourth refl fits.second_coefficient (at_fourth 0x83 (omega arith) (omega arith) (omega arith)))
    ∙ ap (λ (b : List ℕ). behind 0x85 b) (behind_complete 0x84 d.base_point fifth refl fits.base_point (at_fifth 0x84 (omega arith) (omega arith)))
    ∙ behind_complete 0x85 d.order rest refl fits.order (at_point 0x85 (omega arith))

-- what was passed over
record HasParameters (bytes : List ℕ) (cofactor : Option (List ℕ)) : Type 0 where
  domain : Domain
  writable : IsSized cofactor → AreSized domain
  cofactor_is : domain.cofactor ≡ cofactor
  spelled : bytes ≡ parameters domain ++ behind_parameters bytes

parameters_found : (bytes : List ℕ) (cofactor : Option (List ℕ)) → HasParameters bytes cofactor
unfolding behind_parameters
parameters_found bytes cofactor =
    let first : IsBehind 0x81 bytes (behind 0x81 bytes) = behind_found 0x81 bytes in
    let b1 : List ℕ = behind 0x81 bytes in
    let second : IsBehind 0x82 b1 (behind 0x82 b1) = behind_found 0x82 b1 in
    let b2 : List ℕ = behind 0x82 b1 in
    let third : IsBehind 0x83 b2 (behind 0x83 b2) = behind_found 0x83 b2 in
    let b3 : List ℕ = behind 0x83 b2 in
    let fourth : IsBehind 0x84 b3 (behind 0x84 b3) = behind_found 0x84 b3 in
    let b4 : List ℕ = behind 0x84 b3 in
    let fifth : IsBehind 0x85 b4 (behind 0x85 b4) = behind_found 0x85 b4 in
    let domain : Domain = record {
      prime = first.parameter;
      first_coefficient = second.parameter;
      second_coefficient = third.parameter;
      base_point = fourth.parameter;
      order = fifth.parameter;
      cofactor = cofactor;
    } in
    record {
      domain = domain;
      writable = λ fits. record {
        prime = first.writable;
        first_coefficient = second.writable;
        second_coefficient = third.writable;
        base_point = fourth.writable;
        order = fifth.writable;
        cofactor = fits;
      };
      cofactor_is = refl;
      spelled =
          first.spelled
          ∙ ap (λ (b : List ℕ). optional 0x81 first.parameter ++ b) (second.spelled
          ∙ ap (λ (b : List ℕ). optional 0x82 second.parameter ++ b) (third.spelled
          ∙ ap (λ (b : List ℕ). optional 0x83 third.parameter ++ b) (fourth.spelled
          ∙ ap (λ (b : List ℕ). optional 0x84 fourth.parameter ++ b) fifth.spelled)))
          ∙ sym (parameters_then domain (behind 0x85 b4));
    }

-- no identifier is long
known_size : (identifier : Known) → length (known_bytes identifier) ≤ 65535
known_size Application = omega arith
known_size PaceAes128 = omega arith
known_size PaceAes256 = omega arith
known_size CaAes128 = omega arith
known_size CaAes256 = omega arith
known_size TaSha256 = omega arith
known_size RiSha256 = omega arith
known_size AtTemplate = omega arith
known_size Birth = omega arith
known_size Expiry = omega arith
known_size Community = omega arith
known_size Sector = omega arith

key_joined : (use_of : Known) (value point : List ℕ) (d : Domain) (identifier behind_identifier at_point behind_point rest : List ℕ) (cofactor : Option (List ℕ))
    → value ≡ object 0x06 identifier ++ behind_identifier → identifier ≡ known_bytes use_of → behind_identifier ≡ parameters d ++ at_point
    → at_point ≡ object 0x86 point ++ behind_point → behind_point ≡ optional 0x87 cofactor ++ rest → d.cofactor ≡ cofactor → rest ≡ []
    → value ≡ public_key use_of d point
key_joined use_of value point d identifier behind_identifier at_point behind_point rest cofactor first same second third fourth fifth none =
    rw (first, same, second, third, fourth, none, append-nil (optional 0x87 cofactor), ← fifth) (sym (key_then use_of d point))

pub key_found : (use_of : Known) (value point : List ℕ) → public_key_in use_of value ≡ Some point → IsPublicKey use_of value point
unfolding public_key_in
key_found use_of value point is =
    let first = bound (front_in 0x06 value) _ point is in
    let i : PlainFront = first.0 in
    let second = bound (front_in 0x86 (behind_parameters i.rest)) _ point first.2 in
    let p : PlainFront = second.0 in
    let third = bound (point_of p.value) _ point second.2 in
    let key : List ℕ = third.0 in
    let kept = cond_some (is_point p.value) p.value key third.1 in
    let form = and_parts (length p.value == 65) (slice_index p.value 0 == 4) kept.0 in
    let passed = cond_some (bytes_eq i.value (known_bytes use_of) && length (behind 0x87 p.rest) == 0) key point third.2 in
    let tests = and_parts (bytes_eq i.value (known_bytes use_of)) (length (behind 0x87 p.rest) == 0) passed.0 in
    let identifier = front_found 0x06 value i first.1 in
    let at_point = front_found 0x86 (behind_parameters i.rest) p second.1 in
    let cofactor = behind_found 0x87 p.rest in
    let before = parameters_found i.rest cofactor.parameter in
    let whole : IsPublicKey use_of value p.value = record {
      domain = before.domain;
      writable = before.writable cofactor.writable;
      form = record { size = eqb-true (length p.value) 65 form.0; form = eqb-true (slice_index p.value 0) 4 form.1 };
      spelled = key_joined use_of value p.value before.domain i.value i.rest (behind_parameters i.rest) p.rest (behind 0x87 p.rest) cofactor.parameter
          identifier.spelled ((bytes_eq-Decides i.value (known_bytes use_of)).0 tests.0) before.spelled at_point.spelled cofactor.spelled
          before.cofactor_is (no_rest (behind 0x87 p.rest) tests.1);
    } in
    subst (λ (k : List ℕ). IsPublicKey use_of value k) (kept.1 ∙ passed.1) whole

pub key_complete : (use_of : Known) (value point : List ℕ) → IsPublicKey use_of value point → public_key_in use_of value ≡ Some point
unfolding public_key_in
key_complete use_of value point is =
    let d : Domain = is.domain in
    let cofactor : List ℕ = optional 0x87 d.cofactor in
    let small : length point ≤ 65535 = let size : length point ≡ 65 = is.form.size in omega arith in
    let first : front_in 0x06 value ≡ Some (record { value = known_bytes use_of; rest = parameters d ++ (object 0x86 point ++ cofactor) }) =
    ap (front_in 0x06) (is.spelled ∙ key_then use_of d point)
    ∙ front_of_object 0x06 (known_bytes use_of) (parameters d ++ (object 0x86 point ++ cofactor)) refl (known_size use_of) in
    let passed = parameters_passed d point cofactor is.writable small in
    let second : front_in 0x86 (object 0x86 point ++ cofactor) ≡ Some (record { value = point; rest = cofactor }) =
    front_of_object 0x86 point cofactor refl small in
    let nothing : behind 0x87 cofactor ≡ [] =
    ap (behind 0x87) (sym (append-nil cofactor)) ∙ behind_complete 0x87 d.cofactor [] refl is.writable.cofactor (front_empty 0x87) in
    let same : bytes_eq (known_bytes use_of) (known_bytes use_of) ≡ true = (bytes_eq-Decides (known_bytes use_of) (known_bytes use_of)).1 refl in
    let size : (length point == 65) ≡ true = eq-eqb (length point) 65 is.form.size in
    let form : (slice_index point 0 == 4) ≡ true = eq-eqb (slice_index point 0) 4 is.form.form in
    rw (first, passed, second, nothing, same, size, form) refl

-- in a key that can be written each parameter can
is_writable : (tag : ℕ) (parameter : Option (List ℕ)) (rest : List ℕ) → length (optional tag parameter ++ rest) ≤ 65535
    → IsSized parameter × (length rest ≤ 65535)
is_writable tag None rest sized = (_, sized)
is_writable tag (Some value) rest sized = let fits = value_fits tag value rest in (omega (arith, fits), omega (arith, fits))

pub all_writable : (use_of : Known) (d : Domain) (point : List ℕ) → length (public_key use_of d point) ≤ 65535 → AreSized d
all_writable use_of d point sized =
    let behind : List ℕ = object 0x86 point ++ optional 0x87 d.cofactor in
    let start = value_fits 0x06 (known_bytes use_of) (parameters d ++ behind) in
    let whole : length (public_key use_of d point) ≡ length (object 0x06 (known_bytes use_of) ++ (parameters d ++ behind)) =
    ap length (key_then use_of d point) in
    let size : length (parameters d ++ behind) ≤ 65535 = omega (arith, start, whole) in
    let first = is_writable 0x81 d.prime _ (subst (λ (b : List ℕ). length b ≤ 65535) (parameters_then d behind) size) in
    let second = is_writable 0x82 d.first_coefficient _ first.1 in
    let third = is_writable 0x83 d.second_coefficient _ second.1 in
    let fourth = is_writable 0x84 d.base_point _ third.1 in
    let fifth = is_writable 0x85 d.order behind fourth.1 in
    let at_point = value_fits 0x86 point (optional 0x87 d.cofactor) in
    let rest : length (optional 0x87 d.cofactor) ≤ 65535 = omega (arith, at_point, fifth.1) in
    let last = is_writable 0x87 d.cofactor [] (subst (λ (b : List ℕ). length b ≤ 65535) (sym (append-nil (optional 0x87 d.cofactor))) rest) in
    record {
      prime = first.0;
      first_coefficient = second.0;
      second_coefficient = third.0;
      base_point = fourth.0;
      order = fifth.0;
      cofactor = last.0;
    }

-- what a reader gives that agrees with the function
pub point_found : (use_of : Known) (value : List ℕ) (result : Option (List ℕ)) → result ≡ public_key_in use_of value
    → IfSome result (λ point. IsPublicKey use_of value point)
point_found use_of value None is = _
point_found use_of value (Some point) is = key_found use_of value point (sym is)

pub point_only : (use_of : Known) (value : List ℕ) (result : Option (List ℕ)) → result ≡ public_key_in use_of value
    → (point : List ℕ) → IsPublicKey use_of value point → result ≡ Some point
point_only use_of value result is point key = is ∙ key_complete use_of value point key

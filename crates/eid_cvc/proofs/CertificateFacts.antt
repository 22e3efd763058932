-- The certificate that is read is the one that was written.
use Rattle.std.proofs.Common.{◌≡◌, ◌↔◌, ℕ, ◌-◌, ◌==◌, ◌≤◌, true, List, [], ◌∷◌, ◌++◌, length, take, Option, Some, refl, sym, ◌∙◌, ap, subst, arith, append_assoc, IsTrue}
use Rattle.std.specs.Prelude.{option_map, option_and_then}
use Rattle.std.specs.Str.{bytes_eq}
use Rattle.std.proofs.lemmas.Bool.{eqb-true, eq-eqb}
use Rattle.std.proofs.lemmas.Bool.Decides.{nat_tests}
use Rattle.std.proofs.lemmas.List.{append-nil}
use Rattle.std.proofs.lemmas.Option.{cond_some, same_Some}
use Rattle.std.proofs.lemmas.Slice.Eq.{bytes_eq-Decides}
use Rattle.eid_bits.specs.Date.{is_between, is_date}
use Rattle.eid_bits.specs.declared.identifier.Known.TheVariants.{TaSha256}
use Rattle.eid_tlv.specs.Objects.{is_tag, object}
use Rattle.eid_cvc.specs.Fronts.{PlainFront, front_in}
use Rattle.eid_cvc.specs.Templates.{template_value, template_in}
use Rattle.eid_cvc.specs.PublicKeys.{Domain, optional, public_key}
use Rattle.eid_cvc.specs.Extensions.{AreHashes, AreHashesIn, Extension, extensions, sector_data}
use Rattle.eid_cvc.specs.Certificates.{PlainBody, PlainCertificate, IsReference, IsBody, IsCertificate, body_value}
use Rattle.eid_cvc.specs.CertificateIn.{PlainHolder, public_key_in, sectors_in, reference_in, date_in, holder_in, body_in, signature_of, certificate_in}
use Rattle.eid_cvc.proofs.FrontFacts.{bound, no_rest, value_fits, front_found, front_of_object, front_of_last, object_before}
use Rattle.eid_cvc.proofs.TemplateFacts.{template_found, template_complete}
use Rattle.eid_cvc.proofs.KeyFacts.{key_found, key_complete, all_writable}
use Rattle.eid_cvc.proofs.ExtensionFacts.{sectors_found, sectors_complete}

-- ---- references and dates

reference_size : (n : ℕ) → is_between 1 16 n ≡ true → (1 ≤ n) × (n ≤ 16)
reference_size n is = (grind (arith, nat_tests), grind (arith, nat_tests))

size_reference : (n : ℕ) → 1 ≤ n → n ≤ 16 → is_between 1 16 n ≡ true
size_reference n low high = grind (arith, nat_tests)

reference_found : (tag : ℕ) (bytes : List ℕ) (f : PlainFront) → reference_in tag bytes ≡ Some f
    → IsReference f.value × (bytes ≡ object tag f.value ++ f.rest)
unfolding reference_in
reference_found tag bytes f is =
    let front = bound (front_in tag bytes) _ f is in
    let kept = cond_some (is_between 1 16 (length front.0.value)) front.0 f front.2 in
    let found = (front_found tag bytes front.0 front.1).spelled in (
      subst (λ (g : PlainFront). IsReference g.value) kept.1 (reference_size (length front.0.value) kept.0),
      found ∙ ap (λ (g : PlainFront). object tag g.value ++ g.rest) kept.1,
    )

reference_complete : (tag : ℕ) (value rest : List ℕ) → is_tag tag ≡ true → IsReference value
    → reference_in tag (object tag value ++ rest) ≡ Some (record { value = value; rest = rest })
unfolding reference_in
reference_complete tag value rest tagged is =
    let small : length value ≤ 65535 = omega (arith, is.1) in
    let between = size_reference (length value) is.0 is.1 in
    rw (front_of_object tag value rest tagged small, between) refl

date_found : (tag : ℕ) (bytes : List ℕ) (f : PlainFront) → date_in tag bytes ≡ Some f → IsTrue (is_date f.value) × (bytes ≡ object tag f.value ++ f.rest)
unfolding date_in
date_found tag bytes f is =
    let front = bound (front_in tag bytes) _ f is in
    let kept = cond_some (is_date front.0.value) front.0 f front.2 in
    let found = (front_found tag bytes front.0 front.1).spelled in
    (subst (λ (g : PlainFront). IsTrue (is_date g.value)) kept.1 kept.0, found ∙ ap (λ (g : PlainFront). object tag g.value ++ g.rest) kept.1)

date_complete : (tag : ℕ) (value rest : List ℕ) → is_tag tag ≡ true → length value ≤ 65535 → IsTrue (is_date value)
    → date_in tag (object tag value ++ rest) ≡ Some (record { value = value; rest = rest })
unfolding date_in
date_complete tag value rest tagged small is = rw (front_of_object tag value rest tagged small, is) refl

-- ---- the holder

holder_written : PlainHolder → Option (List Extension) → List ℕ
holder_written h extra =
    object 0x5F20 h.name ++ (object 0x7F4C (template_value h.template) ++ (object 0x5F25 h.effective
    ++ (object 0x5F24 h.expiry ++ optional 0x65 (option_map extensions extra))))

record HasHolder (bytes : List ℕ) (h : PlainHolder) : Type 0 where
  extra : Option (List Extension)
  name : IsReference h.name
  template : length h.template ≡ 5
  effective : IsTrue (is_date h.effective)
  expiry : IsTrue (is_date h.expiry)
  hashes : AreHashes h.sectors
  sectors : AreHashesIn (option_and_then sector_data extra) h.sectors
  spelled : bytes ≡ holder_written h extra

holder_joined : (bytes name behind_name value behind_value template effective behind_effective expiry behind_expiry last : List ℕ)
    → bytes ≡ object 0x5F20 name ++ behind_name → behind_name ≡ object 0x7F4C value ++ behind_value → value ≡ template_value template
    → behind_value ≡ object 0x5F25 effective ++ behind_effective → behind_effective ≡ object 0x5F24 expiry ++ behind_expiry → behind_expiry ≡ last
    → bytes ≡ object 0x5F20 name ++ (object 0x7F4C (template_value template) ++ (object 0x5F25 effective ++ (object 0x5F24 expiry ++ last)))
holder_joined bytes name behind_name value behind_value template effective behind_effective expiry behind_expiry last a b c d e f =
    rw (a, b, c, d, e, f) refl

holder_found : (bytes : List ℕ) (h : PlainHolder) → holder_in bytes ≡ Some h → HasHolder bytes h
unfolding holder_in holder_written
holder_found bytes h is =
    let a = bound (reference_in 0x5F20 bytes) _ h is in
    let name : PlainFront = a.0 in
    let b = bound (front_in 0x7F4C name.rest) _ h a.2 in
    let authorization : PlainFront = b.0 in
    let d = bound (template_in authorization.value) _ h b.2 in
    let template : List ℕ = d.0 in
    let e = bound (date_in 0x5F25 authorization.rest) _ h d.2 in
    let effective : PlainFront = e.0 in
    let f = bound (date_in 0x5F24 effective.rest) _ h e.2 in
    let expiry : PlainFront = f.0 in
    let g = bound (sectors_in expiry.rest) _ h f.2 in
    let holder : PlainHolder = record { name = name.value; template = template; effective = effective.value; expiry = expiry.value; sectors = g.0 } in
    let first = reference_found 0x5F20 bytes name a.1 in
    let second = (front_found 0x7F4C name.rest authorization b.1).spelled in
    let inner = template_found authorization.value template d.1 in
    let third = date_found 0x5F25 authorization.rest effective e.1 in
    let fourth = date_found 0x5F24 effective.rest expiry f.1 in
    let last = sectors_found expiry.rest g.0 g.1 in
    let whole : HasHolder bytes holder = record {
      extra = last.extra;
      name = first.0;
      template = inner.0;
      effective = third.0;
      expiry = fourth.0;
      hashes = last.valid;
      sectors = last.sectors;
      spelled = holder_joined bytes name.value name.rest authorization.value authorization.rest template effective.value effective.rest expiry.value expiry.rest
          (optional 0x65 (option_map extensions last.extra)) first.1 second inner.1 third.1 fourth.1 last.spelled;
    } in
    subst (λ (h : PlainHolder). HasHolder bytes h) {x = holder} (same_Some holder h g.2) whole

holder_complete : (bytes : List ℕ) (h : PlainHolder) → length bytes ≤ 65535 → HasHolder bytes h → holder_in bytes ≡ Some h
unfolding holder_in holder_written
holder_complete bytes h sized has =
    let fifth : List ℕ = optional 0x65 (option_map extensions has.extra) in
    let fourth : List ℕ = object 0x5F24 h.expiry ++ fifth in
    let third : List ℕ = object 0x5F25 h.effective ++ fourth in
    let value : List ℕ = template_value h.template in
    let second : List ℕ = object 0x7F4C value ++ third in
    let size : length bytes ≡ length (object 0x5F20 h.name ++ second) = ap length has.spelled in
    let at_first = value_fits 0x5F20 h.name second in
    let at_second = value_fits 0x7F4C value third in
    let at_third = value_fits 0x5F25 h.effective fourth in
    let at_fourth = value_fits 0x5F24 h.expiry fifth in
    let a : reference_in 0x5F20 bytes ≡ Some (record { value = h.name; rest = second }) =
    ap (reference_in 0x5F20) has.spelled ∙ reference_complete 0x5F20 h.name second refl has.name in
    let b : front_in 0x7F4C second ≡ Some (record { value = value; rest = third }) =
    front_of_object 0x7F4C value third refl (omega (arith, size, at_first, at_second)) in
    let d : template_in value ≡ Some h.template = template_complete value h.template has.template refl in
    let e : date_in 0x5F25 third ≡ Some (record { value = h.effective; rest = fourth }) =
    date_complete 0x5F25 h.effective fourth refl (omega (arith, size, at_first, at_second, at_third)) has.effective in
    let f : date_in 0x5F24 fourth ≡ Some (record { value = h.expiry; rest = fifth }) =
    date_complete 0x5F24 h.expiry fifth refl (omega (arith, size, at_first, at_second, at_third, at_fourth)) has.expiry in
    let g : sectors_in fifth ≡ Some h.sectors =
    sectors_complete fifth h.sectors (omega (arith, size, at_first, at_second, at_third, at_fourth))
    (record { extra = has.extra; spelled = refl; valid = has.hashes; sectors = has.sectors }) in
    rw (a, b, d, e, f, g) refl

-- ---- the body

record HasBody (value : List ℕ) (b : PlainBody) : Type 0 where
  domain : Domain
  extra : Option (List Extension)
  valid : IsBody b
  sectors : AreHashesIn (option_and_then sector_data extra) b.sectors
  spelled : value ≡ body_value b domain extra

holder_of : PlainBody → PlainHolder
holder_of b = record { name = b.holder; template = b.template; effective = b.effective; expiry = b.expiry; sectors = b.sectors }

body_then : (b : PlainBody) (d : Domain) (extra : Option (List Extension))
    → body_value b d extra
    ≡ object 0x5F29 (0 ∷ []) ++ (object 0x42 b.issuer ++ (object 0x7F49 (public_key TaSha256 d b.key) ++ holder_written (holder_of b) extra))
unfolding body_value holder_written holder_of
body_then b d extra = simp append_assoc

body_joined : (value : List ℕ) (b : PlainBody) (d : Domain) (extra : Option (List Extension)) (profile behind_profile behind_issuer key behind_key : List ℕ)
    → value ≡ object 0x5F29 profile ++ behind_profile → profile ≡ 0 ∷ [] → behind_profile ≡ object 0x42 b.issuer ++ behind_issuer
    → behind_issuer ≡ object 0x7F49 key ++ behind_key → key ≡ public_key TaSha256 d b.key → behind_key ≡ holder_written (holder_of b) extra
    → value ≡ body_value b d extra
body_joined value b d extra profile behind_profile behind_issuer key behind_key first version second third inner last =
    rw (first, version, second, third, inner, last) (sym (body_then b d extra))

body_found : (value : List ℕ) (b : PlainBody) → body_in value ≡ Some b → HasBody value b
unfolding body_in holder_of
body_found value b is =
    let a1 = bound (front_in 0x5F29 value) _ b is in
    let profile : PlainFront = a1.0 in
    let a2 = bound (reference_in 0x42 profile.rest) _ b a1.2 in
    let issuer : PlainFront = a2.0 in
    let a3 = bound (front_in 0x7F49 issuer.rest) _ b a2.2 in
    let key : PlainFront = a3.0 in
    let a4 = bound (public_key_in TaSha256 key.value) _ b a3.2 in
    let point : List ℕ = a4.0 in
    let a5 = bound (holder_in key.rest) _ b a4.2 in
    let holder : PlainHolder = a5.0 in
    let body : PlainBody = record {
      issuer = issuer.value;
      key = point;
      holder = holder.name;
      template = holder.template;
      effective = holder.effective;
      expiry = holder.expiry;
      sectors = holder.sectors;
    } in
    let kept = cond_some (bytes_eq profile.value (0 ∷ [])) body b a5.2 in
    let first = (front_found 0x5F29 value profile a1.1).spelled in
    let second = reference_found 0x42 profile.rest issuer a2.1 in
    let third = (front_found 0x7F49 issuer.rest key a3.1).spelled in
    let inner = key_found TaSha256 key.value point a4.1 in
    let last = holder_found key.rest holder a5.1 in
    let whole : HasBody value body = record {
      domain = inner.domain;
      extra = last.extra;
      valid = record {
        issuer = second.0;
        key = inner.form;
        holder = last.name;
        template = last.template;
        effective = last.effective;
        expiry = last.expiry;
        sectors = last.hashes;
      };
      sectors = last.sectors;
      spelled = body_joined value body inner.domain last.extra profile.value profile.rest issuer.rest key.value key.rest first
          ((bytes_eq-Decides profile.value (0 ∷ [])).0 kept.0) second.1 third inner.spelled last.spelled;
    } in
    subst (λ (b : PlainBody). HasBody value b) {x = body} kept.1 whole

body_complete : (value : List ℕ) (b : PlainBody) → length value ≤ 65535 → HasBody value b → body_in value ≡ Some b
unfolding body_in holder_of
body_complete value b sized has =
    let d : Domain = has.domain in
    let key : List ℕ = public_key TaSha256 d b.key in
    let third : List ℕ = holder_written (holder_of b) has.extra in
    let second : List ℕ = object 0x7F49 key ++ third in
    let first : List ℕ = object 0x42 b.issuer ++ second in
    let spelled : value ≡ object 0x5F29 (0 ∷ []) ++ first = has.spelled ∙ body_then b d has.extra in
    let size : length value ≡ length (object 0x5F29 (0 ∷ []) ++ first) = ap length spelled in
    let at_start = value_fits 0x5F29 (0 ∷ []) first in
    let at_first = value_fits 0x42 b.issuer second in
    let at_second = value_fits 0x7F49 key third in
    let key_size : length key ≤ 65535 = omega (arith, size, at_start, at_first, at_second) in
    let third_size : length third ≤ 65535 = omega (arith, size, at_start, at_first, at_second) in
    let a1 : front_in 0x5F29 value ≡ Some (record { value = 0 ∷ []; rest = first }) =
    ap (front_in 0x5F29) spelled ∙ front_of_object 0x5F29 (0 ∷ []) first refl (omega arith) in
    let a2 : reference_in 0x42 first ≡ Some (record { value = b.issuer; rest = second }) = reference_complete 0x42 b.issuer second refl has.valid.issuer in
    let a3 : front_in 0x7F49 second ≡ Some (record { value = key; rest = third }) = front_of_object 0x7F49 key third refl key_size in
    let a4 : public_key_in TaSha256 key ≡ Some b.key =
    key_complete TaSha256 key b.key (record { domain = d; writable = all_writable TaSha256 d b.key key_size; form = has.valid.key; spelled = refl }) in
    let a5 : holder_in third ≡ Some (holder_of b) = holder_complete third (holder_of b) third_size (record {
      extra = has.extra;
      name = has.valid.holder;
      template = has.valid.template;
      effective = has.valid.effective;
      expiry = has.valid.expiry;
      hashes = has.valid.sectors;
      sectors = has.sectors;
      spelled = refl;
    }) in
    rw (a1, a2, a3, a4, a5) refl

-- ---- the certificate

certificate_joined : (bytes value behind_body last signature rest : List ℕ) → bytes ≡ object 0x7F4E value ++ behind_body
    → behind_body ≡ object 0x5F37 last ++ rest → last ≡ signature → rest ≡ [] → bytes ≡ object 0x7F4E value ++ object 0x5F37 signature
certificate_joined bytes value behind_body last signature rest first second same none =
    rw (first, second, same, none, append-nil (object 0x5F37 signature)) refl

certificate_found : (bytes : List ℕ) (c : PlainCertificate) → certificate_in bytes ≡ Some c → IsCertificate bytes c
unfolding certificate_in
certificate_found bytes c is =
    let a = bound (front_in 0x7F4E bytes) _ c is in
    let front : PlainFront = a.0 in
    let b = bound (body_in front.value) _ c a.2 in
    let body : PlainBody = b.0 in
    let d = bound (front_in 0x5F37 front.rest) _ c b.2 in
    let last : PlainFront = d.0 in
    let e = bound (signature_of last.value) _ c d.2 in
    let signature : List ℕ = e.0 in
    let certificate : PlainCertificate = record { whole = object 0x7F4E front.value; body = body; signature = signature } in
    let sized = cond_some (length last.value == 64) last.value signature e.1 in
    let kept = cond_some (length last.rest == 0) certificate c e.2 in
    let first = front_found 0x7F4E bytes front a.1 in
    let said = body_found front.value body b.1 in
    let behind = (front_found 0x5F37 front.rest last d.1).spelled in
    let whole : IsCertificate bytes certificate = record {
      domain = said.domain;
      extra = said.extra;
      valid = said.valid;
      size = subst (λ (v : List ℕ). length v ≤ 65535) said.spelled first.fits.sized;
      sectors = said.sectors;
      signature = subst (λ (s : List ℕ). length s ≡ 64) sized.1 (eqb-true (length last.value) 64 sized.0);
      whole = ap (object 0x7F4E) said.spelled;
      spelled = certificate_joined bytes front.value front.rest last.value signature last.rest first.spelled behind sized.1 (no_rest last.rest kept.0);
    } in
    subst (λ (c : PlainCertificate). IsCertificate bytes c) {x = certificate} kept.1 whole

certificate_complete : (bytes : List ℕ) (c : PlainCertificate) → IsCertificate bytes c → certificate_in bytes ≡ Some c
unfolding certificate_in
certificate_complete bytes c is =
    let value : List ℕ = body_value c.body is.domain is.extra in
    let last : List ℕ = object 0x5F37 c.signature in
    let spelled : bytes ≡ object 0x7F4E value ++ last = is.spelled ∙ ap (λ (w : List ℕ). w ++ last) is.whole in
    let a : front_in 0x7F4E bytes ≡ Some (record { value = value; rest = last }) =
    ap (front_in 0x7F4E) spelled ∙ front_of_object 0x7F4E value last refl is.size in
    let b : body_in value ≡ Some c.body =
    body_complete value c.body is.size (record { domain = is.domain; extra = is.extra; valid = is.valid; sectors = is.sectors; spelled = refl }) in
    let small : length c.signature ≤ 65535 = omega (arith, is.signature) in
    let d : front_in 0x5F37 last ≡ Some (record { value = c.signature; rest = [] }) = front_of_last 0x5F37 c.signature refl small in
    let size : (length c.signature == 64) ≡ true = eq-eqb (length c.signature) 64 is.signature in
    rw (a, b, d, size) (ap (λ (w : List ℕ). Some (record { whole = w; body = c.body; signature = c.signature })) (sym is.whole))

pub certificate_in-exact : (bytes : List ℕ) (c : PlainCertificate) → certificate_in bytes ≡ Some c ↔ IsCertificate bytes c
certificate_in-exact bytes c = (certificate_found bytes c, certificate_complete bytes c)

pub one_certificate : (bytes : List ℕ) (a b : PlainCertificate) → IsCertificate bytes a → IsCertificate bytes b → a ≡ b
one_certificate bytes a b first second = same_Some a b (sym (certificate_complete bytes a first) ∙ certificate_complete bytes b second)

-- what was read part by part
pub certificate_read : (bytes whole signature : List ℕ) (front last : PlainFront) (body : PlainBody) → Some front ≡ front_in 0x7F4E bytes
    → Some body ≡ body_in front.value → Some last ≡ front_in 0x5F37 front.rest → Some signature ≡ signature_of last.value
    → (length last.rest == 0) ≡ true → whole ≡ take (length bytes - length front.rest) bytes
    → Some (record { whole = whole; body = body; signature = signature }) ≡ certificate_in bytes
unfolding certificate_in
certificate_read bytes whole signature front last body a b d e none before =
    let is : whole ≡ object 0x7F4E front.value = before ∙ object_before 0x7F4E bytes front (sym a) in
    rw (← a, ← b, ← d, ← e, none, is) refl

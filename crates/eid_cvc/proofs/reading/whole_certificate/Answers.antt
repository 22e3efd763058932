use Rattle.std.proofs.Common.{Some, sym, ap, ◌∙◌}
use Rattle.eid_cvc.specs.Certificates.{PlainCertificate}
use Rattle.eid_cvc.specs.Parts.{body_read_view}
use Rattle.eid_cvc.specs.Fronts.{front_view}
use Rattle.eid_cvc.proofs.FrontFacts.{rest_not_longer}
use Rattle.eid_cvc.proofs.CertificateFacts.{certificate_read}
use Rattle.eid_cvc.proofs.reading.whole_certificate.Goals as goal

pub before-whole-requires : goal.before-whole-requires
before-whole-requires c = rest_not_longer 0x7F4E c.args.bytes.now (front_view c.in-Some.object) (sym c.in-Some.ensures)

pub returns : goal.returns
returns c =
    ap (λ (plain : PlainCertificate). Some plain) c.certificate_of.ensures
    ∙ certificate_read c.args.bytes.now c.before-whole.result.now c.in-Some-read_signature.signature (front_view c.in-Some.object)
    (front_view c.in-Some-front.last) (body_read_view c.in-Some-read_body.body) c.in-Some.ensures c.in-Some-read_body.ensures
    c.in-Some-front.ensures c.in-Some-read_signature.ensures (sym c.if-not-is_empty.ensures) c.before-whole.ensures

use Rattle.eid_cvc.proofs.CertificateFacts.{one_certificate}
use Rattle.eid_cvc.proofs.reading.law_one_certificate.Goals as goal

pub returns : goal.returns
returns c = one_certificate

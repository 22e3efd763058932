use Rattle.eid_cvc.proofs.CertificateFacts.{certificate_in-exact}
use Rattle.eid_cvc.proofs.reading.law_certificate.Goals as goal

pub returns : goal.returns
returns c = certificate_in-exact

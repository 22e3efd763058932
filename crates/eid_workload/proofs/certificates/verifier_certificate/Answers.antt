-- What is signed is what the definition says.
use Rattle.eid_workload.proofs.certificates.verifier_certificate.Goals as goal

pub returns-clause-is : goal.returns-clause-is
returns-clause-is c = rw (c.body_of-body.ensures.is, c.secret_of-signer.ensures.is) at c.signed.ensures.is

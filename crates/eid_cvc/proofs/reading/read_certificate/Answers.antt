use Rattle.std.proofs.Common.{sym, ◌∙◌}
use Rattle.std.proofs.lemmas.Option.{none-some, same_Some}
use Rattle.eid_cvc.specs.View.{certificate_view}
use Rattle.eid_cvc.proofs.CertificateFacts.{certificate_in-exact}
use Rattle.eid_cvc.proofs.reading.read_certificate.Goals as goal

pub returns-in-Some-clause-found : goal.returns-in-Some-clause-found
returns-in-Some-clause-found c = (certificate_in-exact c.args.bytes.now (certificate_view c.in-Some.certificate)).0 (sym c.in-Some.ensures)

pub returns-in-Some-clause-only : goal.returns-in-Some-clause-only
returns-in-Some-clause-only c plain is =
    same_Some (certificate_view c.in-Some.certificate) plain (c.in-Some.ensures ∙ (certificate_in-exact c.args.bytes.now plain).1 is)

pub returns-in-None-clause-only : goal.returns-in-None-clause-only
returns-in-None-clause-only c plain is = none-some plain (c.in-None.ensures ∙ (certificate_in-exact c.args.bytes.now plain).1 is)

use Rattle.eid_cvc.proofs.Sizes.{body_size}
use Rattle.eid_cvc.proofs.writing.write_body.Goals as goal

pub returns-clause-size : goal.returns-clause-size
returns-clause-size g c = body_size _ c.body_value.ensures.valid

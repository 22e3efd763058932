use Rattle.eid_cvc.proofs.KeyFacts.{point_only}
use Rattle.eid_cvc.proofs.public_key.read_public_key.Goals as goal

pub returns-clause-only : goal.returns-clause-only
returns-clause-only c point key = point_only c.args.use_of c.args.value.now c.key_in.result c.key_in.ensures point key

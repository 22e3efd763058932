use Rattle.eid_model.proofs.LookingBack.{pending_found, pending_is}
use Rattle.eid_model.proofs.law.law_pending.Goals as goal

pub returns : goal.returns
returns c opening moments effect = (pending_found opening moments effect, pending_is opening moments effect)

use Rattle.eid_sm.proofs.OneProtected.{one_protected}
use Rattle.eid_sm.proofs.channel.law_one_protected.Goals as goal

pub returns : goal.returns
returns c = one_protected

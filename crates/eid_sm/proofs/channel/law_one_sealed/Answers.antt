use Rattle.eid_sm.proofs.OneProtected.{one_sealed}
use Rattle.eid_sm.proofs.channel.law_one_sealed.Goals as goal

pub returns : goal.returns
returns c = one_sealed

use Rattle.eid_model.proofs.Laws.{try_left}
use Rattle.eid_model.proofs.law.law_try_left.Goals as goal

pub returns : goal.returns
returns c = try_left

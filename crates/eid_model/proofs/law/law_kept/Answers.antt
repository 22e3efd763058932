use Rattle.eid_model.proofs.Laws.{nothing_lost}
use Rattle.eid_model.proofs.law.law_kept.Goals as goal

pub returns : goal.returns
returns c = nothing_lost

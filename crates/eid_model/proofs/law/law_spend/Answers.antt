use Rattle.eid_model.proofs.Laws.{spent}
use Rattle.eid_model.proofs.law.law_spend.Goals as goal

pub returns : goal.returns
returns c = spent

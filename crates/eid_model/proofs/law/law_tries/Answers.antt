use Rattle.eid_model.proofs.Laws.{three_refused}
use Rattle.eid_model.proofs.law.law_tries.Goals as goal

pub returns : goal.returns
returns c = three_refused

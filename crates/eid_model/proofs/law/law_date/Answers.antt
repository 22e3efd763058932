use Rattle.eid_model.proofs.Laws.{no_earlier}
use Rattle.eid_model.proofs.law.law_date.Goals as goal

pub returns : goal.returns
returns c = no_earlier

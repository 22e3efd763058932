use Rattle.eid_model.proofs.Journals.{one_journal}
use Rattle.eid_model.proofs.law.law_one_journal.Goals as goal

pub returns : goal.returns
returns c = one_journal

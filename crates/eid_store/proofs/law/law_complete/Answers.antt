use Rattle.eid_store.proofs.Laws.{complete}
use Rattle.eid_store.proofs.law.law_complete.Goals as goal

pub returns : goal.returns
returns c = complete

use Rattle.eid_store.proofs.Laws.{fitting, refitting}
use Rattle.eid_store.proofs.law.law_fits.Goals as goal

pub returns-clause-stands : goal.returns-clause-stands
returns-clause-stands c = fitting

pub returns-clause-device : goal.returns-clause-device
returns-clause-device c = refitting

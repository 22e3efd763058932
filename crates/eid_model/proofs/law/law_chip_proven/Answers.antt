use Rattle.eid_model.specs.Moments.{live}
use Rattle.eid_model.proofs.ChipProofs.{known_found, proven_known}
use Rattle.eid_model.proofs.LookingBack.{proven_found, proven_is}
use Rattle.eid_model.proofs.law.law_chip_proven.Goals as goal

pub returns-clause-chip : goal.returns-clause-chip
returns-clause-chip c opening moments = (proven_found (live moments), proven_is (live moments))

pub returns-clause-terminal : goal.returns-clause-terminal
returns-clause-terminal c opening moments legal proven = known_found opening moments (proven_known opening moments legal proven)

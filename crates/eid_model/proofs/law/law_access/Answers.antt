use Rattle.eid_model.proofs.Access.{access}
use Rattle.eid_model.proofs.Comparisons.{comparison_access}
use Rattle.eid_model.proofs.Identifiers.{identifier_access}
use Rattle.eid_model.proofs.law.law_access.Goals as goal

pub returns-clause-group : goal.returns-clause-group
returns-clause-group c = access

pub returns-clause-comparison : goal.returns-clause-comparison
returns-clause-comparison c = comparison_access

pub returns-clause-identifier : goal.returns-clause-identifier
returns-clause-identifier c = identifier_access

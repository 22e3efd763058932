use Rattle.eid_model.proofs.Access.{nothing_granted}
use Rattle.eid_model.proofs.Laws.{begins_fresh}
use Rattle.eid_model.proofs.law.law_fresh.Goals as goal

pub returns-clause-session : goal.returns-clause-session
returns-clause-session c opening m before legal leaves = begins_fresh opening m before leaves

pub returns-clause-granted : goal.returns-clause-granted
returns-clause-granted c opening m before bit legal leaves = nothing_granted opening m before bit leaves

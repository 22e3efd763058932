-- One chain, and so one report.
use Rattle.std.proofs.Common.{ap}
use Rattle.eid_run.specs.Promised.{promised_report}
use Rattle.eid_run.proofs.OneChain.{one_chain}
use Rattle.eid_run.proofs.law.law_one_promise.Goals as goal

pub returns : goal.returns
returns c plan kept one other = ap (promised_report plan kept) (one_chain plan kept plan.certificates one.chain other.chain one.certified other.certified)

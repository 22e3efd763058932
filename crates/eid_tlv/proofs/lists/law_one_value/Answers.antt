use Rattle.eid_tlv.proofs.Findings.{one_value}
use Rattle.eid_tlv.proofs.lists.law_one_value.Goals as goal

pub returns : goal.returns
returns c = one_value

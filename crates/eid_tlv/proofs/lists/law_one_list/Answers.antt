use Rattle.eid_tlv.proofs.Walks.{one_list}
use Rattle.eid_tlv.proofs.lists.law_one_list.Goals as goal

pub returns : goal.returns
returns c = one_list

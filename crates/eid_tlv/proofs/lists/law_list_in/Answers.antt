use Rattle.eid_tlv.proofs.ListIn.{list_in-exact}
use Rattle.eid_tlv.proofs.lists.law_list_in.Goals as goal

pub returns : goal.returns
returns c = list_in-exact

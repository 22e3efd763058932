use Rattle.eid_tlv.proofs.Distinct.{one_object}
use Rattle.eid_tlv.proofs.reading.law_one_object.Goals as goal

pub returns : goal.returns
returns c = one_object

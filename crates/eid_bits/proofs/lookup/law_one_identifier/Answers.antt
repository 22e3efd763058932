use Rattle.eid_bits.proofs.Distinct.{one_identifier}
use Rattle.eid_bits.proofs.lookup.law_one_identifier.Goals as goal

pub returns : goal.returns
returns c = one_identifier

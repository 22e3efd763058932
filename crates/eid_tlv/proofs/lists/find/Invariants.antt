use Rattle.std.proofs.Common.{length}
use Rattle.eid_tlv.proofs.Walks.{IsWalked}
use Rattle.eid_tlv.proofs.lists.find.Given as goal

abbrev pub invariant-loop-rest : goal.invariant-loop-rest
invariant-loop-rest l = IsWalked l.tag l.fn.bytes l.rest l.found

abbrev pub decreases-loop-rest : goal.decreases-loop-rest
decreases-loop-rest l = length l.rest

use Rattle.eid_cvc.specs.Chains.{aux_view}
use Rattle.eid_ta.proofs.AuxiliaryFacts.{IsWalked}
use Rattle.eid_ta.proofs.auxiliary.read_auxiliary.Given as goal

abbrev pub invariant-loop-rest : goal.invariant-loop-rest
invariant-loop-rest l = IsWalked l.fn.value l.left (aux_view l.aux) l.rest

abbrev pub decreases-loop-rest : goal.decreases-loop-rest
decreases-loop-rest l = l.left

use Rattle.std.proofs.Common.{arith}
use Rattle.eid_aes.proofs.BlockFacts.{xor_block_by_places}
use Rattle.eid_aes.proofs.steps.add_block.Goals as goal

pub returns : goal.returns
returns c = xor_block_by_places c.args.s.now c.args.other.now _ (omega arith) (λ k h. c.loop-i.invariant.done k (omega arith))

use Rattle.std.proofs.Common.{arith}
use Rattle.eid_aes.proofs.BlockFacts.{inv_sub_bytes_by_places}
use Rattle.eid_aes.proofs.steps.inv_sub_bytes.Goals as goal

pub returns : goal.returns
returns c = inv_sub_bytes_by_places c.args.s.now _ (omega arith) (λ k h. c.loop-byte.invariant.done k (omega arith))

use Rattle.std.proofs.Common.{arith}
use Rattle.eid_cmac.proofs.SumFacts.{added}
use Rattle.eid_cmac.proofs.mac.add.Goals as goal

pub returns : goal.returns
returns c = added c.args.block.now c.loop-i.block c.args.bytes.now c.args.at (omega arith) c.loop-i.invariant.before
    (λ k h. c.loop-i.invariant.done k (omega arith)) (λ k h. c.loop-i.invariant.rest k (omega arith))

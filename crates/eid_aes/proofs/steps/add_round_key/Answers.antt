use Rattle.std.proofs.Common.{arith}
use Rattle.eid_aes.proofs.BlockFacts.{add_round_key_by_places}
use Rattle.eid_aes.proofs.steps.add_round_key.Goals as goal

pub returns : goal.returns
returns c = add_round_key_by_places c.args.s.now c.args.schedule.now _ c.args.round (omega arith) (λ k h. c.loop-i.invariant.done k (omega arith))

use Rattle.std.proofs.Common.{arith}
use Rattle.eid_aes.proofs.ScheduleFacts.{schedule_of}
use Rattle.eid_aes.proofs.cipher.Aes+10.new.Goals as goal

pub invariant_of-result : goal.invariant_of-result
invariant_of-result c = schedule_of c.args.key.now c.expand.result 10 (omega arith) (omega arith) (omega arith) (omega arith) c.fits-key c.expand.ensures.key c.expand.ensures.expansion

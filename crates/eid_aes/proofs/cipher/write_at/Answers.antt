use Rattle.std.proofs.Common.{arith}
use Rattle.std.proofs.lemmas.Slice.{take-put_mid}
use Rattle.eid_aes.proofs.cipher.write_at.Goals as goal

pub returns : goal.returns
returns c = rw c.copy_from_slice.ensures.after (take-put_mid c.args.at _ c.args.schedule.now c.args.bytes.now _ (omega arith) (omega arith))

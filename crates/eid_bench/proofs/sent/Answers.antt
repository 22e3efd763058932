use Rattle.std.proofs.Common.{◌++◌, replicate}
use Rattle.std.proofs.lemmas.List.{append-nil}
use Rattle.eid_bench.proofs.sent.Goals as goal

pub returns : goal.returns
returns c = cc (append-nil (replicate 66 0x5a ++ c.args.nonce.now))

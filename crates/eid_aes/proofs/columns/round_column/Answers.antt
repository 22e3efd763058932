use Rattle.std.proofs.Common.{arith}
use Rattle.eid_aes.proofs.ColumnFacts.{mixed_sum}
use Rattle.eid_aes.proofs.columns.round_column.Goals as goal

pub returns : goal.returns
returns c = mixed_sum c.args.a c.args.b c.args.c c.args.d c.args.key c.byte.result c.byte-2.result c.byte-3.result c.byte-4.result (omega (arith, c.byte.ensures)) c.byte-2.ensures c.byte-3.ensures c.byte-4.ensures

-- The body is as long as Lc says, and two bytes or none stand behind it.
use Rattle.std.proofs.Common.{arith}
use Rattle.eid_apdu.proofs.Tails.{extended_body_tail, extended_body_le_tail}
use Rattle.eid_apdu.proofs.command.read_extended_body.Goals as goal

pub returns-in-empty-clause-found : goal.returns-in-empty-clause-found
returns-in-empty-clause-found c =
    extended_body_tail c.args.bytes.now c.split_at.result.0.now c.split_at.result.1.now c.args.high c.args.low c.number.result c.split_at.ensures.by_index.0
    c.number.ensures (omega arith) (omega arith) (omega arith) (omega arith)

pub returns-in-len2-clause-found : goal.returns-in-len2-clause-found
returns-in-len2-clause-found c =
    extended_body_le_tail c.args.bytes.now c.split_at.result.0.now c.split_at.result.1.now c.args.high c.args.low c.number.result c.extended_expected.result c.split_at.ensures.by_index.0
    c.number.ensures (omega arith) (omega arith) (omega arith) c.in-len2.len_at_least c.in-len2.len_below c.extended_expected.ensures.value c.extended_expected.ensures.range

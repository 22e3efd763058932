-- The body is as long as Lc says, and one byte or none stands behind it.
use Rattle.eid_apdu.proofs.Tails.{body_tail, body_le_tail}
use Rattle.std.proofs.Common.{arith}
use Rattle.eid_apdu.proofs.command.read_body.Goals as goal

pub returns-in-empty-clause-found : goal.returns-in-empty-clause-found
returns-in-empty-clause-found c =
    body_tail c.args.bytes.now c.split_at.result.0.now c.split_at.result.1.now c.args.lc c.split_at.ensures.by_index.0 (omega arith) (omega arith) (omega arith) (omega arith)

pub returns-in-len1-clause-found : goal.returns-in-len1-clause-found
returns-in-len1-clause-found c =
    body_le_tail c.args.bytes.now c.split_at.result.0.now c.split_at.result.1.now c.args.lc c.short_expected.result c.split_at.ensures.by_index.0 (omega arith) (omega arith) (omega arith)
    c.in-len1.len_at_least c.in-len1.len_below c.short_expected.ensures.value c.short_expected.ensures.range

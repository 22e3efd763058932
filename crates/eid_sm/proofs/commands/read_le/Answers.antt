use Rattle.std.proofs.Common.{rules, arith}
use Rattle.eid_sm.proofs.LeFacts.{says_one, says_two}
use Rattle.eid_sm.proofs.commands.read_le.Goals as goal

pub returns-in-151-clause-found : goal.returns-in-151-clause-found
returns-in-151-clause-found c =
    says_one c.args.bytes.now c.short_expected.result (omega arith) (search rules) (search rules) c.short_expected.ensures.value c.short_expected.ensures.range

pub returns-in-151-2-clause-found : goal.returns-in-151-2-clause-found
returns-in-151-2-clause-found c =
    says_two c.args.bytes.now c.extended_expected.result (omega arith) (search rules) (search rules) c.extended_expected.ensures.value c.extended_expected.ensures.range

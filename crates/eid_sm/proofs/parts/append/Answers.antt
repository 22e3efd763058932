use Rattle.std.proofs.Common.{rules}
use Rattle.eid_sm.proofs.PartFacts.{appended_size}
use Rattle.eid_sm.proofs.parts.append.Goals as goal

pub returns-clause-size : goal.returns-clause-size
returns-clause-size c = appended_size c.args.out.now.items c.put.new.out.items c.args.tag c.args.value.now (search rules)

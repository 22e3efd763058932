use Rattle.std.proofs.Common.{rules}
use Rattle.eid_cvc.proofs.Sizes.{appended_size}
use Rattle.eid_cvc.proofs.writing.append.Goals as goal

pub returns-clause-size : goal.returns-clause-size
returns-clause-size c = appended_size c.args.out.now.items c.put.new.out.items c.args.tag c.args.value.now (search rules)

use Rattle.std.proofs.Common.{arith}
use Rattle.eid_aes.proofs.TableFacts.{SUBSTITUTION_at}
use Rattle.eid_aes.proofs.steps.sub.Goals as goal

pub returns : goal.returns
returns c = SUBSTITUTION_at c.args.byte (omega arith)

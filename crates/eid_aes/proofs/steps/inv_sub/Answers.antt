use Rattle.std.proofs.Common.{arith}
use Rattle.eid_aes.proofs.TableFacts.{INVERSE_SUBSTITUTION_at}
use Rattle.eid_aes.proofs.steps.inv_sub.Goals as goal

pub returns : goal.returns
returns c = INVERSE_SUBSTITUTION_at c.args.byte (omega arith)

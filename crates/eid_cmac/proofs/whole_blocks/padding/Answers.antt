use Rattle.eid_cmac.proofs.PaddingFacts.{padding-take}
use Rattle.eid_cmac.proofs.whole_blocks.padding.Goals as goal

pub returns : goal.returns
returns c = padding-take c.args.size

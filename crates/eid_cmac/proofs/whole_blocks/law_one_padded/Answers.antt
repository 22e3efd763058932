use Rattle.eid_cmac.proofs.PaddingFacts.{one_padded}
use Rattle.eid_cmac.proofs.whole_blocks.law_one_padded.Goals as goal

pub returns : goal.returns
returns c = one_padded

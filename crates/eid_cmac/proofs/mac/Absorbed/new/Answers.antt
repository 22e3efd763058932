use Rattle.eid_cmac.proofs.ChainFacts.{holds_none}
use Rattle.eid_cmac.proofs.mac.Absorbed.new.Goals as goal

pub returns : goal.returns
returns c = λ key. holds_none key

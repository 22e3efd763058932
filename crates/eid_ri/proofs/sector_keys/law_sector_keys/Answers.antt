use Rattle.eid_ri.proofs.SectorKeyFacts.{sector_keys_in-exact}
use Rattle.eid_ri.proofs.sector_keys.law_sector_keys.Goals as goal

pub returns : goal.returns
returns c = sector_keys_in-exact

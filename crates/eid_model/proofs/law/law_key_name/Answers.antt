use Rattle.eid_model.proofs.KeyNames.{key_name_in-exact}
use Rattle.eid_model.proofs.law.law_key_name.Goals as goal

pub returns : goal.returns
returns c = key_name_in-exact

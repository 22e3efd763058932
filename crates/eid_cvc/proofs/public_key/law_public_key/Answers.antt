use Rattle.eid_cvc.proofs.KeyFacts.{key_found, key_complete}
use Rattle.eid_cvc.proofs.public_key.law_public_key.Goals as goal

pub returns : goal.returns
returns c use_of value point = (key_found use_of value point, key_complete use_of value point)

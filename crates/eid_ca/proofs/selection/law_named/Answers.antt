use Rattle.eid_ca.proofs.Named.{named-exact}
use Rattle.eid_ca.proofs.selection.law_named.Goals as goal

pub returns : goal.returns
returns c = named-exact

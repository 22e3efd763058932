use Rattle.eid_ca.proofs.Named.{named-read}
use Rattle.eid_ca.proofs.selection.protocol_named.Goals as goal

pub returns : goal.returns
returns c = named-read c.args.body.now c.only_value.result c.only_value.ensures.found c.only_value.ensures.only

use Rattle.eid_apdu.proofs.OneCommand.{spells_one}
use Rattle.eid_apdu.proofs.command.law_one_command.Goals as goal

pub returns : goal.returns
returns c = spells_one

use Rattle.eid_apdu.proofs.Written.{spells_written}
use Rattle.eid_apdu.proofs.writing.law_written_is_read.Goals as goal

pub returns : goal.returns
returns c = spells_written

use Rattle.eid_cvc.proofs.Written.{certificate_again}
use Rattle.eid_cvc.proofs.writing.law_written_is_read.Goals as goal

pub returns : goal.returns
returns c = certificate_again

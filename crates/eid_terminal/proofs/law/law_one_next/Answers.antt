-- One way alone leads along a course.
use Rattle.eid_terminal.proofs.OneWay.{one_next}
use Rattle.eid_terminal.proofs.law.law_one_next.Goals as goal

pub returns : goal.returns
returns c = one_next

-- The parts of a course, added up.
use Rattle.eid_terminal.proofs.Within.{at_most}
use Rattle.eid_terminal.proofs.law.law_few_turns.Goals as goal

pub returns : goal.returns
returns c = at_most

use Rattle.eid_pace.proofs.SelectionFacts.{selection_in-exact}
use Rattle.eid_pace.proofs.selection.law_selection.Goals as goal

pub returns : goal.returns
returns c = selection_in-exact

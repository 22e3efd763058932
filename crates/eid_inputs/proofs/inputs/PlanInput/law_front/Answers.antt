-- It is refused at its length.
use Rattle.eid_inputs.proofs.Reading.{plan_front}
use Rattle.eid_inputs.proofs.inputs.PlanInput.law_front.Goals as goal

pub returns : goal.returns
returns c = plan_front

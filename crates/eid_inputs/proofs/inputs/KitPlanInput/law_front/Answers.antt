-- It is refused at its length.
use Rattle.eid_inputs.proofs.Reading.{kit_front}
use Rattle.eid_inputs.proofs.inputs.KitPlanInput.law_front.Goals as goal

pub returns : goal.returns
returns c = kit_front

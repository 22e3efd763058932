-- It is refused at its length.
use Rattle.eid_inputs.proofs.Reading.{script_front}
use Rattle.eid_inputs.proofs.inputs.VecLineInput.law_front.Goals as goal

pub returns : goal.returns
returns c = script_front

-- It is refused at its length.
use Rattle.eid_inputs.proofs.Reading.{answers_front}
use Rattle.eid_inputs.proofs.inputs.VecAnswerInput.law_front.Goals as goal

pub returns : goal.returns
returns c = answers_front

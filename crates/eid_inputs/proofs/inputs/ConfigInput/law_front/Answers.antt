-- It is refused at its length.
use Rattle.eid_inputs.proofs.Reading.{config_front}
use Rattle.eid_inputs.proofs.inputs.ConfigInput.law_front.Goals as goal

pub returns : goal.returns
returns c = config_front

use Rattle.eid_step.proofs.Lines.{line_off, keeps_off}
use Rattle.eid_step.proofs.stepper.Stepper.power_off.Goals as goal

pub returns-clause-made : goal.returns-clause-made
returns-clause-made g c = λ log. line_off _ _ log c.power_off.ensures.follows c.power_off.ensures.device

pub returns-clause-keeps : goal.returns-clause-keeps
returns-clause-keeps g c = keeps_off _ _ c.power_off.ensures.off c.power_off.ensures.same c.power_off.ensures.device

-- The cells stand for a record, so the image is not bad.
use Rattle.std.proofs.Common.{◌≢◌, ap, Option, ℕ, Err}
use Rattle.eid_store.specs.declared.durable.MountError.TheVariants.{BadImage}
use Rattle.eid_model.specs.Moments.{PoweredOn}
use Rattle.eid_model.specs.Legal.{silent}
use Rattle.eid_step.proofs.Lines.{line_on, line_same, keeps_on, some_is_not_none}
use Rattle.eid_step.proofs.stepper.Stepper.power_on.Goals as goal

pub returns-clause-made : goal.returns-clause-made
returns-clause-made g c =
    let good : c.power_on.result ≢ Err BadImage = λ bad. some_is_not_none _ c.requires (c.power_on.ensures.bad_image.0 bad) in
    λ log. line_same _ _ log _ _ _ (ap (λ (n : Option ℕ). silent (PoweredOn n)) c.number_found.ensures)
    (line_on _ _ c.power_on.result _ log good (c.power_on.ensures.bound c.requires) (c.power_on.ensures.follows good) c.power_on.ensures.device)

pub returns-clause-keeps : goal.returns-clause-keeps
returns-clause-keeps g c =
    let good : c.power_on.result ≢ Err BadImage = λ bad. some_is_not_none _ c.requires (c.power_on.ensures.bad_image.0 bad) in
    keeps_on _ _ c.power_on.result _ good c.power_on.ensures.device c.power_on.ensures.sound c.power_on.ensures.off c.power_on.ensures.layout c.power_on.ensures.on

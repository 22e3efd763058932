-- A plan changes neither the cells nor the power, so the chip's store fits as before.
use Rattle.std.proofs.Common.{refl, ◌∙◌}
use Rattle.eid_step.proofs.Lines.{line_planned, keeps_planned, planned_is, planned_none, scene_planned}
use Rattle.eid_step.proofs.stepper.Stepper.plan.Goals as goal

pub returns-then-write-gt0-clause-made : goal.returns-then-write-gt0-clause-made
returns-then-write-gt0-clause-made g c = λ log.
    let device = c.plan_cut.ensures.device ∙ planned_is c.args.write (g.E.Eeprom.device c.args.cells.now) c.if-write-gt0.true in
    line_planned _ _ c.args.write c.args.tear log (scene_planned c.args.self.now.chip _ _ _ _ c.args.write device c.plan_cut.ensures.cells)

pub returns-then-write-gt0-clause-keeps : goal.returns-then-write-gt0-clause-keeps
returns-then-write-gt0-clause-keeps g c =
    keeps_planned c.args.self.now.chip _ _ _ _ c.args.write c.args.tear (c.plan_cut.ensures.device ∙ planned_is c.args.write (g.E.Eeprom.device c.args.cells.now) c.if-write-gt0.true) c.plan_cut.ensures.cells c.requires

pub returns-else-write-gt0-clause-made : goal.returns-else-write-gt0-clause-made
returns-else-write-gt0-clause-made g c = λ log.
    line_planned _ _ c.args.write c.args.tear log (scene_planned c.args.self.now.chip _ _ _ _ c.args.write (planned_none c.args.write (g.E.Eeprom.device c.args.cells.now) c.if-write-gt0.false) refl)

pub returns-else-write-gt0-clause-keeps : goal.returns-else-write-gt0-clause-keeps
returns-else-write-gt0-clause-keeps g c =
    keeps_planned c.args.self.now.chip _ _ _ _ c.args.write c.args.tear (planned_none c.args.write (g.E.Eeprom.device c.args.cells.now) c.if-write-gt0.false) refl c.requires

-- Each command's own reply.
use Rattle.std.proofs.Common.{ap, refl}
use Rattle.eid_apdu.specs.Answer.{plain_reply}
use Rattle.eid_terminal.specs.declared.state.ChipCommand.{ChipCommand}
use Rattle.eid_terminal.specs.Plans.{plan_view}
use Rattle.eid_terminal.specs.View.{after_chip}
use Rattle.eid_terminal.proofs.Calm.{came_calm, calm_exchange, calm_expecting}
use Rattle.eid_terminal.proofs.Coming.{came_at}
use Rattle.eid_terminal.proofs.chip.hear.Goals as goal

pub returns-in-Selection : goal.returns-in-Selection
returns-in-Selection g c heard =
    came_at _ _ _ _ _ _ (ap (λ (x : ChipCommand). after_chip (plan_view c.args.plan.now) x c.args.channel.now (plain_reply c.args.reply.now)) c.in-Selection.is)
    (came_calm _ _ _ _ (calm_expecting _ _ _ _ (λ channel. calm_exchange _ _ _ channel)) (c.after_selection.ensures (plan_view c.args.plan.now) _))

pub returns-in-Proof : goal.returns-in-Proof
returns-in-Proof g c heard =
    came_at _ _ _ _ _ _ (ap (λ (x : ChipCommand). after_chip (plan_view c.args.plan.now) x c.args.channel.now (plain_reply c.args.reply.now)) c.in-Proof.is)
    (c.after_proof.ensures _ _)

pub returns-in-Application : goal.returns-in-Application
returns-in-Application g c heard =
    came_at _ _ _ _ _ _ (ap (λ (x : ChipCommand). after_chip (plan_view c.args.plan.now) x c.args.channel.now (plain_reply c.args.reply.now)) c.in-Application.is)
    (came_calm _ _ _ _ (calm_expecting _ _ _ _ (λ channel. refl)) (c.after_application.ensures (plan_view c.args.plan.now) _ _ _))

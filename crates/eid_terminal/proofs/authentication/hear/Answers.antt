-- Each command's own reply.
use Rattle.std.proofs.Common.{ap, refl}
use Rattle.eid_apdu.specs.Answer.{plain_reply}
use Rattle.eid_terminal.specs.declared.state.TerminalCommand.{TerminalCommand}
use Rattle.eid_terminal.specs.Plans.{plan_view}
use Rattle.eid_terminal.specs.View.{after_terminal}
use Rattle.eid_terminal.proofs.Calm.{came_calm, calm_exchange, calm_expecting}
use Rattle.eid_terminal.proofs.Coming.{came_at}
use Rattle.eid_terminal.proofs.authentication.hear.Goals as goal

pub returns-in-KeySelection : goal.returns-in-KeySelection
returns-in-KeySelection g c heard =
    came_at _ _ _ _ _ _ (ap (λ (x : TerminalCommand). after_terminal (plan_view c.args.plan.now) x c.args.channel.now (plain_reply c.args.reply.now)) c.in-KeySelection.is)
    (came_calm _ _ _ _ (calm_expecting _ _ _ _ (λ channel. calm_exchange _ _ _ channel)) (c.after_key_selection.ensures _))

pub returns-in-Announcement : goal.returns-in-Announcement
returns-in-Announcement g c heard =
    came_at _ _ _ _ _ _ (ap (λ (x : TerminalCommand). after_terminal (plan_view c.args.plan.now) x c.args.channel.now (plain_reply c.args.reply.now)) c.in-Announcement.is)
    (came_calm _ _ _ _ (calm_expecting _ _ _ _ (λ channel. calm_exchange _ _ _ channel)) (c.after_announcement.ensures (plan_view c.args.plan.now) _))

pub returns-in-Signature : goal.returns-in-Signature
returns-in-Signature g c heard =
    came_at _ _ _ _ _ _ (ap (λ (x : TerminalCommand). after_terminal (plan_view c.args.plan.now) x c.args.channel.now (plain_reply c.args.reply.now)) c.in-Signature.is)
    (came_calm _ _ _ _ (calm_expecting _ _ _ _ (λ channel. refl)) (c.after_signature.ensures (plan_view c.args.plan.now) _ _ _))

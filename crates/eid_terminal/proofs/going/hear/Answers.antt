-- Each protocol's own way.
use Rattle.std.proofs.Common.{ap}
use Rattle.eid_apdu.specs.Answer.{plain_reply}
use Rattle.eid_terminal.specs.declared.state.Awaited.{Awaited}
use Rattle.eid_terminal.specs.Plans.{plan_view}
use Rattle.eid_terminal.specs.View.{later_of}
use Rattle.eid_terminal.proofs.Calm.{came_calm, calm_after_request}
use Rattle.eid_terminal.proofs.Coming.{came_at}
use Rattle.eid_terminal.proofs.going.hear.Goals as goal

pub returns-in-Request : goal.returns-in-Request
returns-in-Request g c =
    let plan = plan_view c.args.plan.now in
    came_at _ _ plan _ _ _ (ap (λ (x : Awaited). later_of plan x c.args.channel.now (plain_reply c.args.reply.now)) c.in-Request.is)
    (came_calm _ plan _ _ (calm_after_request plan c.in-Request.command c.args.channel.now (plain_reply c.args.reply.now)) c.hear-in-Request.ensures)

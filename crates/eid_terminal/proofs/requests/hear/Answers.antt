-- Each command's own reply.
use Rattle.std.proofs.Common.{ap}
use Rattle.eid_apdu.specs.Answer.{plain_reply}
use Rattle.eid_terminal.specs.declared.state.RequestCommand.{RequestCommand}
use Rattle.eid_terminal.specs.Plans.{plan_view}
use Rattle.eid_terminal.specs.View.{after_request}
use Rattle.eid_terminal.proofs.Coming.{did_at}
use Rattle.eid_terminal.proofs.requests.hear.Goals as goal

pub returns-in-Sector : goal.returns-in-Sector
returns-in-Sector c =
    did_at _ _ _ _ (ap (λ (x : RequestCommand). after_request (plan_view c.args.plan.now) x c.args.channel.now (plain_reply c.args.reply.now)) c.in-Sector.is) (c.after_identifier.ensures _ _)

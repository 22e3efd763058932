-- What comes by the reply.
use Rattle.std.proofs.Common.{refl, sym}
use Rattle.eid_terminal.specs.Plans.{plan_view}
use Rattle.eid_terminal.proofs.Coming.{came_at, came_now}
use Rattle.eid_terminal.proofs.AuthenticationSteps.{expected, unexpected}
use Rattle.eid_terminal.proofs.authentication.after_certificate.Goals as goal

pub returns-then-not-is_done : goal.returns-then-not-is_done
returns-then-not-is_done g c heard =
    came_now _ (plan_view c.args.plan.now) _ _ _ (unexpected _ _ _ _ (sym c.if-not-is_done.ensures)) refl (c.stopped.ensures (plan_view c.args.plan.now) _ _ _)

pub returns : goal.returns
returns g c heard = came_at _ _ (plan_view c.args.plan.now) _ _ _ (expected _ _ _ _ (sym c.if-not-is_done.ensures)) (c.import.ensures _)

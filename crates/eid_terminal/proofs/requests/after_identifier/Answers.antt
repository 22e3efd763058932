-- What comes by the reply.
use Rattle.std.proofs.Common.{ap, sym, ◌∙◌}
use Rattle.eid_terminal.specs.Courses.{Stops}
use Rattle.eid_terminal.specs.Plans.{plan_view}
use Rattle.eid_terminal.proofs.Coming.{did_at}
use Rattle.eid_terminal.proofs.RequestSteps.{identified, not_identified}
use Rattle.eid_terminal.proofs.requests.after_identifier.Goals as goal

pub returns-then-lacks_identifier : goal.returns-then-lacks_identifier
returns-then-lacks_identifier c channel message =
    did_at (plan_view c.args.plan.now) _ _ _ (not_identified _ _ _ _ _ (sym c.if-lacks_identifier.ensures) ∙ ap (λ step. Stops step c.args.reply.now.status.0) (sym c.last_step.ensures)) (c.stopped.ensures (plan_view c.args.plan.now) _ _ _)

pub returns : goal.returns
returns c channel message = did_at (plan_view c.args.plan.now) _ _ _ (identified _ _ _ _ _ (sym c.if-lacks_identifier.ensures)) (c.give.ensures (plan_view c.args.plan.now) _ _ _)

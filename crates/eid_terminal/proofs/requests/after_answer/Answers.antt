-- What comes by the reply.
use Rattle.eid_terminal.specs.Plans.{plan_view}
use Rattle.eid_terminal.proofs.Coming.{did_at}
use Rattle.eid_terminal.proofs.RequestSteps.{other_answer}
use Rattle.eid_terminal.proofs.requests.after_answer.Goals as goal

pub returns-in_default : goal.returns-in_default
returns-in_default c = let h = c.in_default.not-Ri in did_at (plan_view c.args.plan.now) _ _ _ (other_answer _ _ _ _ _ _ _ h) (c.give.ensures (plan_view c.args.plan.now) _ _ _)

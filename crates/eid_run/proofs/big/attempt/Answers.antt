-- Where the number is divisible by 3 there is one attempt, and else none.
use Rattle.eid_terminal.specs.Plans.{plan_view}
use Rattle.eid_run.proofs.Counting.{third_tried}
use Rattle.eid_run.proofs.big.attempt.Goals as goal

pub returns-then-number-eq0-clause-tried : goal.returns-then-number-eq0-clause-tried
returns-then-number-eq0-clause-tried c = third_tried c.meet.result c.args.number (plan_view c.in_ok-plan.plan) c.args.cells.items c.if-number-eq0.true c.in_ok-plan.ensures.is c.meet.ensures.met

-- A reply, or none.
use Rattle.std.proofs.Common.{ap, refl, sym, Option, Some, None}
use Rattle.eid_apdu.specs.Answer.{plain_reply}
use Rattle.eid_sm.specs.Keys.{ChannelState}
use Rattle.eid_terminal.specs.declared.action.Step.{Step}
use Rattle.eid_terminal.specs.Courses.{Stops}
use Rattle.eid_terminal.specs.Plans.{plan_view}
use Rattle.eid_terminal.specs.View.{later_of}
use Rattle.eid_terminal.proofs.Coming.{came_at, came_now}
use Rattle.eid_terminal.proofs.going.receive_and_hear.Goals as goal

pub returns-then-not-receive : goal.returns-then-not-receive
returns-then-not-receive g c = record {
  reading = None;
  reads = c.if-not-receive.ensures.reads;
  comes = came_now _ (plan_view c.args.plan.now) _ _ _ (ap (λ (step : Step). Stops step 0) (sym c.step_of.ensures)) refl (c.stopped.ensures (plan_view c.args.plan.now) _ _ _);
}

pub returns : goal.returns
returns g c = record {
  reading = Some (plain_reply c.receive.new.reply);
  reads = c.if-not-receive.ensures.reads;
  comes = came_at _ _ (plan_view c.args.plan.now) _ _ _ (ap (λ (channel : Option ChannelState). later_of (plan_view c.args.plan.now) c.args.awaited channel (plain_reply c.receive.new.reply)) (sym (c.if-not-receive.ensures.counted refl))) c.hear.ensures;
}

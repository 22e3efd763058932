-- The first certificate, or the first request.
use Rattle.std.proofs.Common.{ap, sym, ◌∙◌, ℕ, List, length}
use Rattle.std.specs.Prelude.{◌==◌, Vec}
use Rattle.std.specs.declared.alloc.Global.{Global}
use Rattle.eid_terminal.specs.Plans.{plan_view}
use Rattle.eid_terminal.proofs.Calm.{came_calm, calm_requests}
use Rattle.eid_terminal.proofs.Coming.{came_at}
use Rattle.eid_terminal.proofs.CourseSteps.{none_there, some_there, with_certificates, without_certificates}
use Rattle.eid_terminal.proofs.going.go_on_behind_pace.Goals as goal

pub returns-then-is_empty : goal.returns-then-is_empty
returns-then-is_empty g c heard =
    let plan = plan_view c.args.plan.now in
    came_at _ _ plan _ _ _ (without_certificates plan c.args.channel.now c.args.identity (none_there c.args.plan.now.certificates.items (ap (λ (list : List (Vec ℕ Global)). length list == 0) (sym c.as_slice.ensures.value) ∙ sym c.if-is_empty.ensures))) (came_calm _ plan _ _ (calm_requests plan 0 plan.requests c.args.channel.now) (c.ask.ensures _))

pub returns : goal.returns
returns g c heard =
    let plan = plan_view c.args.plan.now in
    came_at _ _ plan _ _ _ (with_certificates plan c.args.channel.now c.args.identity (some_there c.args.plan.now.certificates.items (ap (λ (list : List (Vec ℕ Global)). length list == 0) (sym c.as_slice.ensures.value) ∙ sym c.if-is_empty.ensures))) (c.import.ensures _)

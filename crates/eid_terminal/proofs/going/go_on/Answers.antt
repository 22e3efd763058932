-- Each standing's own way.
use Rattle.std.proofs.Common.{ap}
use Rattle.eid_terminal.specs.declared.state.Standing.{Standing}
use Rattle.eid_terminal.specs.Plans.{plan_view}
use Rattle.eid_terminal.specs.View.{ready_course}
use Rattle.eid_terminal.proofs.Calm.{came_calm, calm_requests}
use Rattle.eid_terminal.proofs.Coming.{came_at}
use Rattle.eid_terminal.proofs.CourseSteps.{calm_chip, calm_password, calm_select, calm_start}
use Rattle.eid_terminal.proofs.going.go_on.Goals as goal

pub returns-in-Start : goal.returns-in-Start
returns-in-Start g c heard =
    let plan = plan_view c.args.plan.now in let h = c.in-Start.is in
    came_at _ _ plan _ _ _ (ap (λ (s : Standing). ready_course plan s c.args.channel.now) c.in-Start.is) (came_calm _ plan _ _ (calm_start plan) (c.begin.ensures _))

pub returns-in-OpenedByCan : goal.returns-in-OpenedByCan
returns-in-OpenedByCan g c heard =
    let plan = plan_view c.args.plan.now in
    came_at _ _ plan _ _ _ (ap (λ (s : Standing). ready_course plan s c.args.channel.now) c.in-OpenedByCan.is)
    (came_calm _ plan _ _ (calm_password plan c.args.channel.now) (c.begin_with_password.ensures _))

pub returns-in-TerminalProven : goal.returns-in-TerminalProven
returns-in-TerminalProven g c heard =
    let plan = plan_view c.args.plan.now in
    came_at _ _ plan _ _ _ (ap (λ (s : Standing). ready_course plan s c.args.channel.now) c.in-TerminalProven.is)
    (came_calm _ plan _ _ (calm_chip plan _ _ c.args.channel.now) (c.begin-in-TerminalProven.ensures plan _))

pub returns-in-ChipProven : goal.returns-in-ChipProven
returns-in-ChipProven g c heard =
    let plan = plan_view c.args.plan.now in
    came_at _ _ plan _ _ _ (ap (λ (s : Standing). ready_course plan s c.args.channel.now) c.in-ChipProven.is)
    (came_calm _ plan _ _ (calm_select plan c.args.channel.now) (c.select.ensures plan _))

pub returns-in-Requests : goal.returns-in-Requests
returns-in-Requests g c heard =
    let plan = plan_view c.args.plan.now in
    came_at _ _ plan _ _ _ (ap (λ (s : Standing). ready_course plan s c.args.channel.now) c.in-Requests.is)
    (came_calm _ plan _ _ (calm_requests plan _ _ c.args.channel.now) (c.ask.ensures _))

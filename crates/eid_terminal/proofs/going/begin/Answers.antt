-- The first PACE comes.
use Rattle.std.proofs.Common.{ap, sym, ◌∙◌, None}
use Rattle.eid_terminal.specs.declared.state.Round.TheVariants as rounds
use Rattle.eid_terminal.specs.Pace.{pace}
use Rattle.eid_terminal.specs.Plans.{plan_view}
use Rattle.eid_terminal.specs.View.{opened_after}
use Rattle.eid_terminal.proofs.Coming.{did_at}
use Rattle.eid_terminal.proofs.CourseSteps.{begins_with_can, begins_with_password, password_comes}
use Rattle.eid_terminal.proofs.going.begin.Goals as goal

pub returns-in-Some : goal.returns-in-Some
returns-in-Some c heard =
    let plan = plan_view c.args.plan.now in
    did_at plan _ _ _ (begins_with_can plan _ c.in-Some.is ∙ ap (λ terms. pace terms (opened_after plan rounds.Can) None) (sym c.can_terms.ensures)) (c.begin.ensures plan _)

pub returns-in-None : goal.returns-in-None
returns-in-None c heard =
    let plan = plan_view c.args.plan.now in
    did_at plan _ _ _ (begins_with_password plan c.in-None.is ∙ sym (password_comes plan None)) (c.begin_with_password.ensures _)

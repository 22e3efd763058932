-- The PACE with the password comes.
use Rattle.std.proofs.Common.{ap, sym, ◌∙◌}
use Rattle.eid_terminal.specs.declared.state.Round.TheVariants as rounds
use Rattle.eid_terminal.specs.Pace.{pace}
use Rattle.eid_terminal.specs.Plans.{plan_view}
use Rattle.eid_terminal.specs.View.{opened_after}
use Rattle.eid_terminal.proofs.Coming.{did_at}
use Rattle.eid_terminal.proofs.CourseSteps.{password_comes}
use Rattle.eid_terminal.proofs.going.begin_with_password.Goals as goal

pub returns : goal.returns
returns c heard =
    let plan = plan_view c.args.plan.now in
    did_at plan _ _ _ (password_comes plan c.args.channel.now ∙ ap (λ terms. pace terms (opened_after plan rounds.Password) c.args.channel.now) (sym c.password_terms.ensures)) (c.begin.ensures plan _)

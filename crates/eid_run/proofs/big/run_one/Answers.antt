-- The session is the attempt, if there is one, and then the terminal with the right PIN.
use Rattle.std.proofs.Common.{List, ℕ, ap, ◌∙◌, subst}
use Rattle.eid_terminal.specs.Plans.{PlainPlan}
use Rattle.eid_workload.specs.Generated.{plan_with}
use Rattle.eid_run.specs.Attempts.{Met}
use Rattle.eid_run.proofs.Counting.{is_session}
use Rattle.eid_run.proofs.big.run_one.Goals as goal

pub returns-clause-ran : goal.returns-clause-ran
returns-clause-ran c =
    let middle = c.in_ok-cells-2.field-0.cells.items in
    let left = c.in_ok-cells-3.field-0.cells.items in
    let second = c.in_ok-cells-3.field-0.tally in
    let met = subst (λ (p : PlainPlan). Met c.args.number p middle left second) (c.in_ok-plan.ensures.is ∙ ap (λ (pin : List ℕ). plan_with c.args.number pin) c.six_digits.ensures.is) c.in_ok-cells-3.ensures.met in
    is_session c.args.number c.in_ok-cells.cells.items middle left c.in_ok-cells-2.field-0.tally second c.from.result c.in_ok-cells.ensures.is c.in_ok-cells.ensures.stands
    c.in_ok-cells-2.ensures.tried met (λ full stood. c.from.ensures ∙ c.number_in.ensures full stood)

-- The terminal keeps to its plan.
use Rattle.std.proofs.Common.{subst, sym}
use Rattle.std.proofs.Math.Logic.{∥∥₁_elim}
use Rattle.eid_terminal.specs.Plans.{plan_view}
use Rattle.eid_terminal.specs.View.{IsSound}
use Rattle.eid_terminal.proofs.Props.{IsFit-prop, IsSound-prop}
use Rattle.eid_terminal.proofs.terminal.Terminal.next_in.Goals as goal

pub take_turn-turn-requires-clause-fit : goal.take_turn-turn-requires-clause-fit
take_turn-turn-requires-clause-fit g c = ∥∥₁_elim c.args.self.now.fit (IsFit-prop (plan_view c.args.self.now.plan)) (λ fit. fit)

pub take_turn-turn-requires-clause-there : goal.take_turn-turn-requires-clause-there
take_turn-turn-requires-clause-there g c =
    let sound = ∥∥₁_elim c.args.self.now.sound (IsSound-prop (plan_view c.args.self.now.plan) c.args.self.now.state) (λ sound. sound) in
    subst (IsSound (plan_view c.args.self.now.plan)) (sym c.replace-state.ensures.value) sound

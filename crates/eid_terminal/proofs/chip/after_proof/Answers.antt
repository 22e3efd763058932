-- What comes by the reply.
use Rattle.std.proofs.Common.{◌≡◌, true, false, ap, refl, sym, ◌∙◌}
use Rattle.std.specs.Str.{bytes_eq}
use Rattle.eid_terminal.specs.declared.action.Step.TheVariants.{Ca}
use Rattle.eid_terminal.specs.Authentication.{chip_token, select}
use Rattle.eid_terminal.specs.Courses.{Passes}
use Rattle.eid_terminal.specs.Plans.{plan_view}
use Rattle.eid_terminal.proofs.Coming.{came_by, came_fault, came_now, not_so, so}
use Rattle.eid_terminal.proofs.AuthenticationSteps.{no_proof, proof_came}
use Rattle.eid_terminal.proofs.chip.after_proof.Goals as goal

pub returns-in_default : goal.returns-in_default
returns-in_default g c message heard =
    came_now _ (plan_view c.args.plan.now) _ _ _ (no_proof _ c.args.channel.now _ _ _ (sym c.in_default.ensures)) refl (c.stopped.ensures (plan_view c.args.plan.now) _ _ _)

pub returns-in_default-agree : goal.returns-in_default-agree
returns-in_default-agree g c message heard =
    came_fault _ _ (plan_view c.args.plan.now) _ _ _ _ _ (proof_came _ c.args.channel.now _ _ _ _ (sym c.in-Some.ensures)) refl c.in_default-agree.ensures
    (c.failed.ensures (plan_view c.args.plan.now) _ _ _)

pub returns-in_default-agreement : goal.returns-in_default-agreement
returns-in_default-agreement g c message heard =
    came_by _ _ _ (plan_view c.args.plan.now) _ _ _ _ _ (proof_came _ c.args.channel.now _ _ _ _ (sym c.in-Some.ensures)) (rw c.in_default-agreement.is at c.in-Ok.ensures) refl
    (came_now _ (plan_view c.args.plan.now) _ _ _ refl refl (c.stopped-in_default-agreement.ensures (plan_view c.args.plan.now) _ _ _))

pub returns-then-ne : goal.returns-then-ne
returns-then-ne g c message heard =
    let other : bytes_eq c.in-Some.proof.token (chip_token c.in-Some-agreement.shared c.in-Some.proof.nonce c.args.pair.now.point) ≡ false =
    ap (bytes_eq c.in-Some.proof.token) (sym c.chip_token.ensures) ∙ not_so (bytes_eq c.in-Some.proof.token c.chip_token.result) c.if-ne.ensures in
    came_by _ _ _ (plan_view c.args.plan.now) _ _ _ _ _ (proof_came _ c.args.channel.now _ _ _ _ (sym c.in-Some.ensures)) (rw c.in-Some-agreement.is at c.in-Ok.ensures) refl
    (came_now _ (plan_view c.args.plan.now) _ _ _ (rw other refl) refl (c.stopped-then-ne.ensures (plan_view c.args.plan.now) _ _ _))

pub returns : goal.returns
returns g c message heard =
    let plan = plan_view c.args.plan.now in
    let same : bytes_eq c.in-Some.proof.token (chip_token c.in-Some-agreement.shared c.in-Some.proof.nonce c.args.pair.now.point) ≡ true =
    ap (bytes_eq c.in-Some.proof.token) (sym c.chip_token.ensures) ∙ so (bytes_eq c.in-Some.proof.token c.chip_token.result) c.if-ne.ensures in
    came_by _ _ _ plan _ _ _ _ _ (proof_came _ c.args.channel.now _ _ _ _ (sym c.in-Some.ensures)) (rw c.in-Some-agreement.is at c.in-Ok.ensures) refl
    (came_now _ plan _ _ _ (rw same (ap (λ opened. Passes Ca (select plan opened)) (sym c.channel_under.ensures))) refl (c.passed.ensures plan _ _ _))

-- What comes by the reply.
use Rattle.std.proofs.Common.{ap, refl, sym, ◌∙◌, subst, List, ℕ}
use Rattle.sha2.specs.Sha256.{sha256}
use Rattle.eid_copro.specs.Asked.{Asked}
use Rattle.eid_copro.specs.declared.ask.Answer.TheVariants as answers
use Rattle.eid_copro.specs.declared.ask.Question.TheVariants as questions
use Rattle.eid_terminal.specs.Authentication.{to_sign}
use Rattle.eid_terminal.specs.Plans.{plan_view}
use Rattle.eid_terminal.proofs.Coming.{came_by, came_fault, came_now}
use Rattle.eid_terminal.proofs.PaceSteps.{exchanged}
use Rattle.eid_terminal.proofs.AuthenticationSteps.{no_challenge, challenge_came}
use Rattle.eid_terminal.proofs.authentication.after_challenge.Goals as goal

pub returns-in_default : goal.returns-in_default
returns-in_default g c heard = came_now _ (plan_view c.args.plan.now) _ _ _ (no_challenge _ _ _ _ _ _ (sym c.in_default.ensures)) refl (c.stopped.ensures (plan_view c.args.plan.now) _ _ _)

pub returns-in_default-sign : goal.returns-in_default-sign
returns-in_default-sign g c heard =
    let digest = c.digest-digest.ensures ∙ ap (λ (extra : List ℕ). sha256 (to_sign c.args.identity.now c.in-Some.challenge c.args.pair.point extra)) (c.deref.ensures.0 ∙ c.auxiliary.ensures.items) in
    came_fault _ _ (plan_view c.args.plan.now) _ _ _ _ _ (challenge_came _ _ _ _ _ _ _ (sym c.in-Some.ensures)) refl
    (subst (λ (d : List ℕ). Asked (g.C.Coprocessor.seen c.args.copro.now) (g.C.Coprocessor.seen c.sign.new.self) (questions.Sign c.args.plan.now.terminal_secret d) answers.Fault) digest c.in_default-sign.ensures)
    (c.failed.ensures (plan_view c.args.plan.now) _ _ _)

pub returns : goal.returns
returns g c heard =
    let digest = c.digest-digest.ensures ∙ ap (λ (extra : List ℕ). sha256 (to_sign c.args.identity.now c.in-Some.challenge c.args.pair.point extra)) (c.deref.ensures.0 ∙ c.auxiliary.ensures.items) in
    came_by _ _ _ (plan_view c.args.plan.now) _ _ _ _ _ (challenge_came _ _ _ _ _ _ _ (sym c.in-Some.ensures))
    (subst (λ (d : List ℕ). Asked (g.C.Coprocessor.seen c.args.copro.now) (g.C.Coprocessor.seen c.sign.new.self) (questions.Sign c.args.plan.now.terminal_secret d) (answers.Signed c.in-Ok.signature)) digest c.in-Ok.ensures) refl
    (came_now _ (plan_view c.args.plan.now) _ _ _ (exchanged _ _ _ _) refl (c.send.ensures (plan_view c.args.plan.now) _ refl tt))

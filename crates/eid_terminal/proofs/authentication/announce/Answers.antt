-- The pair is drawn, and the announcement is sent.
use Rattle.std.proofs.Common.{ap, refl, ◌∙◌, List, ℕ}
use Rattle.std.specs.Prelude.{map, Vec}
use Rattle.std.specs.declared.alloc.Global.{Global}
use Rattle.eid_cvc.specs.PublicKeys.{x_half}
use Rattle.eid_terminal.specs.Authentication.{last_holder}
use Rattle.eid_terminal.specs.Commands.{announcement, command}
use Rattle.eid_terminal.specs.Plans.{certificate_bytes, plan_view}
use Rattle.eid_terminal.proofs.Coming.{came_by, came_fault, came_now}
use Rattle.eid_terminal.proofs.PaceSteps.{exchanged}
use Rattle.eid_terminal.proofs.AuthenticationSteps.{announcement_drawn}
use Rattle.eid_terminal.proofs.authentication.announce.Goals as goal

pub returns-in_default : goal.returns-in_default
returns-in_default g c heard = came_fault _ _ (plan_view c.args.plan.now) _ _ _ _ _ (announcement_drawn _ _ _) refl c.in_default.ensures (c.failed.ensures (plan_view c.args.plan.now) _ _ _)

pub returns : goal.returns
returns g c heard =
    let plan = plan_view c.args.plan.now in
    let name = c.last_holder-name.ensures.name ∙ ap (λ (certificates : List (Vec ℕ Global)). last_holder (map certificate_bytes certificates)) c.deref.ensures.value in
    let extra = c.deref-2.ensures.0 ∙ c.auxiliary.ensures.items in
    let body = c.deref-3.ensures.0 ∙ c.announcement-body.ensures
    ∙ ap (λ n. announcement n c.x_half.result c.deref-2.result.now) name
    ∙ ap (λ x. announcement (last_holder plan.certificates) x c.deref-2.result.now) c.x_half.ensures
    ∙ ap (λ a. announcement (last_holder plan.certificates) (x_half c.in-Ok.pair.1) a) extra in
    came_by _ _ _ plan _ _ _ _ _ (announcement_drawn _ _ _) c.in-Ok.ensures refl
    (came_now _ plan _ _ _ (exchanged _ _ _ _) refl (c.send.ensures plan _ (ap (λ b. command 0x00 0x22 0x81 0xA4 b 0) body) tt))

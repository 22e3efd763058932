-- What comes by the reply.
use Rattle.std.proofs.Common.{ap, refl, sym, ◌∙◌}
use Rattle.eid_terminal.specs.Commands.{authenticate, command}
use Rattle.eid_terminal.proofs.Coming.{came_by, came_fault, came_now}
use Rattle.eid_terminal.proofs.PaceSteps.{exchanged, no_ephemeral, own_ephemeral, ephemeral_came}
use Rattle.eid_terminal.proofs.pace.after_agreement.Goals as goal

pub returns-in_default : goal.returns-in_default
returns-in_default g c plan heard = came_now _ plan _ _ _ (no_ephemeral _ _ _ _ _ (sym c.in_default.ensures)) refl (c.stopped.ensures plan _ _ _)

pub returns-then-eq : goal.returns-then-eq
returns-then-eq g c plan heard =
    came_now _ plan _ _ _ (own_ephemeral _ _ _ _ _ _ (sym c.in-Some.ensures) (sym c.if-eq.ensures)) refl (c.stopped-then-eq.ensures plan _ _ _)

pub returns-in_default-agree : goal.returns-in_default-agree
returns-in_default-agree g c plan heard =
    came_fault _ _ plan _ _ _ _ _ (ephemeral_came _ _ _ _ _ _ (sym c.in-Some.ensures) (sym c.if-eq.ensures)) refl c.in_default-agree.ensures (c.failed.ensures plan _ _ _)

pub returns-in_default-agreement : goal.returns-in_default-agreement
returns-in_default-agreement g c plan heard =
    came_by _ _ _ plan _ _ _ _ _ (ephemeral_came _ _ _ _ _ _ (sym c.in-Some.ensures) (sym c.if-eq.ensures)) (rw c.in_default-agreement.is at c.in-Ok.ensures) refl
    (came_now _ plan _ _ _ refl refl (c.stopped-in_default-agreement.ensures plan _ _ _))

pub returns : goal.returns
returns g c plan heard =
    came_by _ _ _ plan _ _ _ _ _ (ephemeral_came _ _ _ _ _ _ (sym c.in-Some.ensures) (sym c.if-eq.ensures)) (rw c.in-Some-agreement.is at c.in-Ok.ensures) refl
    (came_now _ plan _ _ _ (exchanged _ _ _ _) refl
    (c.send.ensures plan _ (ap (λ body. command 0x00 0x86 0x00 0x00 body 256) (c.deref.ensures.0 ∙ c.authentication_data.ensures) ∙ ap authenticate c.token_for.ensures) tt))

-- The pair is drawn, and its point is sent.
use Rattle.std.proofs.Common.{ap, refl, ◌∙◌}
use Rattle.eid_terminal.specs.Commands.{command}
use Rattle.eid_terminal.proofs.Coming.{came_by, came_fault, came_now}
use Rattle.eid_terminal.proofs.PaceSteps.{base_drawn, exchanged}
use Rattle.eid_terminal.proofs.pace.send_ephemeral.Goals as goal

pub returns-in_default : goal.returns-in_default
returns-in_default g c plan heard = came_fault _ _ plan _ _ _ _ _ (base_drawn _ _ _) refl c.in_default.ensures (c.failed.ensures plan _ _ _)

pub returns : goal.returns
returns g c plan heard =
    came_by _ _ _ plan _ _ _ _ _ (base_drawn _ _ _) c.in-Ok.ensures refl
    (came_now _ plan _ _ _ (exchanged _ _ _ _) refl (c.send.ensures plan _ (ap (λ body. command 0x10 0x86 0x00 0x00 body 256) (c.deref.ensures.0 ∙ c.authentication_data.ensures)) tt))

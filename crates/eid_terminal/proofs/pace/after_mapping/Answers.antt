-- What comes by the reply.
use Rattle.std.proofs.Common.{refl, sym}
use Rattle.eid_terminal.proofs.Coming.{came_by, came_fault, came_now}
use Rattle.eid_terminal.proofs.PaceSteps.{no_mapping, own_mapping, mapping_came}
use Rattle.eid_terminal.proofs.pace.after_mapping.Goals as goal

pub returns-in_default : goal.returns-in_default
returns-in_default g c plan heard = came_now _ plan _ _ _ (no_mapping _ _ _ _ _ _ (sym c.in_default.ensures)) refl (c.stopped.ensures plan _ _ _)

pub returns-then-eq : goal.returns-then-eq
returns-then-eq g c plan heard =
    came_now _ plan _ _ _ (own_mapping _ _ _ _ _ _ _ (sym c.in-Some.ensures) (sym c.if-eq.ensures)) refl (c.stopped-then-eq.ensures plan _ _ _)

pub returns-in_default-map : goal.returns-in_default-map
returns-in_default-map g c plan heard =
    came_fault _ _ plan _ _ _ _ _ (mapping_came _ _ _ _ _ _ _ (sym c.in-Some.ensures) (sym c.if-eq.ensures)) refl c.in_default-map.ensures (c.failed.ensures plan _ _ _)

pub returns-in_default-mapping : goal.returns-in_default-mapping
returns-in_default-mapping g c plan heard =
    came_by _ _ _ plan _ _ _ _ _ (mapping_came _ _ _ _ _ _ _ (sym c.in-Some.ensures) (sym c.if-eq.ensures)) (rw c.in_default-mapping.is at c.in-Ok.ensures) refl
    (came_now _ plan _ _ _ refl refl (c.stopped-in_default-mapping.ensures plan _ _ _))

pub returns : goal.returns
returns g c plan heard =
    came_by _ _ _ plan _ _ _ _ _ (mapping_came _ _ _ _ _ _ _ (sym c.in-Some.ensures) (sym c.if-eq.ensures)) (rw c.in-Some-mapping.is at c.in-Ok.ensures) refl
    (c.send_ephemeral.ensures plan _)

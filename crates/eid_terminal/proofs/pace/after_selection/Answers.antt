-- What comes by the reply.
use Rattle.std.proofs.Common.{ap, sym}
use Rattle.eid_terminal.specs.Commands.{command}
use Rattle.eid_terminal.proofs.Coming.{did_at}
use Rattle.eid_terminal.proofs.PaceSteps.{not_selected, selected}
use Rattle.eid_terminal.proofs.pace.after_selection.Goals as goal

pub returns-then-not-is_pace_selected : goal.returns-then-not-is_pace_selected
returns-then-not-is_pace_selected c plan heard = did_at plan _ _ _ (not_selected _ _ _ _ (sym c.if-not-is_pace_selected.ensures)) (c.stopped.ensures plan _ _ _)

pub returns : goal.returns
returns c plan heard =
    did_at plan _ _ _ (selected _ _ _ _ (sym c.if-not-is_pace_selected.ensures))
    (c.send.ensures plan _ (ap (λ body. command 0x10 0x86 0x00 0x00 body 256) c.no_data.ensures) tt)

-- What comes by the reply.
use Rattle.std.proofs.Common.{ap, sym, ◌∙◌}
use Rattle.eid_terminal.specs.Commands.{command}
use Rattle.eid_terminal.proofs.Coming.{did_at}
use Rattle.eid_terminal.proofs.PaceSteps.{exchanged}
use Rattle.eid_terminal.proofs.AuthenticationSteps.{expected, unexpected}
use Rattle.eid_terminal.proofs.chip.after_selection.Goals as goal

pub returns-then-not-is_done : goal.returns-then-not-is_done
returns-then-not-is_done c plan heard = did_at plan _ _ _ (unexpected _ _ _ _ (sym c.if-not-is_done.ensures)) (c.stopped.ensures plan _ _ _)

pub returns : goal.returns
returns c plan heard =
    did_at plan _ _ _ (expected _ _ _ _ (sym c.if-not-is_done.ensures) ∙ exchanged _ _ _ _)
    (c.send.ensures plan _ (ap (λ body. command 0x00 0x86 0x00 0x00 body 256) (c.deref.ensures.0 ∙ c.authentication_data-body.ensures)) tt)

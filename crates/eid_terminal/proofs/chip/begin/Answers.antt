-- The selection comes.
use Rattle.std.proofs.Common.{ap, ◌∙◌}
use Rattle.eid_terminal.specs.Commands.{command}
use Rattle.eid_terminal.proofs.Coming.{did_at}
use Rattle.eid_terminal.proofs.AuthenticationSteps.{chip_selection_comes}
use Rattle.eid_terminal.proofs.chip.begin.Goals as goal

pub returns : goal.returns
returns c plan heard =
    did_at plan _ _ _ (chip_selection_comes _ _ _ _)
    (c.send.ensures plan _ (ap (λ body. command 0x00 0x22 0x41 0xA4 body 0) (c.deref.ensures.0 ∙ c.protocol_selection.ensures)) tt)

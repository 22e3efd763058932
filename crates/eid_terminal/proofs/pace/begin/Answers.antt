-- The selection comes.
use Rattle.std.proofs.Common.{ap, ◌∙◌}
use Rattle.eid_terminal.specs.Commands.{command}
use Rattle.eid_terminal.proofs.Coming.{did_at}
use Rattle.eid_terminal.proofs.PaceSteps.{begins}
use Rattle.eid_terminal.proofs.pace.begin.Goals as goal

pub returns : goal.returns
returns c plan heard = did_at plan _ _ _ (begins _ _ _) (c.send.ensures plan _ (ap (λ body. command 0x00 0x22 0xC1 0xA4 body 0) (c.deref.ensures.0 ∙ c.pace_selection-body.ensures)) tt)

-- The selection comes.
use Rattle.std.proofs.Common.{ap}
use Rattle.eid_terminal.specs.Commands.{command}
use Rattle.eid_terminal.proofs.Coming.{did_at}
use Rattle.eid_terminal.proofs.AuthenticationSteps.{application_comes}
use Rattle.eid_terminal.proofs.chip.select.Goals as goal

pub returns : goal.returns
returns c plan heard =
    did_at plan _ _ _ (application_comes _ _) (c.send.ensures plan _ (ap (λ body. command 0x00 0xA4 0x04 0x0C body 0) c.bytes.ensures) tt)

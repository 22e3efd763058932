-- What comes by the reply.
use Rattle.std.proofs.Common.{refl, sym, ◌∙◌}
use Rattle.eid_terminal.proofs.Coming.{did_at}
use Rattle.eid_terminal.proofs.PaceSteps.{exchanged}
use Rattle.eid_terminal.proofs.AuthenticationSteps.{expected, unexpected}
use Rattle.eid_terminal.proofs.authentication.after_announcement.Goals as goal

pub returns-then-not-is_done : goal.returns-then-not-is_done
returns-then-not-is_done c plan heard = did_at plan _ _ _ (unexpected _ _ _ _ (sym c.if-not-is_done.ensures)) (c.stopped.ensures plan _ _ _)

pub returns : goal.returns
returns c plan heard = did_at plan _ _ _ (expected _ _ _ _ (sym c.if-not-is_done.ensures) ∙ exchanged _ _ _ _) (c.send.ensures plan _ refl tt)

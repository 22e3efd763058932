-- What comes by the reply.
use Rattle.std.proofs.Common.{ap, refl, sym, ◌∙◌, ℕ, List}
use Rattle.eid_terminal.specs.Pace.{with_nonce}
use Rattle.eid_terminal.specs.View.{opened_after}
use Rattle.eid_terminal.proofs.Coming.{came_at, came_now}
use Rattle.eid_terminal.proofs.PaceSteps.{no_nonce, nonce_came}
use Rattle.eid_terminal.proofs.pace.after_nonce.Goals as goal

pub returns-in_default : goal.returns-in_default
returns-in_default g c plan heard = came_now _ plan _ _ _ (no_nonce _ _ _ _ (sym c.in_default.ensures)) refl (c.stopped.ensures plan _ _ _)

pub returns : goal.returns
returns g c plan heard =
    came_at _ _ plan _ _ _
    (nonce_came _ _ _ _ _ (sym c.in-Some.ensures) ∙ ap (λ (nonce : List ℕ). with_nonce nonce (opened_after plan c.args.round) c.args.channel.now) (sym c.decrypted_nonce-nonce.ensures))
    (c.send_mapping.ensures plan _)

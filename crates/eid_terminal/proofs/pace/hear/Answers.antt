-- Each command's own reply.
use Rattle.std.proofs.Common.{ap, sym, ◌∙◌, List, ℕ}
use Rattle.eid_apdu.specs.Answer.{plain_reply}
use Rattle.eid_terminal.specs.Pace.{after_nonce}
use Rattle.eid_terminal.specs.declared.state.PaceCommand.{PaceCommand}
use Rattle.eid_terminal.specs.View.{after_pace, opened_after}
use Rattle.eid_terminal.proofs.Calm.{came_calm, calm_selection, calm_token}
use Rattle.eid_terminal.proofs.Coming.{came_at}
use Rattle.eid_terminal.proofs.pace.hear.Goals as goal

pub returns-in-Selection : goal.returns-in-Selection
returns-in-Selection g c plan heard =
    came_at _ _ plan _ _ _ (ap (λ (x : PaceCommand). after_pace plan x c.args.channel.now (plain_reply c.args.reply.now)) c.in-Selection.is)
    (came_calm _ plan _ _ (calm_selection _ _ _ _) (c.after_selection.ensures plan _))

pub returns-in-Nonce : goal.returns-in-Nonce
returns-in-Nonce g c plan heard =
    came_at _ _ plan _ _ _
    (ap (λ (x : PaceCommand). after_pace plan x c.args.channel.now (plain_reply c.args.reply.now)) c.in-Nonce.is
    ∙ ap (λ (digits : List ℕ). after_nonce digits (opened_after plan c.in-Nonce.round) c.args.channel.now (plain_reply c.args.reply.now)) (sym c.deref.ensures.0))
    (c.after_nonce.ensures plan _)

pub returns-in-Mapping : goal.returns-in-Mapping
returns-in-Mapping g c plan heard =
    came_at _ _ plan _ _ _ (ap (λ (x : PaceCommand). after_pace plan x c.args.channel.now (plain_reply c.args.reply.now)) c.in-Mapping.is) (c.after_mapping.ensures plan _)

pub returns-in-Agreement : goal.returns-in-Agreement
returns-in-Agreement g c plan heard =
    came_at _ _ plan _ _ _ (ap (λ (x : PaceCommand). after_pace plan x c.args.channel.now (plain_reply c.args.reply.now)) c.in-Agreement.is) (c.after_agreement.ensures plan _)

pub returns-in-Token : goal.returns-in-Token
returns-in-Token g c plan heard =
    came_at _ _ plan _ _ _ (ap (λ (x : PaceCommand). after_pace plan x c.args.channel.now (plain_reply c.args.reply.now)) c.in-Token.is)
    (came_calm _ plan _ _ (calm_token _ _ _ _ _ _) (c.after_token.ensures plan _ _))

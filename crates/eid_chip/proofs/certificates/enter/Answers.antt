-- What advances is committed; where nothing does, the certificate counts without a commit.
use Rattle.std.proofs.Common.{◌≡◌, ap, refl, sym, subst}
use Rattle.std.specs.Prelude.{option_map}
use Rattle.eid_apdu.specs.Answer.{plain_reply}
use Rattle.eid_record.specs.EffectView.{effect_view}
use Rattle.eid_cvc.specs.Chains.{chain_view}
use Rattle.eid_trust.specs.View.{accepted_view}
use Rattle.eid_model.specs.declared.kind.Kind.TheVariants.{VerifyCertificate}
use Rattle.eid_chip.specs.Held.{held}
use Rattle.eid_chip.specs.States.{state}
use Rattle.eid_chip.specs.Steps.{IsEndedByKind, state_left}
use Rattle.eid_chip.specs.Transitions.{state_refused, two_messages_later}
use Rattle.eid_chip.specs.Worlds.{world}
use Rattle.eid_chip.specs.Endings.{Ended, reacted}
use Rattle.eid_chip.proofs.CertificateSteps.{right_commits, right_unchanged, right_undue}
use Rattle.eid_chip.proofs.Outcomes.{ended_uncommitted}
use Rattle.eid_chip.proofs.certificates.enter.Goals as goal

pub returns-in-Some-clause-ended : goal.returns-in-Some-clause-ended
returns-in-Some-clause-ended g c = λ before after channel command asks was.
    let kept = held (g.E.Eeprom.cells c.args.cells.now) in
    c.commit_one.ensures.ended before after channel VerifyCertificate command asks
    (rw c.in-Some.effect-is (right_commits kept (state c.args.session.now channel) command (accepted_view c.args.accepted) c.args.accepted.chain asks (effect_view c.in-Some.effect) was refl (ap (option_map effect_view) c.in-Some.is)))

pub returns-in-None-clause-ended : goal.returns-in-None-clause-ended
returns-in-None-clause-ended g c = λ before after channel command asks was.
    let device = g.E.Eeprom.device c.args.cells.now in
    let cells = g.E.Eeprom.cells c.args.cells.now in
    let old = state c.args.session.now channel in
    let said = plain_reply c.carried_out.new.reply in
    let did = c.carried_out.ensures.did in
    let none = ap (option_map effect_view) c.in-None.is in
    let left : state_left (reacted c.carried_out.result c.leave.new.self) channel ≡ record (state_refused old) { certificates = chain_view c.args.accepted.chain } =
    rw (did.0, did.2) (c.leave.ensures.left (option_map two_messages_later channel)) in
    subst (λ (e : Ended). IsEndedByKind VerifyCertificate old command asks e said (world before c.args.store.now device cells) (world after c.args.store.now device cells)) (sym (c.uncommitted.ensures.ended _))
    (ended_uncommitted VerifyCertificate old command asks (reacted c.carried_out.result c.leave.new.self) said before after c.args.store.now device cells c.requires.fits
    (right_undue (held cells) old command (accepted_view c.args.accepted) asks was none)
    (right_unchanged (held cells) old command (accepted_view c.args.accepted) asks (reacted c.carried_out.result c.leave.new.self) said was none did.0 did.1 left))

-- The signature was right, wrong, or its question met a fault.
use Rattle.std.proofs.Common.{List, [], ◌∷◌, refl, ap, sym, subst, true, false}
use Rattle.eid_apdu.specs.Answer.{plain_reply}
use Rattle.eid_base.specs.declared.codes.Rule.{Rule}
use Rattle.eid_copro.specs.declared.ask.Ask.{Ask}
use Rattle.eid_copro.specs.declared.ask.Answer.TheVariants as answers
use Rattle.eid_copro.proofs.Asking.{asked_once}
use Rattle.eid_cvc.specs.View.{certificate_view}
use Rattle.eid_trust.specs.View.{accepted_view}
use Rattle.eid_model.specs.declared.kind.Kind.TheVariants.{VerifyCertificate}
use Rattle.eid_chip.specs.Held.{held}
use Rattle.eid_chip.specs.States.{state}
use Rattle.eid_chip.specs.Steps.{IsEndedByKind, certificate_ask}
use Rattle.eid_chip.specs.Worlds.{world}
use Rattle.eid_chip.specs.Endings.{Ended, reacted}
use Rattle.eid_chip.proofs.CertificateSteps.{wrong_answered, wrong_undue, fault_answered, fault_undue}
use Rattle.eid_chip.proofs.Outcomes.{ended_uncommitted}
use Rattle.eid_chip.proofs.certificates.import.Goals as goal

pub returns-in-Ok-true-clause-performed : goal.returns-in-Ok-true-clause-performed
returns-in-Ok-true-clause-performed g c = λ command imports.
    let certificate = certificate_view c.args.certificate.now in
    let accepted = accepted_view c.args.accepted in
    record {
      asks = certificate_ask certificate accepted (answers.Verdict true) ∷ [];
      were_asked = rw (← c.digest-digest.ensures, ← c.in-Ok-true.field-0-test) (asked_once c.in-Ok-true.ensures);
      ended = λ channel. c.enter.ensures.ended _ _ channel command _ (record { certificate = certificate; imports = imports channel; found = refl });
      layout = c.enter.ensures.layout;
    }

pub returns-in-Ok-false-clause-performed : goal.returns-in-Ok-false-clause-performed
returns-in-Ok-false-clause-performed g c = λ command imports.
    let device = g.E.Eeprom.device c.args.cells.now in
    let cells = g.E.Eeprom.cells c.args.cells.now in
    let certificate = certificate_view c.args.certificate.now in
    let accepted = accepted_view c.args.accepted in
    let said = plain_reply c.refused.new.reply in
    let asks : List Ask = certificate_ask certificate accepted (answers.Verdict false) ∷ [] in
    let was = world (g.C.Coprocessor.seen c.args.copro.now) c.args.store.now device cells in
    let now = world (g.C.Coprocessor.seen c.verify.new.self) c.args.store.now device cells in
    record {
      asks = asks;
      were_asked = rw (← c.digest-digest.ensures, ← c.in-Ok-false.field-0-test) (asked_once c.in-Ok-false.ensures);
      ended = λ channel.
          subst (λ (e : Ended). IsEndedByKind VerifyCertificate (state c.args.session.now channel) command asks e said was now) (sym (c.uncommitted.ensures.ended _))
          (ended_uncommitted VerifyCertificate (state c.args.session.now channel) command asks (reacted c.refused.result c.refused.new.session) said (g.C.Coprocessor.seen c.args.copro.now) (g.C.Coprocessor.seen c.verify.new.self) c.args.store.now device cells c.requires.fits
          (wrong_undue (held cells) (state c.args.session.now channel) command certificate accepted (imports channel))
          (wrong_answered (held cells) (state c.args.session.now channel) command certificate accepted (reacted c.refused.result c.refused.new.session) said (imports channel) (ap (λ (r : Rule). r.0) c.refused.ensures.rule) c.refused.ensures.reply (c.refused.ensures.left channel)));
      layout = refl;
    }

pub returns-in-Err-clause-performed : goal.returns-in-Err-clause-performed
returns-in-Err-clause-performed g c = λ command imports.
    let device = g.E.Eeprom.device c.args.cells.now in
    let cells = g.E.Eeprom.cells c.args.cells.now in
    let certificate = certificate_view c.args.certificate.now in
    let accepted = accepted_view c.args.accepted in
    let said = plain_reply c.refused-in-Err.new.reply in
    let asks : List Ask = certificate_ask certificate accepted answers.Fault ∷ [] in
    let was = world (g.C.Coprocessor.seen c.args.copro.now) c.args.store.now device cells in
    let now = world (g.C.Coprocessor.seen c.verify.new.self) c.args.store.now device cells in
    record {
      asks = asks;
      were_asked = rw (← c.digest-digest.ensures) (asked_once c.in-Err.ensures);
      ended = λ channel.
          subst (λ (e : Ended). IsEndedByKind VerifyCertificate (state c.args.session.now channel) command asks e said was now) (sym (c.uncommitted-in-Err.ensures.ended _))
          (ended_uncommitted VerifyCertificate (state c.args.session.now channel) command asks (reacted c.refused-in-Err.result c.refused-in-Err.new.session) said (g.C.Coprocessor.seen c.args.copro.now) (g.C.Coprocessor.seen c.verify.new.self) c.args.store.now device cells c.requires.fits
          (fault_undue (held cells) (state c.args.session.now channel) command certificate accepted (imports channel))
          (fault_answered (held cells) (state c.args.session.now channel) command certificate accepted (reacted c.refused-in-Err.result c.refused-in-Err.new.session) said (imports channel) (ap (λ (r : Rule). r.0) c.refused-in-Err.ensures.rule) c.refused-in-Err.ensures.reply (c.refused-in-Err.ensures.left channel)));
      layout = refl;
    }

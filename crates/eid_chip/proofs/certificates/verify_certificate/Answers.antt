-- What is no certificate is refused, and one that fails a rule; what may be accepted is imported.
use Rattle.std.proofs.Common.{◌≡◌, ◌∙◌, ℕ, ◌==◌, List, None, Some, ap, sym, refl, subst}
use Rattle.eid_apdu.specs.Command.{plain_command}
use Rattle.eid_apdu.specs.Answer.{plain_reply}
use Rattle.eid_base.specs.declared.codes.Rule.{Rule}
use Rattle.eid_cvc.specs.CertificateIn.{certificate_in}
use Rattle.eid_cvc.specs.Chains.{chain_view}
use Rattle.eid_cvc.specs.View.{certificate_view}
use Rattle.eid_record.specs.Plain.{PlainRecord}
use Rattle.eid_record.specs.Valid.{IsValid}
use Rattle.eid_record.specs.View.{record_view}
use Rattle.eid_store.proofs.Laws.{complete}
use Rattle.eid_trust.specs.Trust.{accept_given}
use Rattle.eid_model.specs.declared.kind.Kind.TheVariants.{VerifyCertificate}
use Rattle.eid_model.specs.Rules.{name_chosen}
use Rattle.eid_chip.specs.Endings.{reacted}
use Rattle.eid_chip.specs.Held.{held}
use Rattle.eid_chip.specs.States.{state, phase_of}
use Rattle.eid_chip.specs.Steps.{PlainRefusal, refusal}
use Rattle.eid_chip.proofs.CertificateSteps.{unread, refused_so, refused_one}
use Rattle.eid_chip.proofs.HeldFiles.{held_fields, held_stands}
use Rattle.eid_chip.proofs.Outcomes.{kind_refused, performed_unasked}
use Rattle.eid_chip.proofs.certificates.verify_certificate.Goals as goal

pub returns-in_default-read_certificate-clause-performed : goal.returns-in_default-read_certificate-clause-performed
returns-in_default-read_certificate-clause-performed g c =
    let cells = g.E.Eeprom.cells c.args.cells.now in
    let command = plain_command c.args.c.now in
    let r = c.refused-in_default-read_certificate in
    let said = plain_reply r.new.reply in
    let none : certificate_in c.args.c.now.body.now ≡ None = sym c.in_default-read_certificate.ensures.value in
    performed_unasked VerifyCertificate c.args.session.now command _ (reacted r.result r.new.session) said (g.C.Coprocessor.seen c.args.copro.now) c.args.store.now (g.E.Eeprom.device c.args.cells.now) cells c.requires.fits (c.uncommitted-in_default-read_certificate.ensures.ended _)
    (λ channel. kind_refused VerifyCertificate (held cells) (state c.args.session.now channel) command (record { rule = 10; status = 0x6A80 }) (reacted r.result r.new.session) said (unread (held cells) (state c.args.session.now channel) command none) refl
    (ap (λ (x : Rule). x.0) r.ensures.rule) r.ensures.reply (r.ensures.left channel))

pub import-requires-clause-effect : goal.import-requires-clause-effect
import-requires-clause-effect g c =
    let cells = g.E.Eeprom.cells c.args.cells.now in
    let device = g.E.Eeprom.device c.args.cells.now in
    let fields = held_fields c.args.store.now device cells c.requires.fits ∙ sym c.kept.ensures in
    let valid = (complete cells (held cells) (g.met.E.Eeprom.count c.args.cells.now) (held_stands c.args.store.now device cells c.requires.fits)).valid in
    rw (← c.kept.ensures) (c.in-Ok-accept.ensures.fits (subst IsValid fields valid))

pub returns-in-Ok-accept-clause-performed : goal.returns-in-Ok-accept-clause-performed
returns-in-Ok-accept-clause-performed g c =
    let cells = g.E.Eeprom.cells c.args.cells.now in
    let device = g.E.Eeprom.device c.args.cells.now in
    let fields = held_fields c.args.store.now device cells c.requires.fits ∙ sym c.kept.ensures in
    let body = (certificate_view c.in-Ok.certificate).body in
    let chain = chain_view c.args.session.now.memory.certificates in
    let given = c.in-Ok-accept.ensures.given ∙ ap (λ (l : List ℕ). accept_given (record_view c.kept.result.now) chain l body) c.as_slice.ensures.value ∙ ap (λ (r : PlainRecord). accept_given r chain c.in-KeyChosen.name.items body) (sym fields)
    ∙ ap (λ p. accept_given (held cells).fields chain (name_chosen p) body) (sym (ap phase_of c.in-KeyChosen.is)) in
    c.import.ensures.performed (plain_command c.args.c.now) (λ channel. record { reads = sym c.in-Ok.ensures.value; given = given })

pub returns-in-Err-clause-performed : goal.returns-in-Err-clause-performed
returns-in-Err-clause-performed g c =
    let cells = g.E.Eeprom.cells c.args.cells.now in
    let device = g.E.Eeprom.device c.args.cells.now in
    let command = plain_command c.args.c.now in
    let fields = held_fields c.args.store.now device cells c.requires.fits ∙ sym c.kept.ensures in
    let certificate = certificate_view c.in-Ok.certificate in
    let chain = chain_view c.args.session.now.memory.certificates in
    let given = c.in-Err.ensures.given ∙ ap (λ (l : List ℕ). accept_given (record_view c.kept.result.now) chain l certificate.body) c.as_slice.ensures.value ∙ ap (λ (r : PlainRecord). accept_given r chain c.in-KeyChosen.name.items certificate.body) (sym fields)
    ∙ ap (λ p. accept_given (held cells).fields chain (name_chosen p) certificate.body) (sym (ap phase_of c.in-KeyChosen.is)) in
    let r = c.refused-in-Err in
    let said = plain_reply r.new.reply in
    let is : refusal c.bad_certificate.result ≡ record { rule = c.in-Err.rule.0; status = 0x6300 } = c.bad_certificate.ensures in
    performed_unasked VerifyCertificate c.args.session.now command _ (reacted r.result r.new.session) said (g.C.Coprocessor.seen c.args.copro.now) c.args.store.now device cells c.requires.fits (c.uncommitted-in-Err.ensures.ended _)
    (λ channel. kind_refused VerifyCertificate (held cells) (state c.args.session.now channel) command (refusal c.bad_certificate.result) (reacted r.result r.new.session) said
    (refused_so (held cells) (state c.args.session.now channel) command certificate c.in-Err.rule.0 (sym c.in-Ok.ensures.value) given ∙ ap (λ (x : PlainRefusal). Some x) (sym is))
    (ap (λ (x : PlainRefusal). x.rule == 0) is ∙ refused_one (held cells).fields chain _ certificate.body c.in-Err.rule.0 given)
    (ap (λ (x : Rule). x.0) r.ensures.rule) r.ensures.reply (r.ensures.left channel))

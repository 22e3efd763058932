-- Carried out: the name is known.
use Rattle.std.proofs.Common.{◌≡◌, ℕ, List, ◌∙◌, true, ◌++◌, Some, ap, sym, refl}
use Rattle.std.specs.Prelude.{is_some, option_map}
use Rattle.eid_apdu.specs.Command.{plain_command}
use Rattle.eid_apdu.specs.Answer.{plain_reply}
use Rattle.eid_record.specs.Plain.{PlainRecord}
use Rattle.eid_trust.specs.Trust.{signer_of}
use Rattle.eid_model.specs.declared.kind.Kind.TheVariants.{SelectPublicKey, VerifyCertificate}
use Rattle.eid_model.specs.Bodies.{key_name_in}
use Rattle.eid_cvc.specs.Chains.{known_view}
use Rattle.eid_model.specs.Runs.{ChoseKey, NotBegun}
use Rattle.eid_chip.specs.Endings.{reacted}
use Rattle.eid_chip.proofs.PaceSteps.{moved}
use Rattle.eid_chip.proofs.Selections.{some_after}
use Rattle.eid_chip.specs.States.{state}
use Rattle.eid_chip.specs.Transitions.{two_messages_later}
use Rattle.eid_chip.specs.declared.session.Session.{Session}
use Rattle.eid_chip.proofs.CarriedOut.{carried}
use Rattle.eid_chip.proofs.CertificateSteps.{key_passes, key_leaves, signs_so, template_so}
use Rattle.eid_chip.proofs.certificates.select_public_key.Goals as goal

pub returns-in_default-signer-clause-told : goal.returns-in_default-signer-clause-told
returns-in_default-signer-clause-told c = λ full channel fields.
    let old = state c.args.session.now channel in
    let command = plain_command c.args.c.now in
    let name = c.in-Some.name.now in
    let named : key_name_in c.args.c.now.body.now ≡ Some name = sym c.in-Some.ensures.value in
    let given = template_so c.args.session.now.memory.pace c.in-Some-pace.pace c.in-Some-pace.is c.if-is_none.ensures in
    let signer : is_some (signer_of full.fields old.certificates name) ≡ true =
    ap (λ (r : PlainRecord). is_some (signer_of r old.certificates name)) fields ∙ signs_so _ _ c.signer.ensures c.in_default-signer.not-None in
    let passes = key_passes full old command name named given.0 given.1 (some_after known_view c.args.session.now.memory.terminal ∙ sym c.if-is_some.ensures) signer in
    let out = c.carried_out.ensures.did in
    let written = rw c.unwrap.ensures at c.try_extend_from_slice.ensures.ok in
    let items : c.try_extend_from_slice.new.self.items ≡ name = written ∙ ap (λ (l : List ℕ). l ++ name) c.new-chosen.ensures in
    carried SelectPublicKey full old command (reacted c.carried_out.result c.go_on.new.self) (plain_reply c.carried_out.new.reply) refl passes out.0 out.2 out.1
    (ap (λ (s : Session). state s (option_map two_messages_later channel)) c.go_on.ensures ∙ ap (λ (l : List ℕ). moved (Some VerifyCertificate) (ChoseKey l) NotBegun old) items ∙ key_leaves full old command name named)

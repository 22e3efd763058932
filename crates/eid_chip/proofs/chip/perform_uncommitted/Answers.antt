-- Each kind that never commits, by what its function promises; those without questions leave the coprocessor as it was.
use Rattle.std.proofs.Common.{ap, sym, ◌∙◌}
use Rattle.eid_apdu.specs.Command.{plain_command}
use Rattle.eid_apdu.specs.Answer.{plain_reply}
use Rattle.eid_base.specs.declared.codes.Rule.{Rule}
use Rattle.eid_model.specs.declared.kind.Kind.TheVariants.{SelectApplication, SelectMasterFile, SelectFile, ReadBinary, SelectPace, SelectPublicKey, AnnounceTerminal, GetChallenge, ExternalAuthenticate, SelectChipAuthentication, SelectRestrictedIdentification, EncryptedNonce, MapNonce, PerformKeyAgreement, AuthenticateChip, PerformRestrictedIdentification, VerifyAuxiliary, NoProtocol, NoStep}
use Rattle.eid_chip.specs.Endings.{reacted}
use Rattle.eid_chip.specs.Held.{held}
use Rattle.eid_chip.specs.States.{state}
use Rattle.eid_chip.proofs.HeldFiles.{held_fields}
use Rattle.eid_chip.proofs.Calm.{stepped_as}
use Rattle.eid_chip.proofs.Unasked.{unasked, no_step}
use Rattle.eid_chip.proofs.TerminalSteps.{no_protocol}
use Rattle.eid_chip.proofs.chip.perform_uncommitted.Goals as goal

pub returns-in-SelectApplication-clause-stepped : goal.returns-in-SelectApplication-clause-stepped
returns-in-SelectApplication-clause-stepped g c =
    let cells = g.E.Eeprom.cells c.args.cells.now in
    let command = plain_command c.args.c.now in
    stepped_as _ SelectApplication (held cells) c.args.session.now command (reacted c.select_application.result c.select_application.new.session) (plain_reply c.select_application.new.reply) (g.C.Coprocessor.seen c.args.copro.now) (g.C.Coprocessor.seen c.args.copro.now) c.in-SelectApplication.is
    (unasked (g.C.Coprocessor.seen c.args.copro.now) SelectApplication (held cells) c.args.session.now command _ _ (c.select_application.ensures.told (held cells)))

pub returns-in-SelectMasterFile-clause-stepped : goal.returns-in-SelectMasterFile-clause-stepped
returns-in-SelectMasterFile-clause-stepped g c =
    let cells = g.E.Eeprom.cells c.args.cells.now in
    let command = plain_command c.args.c.now in
    stepped_as _ SelectMasterFile (held cells) c.args.session.now command (reacted c.select_master_file.result c.select_master_file.new.session) (plain_reply c.select_master_file.new.reply) (g.C.Coprocessor.seen c.args.copro.now) (g.C.Coprocessor.seen c.args.copro.now) c.in-SelectMasterFile.is
    (unasked (g.C.Coprocessor.seen c.args.copro.now) SelectMasterFile (held cells) c.args.session.now command _ _ (c.select_master_file.ensures.told (held cells)))

pub returns-in-SelectFile-clause-stepped : goal.returns-in-SelectFile-clause-stepped
returns-in-SelectFile-clause-stepped g c =
    let cells = g.E.Eeprom.cells c.args.cells.now in
    let command = plain_command c.args.c.now in
    stepped_as _ SelectFile (held cells) c.args.session.now command (reacted c.select_file.result c.select_file.new.session) (plain_reply c.select_file.new.reply) (g.C.Coprocessor.seen c.args.copro.now) (g.C.Coprocessor.seen c.args.copro.now) c.in-SelectFile.is
    (unasked (g.C.Coprocessor.seen c.args.copro.now) SelectFile (held cells) c.args.session.now command _ _ (c.select_file.ensures.told (held cells)))

pub returns-in-ReadBinary-clause-stepped : goal.returns-in-ReadBinary-clause-stepped
returns-in-ReadBinary-clause-stepped g c =
    let cells = g.E.Eeprom.cells c.args.cells.now in
    let command = plain_command c.args.c.now in
    stepped_as _ ReadBinary (held cells) c.args.session.now command (reacted c.read_binary.result c.read_binary.new.session) (plain_reply c.read_binary.new.reply) (g.C.Coprocessor.seen c.args.copro.now) (g.C.Coprocessor.seen c.args.copro.now) c.in-ReadBinary.is
    (unasked (g.C.Coprocessor.seen c.args.copro.now) ReadBinary (held cells) c.args.session.now command _ _ c.read_binary.ensures.told)

pub returns-in-VerifyAuxiliary-clause-stepped : goal.returns-in-VerifyAuxiliary-clause-stepped
returns-in-VerifyAuxiliary-clause-stepped g c =
    let cells = g.E.Eeprom.cells c.args.cells.now in
    let command = plain_command c.args.c.now in
    stepped_as _ VerifyAuxiliary (held cells) c.args.session.now command (reacted c.verify_auxiliary.result c.verify_auxiliary.new.session) (plain_reply c.verify_auxiliary.new.reply) (g.C.Coprocessor.seen c.args.copro.now) (g.C.Coprocessor.seen c.args.copro.now) c.in-VerifyAuxiliary.is
    (unasked (g.C.Coprocessor.seen c.args.copro.now) VerifyAuxiliary (held cells) c.args.session.now command _ _ c.verify_auxiliary.ensures.told)

pub returns-in-SelectPace-clause-stepped : goal.returns-in-SelectPace-clause-stepped
returns-in-SelectPace-clause-stepped g c =
    let cells = g.E.Eeprom.cells c.args.cells.now in
    let command = plain_command c.args.c.now in
    let fields = held_fields c.args.store.now (g.E.Eeprom.device c.args.cells.now) cells c.requires.mounted ∙ sym c.kept.ensures in
    stepped_as _ SelectPace (held cells) c.args.session.now command (reacted c.select_pace.result c.select_pace.new.session) (plain_reply c.select_pace.new.reply) (g.C.Coprocessor.seen c.args.copro.now) (g.C.Coprocessor.seen c.args.copro.now) c.in-SelectPace.is
    (unasked (g.C.Coprocessor.seen c.args.copro.now) SelectPace (held cells) c.args.session.now command _ _ (λ channel. c.select_pace.ensures.told (held cells) channel fields))

pub returns-in-SelectPublicKey-clause-stepped : goal.returns-in-SelectPublicKey-clause-stepped
returns-in-SelectPublicKey-clause-stepped g c =
    let cells = g.E.Eeprom.cells c.args.cells.now in
    let command = plain_command c.args.c.now in
    let fields = held_fields c.args.store.now (g.E.Eeprom.device c.args.cells.now) cells c.requires.mounted ∙ sym c.kept-in-SelectPublicKey.ensures in
    stepped_as _ SelectPublicKey (held cells) c.args.session.now command (reacted c.select_public_key.result c.select_public_key.new.session) (plain_reply c.select_public_key.new.reply) (g.C.Coprocessor.seen c.args.copro.now) (g.C.Coprocessor.seen c.args.copro.now) c.in-SelectPublicKey.is
    (unasked (g.C.Coprocessor.seen c.args.copro.now) SelectPublicKey (held cells) c.args.session.now command _ _ (λ channel. c.select_public_key.ensures.told (held cells) channel fields))

pub returns-in-EncryptedNonce-clause-stepped : goal.returns-in-EncryptedNonce-clause-stepped
returns-in-EncryptedNonce-clause-stepped g c =
    let cells = g.E.Eeprom.cells c.args.cells.now in
    let command = plain_command c.args.c.now in
    stepped_as _ EncryptedNonce (held cells) c.args.session.now command (reacted c.encrypted_nonce.result c.encrypted_nonce.new.session) (plain_reply c.encrypted_nonce.new.reply) (g.C.Coprocessor.seen c.args.copro.now) (g.C.Coprocessor.seen c.encrypted_nonce.new.copro) c.in-EncryptedNonce.is
    c.encrypted_nonce.ensures.told

pub returns-in-MapNonce-clause-stepped : goal.returns-in-MapNonce-clause-stepped
returns-in-MapNonce-clause-stepped g c =
    let cells = g.E.Eeprom.cells c.args.cells.now in
    let command = plain_command c.args.c.now in
    stepped_as _ MapNonce (held cells) c.args.session.now command (reacted c.map_nonce.result c.map_nonce.new.session) (plain_reply c.map_nonce.new.reply) (g.C.Coprocessor.seen c.args.copro.now) (g.C.Coprocessor.seen c.map_nonce.new.copro) c.in-MapNonce.is
    (c.map_nonce.ensures.told (held cells))

pub returns-in-PerformKeyAgreement-clause-stepped : goal.returns-in-PerformKeyAgreement-clause-stepped
returns-in-PerformKeyAgreement-clause-stepped g c =
    let cells = g.E.Eeprom.cells c.args.cells.now in
    let command = plain_command c.args.c.now in
    stepped_as _ PerformKeyAgreement (held cells) c.args.session.now command (reacted c.perform_key_agreement.result c.perform_key_agreement.new.session) (plain_reply c.perform_key_agreement.new.reply) (g.C.Coprocessor.seen c.args.copro.now) (g.C.Coprocessor.seen c.perform_key_agreement.new.copro) c.in-PerformKeyAgreement.is
    (c.perform_key_agreement.ensures.told (held cells))

pub returns-in-AnnounceTerminal-clause-stepped : goal.returns-in-AnnounceTerminal-clause-stepped
returns-in-AnnounceTerminal-clause-stepped g c =
    let cells = g.E.Eeprom.cells c.args.cells.now in
    let command = plain_command c.args.c.now in
    stepped_as _ AnnounceTerminal (held cells) c.args.session.now command (reacted c.announce_terminal.result c.announce_terminal.new.session) (plain_reply c.announce_terminal.new.reply) (g.C.Coprocessor.seen c.args.copro.now) (g.C.Coprocessor.seen c.args.copro.now) c.in-AnnounceTerminal.is
    (unasked (g.C.Coprocessor.seen c.args.copro.now) AnnounceTerminal (held cells) c.args.session.now command _ _ (c.announce_terminal.ensures.told (held cells)))

pub returns-in-GetChallenge-clause-stepped : goal.returns-in-GetChallenge-clause-stepped
returns-in-GetChallenge-clause-stepped g c =
    let cells = g.E.Eeprom.cells c.args.cells.now in
    let command = plain_command c.args.c.now in
    stepped_as _ GetChallenge (held cells) c.args.session.now command (reacted c.get_challenge.result c.get_challenge.new.session) (plain_reply c.get_challenge.new.reply) (g.C.Coprocessor.seen c.args.copro.now) (g.C.Coprocessor.seen c.get_challenge.new.copro) c.in-GetChallenge.is
    (c.get_challenge.ensures.told (held cells))

pub returns-in-ExternalAuthenticate-clause-stepped : goal.returns-in-ExternalAuthenticate-clause-stepped
returns-in-ExternalAuthenticate-clause-stepped g c =
    let cells = g.E.Eeprom.cells c.args.cells.now in
    let command = plain_command c.args.c.now in
    stepped_as _ ExternalAuthenticate (held cells) c.args.session.now command (reacted c.external_authenticate.result c.external_authenticate.new.session) (plain_reply c.external_authenticate.new.reply) (g.C.Coprocessor.seen c.args.copro.now) (g.C.Coprocessor.seen c.external_authenticate.new.copro) c.in-ExternalAuthenticate.is
    (c.external_authenticate.ensures.told (held cells))

pub returns-in-SelectChipAuthentication-clause-stepped : goal.returns-in-SelectChipAuthentication-clause-stepped
returns-in-SelectChipAuthentication-clause-stepped g c =
    let cells = g.E.Eeprom.cells c.args.cells.now in
    let command = plain_command c.args.c.now in
    stepped_as _ SelectChipAuthentication (held cells) c.args.session.now command (reacted c.select_chip_authentication.result c.select_chip_authentication.new.session) (plain_reply c.select_chip_authentication.new.reply) (g.C.Coprocessor.seen c.args.copro.now) (g.C.Coprocessor.seen c.args.copro.now) c.in-SelectChipAuthentication.is
    (unasked (g.C.Coprocessor.seen c.args.copro.now) SelectChipAuthentication (held cells) c.args.session.now command _ _ (c.select_chip_authentication.ensures.told (held cells)))

pub returns-in-SelectRestrictedIdentification-clause-stepped : goal.returns-in-SelectRestrictedIdentification-clause-stepped
returns-in-SelectRestrictedIdentification-clause-stepped g c =
    let cells = g.E.Eeprom.cells c.args.cells.now in
    let command = plain_command c.args.c.now in
    stepped_as _ SelectRestrictedIdentification (held cells) c.args.session.now command (reacted c.select_restricted_identification.result c.select_restricted_identification.new.session) (plain_reply c.select_restricted_identification.new.reply) (g.C.Coprocessor.seen c.args.copro.now) (g.C.Coprocessor.seen c.args.copro.now) c.in-SelectRestrictedIdentification.is
    (unasked (g.C.Coprocessor.seen c.args.copro.now) SelectRestrictedIdentification (held cells) c.args.session.now command _ _ (c.select_restricted_identification.ensures.told (held cells)))

pub returns-in-AuthenticateChip-clause-stepped : goal.returns-in-AuthenticateChip-clause-stepped
returns-in-AuthenticateChip-clause-stepped g c =
    let cells = g.E.Eeprom.cells c.args.cells.now in
    let fields = held_fields c.args.store.now (g.E.Eeprom.device c.args.cells.now) cells c.requires.mounted ∙ sym c.kept-in-AuthenticateChip.ensures in
    let command = plain_command c.args.c.now in
    stepped_as _ AuthenticateChip (held cells) c.args.session.now command (reacted c.authenticate_chip.result c.authenticate_chip.new.session) (plain_reply c.authenticate_chip.new.reply) (g.C.Coprocessor.seen c.args.copro.now) (g.C.Coprocessor.seen c.authenticate_chip.new.copro) c.in-AuthenticateChip.is
    (c.authenticate_chip.ensures.told (held cells) fields)

pub returns-in-PerformRestrictedIdentification-clause-stepped : goal.returns-in-PerformRestrictedIdentification-clause-stepped
returns-in-PerformRestrictedIdentification-clause-stepped g c =
    let cells = g.E.Eeprom.cells c.args.cells.now in
    let fields = held_fields c.args.store.now (g.E.Eeprom.device c.args.cells.now) cells c.requires.mounted ∙ sym c.kept-in-PerformRestrictedIdentification.ensures in
    let command = plain_command c.args.c.now in
    stepped_as _ PerformRestrictedIdentification (held cells) c.args.session.now command (reacted c.perform_restricted_identification.result c.perform_restricted_identification.new.session) (plain_reply c.perform_restricted_identification.new.reply) (g.C.Coprocessor.seen c.args.copro.now) (g.C.Coprocessor.seen c.perform_restricted_identification.new.copro) c.in-PerformRestrictedIdentification.is
    (c.perform_restricted_identification.ensures.told (held cells) fields)

pub returns-in-NoProtocol-clause-stepped : goal.returns-in-NoProtocol-clause-stepped
returns-in-NoProtocol-clause-stepped g c =
    let cells = g.E.Eeprom.cells c.args.cells.now in
    let command = plain_command c.args.c.now in
    stepped_as _ NoProtocol (held cells) c.args.session.now command (reacted c.refused.result c.refused.new.session) (plain_reply c.refused.new.reply) (g.C.Coprocessor.seen c.args.copro.now) (g.C.Coprocessor.seen c.args.copro.now) c.in-NoProtocol.is
    (unasked (g.C.Coprocessor.seen c.args.copro.now) NoProtocol (held cells) c.args.session.now command _ _ (λ channel. no_protocol _ (state c.args.session.now channel) command (reacted c.refused.result c.refused.new.session) (plain_reply c.refused.new.reply) (ap (λ (r : Rule). r.0) c.refused.ensures.rule) c.refused.ensures.reply (c.refused.ensures.left channel)))

pub returns-in-NoStep-clause-stepped : goal.returns-in-NoStep-clause-stepped
returns-in-NoStep-clause-stepped g c =
    let cells = g.E.Eeprom.cells c.args.cells.now in
    let command = plain_command c.args.c.now in
    stepped_as _ NoStep (held cells) c.args.session.now command (reacted c.refused-in-NoStep.result c.refused-in-NoStep.new.session) (plain_reply c.refused-in-NoStep.new.reply) (g.C.Coprocessor.seen c.args.copro.now) (g.C.Coprocessor.seen c.args.copro.now) c.in-NoStep.is
    (unasked (g.C.Coprocessor.seen c.args.copro.now) NoStep (held cells) c.args.session.now command _ _ (λ channel. no_step _ (state c.args.session.now channel) command (reacted c.refused-in-NoStep.result c.refused-in-NoStep.new.session) (plain_reply c.refused-in-NoStep.new.reply) (ap (λ (r : Rule). r.0) c.refused-in-NoStep.ensures.rule) c.refused-in-NoStep.ensures.reply (c.refused-in-NoStep.ensures.left channel)))

-- The rules: a command is answered by the first one, in the order of their numbers, that concerns its
-- kind and does not hold. The numbers and their order are this project's own; the statuses are those
-- of ISO/IEC 7816-4.
use Rattle.std.specs.Prelude.{ℕ, ◌+◌, ◌*◌, ◌-◌, Bool, true, false, ◌==◌, ◌&&◌, ◌||◌, not, nat_le, nat_lt, List, [], ◌∷◌, length, Option, Some, None, is_some, unwrap_or, slice_index_or, if◌then◌else◌}
use Rattle.std.specs.Char.{is_ascii_digit}
use Rattle.std.specs.List.{list_all, list_any}
use Rattle.std.specs.Str.{bytes_eq}
use Rattle.eid_base.specs.Rules.{command_rule, objects_rule, protection_rule, class_rule, instruction_rule, parameters_rule, unbroken_rule, length_rule, step_rule, form_rule, password_rule, current_rule, named_rule, writable_rule, active_rule, try_rule, resumed_rule, pace_rule, template_rule, unknown_rule, key_rule, chain_rule, name_rule, terminal_rule, unproven_rule, proven_rule, management_rule, unblocking_rule, holder_rule, application_rule, right_rule, sent_rule, reference_rule, comparison_rule, present_rule, offset_rule, end_rule, sector_rule, other_key_rule, issuer_rule, role_rule, link_rule, expiry_rule, fault_rule, same_point_rule, no_point_rule, signature_rule, number_rule, token_rule}
use Rattle.eid_apdu.specs.Command.{PlainCommand}
use Rattle.eid_apdu.specs.Chaining.{MAX_REQUEST}
use Rattle.eid_record.specs.Plain.{FullRecord, PlainRecord, PlainEffect, Spend, Refill, SetPin, SetCan, Active, Unblock, Write}
use Rattle.eid_record.specs.Effect.{applied}
use Rattle.eid_bits.specs.Date.{is_between}
use Rattle.eid_bits.specs.Rights.{is_right, role_of}
use Rattle.eid_bits.specs.Template.{template_bit}
use Rattle.eid_cvc.specs.Certificates.{PlainBody, PlainCertificate}
use Rattle.eid_cvc.specs.CertificateIn.{certificate_in}
use Rattle.eid_cvc.specs.Chains.{PlainChain, PlainParty}
use Rattle.eid_ta.specs.States.{PlainAnnouncement}
use Rattle.eid_ta.specs.AnnouncementIn.{announcement_in}
use Rattle.eid_cvc.specs.PublicKeys.{x_half}
use Rattle.eid_bits.specs.declared.identifier.Known.TheVariants.{RiSha256}
use Rattle.eid_ca.specs.Selections.{chosen_in, names}
use Rattle.eid_ri.specs.SectorKeysIn.{sector_keys_in}
use Rattle.eid_trust.specs.Trust.{signer_of, is_issued_by, may_sign, is_link, is_of_current, is_in_date, advance}
use Rattle.eid_record.specs.declared.fields.Password.{Password}
use Rattle.eid_password.specs.Passwords.{is_can, is_pin, is_puk, has_try, is_resumed}
use Rattle.eid_model.specs.declared.kind.Kind.{Kind}
use Rattle.eid_model.specs.declared.kind.Kind.TheVariants.{SelectApplication, SelectMasterFile, SelectFile, ReadBinary, UpdateBinary, SelectPace, SelectPublicKey, VerifyCertificate, AnnounceTerminal, GetChallenge, ExternalAuthenticate, SelectChipAuthentication, SelectRestrictedIdentification, EncryptedNonce, MapNonce, PerformKeyAgreement, MutualAuthentication, AuthenticateChip, PerformRestrictedIdentification, VerifyAuxiliary, ChangePin, UnblockPin, ChangeCan, ActivatePin, DeactivatePin, NoProtocol, NoStep}
use Rattle.eid_model.specs.Kinds.{same_kind, kinds, has_instruction, has_parameters, is_by_short, application_id}
use Rattle.eid_files.specs.Names.{card_access, card_security, file_of_id, file_of_short, last_data_group}
use Rattle.eid_copro.specs.declared.ask.Answer.{Answer}
use Rattle.eid_copro.specs.declared.ask.Answer.TheVariants as answers
use Rattle.eid_copro.specs.Asking.{is_fault}
use Rattle.eid_pace.specs.Check.{terminal_token}
use Rattle.eid_pace.specs.Selections.{PlainSelection, password_named}
use Rattle.eid_pace.specs.SelectionIn.{selection_in}
use Rattle.eid_model.specs.Bodies.{no_data, data_in, holds_value, holds_point, key_name_in}
use Rattle.eid_model.specs.Sectors.{are_its_sectors}
use Rattle.eid_model.specs.Auxiliary.{comparison_in, compared_of, has_reference, has_sent, is_yes}
use Rattle.eid_model.specs.declared.comparison.Comparison.{Comparison}
use Rattle.eid_model.specs.declared.comparison.Comparison.TheVariants.{Age, Validity, Community}
use Rattle.eid_model.specs.Runs.{Phase, Idle, Chose, SentNonce, HasBase, HasSecret, ChoseKey, Authentication, NotBegun, Announced, Challenged, ChoseProtocol}
use Rattle.eid_model.specs.Sessions.{State, PaceMemory, number_of_two}

-- what the bytes received say: no command with a body of at most 2,200 bytes; in a channel, that the objects of
-- secure messaging are missing, or wrong; or this command
pub data Incoming : Type 0 where
  NoCommand : Incoming
  MissingObjects : Incoming
  WrongObjects : Incoming
  OfCommand : PlainCommand → Incoming

abbrev pub plain_of : Incoming → Option PlainCommand
plain_of (OfCommand c) = Some c
plain_of incoming = None

-- Where a command is answered.
pub record Situation : Type 0 where
  -- what was incoming
  pub incoming : Incoming
  -- no chain of fragments is open, or the command goes on with it
  pub unbroken : Bool
  -- the request so far: the command, with the bodies of the fragments before it in front of its own
  pub command : PlainCommand
  -- the kind of the request; none while it is not whole
  pub kind : Option Kind
  -- the record kept
  pub kept : FullRecord
  -- the state of the session
  pub state : State
  -- what the coprocessor has answered so far
  pub answers : List Answer

-- A rule: its number, its status, the kinds that it concerns ([] is all), and where it holds.
pub record RuleRow : Type 0 where
  pub number : ℕ
  pub status : Situation → ℕ
  pub kinds : List Kind
  pub holds : Situation → Bool

abbrev pub fixed : ℕ → Situation → ℕ
fixed status s = status

-- the class is 00, 10 or 80
abbrev pub is_class : ℕ → Bool
is_class class = class == 0x00 || class == 0x10 || class == 0x80

-- the digits of a PIN
abbrev pub PIN_SIZE : ℕ
PIN_SIZE = 6

-- the bytes of a signature
abbrev pub SIGNATURE_SIZE : ℕ
SIGNATURE_SIZE = 64

-- the form of the body of each kind
abbrev pub is_formed : Option Kind → List ℕ → Bool
is_formed None body = true
is_formed (Some SelectApplication) body = nat_le 1 (length body) && nat_le (length body) 16
is_formed (Some SelectMasterFile) body = length body == 0 || bytes_eq body (0x3F ∷ 0x00 ∷ [])
is_formed (Some SelectFile) body = length body == 2
is_formed (Some ReadBinary) body = length body == 0
is_formed (Some UpdateBinary) body = nat_le 1 (length body)
is_formed (Some SelectPace) body = is_some (selection_in body)
is_formed (Some SelectPublicKey) body = is_some (key_name_in body)
is_formed (Some VerifyCertificate) body = is_some (certificate_in body)
is_formed (Some AnnounceTerminal) body = is_some (announcement_in body)
is_formed (Some GetChallenge) body = length body == 0
is_formed (Some ExternalAuthenticate) body = length body == SIGNATURE_SIZE
is_formed (Some SelectChipAuthentication) body = is_some (chosen_in body)
is_formed (Some SelectRestrictedIdentification) body = names RiSha256 body
is_formed (Some EncryptedNonce) body = bytes_eq body no_data
is_formed (Some MapNonce) body = holds_point 0x81 body
is_formed (Some PerformKeyAgreement) body = holds_point 0x83 body
is_formed (Some MutualAuthentication) body = holds_value 0x85 8 body
is_formed (Some AuthenticateChip) body = holds_point 0x80 body
is_formed (Some PerformRestrictedIdentification) body = is_some (sector_keys_in body)
is_formed (Some VerifyAuxiliary) body = is_some (comparison_in body)
is_formed (Some ChangePin) body = length body == PIN_SIZE && list_all is_ascii_digit body
is_formed (Some UnblockPin) body = length body == 0
is_formed (Some ChangeCan) body = length body == PIN_SIZE && list_all is_ascii_digit body
is_formed (Some ActivatePin) body = length body == 0
is_formed (Some DeactivatePin) body = length body == 0
is_formed (Some NoProtocol) body = false
is_formed (Some NoStep) body = true

-- the file that a READ or an UPDATE means: of its short identifier, or the current one
unfoldable pub file_meant : Situation → Option ℕ
file_meant s = if is_by_short s.command then file_of_short (s.command.p1 - 0x80) else s.state.current

-- the offset that it begins at
abbrev pub offset_meant : PlainCommand → ℕ
offset_meant c = if is_by_short c then c.p2 else 256 * c.p1 + c.p2

-- the identifier is known: it is the application's, or names a file. Whether the file is there is another rule.
abbrev pub is_named : Option Kind → Situation → Bool
is_named None s = true
is_named (Some SelectApplication) s = bytes_eq s.command.body application_id
is_named (Some SelectMasterFile) s = true
is_named (Some SelectFile) s = is_some (file_of_id (number_of_two s.command.body))
is_named (Some ReadBinary) s = not (is_by_short s.command) || is_some (file_meant s)
is_named (Some UpdateBinary) s = not (is_by_short s.command) || is_some (file_meant s)
is_named (Some SelectPace) s = true
is_named (Some SelectPublicKey) s = true
is_named (Some VerifyCertificate) s = true
is_named (Some AnnounceTerminal) s = true
is_named (Some GetChallenge) s = true
is_named (Some ExternalAuthenticate) s = true
is_named (Some SelectChipAuthentication) s = true
is_named (Some SelectRestrictedIdentification) s = true
is_named (Some EncryptedNonce) s = true
is_named (Some MapNonce) s = true
is_named (Some PerformKeyAgreement) s = true
is_named (Some MutualAuthentication) s = true
is_named (Some AuthenticateChip) s = true
is_named (Some PerformRestrictedIdentification) s = true
is_named (Some VerifyAuxiliary) s = true
is_named (Some ChangePin) s = true
is_named (Some UnblockPin) s = true
is_named (Some ChangeCan) s = true
is_named (Some ActivatePin) s = true
is_named (Some DeactivatePin) s = true
is_named (Some NoProtocol) s = true
is_named (Some NoStep) s = true

-- the file's bytes, where it is present
abbrev pub bytes_of_file : FullRecord → Option ℕ → Option (List ℕ)
bytes_of_file kept None = None
bytes_of_file kept (Some file) = slice_index_or kept.files file None

abbrev pub is_command : Incoming → Bool
is_command NoCommand = false
is_command incoming = true

abbrev pub has_objects : Incoming → Bool
has_objects MissingObjects = false
has_objects incoming = true

abbrev pub is_protected : Incoming → Bool
is_protected WrongObjects = false
is_protected incoming = true

abbrev pub is_card_access : Option ℕ → Bool
is_card_access None = false
is_card_access (Some file) = file == card_access

abbrev pub is_group_file : Option ℕ → Bool
is_group_file None = false
is_group_file (Some file) = nat_lt card_security file

-- the reference names a password
abbrev pub names_password : Option PlainSelection → Bool
names_password None = false
names_password (Some selection) = is_some (password_named selection.reference)

-- a run of PACE with the PIN is about to begin
abbrev pub starts_pin : Phase → Bool
starts_pin Idle = false
starts_pin (Chose choice) = is_pin choice.password
starts_pin (SentNonce sent) = false
starts_pin (HasBase mapped) = false
starts_pin (HasSecret agreed) = false
starts_pin (ChoseKey name) = false

-- a PACE with the PIN has come to its tokens
abbrev pub proves_pin : Phase → Bool
proves_pin Idle = false
proves_pin (Chose choice) = false
proves_pin (SentNonce sent) = false
proves_pin (HasBase mapped) = false
proves_pin (HasSecret agreed) = is_pin agreed.choice.password
proves_pin (ChoseKey name) = false

-- the session's last PACE was with such a password
abbrev pub was_with : (Password → Bool) → Option PaceMemory → Bool
was_with is_such None = false
was_with is_such (Some pace) = is_such pace.password

-- and the holder gave a template in it
abbrev pub had_template : Option PaceMemory → Bool
had_template None = false
had_template (Some pace) = is_some pace.template

-- the command reads EF.CardAccess, for which no PACE is needed
abbrev pub reads_card_access : Option Kind → Option ℕ → Bool
reads_card_access None file = false
reads_card_access (Some SelectApplication) file = false
reads_card_access (Some SelectMasterFile) file = false
reads_card_access (Some SelectFile) file = false
reads_card_access (Some ReadBinary) file = is_card_access file
reads_card_access (Some UpdateBinary) file = false
reads_card_access (Some SelectPace) file = false
reads_card_access (Some SelectPublicKey) file = false
reads_card_access (Some VerifyCertificate) file = false
reads_card_access (Some AnnounceTerminal) file = false
reads_card_access (Some GetChallenge) file = false
reads_card_access (Some ExternalAuthenticate) file = false
reads_card_access (Some SelectChipAuthentication) file = false
reads_card_access (Some SelectRestrictedIdentification) file = false
reads_card_access (Some EncryptedNonce) file = false
reads_card_access (Some MapNonce) file = false
reads_card_access (Some PerformKeyAgreement) file = false
reads_card_access (Some MutualAuthentication) file = false
reads_card_access (Some AuthenticateChip) file = false
reads_card_access (Some PerformRestrictedIdentification) file = false
reads_card_access (Some VerifyAuxiliary) file = false
reads_card_access (Some ChangePin) file = false
reads_card_access (Some UnblockPin) file = false
reads_card_access (Some ChangeCan) file = false
reads_card_access (Some ActivatePin) file = false
reads_card_access (Some DeactivatePin) file = false
reads_card_access (Some NoProtocol) file = false
reads_card_access (Some NoStep) file = false

-- the last PACE gives the right to manage the PIN: that with the PIN to change it, that with the PUK to unblock it
abbrev pub may_manage : Option Kind → Option PaceMemory → Bool
may_manage None pace = false
may_manage (Some SelectApplication) pace = false
may_manage (Some SelectMasterFile) pace = false
may_manage (Some SelectFile) pace = false
may_manage (Some ReadBinary) pace = false
may_manage (Some UpdateBinary) pace = false
may_manage (Some SelectPace) pace = false
may_manage (Some SelectPublicKey) pace = false
may_manage (Some VerifyCertificate) pace = false
may_manage (Some AnnounceTerminal) pace = false
may_manage (Some GetChallenge) pace = false
may_manage (Some ExternalAuthenticate) pace = false
may_manage (Some SelectChipAuthentication) pace = false
may_manage (Some SelectRestrictedIdentification) pace = false
may_manage (Some EncryptedNonce) pace = false
may_manage (Some MapNonce) pace = false
may_manage (Some PerformKeyAgreement) pace = false
may_manage (Some MutualAuthentication) pace = false
may_manage (Some AuthenticateChip) pace = false
may_manage (Some PerformRestrictedIdentification) pace = false
may_manage (Some VerifyAuxiliary) pace = false
may_manage (Some ChangePin) pace = was_with is_pin pace
may_manage (Some UnblockPin) pace = was_with is_puk pace
may_manage (Some ChangeCan) pace = false
may_manage (Some ActivatePin) pace = false
may_manage (Some DeactivatePin) pace = false
may_manage (Some NoProtocol) pace = false
may_manage (Some NoStep) pace = false

-- the answer is no point
abbrev pub is_no_point : Answer → Bool
is_no_point answers.NoPoint = true
is_no_point answer = false

-- the point is the one of the pair that the coprocessor drew first
abbrev pub is_own_point : List ℕ → List Answer → Bool
is_own_point peer (answers.Pair secret public ∷ later) = bytes_eq peer public
is_own_point peer answers = false

-- the token is the one that the secret and the chip's point give
abbrev pub is_token : List ℕ → Phase → Bool
is_token sent (HasSecret agreed) = bytes_eq sent (terminal_token agreed)
is_token sent phase = false

-- ---- certificates

-- the name is that of a trust point, or of the document verifier accepted last
abbrev pub is_key_known : PlainRecord → PlainChain → Option (List ℕ) → Bool
is_key_known kept chain None = false
is_key_known kept chain (Some name) = is_some (signer_of kept chain name)

-- the name under which the next certificate is to be verified
abbrev pub name_chosen : Phase → List ℕ
name_chosen Idle = []
name_chosen (Chose choice) = []
name_chosen (SentNonce sent) = []
name_chosen (HasBase mapped) = []
name_chosen (HasSecret agreed) = []
name_chosen (ChoseKey name) = name

-- the certificate, where there is one, says this
abbrev pub says : (PlainBody → Bool) → Option PlainCertificate → Bool
says it None = true
says it (Some certificate) = it certificate.body

-- the signer may sign it
abbrev pub is_by_signer : PlainRecord → PlainChain → PlainBody → Bool
is_by_signer kept chain c = may_sign (signer_of kept chain c.issuer) (role_of c.template)

-- ---- terminal authentication and chip authentication

-- the chain is there: a terminal under a document verifier under a trust point
abbrev pub has_chain : PlainChain → Bool
has_chain chain = is_some chain.root && is_some chain.verifier && is_some chain.terminal

abbrev pub is_named_party : Option PlainParty → List ℕ → Bool
is_named_party None name = false
is_named_party (Some party) name = bytes_eq name party.name

-- the announcement names the terminal of the chain
abbrev pub announces : PlainChain → Option PlainAnnouncement → Bool
announces chain None = false
announces chain (Some announcement) = is_named_party chain.terminal announcement.reference

abbrev pub is_of : Kind → Option Kind → Bool
is_of kind None = false
is_of kind (Some other) = same_kind kind other

-- the command is one for a terminal that has authenticated itself, after which the chip has: it reads a data group, writes,
-- compares, begins restricted identification, or manages the PIN or the CAN
abbrev pub is_for_terminal : Option Kind → Option ℕ → Bool
is_for_terminal None file = false
is_for_terminal (Some SelectApplication) file = false
is_for_terminal (Some SelectMasterFile) file = false
is_for_terminal (Some SelectFile) file = false
is_for_terminal (Some ReadBinary) file = is_group_file file
is_for_terminal (Some UpdateBinary) file = true
is_for_terminal (Some SelectPace) file = false
is_for_terminal (Some SelectPublicKey) file = false
is_for_terminal (Some VerifyCertificate) file = false
is_for_terminal (Some AnnounceTerminal) file = false
is_for_terminal (Some GetChallenge) file = false
is_for_terminal (Some ExternalAuthenticate) file = false
is_for_terminal (Some SelectChipAuthentication) file = false
is_for_terminal (Some SelectRestrictedIdentification) file = true
is_for_terminal (Some EncryptedNonce) file = false
is_for_terminal (Some MapNonce) file = false
is_for_terminal (Some PerformKeyAgreement) file = false
is_for_terminal (Some MutualAuthentication) file = false
is_for_terminal (Some AuthenticateChip) file = false
is_for_terminal (Some PerformRestrictedIdentification) file = false
is_for_terminal (Some VerifyAuxiliary) file = true
is_for_terminal (Some ChangePin) file = false
is_for_terminal (Some UnblockPin) file = false
is_for_terminal (Some ChangeCan) file = true
is_for_terminal (Some ActivatePin) file = true
is_for_terminal (Some DeactivatePin) file = true
is_for_terminal (Some NoProtocol) file = false
is_for_terminal (Some NoStep) file = false

-- and chip authentication is begun only with such a terminal
abbrev pub wants_terminal : Option Kind → Option ℕ → Bool
wants_terminal kind file = is_for_terminal kind file || is_of SelectChipAuthentication kind

-- ---- what a terminal is granted (BSI TR-03110-4)

abbrev pub has_bit : Option (List ℕ) → ℕ → Bool
has_bit None bit = false
has_bit (Some template) bit = template_bit template bit

-- the holder gave this right in the last PACE
abbrev pub holder_gave : Option PaceMemory → ℕ → Bool
holder_gave None bit = false
holder_gave (Some pace) bit = has_bit pace.template bit

abbrev pub has_party_bit : Option PlainParty → ℕ → Bool
has_party_bit None bit = false
has_party_bit (Some party) bit = template_bit party.template bit

-- the trust point, the document verifier and the terminal have it
abbrev pub chain_gave : PlainChain → ℕ → Bool
chain_gave chain bit = has_bit chain.root bit && has_party_bit chain.verifier bit && has_party_bit chain.terminal bit

-- the right is granted: after chip authentication, where it stands in the holder's template and in all of the chain
unfoldable pub is_granted : State → ℕ → Bool
is_granted s bit = s.chip_proven && is_right bit && holder_gave s.pace bit && chain_gave s.certificates bit

-- the rights by their numbers
abbrev pub AGE_VERIFICATION : ℕ
AGE_VERIFICATION = 0

abbrev pub COMMUNITY_VERIFICATION : ℕ
COMMUNITY_VERIFICATION = 1

abbrev pub RESTRICTED_IDENTIFICATION : ℕ
RESTRICTED_IDENTIFICATION = 2

abbrev pub CAN_ALLOWED : ℕ
CAN_ALLOWED = 4

abbrev pub PIN_MANAGEMENT : ℕ
PIN_MANAGEMENT = 5

-- to read data group n, bit 7 + n; to write it, bit 54 - n
abbrev pub reading : ℕ → ℕ
reading n = 7 + n

abbrev pub writing : ℕ → ℕ
writing n = 54 - n

-- the data group that a file is, 0 where it is none
abbrev pub group_of : ℕ → ℕ
group_of file = file - 1

-- the last PACE was with the PIN, or with the CAN, where that is allowed
unfoldable pub is_by_holder : State → Bool
is_by_holder s = was_with is_pin s.pace || (was_with is_can s.pace && is_granted s CAN_ALLOWED)

abbrev pub with_file : (ℕ → Bool) → Option ℕ → Bool
with_file holds None = false
with_file holds (Some file) = holds file

-- the right that a comparison takes is granted; that of the validity takes none
abbrev pub may_compare : State → Option Comparison → Bool
may_compare s None = false
may_compare s (Some Age) = is_granted s AGE_VERIFICATION
may_compare s (Some Validity) = true
may_compare s (Some Community) = is_granted s COMMUNITY_VERIFICATION

-- the right that a command takes is granted
abbrev pub has_its_right : Option Kind → Option ℕ → Option Comparison → State → Bool
has_its_right None file comparison s = false
has_its_right (Some SelectApplication) file comparison s = false
has_its_right (Some SelectMasterFile) file comparison s = false
has_its_right (Some SelectFile) file comparison s = false
has_its_right (Some ReadBinary) file comparison s = with_file (λ f. is_granted s (reading (group_of f))) file
has_its_right (Some UpdateBinary) file comparison s = with_file (λ f. is_granted s (writing (group_of f))) file
has_its_right (Some SelectPace) file comparison s = false
has_its_right (Some SelectPublicKey) file comparison s = false
has_its_right (Some VerifyCertificate) file comparison s = false
has_its_right (Some AnnounceTerminal) file comparison s = false
has_its_right (Some GetChallenge) file comparison s = false
has_its_right (Some ExternalAuthenticate) file comparison s = false
has_its_right (Some SelectChipAuthentication) file comparison s = false
has_its_right (Some SelectRestrictedIdentification) file comparison s = is_granted s RESTRICTED_IDENTIFICATION
has_its_right (Some EncryptedNonce) file comparison s = false
has_its_right (Some MapNonce) file comparison s = false
has_its_right (Some PerformKeyAgreement) file comparison s = false
has_its_right (Some MutualAuthentication) file comparison s = false
has_its_right (Some AuthenticateChip) file comparison s = false
has_its_right (Some PerformRestrictedIdentification) file comparison s = false
has_its_right (Some VerifyAuxiliary) file comparison s = may_compare s comparison
has_its_right (Some ChangePin) file comparison s = false
has_its_right (Some UnblockPin) file comparison s = false
has_its_right (Some ChangeCan) file comparison s = is_granted s PIN_MANAGEMENT
has_its_right (Some ActivatePin) file comparison s = is_granted s PIN_MANAGEMENT
has_its_right (Some DeactivatePin) file comparison s = is_granted s PIN_MANAGEMENT
has_its_right (Some NoProtocol) file comparison s = false
has_its_right (Some NoStep) file comparison s = false

-- a terminal may manage the PIN
unfoldable pub manages_pin : State → Bool
manages_pin s = s.chip_proven && is_by_holder s && is_granted s PIN_MANAGEMENT

-- the point is the one that the terminal announced, by its X half
abbrev pub is_announced : List ℕ → Authentication → Bool
is_announced point NotBegun = false
is_announced point (Announced identity announced) = false
is_announced point (Challenged identity challenged) = false
is_announced point (ChoseProtocol chosen) = bytes_eq (x_half point) chosen.key_x

-- the answer is that a signature is wrong
abbrev pub is_wrong : Answer → Bool
is_wrong (answers.Verdict right) = not right
is_wrong answer = false

-- ---- what a command commits

-- what an accepted certificate advances
abbrev pub one_effect : Option PlainEffect → List PlainEffect
one_effect None = []
one_effect (Some effect) = effect ∷ []

abbrev pub to_advance : PlainRecord → PlainChain → Option PlainCertificate → List PlainEffect
to_advance kept chain None = []
to_advance kept chain (Some certificate) = one_effect (advance kept chain certificate.body)

-- the last step of PACE with the PIN takes a try before the token is compared, and gives all tries back where it is right
abbrev pub token_effects : (pin right : Bool) → List PlainEffect
token_effects pin right = if pin then Spend ∷ (if right then Refill ∷ [] else []) else []

-- bytes are written to a file from an offset on
abbrev pub to_write : Option ℕ → ℕ → List ℕ → List PlainEffect
to_write None offset bytes = []
to_write (Some file) offset bytes = Write file offset bytes ∷ []

-- the effects that a command of this kind commits where it is carried out, or where nothing but its proof is wrong, in
-- their order
abbrev pub to_commit : Option Kind → Situation → List PlainEffect
to_commit None s = []
to_commit (Some SelectApplication) s = []
to_commit (Some SelectMasterFile) s = []
to_commit (Some SelectFile) s = []
to_commit (Some ReadBinary) s = []
to_commit (Some UpdateBinary) s = to_write (file_meant s) (offset_meant s.command) s.command.body
to_commit (Some SelectPace) s = []
to_commit (Some SelectPublicKey) s = []
to_commit (Some VerifyCertificate) s = to_advance s.kept.fields s.state.certificates (certificate_in s.command.body)
to_commit (Some AnnounceTerminal) s = []
to_commit (Some GetChallenge) s = []
to_commit (Some ExternalAuthenticate) s = []
to_commit (Some SelectChipAuthentication) s = []
to_commit (Some SelectRestrictedIdentification) s = []
to_commit (Some EncryptedNonce) s = []
to_commit (Some MapNonce) s = []
to_commit (Some PerformKeyAgreement) s = []
to_commit (Some MutualAuthentication) s = token_effects (proves_pin s.state.phase) (is_token (data_in s.command.body) s.state.phase)
to_commit (Some AuthenticateChip) s = []
to_commit (Some PerformRestrictedIdentification) s = []
to_commit (Some VerifyAuxiliary) s = []
to_commit (Some ChangePin) s = SetPin s.command.body ∷ []
to_commit (Some UnblockPin) s = Unblock (was_with is_puk s.state.pace) ∷ []
to_commit (Some ChangeCan) s = SetCan s.command.body ∷ []
to_commit (Some ActivatePin) s = Active true ∷ []
to_commit (Some DeactivatePin) s = Active false ∷ []
to_commit (Some NoProtocol) s = []
to_commit (Some NoStep) s = []

-- nothing is to be committed
abbrev pub are_none : List PlainEffect → Bool
are_none [] = true
are_none (effect ∷ later) = false

-- the kinds that may commit something
abbrev pub committing : List Kind
committing = UpdateBinary ∷ VerifyCertificate ∷ MutualAuthentication ∷ ChangePin ∷ UnblockPin ∷ ChangeCan ∷ ActivatePin ∷ DeactivatePin ∷ []

-- the greatest commit number after which commits are due: the last step of PACE may make two more
abbrev pub LAST_NUMBER : ℕ
LAST_NUMBER = 4294967293

-- the status where the token is wrong: for the PIN with the number of the tries that are kept after the Spend
abbrev pub token_status : PlainRecord → (pin : Bool) → ℕ
token_status kept pin = if pin then 0x63C0 + (applied Spend kept).tries else 0x6300

-- ---- the rules

-- the kinds that need a terminal which has authenticated itself, after which the chip has; of READ BINARY those of data groups
abbrev pub for_terminals : List Kind
for_terminals = ReadBinary ∷ UpdateBinary ∷ SelectRestrictedIdentification ∷ VerifyAuxiliary ∷ ChangeCan ∷ ActivatePin ∷ DeactivatePin ∷ []

-- whether the command can be incoming at all
abbrev pub transport_rules : List RuleRow
transport_rules =
    -- the bytes are a command with a body of at most 2,200 bytes
    record { number = command_rule; status = fixed 0x6700; kinds = []; holds = λ s. is_command s.incoming } ∷
    -- in a channel: the message has the objects of secure messaging
    record { number = objects_rule; status = fixed 0x6987; kinds = []; holds = λ s. has_objects s.incoming } ∷
    -- in a channel: the message is protected at the next counter
    record { number = protection_rule; status = fixed 0x6988; kinds = []; holds = λ s. is_protected s.incoming } ∷ []

-- whether it has a kind
abbrev pub naming_rules : List RuleRow
naming_rules =
    -- the class is 00, 10 or 80
    record { number = class_rule; status = fixed 0x6E00; kinds = []; holds = λ s. is_class s.command.cla } ∷
    -- some kind has this class and instruction
    record { number = instruction_rule; status = fixed 0x6D00; kinds = []; holds = λ s. list_any (has_instruction s.command) kinds } ∷
    -- some kind has this class, instruction and parameters
    record { number = parameters_rule; status = fixed 0x6A86; kinds = []; holds = λ s. list_any (has_parameters s.command) kinds } ∷ []

-- whether the request can be answered by its kind, whatever the kind is
abbrev pub request_rules : List RuleRow
request_rules =
    -- no chain of fragments is open, or the command has its instruction and parameters
    record { number = unbroken_rule; status = fixed 0x6883; kinds = []; holds = λ s. s.unbroken } ∷
    -- the request's body has at most 2,048 bytes so far
    record { number = length_rule; status = fixed 0x6700; kinds = []; holds = λ s. nat_le (length s.command.body) MAX_REQUEST } ∷ []

-- whether a command of its kind is carried out
abbrev pub kind_rules : List RuleRow
kind_rules =
    -- the step is the run's next one
    record { number = step_rule; status = fixed 0x6985; kinds = NoStep ∷ []; holds = λ s. false } ∷
    -- the body has the form of the kind
    record { number = form_rule; status = fixed 0x6A80; kinds = []; holds = λ s. is_formed s.kind s.command.body } ∷
    -- the reference names a password: 2 the CAN, 3 the PIN, 4 the PUK
    record { number = password_rule; status = fixed 0x6A88; kinds = SelectPace ∷ []; holds = λ s. names_password (selection_in s.command.body) } ∷
    -- by offset alone: there is a current file
    record {
      number = current_rule;
      status = fixed 0x6986;
      kinds = ReadBinary ∷ UpdateBinary ∷ [];
      holds = λ s. is_by_short s.command || is_some s.state.current;
    } ∷
    -- the identifier is the application's, or names a file
    record {
      number = named_rule;
      status = fixed 0x6A82;
      kinds = SelectApplication ∷ SelectFile ∷ ReadBinary ∷ UpdateBinary ∷ [];
      holds = λ s. is_named s.kind s;
    } ∷
    -- the file is a data group that may be written: one from 17 on
    record {
      number = writable_rule;
      status = fixed 0x6982;
      kinds = UpdateBinary ∷ [];
      holds = λ s. with_file (λ f. is_between 17 last_data_group (group_of f)) (file_meant s);
    } ∷
    -- PACE begins with the PIN: it is active
    record { number = active_rule; status = fixed 0x6984; kinds = EncryptedNonce ∷ []; holds = λ s. not (starts_pin s.state.phase) || s.kept.fields.active } ∷
    -- a try is left
    record { number = try_rule; status = fixed 0x6983; kinds = EncryptedNonce ∷ []; holds = λ s. not (starts_pin s.state.phase) || has_try s.kept.fields } ∷
    -- two tries are left, or the session's last PACE was with the CAN
    record {
      number = resumed_rule;
      status = fixed 0x6985;
      kinds = EncryptedNonce ∷ [];
      holds = λ s. not (starts_pin s.state.phase) || is_resumed s.kept.fields (was_with is_can s.state.pace);
    } ∷
    -- the session has a successful PACE, but for a READ of EF.CardAccess
    record {
      number = pace_rule;
      status = fixed 0x6982;
      kinds = ReadBinary ∷ UpdateBinary ∷ SelectPublicKey ∷ AnnounceTerminal ∷ SelectChipAuthentication ∷ SelectRestrictedIdentification ∷
          VerifyAuxiliary ∷ ChangePin ∷ UnblockPin ∷ ChangeCan ∷ ActivatePin ∷ DeactivatePin ∷ [];
      holds = λ s. reads_card_access s.kind (file_meant s) || is_some s.state.pace;
    } ∷
    -- in that PACE the holder gave a template
    record { number = template_rule; status = fixed 0x6985; kinds = SelectPublicKey ∷ AnnounceTerminal ∷ []; holds = λ s. had_template s.state.pace } ∷
    -- no terminal authentication succeeded after it
    record { number = unknown_rule; status = fixed 0x6985; kinds = SelectPublicKey ∷ AnnounceTerminal ∷ []; holds = λ s. not (is_some s.state.terminal) } ∷
    -- the name is that of a trust point, or of the document verifier accepted last
    record {
      number = key_rule;
      status = fixed 0x6A88;
      kinds = SelectPublicKey ∷ [];
      holds = λ s. is_key_known s.kept.fields s.state.certificates (key_name_in s.command.body);
    } ∷
    -- the chain is there
    record { number = chain_rule; status = fixed 0x6985; kinds = AnnounceTerminal ∷ []; holds = λ s. has_chain s.state.certificates } ∷
    -- the terminal is the one of the chain
    record {
      number = name_rule;
      status = fixed 0x6A88;
      kinds = AnnounceTerminal ∷ [];
      holds = λ s. announces s.state.certificates (announcement_in s.command.body);
    } ∷
    -- terminal authentication succeeded
    record {
      number = terminal_rule;
      status = fixed 0x6982;
      kinds = SelectChipAuthentication ∷ for_terminals;
      holds = λ s. not (wants_terminal s.kind (file_meant s)) || is_some s.state.terminal;
    } ∷
    -- no chip authentication succeeded after it
    record { number = unproven_rule; status = fixed 0x6985; kinds = SelectChipAuthentication ∷ []; holds = λ s. not s.state.chip_proven } ∷
    -- chip authentication succeeded after it
    record {
      number = proven_rule;
      status = fixed 0x6982;
      kinds = for_terminals;
      holds = λ s. not (is_for_terminal s.kind (file_meant s)) || s.state.chip_proven;
    } ∷
    -- that PACE was with the PIN, to change it, or with the PUK, to unblock the PIN; or a terminal may manage it
    record {
      number = management_rule;
      status = fixed 0x6982;
      kinds = ChangePin ∷ UnblockPin ∷ [];
      holds = λ s. may_manage s.kind s.state.pace || manages_pin s.state;
    } ∷
    -- after PACE with the PUK: an unblocking is left
    record {
      number = unblocking_rule;
      status = fixed 0x6983;
      kinds = UnblockPin ∷ [];
      holds = λ s. not (was_with is_puk s.state.pace) || nat_le 1 s.kept.fields.unblocks;
    } ∷
    -- that PACE was with the PIN, or with the CAN, where that is allowed
    record {
      number = holder_rule;
      status = fixed 0x6982;
      kinds = for_terminals;
      holds = λ s. not (is_for_terminal s.kind (file_meant s)) || is_by_holder s.state;
    } ∷
    -- the application is selected
    record {
      number = application_rule;
      status = fixed 0x6985;
      kinds = ReadBinary ∷ UpdateBinary ∷ SelectRestrictedIdentification ∷ VerifyAuxiliary ∷ [];
      holds = λ s. not (is_for_terminal s.kind (file_meant s)) || s.state.selected;
    } ∷
    -- its right is granted
    record {
      number = right_rule;
      status = fixed 0x6982;
      kinds = for_terminals;
      holds = λ s. not (is_for_terminal s.kind (file_meant s)) || has_its_right s.kind (file_meant s) (comparison_in s.command.body) s.state;
    } ∷
    -- the terminal sent what is to be compared
    record { number = sent_rule; status = fixed 0x6A88; kinds = VerifyAuxiliary ∷ []; holds = λ s. has_sent (comparison_in s.command.body) s.state.terminal } ∷
    -- the data group that it is compared with is present, and holds something to compare
    record {
      number = reference_rule;
      status = fixed 0x6A88;
      kinds = VerifyAuxiliary ∷ [];
      holds = λ s. has_reference (compared_of s.kept (comparison_in s.command.body) s.state.terminal);
    } ∷
    -- the comparison holds
    record {
      number = comparison_rule;
      status = fixed 0x6300;
      kinds = VerifyAuxiliary ∷ [];
      holds = λ s. is_yes (compared_of s.kept (comparison_in s.command.body) s.state.terminal);
    } ∷
    -- the file is present
    record {
      number = present_rule;
      status = fixed 0x6A82;
      kinds = ReadBinary ∷ UpdateBinary ∷ [];
      holds = λ s. is_some (bytes_of_file s.kept (file_meant s));
    } ∷
    -- the offset is at most the file's length
    record {
      number = offset_rule;
      status = fixed 0x6B00;
      kinds = ReadBinary ∷ UpdateBinary ∷ [];
      holds = λ s. nat_le (offset_meant s.command) (length (unwrap_or (bytes_of_file s.kept (file_meant s)) []));
    } ∷
    -- what is written ends at the file's end at the latest
    record {
      number = end_rule;
      status = fixed 0x6A84;
      kinds = UpdateBinary ∷ [];
      holds = λ s. nat_le (offset_meant s.command + length s.command.body) (length (unwrap_or (bytes_of_file s.kept (file_meant s)) []));
    } ∷
    -- the sector keys are those of the terminal, by their hashes
    record {
      number = sector_rule;
      status = fixed 0x6300;
      kinds = PerformRestrictedIdentification ∷ [];
      holds = λ s. are_its_sectors s.state.certificates.sectors (sector_keys_in s.command.body);
    } ∷
    -- the terminal's point is the one that it announced
    record {
      number = other_key_rule;
      status = fixed 0x6300;
      kinds = AuthenticateChip ∷ [];
      holds = λ s. is_announced (data_in s.command.body) s.state.authentication;
    } ∷
    -- the certificate is issued under the name that was selected
    record {
      number = issuer_rule;
      status = fixed 0x6300;
      kinds = VerifyCertificate ∷ [];
      holds = λ s. says (is_issued_by (name_chosen s.state.phase)) (certificate_in s.command.body);
    } ∷
    -- a trust point signs a link or a document verifier, a document verifier signs a terminal
    record {
      number = role_rule;
      status = fixed 0x6300;
      kinds = VerifyCertificate ∷ [];
      holds = λ s. says (is_by_signer s.kept.fields s.state.certificates) (certificate_in s.command.body);
    } ∷
    -- a link is signed by the current trust point, or is the current trust point's own
    record {
      number = link_rule;
      status = fixed 0x6300;
      kinds = VerifyCertificate ∷ [];
      holds = λ s. says (λ c. not (is_link c) || is_of_current s.kept.fields c) (certificate_in s.command.body);
    } ∷
    -- what is no link has not expired
    record {
      number = expiry_rule;
      status = fixed 0x6300;
      kinds = VerifyCertificate ∷ [];
      holds = λ s. says (λ c. is_link c || is_in_date s.kept.fields c) (certificate_in s.command.body);
    } ∷ []

-- whether the coprocessor's answers let the command go on
abbrev pub answer_rules : List RuleRow
answer_rules =
    -- no question of this command met a fault
    record { number = fault_rule; status = fixed 0x6F00; kinds = []; holds = λ s. not (list_any is_fault s.answers) } ∷
    -- the terminal's ephemeral point differs from the chip's
    record {
      number = same_point_rule;
      status = fixed 0x6300;
      kinds = PerformKeyAgreement ∷ [];
      holds = λ s. not (is_own_point (data_in s.command.body) s.answers);
    } ∷
    -- no question was answered with no point
    record {
      number = no_point_rule;
      status = fixed 0x6A80;
      kinds = MapNonce ∷ PerformKeyAgreement ∷ AuthenticateChip ∷ PerformRestrictedIdentification ∷ [];
      holds = λ s. not (list_any is_no_point s.answers);
    } ∷
    -- the signature was not found wrong
    record {
      number = signature_rule;
      status = fixed 0x6300;
      kinds = VerifyCertificate ∷ ExternalAuthenticate ∷ [];
      holds = λ s. not (list_any is_wrong s.answers);
    } ∷ []

-- whether there is room for what is to be committed
abbrev pub commit_rules : List RuleRow
commit_rules =
    -- where there is something to commit: the commit number is not too great
    record {
      number = number_rule;
      status = fixed 0x6581;
      kinds = committing;
      holds = λ s. are_none (to_commit s.kind s) || nat_le s.kept.fields.number LAST_NUMBER;
    } ∷ []

-- whether what the terminal proves is right
abbrev pub proof_rules : List RuleRow
proof_rules =
    -- the token is right
    record {
      number = token_rule;
      status = λ s. token_status s.kept.fields (proves_pin s.state.phase);
      kinds = MutualAuthentication ∷ [];
      holds = λ s. is_token (data_in s.command.body) s.state.phase;
    } ∷ []

-- the rule concerns the kind
abbrev pub concerns : List Kind → Option Kind → Bool
concerns [] kind = true
concerns (k ∷ ks) None = false
concerns (k ∷ ks) (Some kind) = list_any (same_kind kind) (k ∷ ks)

-- the first rule that concerns the kind and does not hold
abbrev pub first_failed : List RuleRow → Situation → Option RuleRow
first_failed [] s = None
first_failed (row ∷ rows) s =
    if concerns row.kinds s.kind && not (row.holds s) then Some row else first_failed rows s

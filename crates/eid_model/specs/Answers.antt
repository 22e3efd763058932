-- How a command is answered (ISO/IEC 7816-4, BSI TR-03110-3).
use Rattle.std.specs.Prelude.{ℕ, List, [], ◌∷◌, ◌++◌, length, take, drop, Option, Some, None, is_none, option_map, unwrap_or, if◌then◌else◌}
use Rattle.eid_apdu.specs.Command.{PlainCommand}
use Rattle.eid_apdu.specs.Chaining.{OpenChain, continues, request}
use Rattle.eid_apdu.specs.Answer.{PlainReply}
use Rattle.eid_tlv.specs.Objects.{object}
use Rattle.eid_copro.specs.declared.ask.Question.{Question}
use Rattle.eid_copro.specs.declared.ask.Question.TheVariants as questions
use Rattle.eid_copro.specs.declared.ask.Answer.{Answer}
use Rattle.eid_copro.specs.declared.ask.Answer.TheVariants as answers
use Rattle.eid_files.specs.Ranges.{read_status}
use Rattle.eid_record.specs.Plain.{FullRecord, PlainRecord, PlainTrustPoint, PlainEffect}
use Rattle.eid_password.specs.Passwords.{digits_of, select_status}
use Rattle.eid_pace.specs.Check.{chip_token}
use Rattle.eid_pace.specs.Keys.{encrypted_nonce}
use Rattle.eid_pace.specs.States.{PlainChoice}
use Rattle.sha2.specs.Sha256.{sha256}
use Rattle.eid_ta.specs.Announcing.{signed_bytes}
use Rattle.eid_ca.specs.States.{proven_by}
use Rattle.eid_cvc.specs.Certificates.{PlainCertificate}
use Rattle.eid_cvc.specs.CertificateIn.{certificate_in}
use Rattle.eid_cvc.specs.Chains.{PlainChain}
use Rattle.eid_trust.specs.Trust.{key_of, signer_of}
use Rattle.eid_model.specs.declared.kind.Kind.{Kind}
use Rattle.eid_model.specs.declared.kind.Kind.TheVariants.{SelectApplication, SelectMasterFile, SelectFile, ReadBinary, UpdateBinary, SelectPace, SelectPublicKey, VerifyCertificate, AnnounceTerminal, GetChallenge, ExternalAuthenticate, SelectChipAuthentication, SelectRestrictedIdentification, EncryptedNonce, MapNonce, PerformKeyAgreement, MutualAuthentication, AuthenticateChip, PerformRestrictedIdentification, VerifyAuxiliary, ChangePin, UnblockPin, ChangeCan, ActivatePin, DeactivatePin, NoProtocol, NoStep}
use Rattle.eid_ri.specs.SectorKeys.{PlainSectorKeys}
use Rattle.eid_ri.specs.SectorKeysIn.{sector_keys_in}
use Rattle.eid_model.specs.Sectors.{identifiers, next_point, points_of}
use Rattle.eid_model.specs.Bodies.{data_in, authentication_data}
use Rattle.eid_model.specs.Kinds.{kind_named}
use Rattle.eid_model.specs.Runs.{Phase, Chose, SentNonce, HasBase, HasSecret, choice_in, Authentication, Announced, Challenged, ChoseProtocol}
use Rattle.eid_model.specs.Sessions.{State, unchained}
use Rattle.eid_model.specs.Rules.{Incoming, OfCommand, Situation, RuleRow, transport_rules, naming_rules, request_rules, kind_rules, answer_rules, commit_rules, proof_rules, first_failed, to_commit, bytes_of_file, file_meant, offset_meant}

abbrev pub status_alone : ℕ → PlainReply
status_alone status = record { content = []; status = status }

abbrev pub data_alone : List ℕ → PlainReply
data_alone content = record { content = content; status = 0x9000 }

-- what READ gives of the bytes from the offset on: at most ne of them. The status tells that fewer are
-- left, where ne was not the greatest of its form.
abbrev pub read_reply : List ℕ → ℕ → PlainReply
read_reply left ne = record {
  content = take ne left;
  status = read_status (length left) ne;
}

-- what is told of the password that was chosen
abbrev pub select_reply : PlainRecord → Option PlainChoice → PlainReply
select_reply kept None = status_alone 0x9000
select_reply kept (Some choice) = status_alone (select_status kept choice.password)

-- the encrypted nonce in 80
abbrev pub nonce_reply : PlainRecord → Phase → List Answer → PlainReply
nonce_reply kept (Chose choice) (answers.Nonce nonce ∷ []) =
    data_alone (authentication_data 0x80 (encrypted_nonce (digits_of kept choice.password) nonce))
nonce_reply kept phase answers = status_alone 0x9000

-- the public point of the pair that was drawn, under this tag
abbrev pub point_reply : ℕ → List Answer → PlainReply
point_reply tag (answers.Pair secret public ∷ later) = data_alone (authentication_data tag public)
point_reply tag answers = status_alone 0x9000

-- 88 with the name of the previous trust point, where there is one
abbrev pub previous_name : Option PlainTrustPoint → List ℕ
previous_name None = []
previous_name (Some point) = object 0x88 point.name

-- the chip's token in 86, and in 87 and 88 the names of the trust points
abbrev pub token_reply : PlainRecord → Phase → PlainReply
token_reply kept (HasSecret agreed) =
    data_alone (object 0x7C (object 0x86 (chip_token agreed) ++ object 0x87 kept.current.name ++ previous_name kept.previous))
token_reply kept phase = status_alone 0x9000

-- the challenge
abbrev pub challenge_reply : List Answer → PlainReply
challenge_reply (answers.Challenge challenge ∷ []) = data_alone challenge
challenge_reply answers = status_alone 0x9000

-- the chip's nonce in 81, and in 82 its token over the terminal's point
abbrev pub proof_reply : List ℕ → Authentication → List Answer → PlainReply
proof_reply point (ChoseProtocol chosen) (answers.Challenge nonce ∷ answers.Shared shared ∷ []) =
    data_alone (object 0x7C (object 0x81 nonce ++ object 0x82 (proven_by chosen.protocol point nonce shared).token))
proof_reply point authentication answers = status_alone 0x9000

-- the identifiers in the sectors that were asked for
abbrev pub identifiers_reply : Option PlainSectorKeys → List Answer → PlainReply
identifiers_reply None answers = status_alone 0x9000
identifiers_reply (Some keys) answers = data_alone (object 0x7C (identifiers keys.first keys.second answers))

-- the answer to a command that is carried out
abbrev pub success_of : Kind → Situation → PlainReply
success_of SelectApplication s = status_alone 0x9000
success_of SelectMasterFile s = status_alone 0x9000
success_of SelectFile s = status_alone 0x9000
success_of ReadBinary s =
    read_reply (drop (offset_meant s.command) (unwrap_or (bytes_of_file s.kept (file_meant s)) [])) s.command.ne
success_of UpdateBinary s = status_alone 0x9000
success_of SelectPace s = select_reply s.kept.fields (choice_in s.command.body)
success_of SelectPublicKey s = status_alone 0x9000
success_of VerifyCertificate s = status_alone 0x9000
success_of AnnounceTerminal s = status_alone 0x9000
success_of GetChallenge s = challenge_reply s.answers
success_of ExternalAuthenticate s = status_alone 0x9000
success_of SelectChipAuthentication s = status_alone 0x9000
success_of SelectRestrictedIdentification s = status_alone 0x9000
success_of EncryptedNonce s = nonce_reply s.kept.fields s.state.phase s.answers
success_of MapNonce s = point_reply 0x82 s.answers
success_of PerformKeyAgreement s = point_reply 0x84 s.answers
success_of MutualAuthentication s = token_reply s.kept.fields s.state.phase
success_of AuthenticateChip s = proof_reply (data_in s.command.body) s.state.authentication s.answers
success_of PerformRestrictedIdentification s = identifiers_reply (sector_keys_in s.command.body) s.answers
success_of VerifyAuxiliary s = status_alone 0x9000
success_of ChangePin s = status_alone 0x9000
success_of UnblockPin s = status_alone 0x9000
success_of ChangeCan s = status_alone 0x9000
success_of ActivatePin s = status_alone 0x9000
success_of DeactivatePin s = status_alone 0x9000
success_of NoProtocol s = status_alone 0x9000
success_of NoStep s = status_alone 0x9000

-- the answer to a command of this kind, or to a fragment
abbrev pub success : Option Kind → Situation → PlainReply
success None s = status_alone 0x9000
success (Some kind) s = success_of kind s

-- The number of the first failed rule, or 0, and the answer.
pub record Outcome : Type 0 where
  pub rule : ℕ
  pub reply : PlainReply

abbrev pub outcome_by : Option RuleRow → Situation → Outcome
outcome_by None s = record { rule = 0; reply = success s.kind s }
outcome_by (Some row) s = record { rule = row.number; reply = status_alone (row.status s) }

-- what stands for a command where there is none
abbrev pub no_command : PlainCommand
no_command = record { cla = 0; ins = 0; p1 = 0; p2 = 0; body = []; ne = 0 }

-- the command of what was incoming, where there is one
abbrev pub command_of : Incoming → PlainCommand
command_of (OfCommand c) = c
command_of incoming = no_command

-- the kind of the request that ends with what was incoming
abbrev pub kind_incoming : State → Incoming → Option Kind
kind_incoming state (OfCommand c) = kind_named state.next (request state.chaining c)
kind_incoming state incoming = None

-- what was incoming, as the request that it goes on with
abbrev pub as_request : Option OpenChain → Incoming → Incoming
as_request chain (OfCommand c) = OfCommand (request chain c)
as_request chain incoming = incoming

abbrev pub situation : FullRecord → State → Incoming → List Answer → Situation
situation kept state incoming answers = record {
  incoming = as_request state.chaining incoming;
  unbroken = continues state.chaining (command_of incoming);
  command = request state.chaining (command_of incoming);
  kind = kind_incoming state incoming;
  kept = kept;
  state = unchained state;
  answers = answers;
}

-- ---- questions

-- a nonce is drawn
abbrev pub nonce_question : Phase → List Answer → Option Question
nonce_question (Chose choice) [] = Some questions.Nonce
nonce_question phase answers = None

-- a pair over the generator is drawn, and the nonce is mapped with it
abbrev pub map_question : List ℕ → Phase → List Answer → Option Question
map_question peer (SentNonce sent) [] = Some (questions.Pair None)
map_question peer (SentNonce sent) (answers.Pair secret public ∷ []) = Some (questions.Map sent.nonce secret peer)
map_question peer phase answers = None

-- a pair over the mapped base is drawn, and a secret is agreed with it
abbrev pub agree_question : List ℕ → Phase → List Answer → Option Question
agree_question peer (HasBase mapped) [] = Some (questions.Pair (Some mapped.base))
agree_question peer (HasBase mapped) (answers.Pair secret public ∷ []) = Some (questions.Agree secret peer)
agree_question peer phase answers = None

-- the signature of a certificate is verified, over the digest of the object 7F4E, with the signer's key
abbrev pub verify_question : PlainRecord → PlainChain → Option PlainCertificate → List Answer → Option Question
verify_question kept chain (Some certificate) [] =
    option_map (λ signer. questions.Verify (key_of signer) (sha256 certificate.whole) certificate.signature) (signer_of kept chain certificate.body.issuer)
verify_question kept chain certificate answers = None

-- a challenge is drawn
abbrev pub challenge_question : Authentication → List Answer → Option Question
challenge_question (Announced identity announced) [] = Some questions.Challenge
challenge_question authentication answers = None

-- the terminal's signature is verified, with the key of its certificate
abbrev pub signature_question : List ℕ → Authentication → List Answer → Option Question
signature_question signature (Challenged identity challenged) [] =
    Some (questions.Verify challenged.announced.key (sha256 (signed_bytes identity challenged)) signature)
signature_question signature authentication answers = None

-- a nonce is drawn, and a secret agreed with the chip's static key
abbrev pub chip_question : PlainRecord → List ℕ → Authentication → List Answer → Option Question
chip_question kept point (ChoseProtocol chosen) [] = Some questions.Challenge
chip_question kept point (ChoseProtocol chosen) (answers.Challenge nonce ∷ []) = Some (questions.Agree kept.ca_secret point)
chip_question kept point authentication answers = None

-- a secret is agreed with the chip's static key and each sector key, one behind the other
abbrev pub sector_question : PlainRecord → Option PlainSectorKeys → List Answer → Option Question
sector_question kept keys answers = option_map (λ point. questions.Agree kept.ri_secret point) (next_point (points_of keys) answers)

-- the question of a kind that follows these answers
abbrev pub question_of : Option Kind → Situation → Option Question
question_of None s = None
question_of (Some SelectApplication) s = None
question_of (Some SelectMasterFile) s = None
question_of (Some SelectFile) s = None
question_of (Some ReadBinary) s = None
question_of (Some UpdateBinary) s = None
question_of (Some SelectPace) s = None
question_of (Some SelectPublicKey) s = None
question_of (Some VerifyCertificate) s = verify_question s.kept.fields s.state.certificates (certificate_in s.command.body) s.answers
question_of (Some AnnounceTerminal) s = None
question_of (Some GetChallenge) s = challenge_question s.state.authentication s.answers
question_of (Some ExternalAuthenticate) s = signature_question s.command.body s.state.authentication s.answers
question_of (Some SelectChipAuthentication) s = None
question_of (Some SelectRestrictedIdentification) s = None
question_of (Some EncryptedNonce) s = nonce_question s.state.phase s.answers
question_of (Some MapNonce) s = map_question (data_in s.command.body) s.state.phase s.answers
question_of (Some PerformKeyAgreement) s = agree_question (data_in s.command.body) s.state.phase s.answers
question_of (Some MutualAuthentication) s = None
question_of (Some AuthenticateChip) s = chip_question s.kept.fields (data_in s.command.body) s.state.authentication s.answers
question_of (Some PerformRestrictedIdentification) s = sector_question s.kept.fields (sector_keys_in s.command.body) s.answers
question_of (Some VerifyAuxiliary) s = None
question_of (Some ChangePin) s = None
question_of (Some UnblockPin) s = None
question_of (Some ChangeCan) s = None
question_of (Some ActivatePin) s = None
question_of (Some DeactivatePin) s = None
question_of (Some NoProtocol) s = None
question_of (Some NoStep) s = None

-- the rules before the answers
abbrev pub rules_before : List RuleRow
rules_before = transport_rules ++ naming_rules ++ request_rules ++ kind_rules

-- the next question, by these rules and those over the answers so far: none where one of them fails
abbrev pub question_by : List RuleRow → Situation → Option Question
question_by before s = if is_none (first_failed (before ++ answer_rules) s) then question_of s.kind s else None

unfoldable pub question : Situation → Option Question
question s = question_by rules_before s

-- the outcome, by these rules and those over all answers
abbrev pub outcome_of : List RuleRow → Situation → Outcome
outcome_of before s = outcome_by (first_failed (before ++ answer_rules ++ commit_rules ++ proof_rules) s) s

unfoldable pub outcome : Situation → Outcome
outcome s = outcome_of rules_before s

-- ---- commits

-- The effects due, by these rules, those over the answers and those on commits: all that the kind commits; none where one
-- of them fails.
abbrev pub due_by : List RuleRow → Situation → List PlainEffect
due_by before s = if is_none (first_failed (before ++ answer_rules ++ commit_rules) s) then to_commit s.kind s else []

unfoldable pub due : Situation → List PlainEffect
due s = due_by rules_before s

-- What a session's moments leave, by looking back over them.
use Rattle.std.specs.Prelude.{ℕ, ◌+◌, ◌*◌, ◌-◌, ◌%◌, ◌^◌, Bool, true, false, not, List, [], ◌∷◌, Option, Some, None, is_some, unwrap_or, option_map, option_and_then, if◌then◌else◌, slice_index}
use Rattle.std.specs.Option.{option_or}
use Rattle.eid_apdu.specs.Command.{PlainCommand}
use Rattle.eid_apdu.specs.Chaining.{OpenChain}
use Rattle.eid_record.specs.declared.fields.Password.{Password}
use Rattle.eid_pace.specs.States.{PlainDone}
use Rattle.eid_pace.specs.Check.{done_by}
use Rattle.eid_record.specs.Plain.{PlainRecord}
use Rattle.eid_bits.specs.Rights.{role_of}
use Rattle.eid_cvc.specs.Certificates.{PlainBody}
use Rattle.eid_cvc.specs.CertificateIn.{certificate_in}
use Rattle.eid_cvc.specs.Chains.{PlainChain, PlainTerminalKnown, no_chain}
use Rattle.eid_copro.specs.declared.ask.Answer.{Answer}
use Rattle.eid_copro.specs.declared.ask.Answer.TheVariants as answers
use Rattle.eid_ta.specs.Announcing.{known_by}
use Rattle.eid_ca.specs.Keys.{enc_key, mac_key}
use Rattle.eid_trust.specs.Trust.{is_link, is_verifier_role, is_terminal_role, no_sectors, party_of, point_named}
use Rattle.eid_sm.specs.Keys.{Keys, ChannelState}
use Rattle.eid_model.specs.declared.kind.Kind.{Kind}
use Rattle.eid_model.specs.declared.kind.Kind.TheVariants.{SelectApplication, SelectMasterFile, SelectFile, ReadBinary, UpdateBinary, SelectPace, SelectPublicKey, VerifyCertificate, AnnounceTerminal, GetChallenge, ExternalAuthenticate, SelectChipAuthentication, SelectRestrictedIdentification, EncryptedNonce, MapNonce, PerformKeyAgreement, MutualAuthentication, AuthenticateChip, PerformRestrictedIdentification, VerifyAuxiliary, ChangePin, UnblockPin, ChangeCan, ActivatePin, DeactivatePin, NoProtocol, NoStep}
use Rattle.eid_files.specs.Names.{file_of_id, file_of_short}
use Rattle.eid_model.specs.Kinds.{is_by_short}
use Rattle.eid_model.specs.Moments.{PlainMoment, ends_session}
use Rattle.eid_model.specs.Chains.{chaining, request_of}
use Rattle.eid_model.specs.Runs.{kind_done, run, next, Phase, Idle, Chose, SentNonce, HasBase, HasSecret, ChoseKey, phase, answers_of, Context, Authentication, NotBegun, Announced, Challenged, ChoseProtocol, authentication}

-- the kind that the newest moment carried out
abbrev pub kind_of_moment : PlainMoment → List PlainMoment → Option Kind
kind_of_moment m before = kind_done (next (run before)) m before

-- what a kind carried out makes of the selection: the application, or the master file
abbrev pub selects : Kind → Option Bool
selects SelectApplication = Some true
selects SelectMasterFile = Some false
selects SelectFile = None
selects ReadBinary = None
selects UpdateBinary = None
selects SelectPace = None
selects SelectPublicKey = None
selects VerifyCertificate = None
selects AnnounceTerminal = None
selects GetChallenge = None
selects ExternalAuthenticate = None
selects SelectChipAuthentication = None
selects SelectRestrictedIdentification = None
selects EncryptedNonce = None
selects MapNonce = None
selects PerformKeyAgreement = None
selects MutualAuthentication = None
selects AuthenticateChip = None
selects PerformRestrictedIdentification = None
selects VerifyAuxiliary = None
selects ChangePin = None
selects UnblockPin = None
selects ChangeCan = None
selects ActivatePin = None
selects DeactivatePin = None
selects NoProtocol = None
selects NoStep = None

-- two bytes as one number, big-endian
abbrev pub number_of_two : List ℕ → ℕ
number_of_two bytes = 256 * slice_index bytes 0 + slice_index bytes 1

-- the file that a command names where it is carried out: by its identifier, or by a short identifier
abbrev pub names : Kind → PlainCommand → Option ℕ
names SelectApplication c = None
names SelectMasterFile c = None
names SelectFile c = file_of_id (number_of_two c.body)
names ReadBinary c = if is_by_short c then file_of_short (c.p1 - 0x80) else None
names UpdateBinary c = if is_by_short c then file_of_short (c.p1 - 0x80) else None
names SelectPace c = None
names SelectPublicKey c = None
names VerifyCertificate c = None
names AnnounceTerminal c = None
names GetChallenge c = None
names ExternalAuthenticate c = None
names SelectChipAuthentication c = None
names SelectRestrictedIdentification c = None
names EncryptedNonce c = None
names MapNonce c = None
names PerformKeyAgreement c = None
names MutualAuthentication c = None
names AuthenticateChip c = None
names PerformRestrictedIdentification c = None
names VerifyAuxiliary c = None
names ChangePin c = None
names UnblockPin c = None
names ChangeCan c = None
names ActivatePin c = None
names DeactivatePin c = None
names NoProtocol c = None
names NoStep c = None

abbrev pub selection : Option Kind → Option Bool
selection kind = option_and_then selects kind

abbrev pub naming : Option Kind → Option PlainCommand → Option ℕ
naming kind request = option_and_then (λ k. option_and_then (names k) request) kind

-- the last of the application and the master file to be selected is the application
abbrev pub selected : List PlainMoment → Bool
selected [] = false
selected (m ∷ before) = unwrap_or (selection (kind_of_moment m before)) (selected before)

-- the file last named after the last selection of the application or of the master file
abbrev pub current : List PlainMoment → Option ℕ
current [] = None
current (m ∷ before) =
    if is_some (selection (kind_of_moment m before)) then None else option_or (naming (kind_of_moment m before) (request_of m before)) (current before)

-- the PACE that ends with a secret agreed
abbrev pub done_with : Phase → Option PlainDone
done_with Idle = None
done_with (Chose choice) = None
done_with (SentNonce sent) = None
done_with (HasBase mapped) = None
done_with (HasSecret agreed) = Some (done_by agreed)
done_with (ChoseKey name) = None

-- the PACE that ends with this kind, where the run has come so far
abbrev pub pace_done : Kind → Phase → Option PlainDone
pace_done SelectApplication phase = None
pace_done SelectMasterFile phase = None
pace_done SelectFile phase = None
pace_done ReadBinary phase = None
pace_done UpdateBinary phase = None
pace_done SelectPace phase = None
pace_done SelectPublicKey phase = None
pace_done VerifyCertificate phase = None
pace_done AnnounceTerminal phase = None
pace_done GetChallenge phase = None
pace_done ExternalAuthenticate phase = None
pace_done SelectChipAuthentication phase = None
pace_done SelectRestrictedIdentification phase = None
pace_done EncryptedNonce phase = None
pace_done MapNonce phase = None
pace_done PerformKeyAgreement phase = None
pace_done MutualAuthentication phase = done_with phase
pace_done AuthenticateChip phase = None
pace_done PerformRestrictedIdentification phase = None
pace_done VerifyAuxiliary phase = None
pace_done ChangePin phase = None
pace_done UnblockPin phase = None
pace_done ChangeCan phase = None
pace_done ActivatePin phase = None
pace_done DeactivatePin phase = None
pace_done NoProtocol phase = None
pace_done NoStep phase = None

abbrev pub pace_by : Option Kind → Phase → Option PlainDone
pace_by None phase = None
pace_by (Some kind) phase = pace_done kind phase

-- the PACE that the newest moment completed
abbrev pub pace_completed : PlainMoment → List PlainMoment → Option PlainDone
pace_completed m before = pace_by (kind_of_moment m before) (phase (run before))

-- the last PACE
abbrev pub pace : List PlainMoment → Option PlainDone
pace [] = None
pace (m ∷ before) = option_or (pace_completed m before) (pace before)

-- the keys of secure messaging that a PACE agreed
abbrev pub keys_of : PlainDone → Keys
keys_of done = record { enc = done.enc; mac = done.mac }

-- and those that a chip authentication agreed, by its nonce and its secret
abbrev pub keys_agreed : List Answer → Option Keys
keys_agreed (answers.Challenge nonce ∷ answers.Shared shared ∷ []) = Some (record { enc = enc_key shared nonce; mac = mac_key shared nonce })
keys_agreed answers = None

-- the keys with which a kind opens a channel
abbrev pub keys_by : Kind → List Answer → Phase → Option Keys
keys_by SelectApplication given phase = None
keys_by SelectMasterFile given phase = None
keys_by SelectFile given phase = None
keys_by ReadBinary given phase = None
keys_by UpdateBinary given phase = None
keys_by SelectPace given phase = None
keys_by SelectPublicKey given phase = None
keys_by VerifyCertificate given phase = None
keys_by AnnounceTerminal given phase = None
keys_by GetChallenge given phase = None
keys_by ExternalAuthenticate given phase = None
keys_by SelectChipAuthentication given phase = None
keys_by SelectRestrictedIdentification given phase = None
keys_by EncryptedNonce given phase = None
keys_by MapNonce given phase = None
keys_by PerformKeyAgreement given phase = None
keys_by MutualAuthentication given phase = option_map keys_of (done_with phase)
keys_by AuthenticateChip given phase = keys_agreed given
keys_by PerformRestrictedIdentification given phase = None
keys_by VerifyAuxiliary given phase = None
keys_by ChangePin given phase = None
keys_by UnblockPin given phase = None
keys_by ChangeCan given phase = None
keys_by ActivatePin given phase = None
keys_by DeactivatePin given phase = None
keys_by NoProtocol given phase = None
keys_by NoStep given phase = None

abbrev pub keys_with : Option Kind → List Answer → Phase → Option Keys
keys_with None given phase = None
keys_with (Some kind) given phase = keys_by kind given phase

-- the keys that the newest moment opened a channel with
abbrev pub opened : PlainMoment → List PlainMoment → Option Keys
opened m before = keys_with (kind_of_moment m before) (answers_of m.asks) (phase (run before))

-- the keys of the channel that was opened last
abbrev pub channel_keys : List PlainMoment → Option Keys
channel_keys [] = None
channel_keys (m ∷ before) = option_or (opened m before) (channel_keys before)

-- the number of commands after it was opened: in a session each moment is one
abbrev pub commands_since_opening : List PlainMoment → ℕ
commands_since_opening [] = 0
commands_since_opening (m ∷ before) = if is_some (opened m before) then 0 else commands_since_opening before + 1

-- a channel with these keys, after so many commands with their replies: each message has raised the send sequence
-- counter by one
abbrev pub channel_after : ℕ → Keys → ChannelState
channel_after commands keys = record { keys = keys; counter = 2 * commands % 2 ^ 128 }

-- the channel: the keys, and the send sequence counter
abbrev pub channel : List PlainMoment → Option ChannelState
channel session = option_map (channel_after (commands_since_opening session)) (channel_keys session)

-- ---- the certificates accepted since the last PACE

-- the certificate that a kind accepts where it is carried out
abbrev pub accepts : Kind → PlainCommand → Option PlainBody
accepts SelectApplication c = None
accepts SelectMasterFile c = None
accepts SelectFile c = None
accepts ReadBinary c = None
accepts UpdateBinary c = None
accepts SelectPace c = None
accepts SelectPublicKey c = None
accepts VerifyCertificate c = option_map (λ certificate. certificate.body) (certificate_in c.body)
accepts AnnounceTerminal c = None
accepts GetChallenge c = None
accepts ExternalAuthenticate c = None
accepts SelectChipAuthentication c = None
accepts SelectRestrictedIdentification c = None
accepts EncryptedNonce c = None
accepts MapNonce c = None
accepts PerformKeyAgreement c = None
accepts MutualAuthentication c = None
accepts AuthenticateChip c = None
accepts PerformRestrictedIdentification c = None
accepts VerifyAuxiliary c = None
accepts ChangePin c = None
accepts UnblockPin c = None
accepts ChangeCan c = None
accepts ActivatePin c = None
accepts DeactivatePin c = None
accepts NoProtocol c = None
accepts NoStep c = None

abbrev pub accepted_by : Option Kind → Option PlainCommand → Option PlainBody
accepted_by kind request = option_and_then (λ k. option_and_then (accepts k) request) kind

-- A certificate that was accepted: what it says, and the record kept before it.
pub record Accepted : Type 0 where
  pub kept : PlainRecord
  pub certificate : PlainBody

-- those accepted, the newest first, with one more or none
abbrev pub accepted_with : PlainRecord → Option PlainBody → List Accepted → List Accepted
accepted_with kept None before = before
accepted_with kept (Some certificate) before = record { kept = kept; certificate = certificate } ∷ before

-- and behind a command, which may have completed a PACE
abbrev pub accepted_behind : PlainRecord → Option PlainDone → Option PlainBody → List Accepted → List Accepted
accepted_behind kept None certificate before = accepted_with kept certificate before
accepted_behind kept (Some done) certificate before = []

-- those that count after the newest moment of a session, by the record kept before it
abbrev pub accepted_more : PlainRecord → PlainMoment → List PlainMoment → List Accepted → List Accepted
accepted_more kept m session before =
    if ends_session m then []
    else accepted_behind kept (pace_completed m session) (accepted_by (kind_of_moment m session) (request_of m session)) before

-- the last of them of which this holds
abbrev pub last_such : (PlainBody → Bool) → List Accepted → Option Accepted
last_such is_such [] = None
last_such is_such (a ∷ before) = if is_such a.certificate then Some a else last_such is_such before

-- the last document verifier
abbrev pub last_verifier : List Accepted → Option Accepted
last_verifier accepted = last_such (λ c. is_verifier_role (role_of c.template)) accepted

abbrev pub if_terminal : Option Accepted → Option PlainBody
if_terminal None = None
if_terminal (Some a) = if is_terminal_role (role_of a.certificate.template) then Some a.certificate else None

-- the last certificate that is no link, where it is a terminal's
abbrev pub last_terminal : List Accepted → Option PlainBody
last_terminal accepted = if_terminal (last_such (λ c. not (is_link c)) accepted)

-- the template of the trust point under which a certificate was accepted, as it stood then
abbrev pub template_above : Accepted → Option (List ℕ)
template_above a = option_map (λ point. point.template) (point_named a.kept a.certificate.issuer)

abbrev pub sectors_of : Option PlainBody → List (Option (List ℕ))
sectors_of None = no_sectors
sectors_of (Some c) = c.sectors

-- The chain: the last document verifier, the trust point above it, and the last terminal, where no document verifier came
-- behind it.
abbrev pub chain_left : List Accepted → PlainChain
chain_left accepted = record {
  root = option_and_then template_above (last_verifier accepted);
  verifier = option_map (λ a. party_of a.certificate) (last_verifier accepted);
  terminal = option_map party_of (last_terminal accepted);
  sectors = sectors_of (last_terminal accepted);
}

-- ---- the terminal that has authenticated itself

-- by its challenge, which it signed
abbrev pub known_after : Authentication → Option PlainTerminalKnown
known_after NotBegun = None
known_after (Announced identity announced) = None
known_after (Challenged identity challenged) = Some (known_by challenged)
known_after (ChoseProtocol chosen) = None

-- the terminal that a kind makes known where it is carried out
abbrev pub makes_known : Kind → Authentication → Option PlainTerminalKnown
makes_known SelectApplication before = None
makes_known SelectMasterFile before = None
makes_known SelectFile before = None
makes_known ReadBinary before = None
makes_known UpdateBinary before = None
makes_known SelectPace before = None
makes_known SelectPublicKey before = None
makes_known VerifyCertificate before = None
makes_known AnnounceTerminal before = None
makes_known GetChallenge before = None
makes_known ExternalAuthenticate before = known_after before
makes_known SelectChipAuthentication before = None
makes_known SelectRestrictedIdentification before = None
makes_known EncryptedNonce before = None
makes_known MapNonce before = None
makes_known PerformKeyAgreement before = None
makes_known MutualAuthentication before = None
makes_known AuthenticateChip before = None
makes_known PerformRestrictedIdentification before = None
makes_known VerifyAuxiliary before = None
makes_known ChangePin before = None
makes_known UnblockPin before = None
makes_known ChangeCan before = None
makes_known ActivatePin before = None
makes_known DeactivatePin before = None
makes_known NoProtocol before = None
makes_known NoStep before = None

abbrev pub made_known : Option Kind → Authentication → Option PlainTerminalKnown
made_known kind before = option_and_then (λ k. makes_known k before) kind

-- the terminal known behind a command, which may have completed a PACE, or made one known
abbrev pub terminal_behind : Option PlainDone → Option PlainTerminalKnown → Option PlainTerminalKnown → Option PlainTerminalKnown
terminal_behind None known before = option_or known before
terminal_behind (Some done) known before = None

-- what a session found of this PACE, these certificates, and this terminal
abbrev pub context_of : Option PlainDone → List Accepted → Option PlainTerminalKnown → Context
context_of done accepted terminal =
    record { identity = option_map (λ d. d.identity) done; certificates = chain_left accepted; terminal = terminal }

-- the terminal known after the newest moment of a session, by the certificates and the terminal before it
abbrev pub terminal_more : PlainMoment → List PlainMoment → List Accepted → Option PlainTerminalKnown → Option PlainTerminalKnown
terminal_more m session accepted before =
    if ends_session m then None
    else terminal_behind (pace_completed m session)
    (made_known (kind_of_moment m session) (authentication (context_of (pace session) accepted before) (run session))) before

-- whether a kind proves the chip, or ends that it counts
abbrev pub proves_chip : Kind → Option Bool
proves_chip SelectApplication = None
proves_chip SelectMasterFile = None
proves_chip SelectFile = None
proves_chip ReadBinary = None
proves_chip UpdateBinary = None
proves_chip SelectPace = None
proves_chip SelectPublicKey = None
proves_chip VerifyCertificate = None
proves_chip AnnounceTerminal = None
proves_chip GetChallenge = None
proves_chip ExternalAuthenticate = Some false
proves_chip SelectChipAuthentication = None
proves_chip SelectRestrictedIdentification = None
proves_chip EncryptedNonce = None
proves_chip MapNonce = None
proves_chip PerformKeyAgreement = None
proves_chip MutualAuthentication = Some false
proves_chip AuthenticateChip = Some true
proves_chip PerformRestrictedIdentification = None
proves_chip VerifyAuxiliary = None
proves_chip ChangePin = None
proves_chip UnblockPin = None
proves_chip ChangeCan = None
proves_chip ActivatePin = None
proves_chip DeactivatePin = None
proves_chip NoProtocol = None
proves_chip NoStep = None

abbrev pub chip_proof : Option Kind → Option Bool
chip_proof kind = option_and_then proves_chip kind

-- chip authentication succeeded after the last terminal authentication, and after the last PACE
abbrev pub chip_proven : List PlainMoment → Bool
chip_proven [] = false
chip_proven (m ∷ before) = unwrap_or (chip_proof (kind_of_moment m before)) (chip_proven before)

-- ---- the state

-- What is asked of the last PACE later.
pub record PaceMemory : Type 0 where
  pub password : Password
  pub template : Option (List ℕ)
  pub identity : List ℕ

abbrev pub memory_of : PlainDone → PaceMemory
memory_of done = record { password = done.password; template = done.template; identity = done.identity }

-- What the moments of a session leave.
pub record State : Type 0 where
  -- the step that comes next in the run
  pub next : Option Kind
  -- what later steps need of the run
  pub phase : Phase
  -- what later steps of terminal and chip authentication need of the run
  pub authentication : Authentication
  -- the application is selected
  pub selected : Bool
  -- the current file
  pub current : Option ℕ
  -- the last PACE
  pub pace : Option PaceMemory
  -- what the certificates accepted since then leave
  pub certificates : PlainChain
  -- the terminal that has authenticated itself since then
  pub terminal : Option PlainTerminalKnown
  -- the chip has authenticated itself since then
  pub chip_proven : Bool
  -- the keys and the counter of secure messaging
  pub channel : Option ChannelState
  -- the chain of fragments that is open
  pub chaining : Option OpenChain

abbrev pub state_in : List Accepted → Option PlainTerminalKnown → List PlainMoment → State
state_in accepted terminal session = record {
  next = next (run session);
  phase = phase (run session);
  authentication = authentication (context_of (pace session) accepted terminal) (run session);
  selected = selected session;
  current = current session;
  pace = option_map memory_of (pace session);
  certificates = chain_left accepted;
  terminal = terminal;
  chip_proven = chip_proven session;
  channel = channel session;
  chaining = chaining session;
}

-- the state where a session begins
abbrev pub fresh : State
fresh = record {
  next = None;
  phase = Idle;
  authentication = NotBegun;
  selected = false;
  current = None;
  pace = None;
  certificates = no_chain;
  terminal = None;
  chip_proven = false;
  channel = None;
  chaining = None;
}

-- the state beside its chain of fragments: what a whole request finds
abbrev pub unchained : State → State
unchained s = record s { chaining = None }

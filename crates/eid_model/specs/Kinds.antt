-- The command kinds: class, instruction and parameters of each (ISO/IEC 7816-4, BSI TR-03110-3), and
-- the files that commands name (BSI TR-03110-4).
use Rattle.std.specs.Prelude.{ℕ, ◌+◌, ◌*◌, Bool, true, false, ◌==◌, ◌&&◌, nat_lt, nat_le, List, [], ◌∷◌, Option, Some, None, is_some, option_map, if◌then◌else◌, find}
use Rattle.std.specs.List.{list_any}
use Rattle.eid_apdu.specs.Command.{PlainCommand}
use Rattle.eid_apdu.specs.Chaining.{is_fragment}
use Rattle.eid_bits.specs.declared.identifier.Known.TheVariants.{RiSha256}
use Rattle.eid_ca.specs.Selections.{chosen_in, names}
use Rattle.eid_model.specs.declared.kind.Kind.{Kind}
use Rattle.eid_model.specs.declared.kind.Kind.TheVariants.{SelectApplication, SelectMasterFile, SelectFile, ReadBinary, UpdateBinary, SelectPace, SelectPublicKey, VerifyCertificate, AnnounceTerminal, GetChallenge, ExternalAuthenticate, SelectChipAuthentication, SelectRestrictedIdentification, EncryptedNonce, MapNonce, PerformKeyAgreement, MutualAuthentication, AuthenticateChip, PerformRestrictedIdentification, VerifyAuxiliary, ChangePin, UnblockPin, ChangeCan, ActivatePin, DeactivatePin, NoProtocol, NoStep}

-- The kinds by number, in the order of the table. Two numbers are not of a kind: 25 is that of a fragment, and 26 that of a
-- command that no kind fits.
abbrev pub number_of : Kind → ℕ
number_of SelectApplication = 0
number_of SelectMasterFile = 1
number_of SelectFile = 2
number_of ReadBinary = 3
number_of UpdateBinary = 4
number_of SelectPace = 5
number_of SelectPublicKey = 6
number_of VerifyCertificate = 7
number_of AnnounceTerminal = 8
number_of GetChallenge = 9
number_of ExternalAuthenticate = 10
number_of SelectChipAuthentication = 11
number_of SelectRestrictedIdentification = 12
number_of EncryptedNonce = 13
number_of MapNonce = 14
number_of PerformKeyAgreement = 15
number_of MutualAuthentication = 16
number_of AuthenticateChip = 17
number_of PerformRestrictedIdentification = 18
number_of VerifyAuxiliary = 19
number_of ChangePin = 20
number_of UnblockPin = 21
number_of ChangeCan = 22
number_of ActivatePin = 23
number_of DeactivatePin = 24
number_of NoProtocol = 28
number_of NoStep = 27

abbrev pub same_kind : Kind → Kind → Bool
same_kind a b = number_of a == number_of b

-- P1 and P2 as one number
abbrev pub p1p2 : PlainCommand → ℕ
p1p2 c = 256 * c.p1 + c.p2

-- READ BINARY and UPDATE BINARY by short identifier have 80 to 9F as P1, and the offset as P2; by offset alone P1 is below 80
abbrev pub is_by_short : PlainCommand → Bool
is_by_short c = nat_le 0x80 c.p1

-- A row of the table: the kind, its classes, its instruction, a test of P1 and P2, and when a command is of this kind: by the
-- run's next step, and by the body of its request.
pub record KindRow : Type 0 where
  pub kind : Kind
  pub classes : List ℕ
  pub instruction : ℕ
  pub parameters : ℕ → Bool
  pub comes : Option Kind → List ℕ → Bool

abbrev pub always : Option Kind → List ℕ → Bool
always next body = true

-- a step is of its kind where the run has come to it
abbrev pub in_turn : Kind → Option Kind → List ℕ → Bool
in_turn kind None body = false
in_turn kind (Some next) body = same_kind kind next

-- a selection of chip authentication is of its kind where the body names a protocol of it
abbrev pub with_protocol : Option Kind → List ℕ → Bool
with_protocol next body = is_some (chosen_in body)

-- and one of restricted identification where it names that
abbrev pub with_identification : Option Kind → List ℕ → Bool
with_identification next body = names RiSha256 body

abbrev pub kinds : List KindRow
kinds =
    record { kind = SelectApplication; classes = 0x00 ∷ []; instruction = 0xA4; parameters = λ p. p == 0x040C; comes = always } ∷
    record { kind = SelectMasterFile; classes = 0x00 ∷ []; instruction = 0xA4; parameters = λ p. p == 0x000C; comes = always } ∷
    record { kind = SelectFile; classes = 0x00 ∷ []; instruction = 0xA4; parameters = λ p. p == 0x020C; comes = always } ∷
    record { kind = ReadBinary; classes = 0x00 ∷ []; instruction = 0xB0; parameters = λ p. nat_lt p 0xA000; comes = always } ∷
    record { kind = UpdateBinary; classes = 0x00 ∷ 0x10 ∷ []; instruction = 0xD6; parameters = λ p. nat_lt p 0xA000; comes = always } ∷
    record { kind = SelectPace; classes = 0x00 ∷ 0x10 ∷ []; instruction = 0x22; parameters = λ p. p == 0xC1A4; comes = always } ∷
    record { kind = SelectPublicKey; classes = 0x00 ∷ 0x10 ∷ []; instruction = 0x22; parameters = λ p. p == 0x81B6; comes = always } ∷
    record { kind = VerifyCertificate; classes = 0x00 ∷ 0x10 ∷ []; instruction = 0x2A; parameters = λ p. p == 0x00BE; comes = in_turn VerifyCertificate } ∷
    record { kind = AnnounceTerminal; classes = 0x00 ∷ 0x10 ∷ []; instruction = 0x22; parameters = λ p. p == 0x81A4; comes = always } ∷
    record { kind = GetChallenge; classes = 0x00 ∷ []; instruction = 0x84; parameters = λ p. p == 0; comes = in_turn GetChallenge } ∷
    record { kind = ExternalAuthenticate; classes = 0x00 ∷ []; instruction = 0x82; parameters = λ p. p == 0; comes = in_turn ExternalAuthenticate } ∷
    record { kind = SelectChipAuthentication; classes = 0x00 ∷ 0x10 ∷ []; instruction = 0x22; parameters = λ p. p == 0x41A4; comes = with_protocol } ∷
    record { kind = SelectRestrictedIdentification; classes = 0x00 ∷ 0x10 ∷ []; instruction = 0x22; parameters = λ p. p == 0x41A4; comes = with_identification } ∷
    record { kind = EncryptedNonce; classes = 0x10 ∷ []; instruction = 0x86; parameters = λ p. p == 0; comes = in_turn EncryptedNonce } ∷
    record { kind = MapNonce; classes = 0x10 ∷ []; instruction = 0x86; parameters = λ p. p == 0; comes = in_turn MapNonce } ∷
    record { kind = PerformKeyAgreement; classes = 0x10 ∷ []; instruction = 0x86; parameters = λ p. p == 0; comes = in_turn PerformKeyAgreement } ∷
    record { kind = MutualAuthentication; classes = 0x00 ∷ []; instruction = 0x86; parameters = λ p. p == 0; comes = in_turn MutualAuthentication } ∷
    record { kind = AuthenticateChip; classes = 0x00 ∷ []; instruction = 0x86; parameters = λ p. p == 0; comes = in_turn AuthenticateChip } ∷
    record { kind = PerformRestrictedIdentification; classes = 0x00 ∷ []; instruction = 0x86; parameters = λ p. p == 0; comes = in_turn PerformRestrictedIdentification } ∷
    record { kind = VerifyAuxiliary; classes = 0x80 ∷ []; instruction = 0x20; parameters = λ p. p == 0x8000; comes = always } ∷
    record { kind = ChangePin; classes = 0x00 ∷ []; instruction = 0x2C; parameters = λ p. p == 0x0203; comes = always } ∷
    record { kind = UnblockPin; classes = 0x00 ∷ []; instruction = 0x2C; parameters = λ p. p == 0x0303; comes = always } ∷
    record { kind = ChangeCan; classes = 0x00 ∷ []; instruction = 0x2C; parameters = λ p. p == 0x0202; comes = always } ∷
    record { kind = ActivatePin; classes = 0x00 ∷ []; instruction = 0x44; parameters = λ p. p == 0x1003; comes = always } ∷
    record { kind = DeactivatePin; classes = 0x00 ∷ []; instruction = 0x04; parameters = λ p. p == 0x1003; comes = always } ∷
    -- an MSE:Set AT that names no protocol of its parameters
    record { kind = NoProtocol; classes = 0x00 ∷ []; instruction = 0x22; parameters = λ p. p == 0x41A4; comes = always } ∷
    -- a step that the run has not come to
    record { kind = NoStep; classes = 0x00 ∷ 0x10 ∷ []; instruction = 0x86; parameters = λ p. p == 0; comes = always } ∷
    record { kind = NoStep; classes = 0x00 ∷ []; instruction = 0x2A; parameters = λ p. p == 0x00BE; comes = always } ∷
    record { kind = NoStep; classes = 0x00 ∷ []; instruction = 0x84; parameters = λ p. p == 0; comes = always } ∷
    record { kind = NoStep; classes = 0x00 ∷ []; instruction = 0x82; parameters = λ p. p == 0; comes = always } ∷ []

-- the row has the command's class and instruction
abbrev pub has_instruction : PlainCommand → KindRow → Bool
has_instruction c row = list_any (λ class. class == c.cla) row.classes && row.instruction == c.ins

-- and its parameters too
abbrev pub has_parameters : PlainCommand → KindRow → Bool
has_parameters c row = has_instruction c row && row.parameters (p1p2 c)

-- the kind of a request, where this step comes next in the run
abbrev pub kind_in_table : Option Kind → PlainCommand → Option Kind
kind_in_table next c = option_map (λ row. row.kind) (find (λ row. has_parameters c row && row.comes next c.body) kinds)

-- the row is of this kind, and has the command's instruction and parameters
abbrev pub is_for : Kind → PlainCommand → KindRow → Bool
is_for kind c row = same_kind row.kind kind && row.instruction == c.ins && row.parameters (p1p2 c)

-- the command has the instruction and the parameters of this kind
abbrev pub has_form_of : Kind → PlainCommand → Bool
has_form_of kind c = list_any (is_for kind c) kinds

-- a fragment has none: it is the closing command that makes the request one of a kind
abbrev pub kind_named : Option Kind → PlainCommand → Option Kind
kind_named next c = if is_fragment c then None else kind_in_table next c

-- the step that comes behind a command of this kind, in its run
abbrev pub step_after : Kind → Option Kind
step_after SelectApplication = None
step_after SelectMasterFile = None
step_after SelectFile = None
step_after ReadBinary = None
step_after UpdateBinary = None
step_after SelectPace = Some EncryptedNonce
step_after SelectPublicKey = Some VerifyCertificate
step_after VerifyCertificate = None
step_after AnnounceTerminal = Some GetChallenge
step_after GetChallenge = Some ExternalAuthenticate
step_after ExternalAuthenticate = None
step_after SelectChipAuthentication = Some AuthenticateChip
step_after SelectRestrictedIdentification = Some PerformRestrictedIdentification
step_after EncryptedNonce = Some MapNonce
step_after MapNonce = Some PerformKeyAgreement
step_after PerformKeyAgreement = Some MutualAuthentication
step_after MutualAuthentication = None
step_after AuthenticateChip = None
step_after PerformRestrictedIdentification = None
step_after VerifyAuxiliary = None
step_after ChangePin = None
step_after UnblockPin = None
step_after ChangeCan = None
step_after ActivatePin = None
step_after DeactivatePin = None
step_after NoProtocol = None
step_after NoStep = None

-- a command of this kind begins a run, or goes on in it
abbrev pub begins_run : Kind → Bool
begins_run SelectApplication = false
begins_run SelectMasterFile = false
begins_run SelectFile = false
begins_run ReadBinary = false
begins_run UpdateBinary = false
begins_run SelectPace = true
begins_run SelectPublicKey = true
begins_run VerifyCertificate = false
begins_run AnnounceTerminal = true
begins_run GetChallenge = false
begins_run ExternalAuthenticate = false
begins_run SelectChipAuthentication = true
begins_run SelectRestrictedIdentification = true
begins_run EncryptedNonce = false
begins_run MapNonce = false
begins_run PerformKeyAgreement = false
begins_run MutualAuthentication = false
begins_run AuthenticateChip = false
begins_run PerformRestrictedIdentification = false
begins_run VerifyAuxiliary = false
begins_run ChangePin = false
begins_run UnblockPin = false
begins_run ChangeCan = false
begins_run ActivatePin = false
begins_run DeactivatePin = false
begins_run NoProtocol = false
begins_run NoStep = false

abbrev pub goes_on_in_run : Kind → Bool
goes_on_in_run SelectApplication = false
goes_on_in_run SelectMasterFile = false
goes_on_in_run SelectFile = false
goes_on_in_run ReadBinary = false
goes_on_in_run UpdateBinary = false
goes_on_in_run SelectPace = false
goes_on_in_run SelectPublicKey = false
goes_on_in_run VerifyCertificate = true
goes_on_in_run AnnounceTerminal = false
goes_on_in_run GetChallenge = true
goes_on_in_run ExternalAuthenticate = true
goes_on_in_run SelectChipAuthentication = false
goes_on_in_run SelectRestrictedIdentification = false
goes_on_in_run EncryptedNonce = true
goes_on_in_run MapNonce = true
goes_on_in_run PerformKeyAgreement = true
goes_on_in_run MutualAuthentication = true
goes_on_in_run AuthenticateChip = true
goes_on_in_run PerformRestrictedIdentification = true
goes_on_in_run VerifyAuxiliary = false
goes_on_in_run ChangePin = false
goes_on_in_run UnblockPin = false
goes_on_in_run ChangeCan = false
goes_on_in_run ActivatePin = false
goes_on_in_run DeactivatePin = false
goes_on_in_run NoProtocol = false
goes_on_in_run NoStep = false

-- the identifier of the eID application
abbrev pub application_id : List ℕ
application_id = 0xE8 ∷ 0x07 ∷ 0x04 ∷ 0x00 ∷ 0x7F ∷ 0x00 ∷ 0x07 ∷ 0x03 ∷ 0x02 ∷ []

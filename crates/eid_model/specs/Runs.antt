-- Runs: a selection and the steps that follow it, each directly behind the one before (BSI TR-03110-3). A run is a
-- list of steps with the newest first.
use Rattle.std.specs.Prelude.{ℕ, Bool, false, List, [], ◌∷◌, map, Option, Some, None, option_and_then, if◌then◌else◌}
use Rattle.eid_apdu.specs.Command.{PlainCommand}
use Rattle.eid_copro.specs.declared.ask.Ask.{Ask}
use Rattle.eid_copro.specs.declared.ask.Answer.{Answer}
use Rattle.eid_copro.specs.declared.ask.Answer.TheVariants as answers
use Rattle.eid_pace.specs.States.{PlainChoice, PlainNonceSent, PlainMapped, PlainAgreed}
use Rattle.eid_pace.specs.Selections.{chosen_by}
use Rattle.eid_pace.specs.SelectionIn.{selection_in}
use Rattle.std.specs.Result.{result_ok}
use Rattle.eid_cvc.specs.Chains.{PlainChain, PlainTerminalKnown}
use Rattle.eid_ta.specs.States.{PlainAnnounced, PlainChallenged}
use Rattle.eid_ta.specs.Announcing.{announced_in}
use Rattle.eid_ta.specs.AnnouncementIn.{announcement_in}
use Rattle.eid_ca.specs.States.{PlainCaChosen}
use Rattle.eid_ca.specs.Selections.{chosen_in, chosen_by as chip_chosen_by}
use Rattle.eid_model.specs.declared.kind.Kind.{Kind}
use Rattle.eid_model.specs.declared.kind.Kind.TheVariants.{SelectApplication, SelectMasterFile, SelectFile, ReadBinary, UpdateBinary, SelectPace, SelectPublicKey, VerifyCertificate, AnnounceTerminal, GetChallenge, ExternalAuthenticate, SelectChipAuthentication, SelectRestrictedIdentification, EncryptedNonce, MapNonce, PerformKeyAgreement, MutualAuthentication, AuthenticateChip, PerformRestrictedIdentification, VerifyAuxiliary, ChangePin, UnblockPin, ChangeCan, ActivatePin, DeactivatePin, NoProtocol, NoStep}
use Rattle.eid_model.specs.Kinds.{kind_named, has_form_of, step_after, begins_run, goes_on_in_run}
use Rattle.eid_model.specs.Moments.{PlainMoment, succeeded}
use Rattle.eid_model.specs.Chains.{fragment, request_of}
use Rattle.eid_model.specs.Bodies.{data_in, key_name_in}

abbrev pub answers_of : List Ask → List Answer
answers_of asks = map (λ (ask : Ask). ask.answer) asks

-- A step: its kind, the request, and what the coprocessor answered.
pub record Step : Type 0 where
  pub kind : Kind
  pub command : PlainCommand
  pub answers : List Answer

-- the kind of the request that the newest moment carried out, where it succeeded and this step came next in the run
abbrev pub kind_done : Option Kind → PlainMoment → List PlainMoment → Option Kind
kind_done next m before = if succeeded m then option_and_then (kind_named next) (request_of m before) else None

-- the step that comes next in a run
abbrev pub next : List Step → Option Kind
next [] = None
next (step ∷ before) = step_after step.kind

-- the run after a moment that carried out this kind, or none
abbrev pub continued : Option Kind → Option PlainCommand → List Answer → List Step → List Step
continued None request answers run = []
continued (Some kind) None answers run = []
continued (Some kind) (Some c) answers run =
    if begins_run kind then record { kind = kind; command = c; answers = answers } ∷ []
    else if goes_on_in_run kind then record { kind = kind; command = c; answers = answers } ∷ run
    else []

-- a fragment of the request that comes next in the run
abbrev pub is_piece_of_next : Option Kind → Option PlainCommand → Bool
is_piece_of_next None piece = false
is_piece_of_next (Some kind) None = false
is_piece_of_next (Some kind) (Some c) = has_form_of kind c

-- The run. Fragments of the step that comes next leave it as it is.
abbrev pub run : List PlainMoment → List Step
run [] = []
run (m ∷ before) =
    if is_piece_of_next (next (run before)) (fragment m) then run before
    else continued (kind_done (next (run before)) m before) (request_of m before) (answers_of m.asks) (run before)

-- What later steps need of a run.
pub data Phase : Type 0 where
  -- there is no run
  Idle : Phase
  -- a password was chosen for PACE
  Chose : PlainChoice → Phase
  -- the nonce was sent
  SentNonce : PlainNonceSent → Phase
  -- the nonce was mapped to a base
  HasBase : PlainMapped → Phase
  -- the ephemeral points gave a secret
  HasSecret : PlainAgreed → Phase
  -- the public key with this name is to verify the next certificate
  ChoseKey : List ℕ → Phase

abbrev pub as_chosen : Option PlainChoice → Phase
as_chosen None = Idle
as_chosen (Some choice) = Chose choice

abbrev pub as_named : Option (List ℕ) → Phase
as_named None = Idle
as_named (Some name) = ChoseKey name

-- what a selection chose
abbrev pub choice_in : List ℕ → Option PlainChoice
choice_in body = result_ok (chosen_by (selection_in body))

abbrev pub with_nonce : List Answer → Phase → Phase
with_nonce (answers.Nonce nonce ∷ []) (Chose choice) = SentNonce (record { choice = choice; nonce = nonce })
with_nonce answers before = Idle

abbrev pub with_base : List Answer → Phase → Phase
with_base (answers.Pair secret public ∷ answers.Mapped base ∷ []) (SentNonce sent) = HasBase (record { choice = sent.choice; base = base })
with_base answers before = Idle

abbrev pub with_secret : List ℕ → List Answer → Phase → Phase
with_secret peer (answers.Pair secret public ∷ answers.Shared shared ∷ []) (HasBase mapped) =
    HasSecret (record { choice = mapped.choice; chip_point = public; terminal_point = peer; shared = shared })
with_secret peer answers before = Idle

-- what a step adds to what later steps need
unfoldable pub entered : Kind → PlainCommand → List Answer → Phase → Phase
entered SelectApplication c answers before = Idle
entered SelectMasterFile c answers before = Idle
entered SelectFile c answers before = Idle
entered ReadBinary c answers before = Idle
entered UpdateBinary c answers before = Idle
entered SelectPace c answers before = as_chosen (choice_in c.body)
entered SelectPublicKey c answers before = as_named (key_name_in c.body)
entered VerifyCertificate c answers before = Idle
entered AnnounceTerminal c answers before = Idle
entered GetChallenge c answers before = Idle
entered ExternalAuthenticate c answers before = Idle
entered SelectChipAuthentication c answers before = Idle
entered SelectRestrictedIdentification c answers before = Idle
entered EncryptedNonce c answers before = with_nonce answers before
entered MapNonce c answers before = with_base answers before
entered PerformKeyAgreement c answers before = with_secret (data_in c.body) answers before
entered MutualAuthentication c answers before = Idle
entered AuthenticateChip c answers before = Idle
entered PerformRestrictedIdentification c answers before = Idle
entered VerifyAuxiliary c answers before = Idle
entered ChangePin c answers before = Idle
entered UnblockPin c answers before = Idle
entered ChangeCan c answers before = Idle
entered ActivatePin c answers before = Idle
entered DeactivatePin c answers before = Idle
entered NoProtocol c answers before = Idle
entered NoStep c answers before = Idle

abbrev pub phase : List Step → Phase
phase [] = Idle
phase (step ∷ before) = entered step.kind step.command step.answers (phase before)

-- ---- terminal authentication and chip authentication

-- What these find in a session: the chip's identity in the last PACE, the certificates, and the terminal that has
-- authenticated itself.
pub record Context : Type 0 where
  pub identity : Option (List ℕ)
  pub certificates : PlainChain
  pub terminal : Option PlainTerminalKnown

-- What later steps need of such a run.
pub data Authentication : Type 0 where
  -- there is no such run
  NotBegun : Authentication
  -- the terminal has announced itself to the chip of this identity
  Announced : (identity : List ℕ) (announced : PlainAnnounced) → Authentication
  -- the challenge was sent
  Challenged : (identity : List ℕ) (challenged : PlainChallenged) → Authentication
  -- chip authentication was chosen
  ChoseProtocol : PlainCaChosen → Authentication

abbrev pub as_announced : Option (List ℕ) → Option PlainAnnounced → Authentication
as_announced None announced = NotBegun
as_announced (Some identity) None = NotBegun
as_announced (Some identity) (Some announced) = Announced identity announced

-- what an announcement makes, with the certificates of its terminal
abbrev pub announcement_of : PlainChain → List ℕ → Option PlainAnnounced
announcement_of certificates body = result_ok (announced_in certificates (announcement_in body))

abbrev pub with_challenge : List Answer → Authentication → Authentication
with_challenge (answers.Challenge challenge ∷ []) (Announced identity announced) =
    Challenged identity (record { announced = announced; challenge = challenge })
with_challenge answers before = NotBegun

abbrev pub as_protocol : Option PlainCaChosen → Authentication
as_protocol None = NotBegun
as_protocol (Some chosen) = ChoseProtocol chosen

-- what a selection of chip authentication chose, for a terminal that is known
abbrev pub protocol_of : Option PlainTerminalKnown → List ℕ → Option PlainCaChosen
protocol_of None body = None
protocol_of (Some terminal) body = result_ok (chip_chosen_by (chosen_in body) terminal.key_x)

-- what a step adds
unfoldable pub claimed : Kind → PlainCommand → List Answer → Context → Authentication → Authentication
claimed SelectApplication c answers context before = NotBegun
claimed SelectMasterFile c answers context before = NotBegun
claimed SelectFile c answers context before = NotBegun
claimed ReadBinary c answers context before = NotBegun
claimed UpdateBinary c answers context before = NotBegun
claimed SelectPace c answers context before = NotBegun
claimed SelectPublicKey c answers context before = NotBegun
claimed VerifyCertificate c answers context before = NotBegun
claimed AnnounceTerminal c answers context before = as_announced context.identity (announcement_of context.certificates c.body)
claimed GetChallenge c answers context before = with_challenge answers before
claimed ExternalAuthenticate c answers context before = NotBegun
claimed SelectChipAuthentication c answers context before = as_protocol (protocol_of context.terminal c.body)
claimed SelectRestrictedIdentification c answers context before = NotBegun
claimed EncryptedNonce c answers context before = NotBegun
claimed MapNonce c answers context before = NotBegun
claimed PerformKeyAgreement c answers context before = NotBegun
claimed MutualAuthentication c answers context before = NotBegun
claimed AuthenticateChip c answers context before = NotBegun
claimed PerformRestrictedIdentification c answers context before = NotBegun
claimed VerifyAuxiliary c answers context before = NotBegun
claimed ChangePin c answers context before = NotBegun
claimed UnblockPin c answers context before = NotBegun
claimed ChangeCan c answers context before = NotBegun
claimed ActivatePin c answers context before = NotBegun
claimed DeactivatePin c answers context before = NotBegun
claimed NoProtocol c answers context before = NotBegun
claimed NoStep c answers context before = NotBegun

-- Where such a run stands. Nothing in it changes what it finds.
abbrev pub authentication : Context → List Step → Authentication
authentication context [] = NotBegun
authentication context (step ∷ before) = claimed step.kind step.command step.answers context (authentication context before)

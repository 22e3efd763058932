-- The sessions of the code as states.
use Rattle.std.specs.Prelude.{Option, Some, None, option_map}
use Rattle.std.specs.Option.{option_or}
use Rattle.eid_apdu.specs.Chaining.{OpenChain}
use Rattle.eid_bits.specs.Template.{template_bytes}
use Rattle.eid_cvc.specs.Chains.{chain_view, known_view}
use Rattle.eid_pace.specs.View.{chosen_view, nonce_sent_view, mapped_view, agreed_view}
use Rattle.eid_sm.specs.Keys.{ChannelState}
use Rattle.eid_model.specs.declared.kind.Kind.{Kind}
use Rattle.eid_model.specs.declared.kind.Kind.TheVariants.{VerifyCertificate, GetChallenge, ExternalAuthenticate, EncryptedNonce, MapNonce, PerformKeyAgreement, MutualAuthentication, AuthenticateChip, PerformRestrictedIdentification}
use Rattle.eid_ta.specs.View.{announced_view, challenged_view}
use Rattle.eid_ca.specs.View.{chosen_view as chip_chosen_view}
use Rattle.eid_model.specs.Runs.{Phase, Idle, Chose, SentNonce, HasBase, HasSecret, ChoseKey, Authentication, NotBegun, Announced, Challenged, ChoseProtocol}
use Rattle.eid_model.specs.Sessions.{State, PaceMemory}
use Rattle.eid_chip.specs.declared.session.Run.{Run}
use Rattle.eid_chip.specs.declared.session.Run.TheVariants as runs
use Rattle.eid_chip.specs.declared.session.Authentication.{Authentication as Begun}
use Rattle.eid_chip.specs.declared.session.Authentication.TheVariants as begun
use Rattle.eid_chip.specs.declared.session.LastPace.{LastPace}
use Rattle.eid_store.specs.declared.store.Store.{Store}
use Rattle.eid_chip.specs.declared.running.Running.{Running}
use Rattle.eid_chip.specs.declared.session.Session.{Session}

-- the step that comes next where a run stands, and what later steps need
abbrev pub next_in_run : Run → Option Kind
next_in_run runs.Idle = None
next_in_run (runs.Chosen chosen) = Some EncryptedNonce
next_in_run (runs.NonceSent sent) = Some MapNonce
next_in_run (runs.Mapped mapped) = Some PerformKeyAgreement
next_in_run (runs.Agreed agreed) = Some MutualAuthentication
next_in_run (runs.KeyChosen name) = Some VerifyCertificate
next_in_run runs.RiChosen = Some PerformRestrictedIdentification

abbrev pub phase_of : Run → Phase
phase_of runs.Idle = Idle
phase_of (runs.Chosen chosen) = Chose (chosen_view chosen)
phase_of (runs.NonceSent sent) = SentNonce (nonce_sent_view sent)
phase_of (runs.Mapped mapped) = HasBase (mapped_view mapped)
phase_of (runs.Agreed agreed) = HasSecret (agreed_view agreed)
phase_of (runs.KeyChosen name) = ChoseKey name.items
phase_of runs.RiChosen = Idle

-- the step that comes next in an authentication, and what later steps need
abbrev pub next_in_authentication : Begun → Option Kind
next_in_authentication begun.NotBegun = None
next_in_authentication (begun.Announced identity announced) = Some GetChallenge
next_in_authentication (begun.Challenged identity challenged) = Some ExternalAuthenticate
next_in_authentication (begun.CaChosen chosen) = Some AuthenticateChip

abbrev pub authentication_of : Begun → Authentication
authentication_of begun.NotBegun = NotBegun
authentication_of (begun.Announced identity announced) = Announced identity (announced_view announced)
authentication_of (begun.Challenged identity challenged) = Challenged identity (challenged_view challenged)
authentication_of (begun.CaChosen chosen) = ChoseProtocol (chip_chosen_view chosen)

-- the step that comes next in a session: that of its run, and where there is no run that of its authentication
abbrev pub next_of : Session → Option Kind
next_of s = option_or (next_in_run s.run) (next_in_authentication s.authentication)

-- what is kept of a PACE
abbrev pub memory : LastPace → PaceMemory
memory pace = record { password = pace.password; template = option_map template_bytes pace.template; identity = pace.identity }

-- the state that a session of the code is, with this channel, and no fragments
abbrev pub state : Session → Option ChannelState → State
state s channel = record {
  next = next_of s;
  phase = phase_of s.run;
  authentication = authentication_of s.authentication;
  selected = s.memory.selected;
  current = option_map (λ file. file.0) s.memory.current;
  pace = option_map memory s.memory.pace;
  certificates = chain_view s.memory.certificates;
  terminal = option_map known_view s.memory.terminal;
  chip_proven = s.memory.chip_proven;
  channel = channel;
  chaining = None;
}

-- and with these fragments
abbrev pub chained : Option OpenChain → State → State
chained chaining s = record s { chaining = chaining }

-- A chip with power: its store, and its state.
pub record RunningView : Type 0 where
  pub store : Store
  pub state : State

-- What contracts see of a chip.
pub record ChipView : Type 0 where
  pub running : Option RunningView

-- the fragments stand beside it
abbrev pub running_view : Option OpenChain → Running → RunningView
running_view chaining running = record { store = running.store; state = chained chaining (state running.session running.channel) }

-- Inside: cited by private contracts alone.
-- What one command does to the state of a chip. Legality does not speak of it: that it is what a look back over the
-- moments finds is proved.
use Rattle.std.specs.Prelude.{ℕ, ◌==◌, ◌&&◌, List, Option, Some, None, is_some, option_map, unwrap_or, if◌then◌else◌}
use Rattle.std.specs.Option.{option_or}
use Rattle.eid_apdu.specs.Command.{PlainCommand}
use Rattle.eid_apdu.specs.Chaining.{OpenChain, chain_after, is_fragment, request}
use Rattle.eid_apdu.specs.declared.chain.Fed.TheVariants.{More}
use Rattle.eid_copro.specs.declared.ask.Answer.{Answer}
use Rattle.eid_record.specs.Plain.{PlainRecord}
use Rattle.eid_cvc.specs.Certificates.{PlainBody}
use Rattle.eid_cvc.specs.Chains.{PlainChain, chain_view, no_chain}
use Rattle.eid_chip.specs.declared.session.Change.{Change}
use Rattle.eid_chip.specs.declared.session.Change.TheVariants.{Nothing, Certificates, Current}
use Rattle.eid_trust.specs.Trust.{chain_after as certificates_after}
use Rattle.eid_pace.specs.States.{PlainDone}
use Rattle.eid_sm.specs.Keys.{ChannelState, next_counter}
use Rattle.eid_model.specs.declared.kind.Kind.{Kind}
use Rattle.eid_model.specs.Kinds.{step_after}
use Rattle.eid_model.specs.Runs.{Idle, entered, is_piece_of_next, Context, NotBegun, claimed}
use Rattle.eid_model.specs.Sessions.{State, unchained, selects, names, pace_done, accepts, memory_of, keys_by, channel_after, terminal_behind, makes_known, proves_chip}

-- a command and its reply raise the send sequence counter twice
abbrev pub two_messages_later : ChannelState → ChannelState
two_messages_later ch = record { keys = ch.keys; counter = next_counter (next_counter ch.counter) }

-- what certificates leave behind a command, which may have completed a PACE, or accepted one more
abbrev pub chain_behind : PlainRecord → Option PlainDone → Option PlainBody → PlainChain → PlainChain
chain_behind kept None None chain = chain
chain_behind kept None (Some certificate) chain = certificates_after kept chain certificate
chain_behind kept (Some done) certificate chain = no_chain

-- what terminal and chip authentication find in a state
abbrev pub context_in : State → Context
context_in s = record { identity = option_map (λ pace. pace.identity) s.pace; certificates = s.certificates; terminal = s.terminal }

-- the state after a command of this kind was carried out, with these answers of the coprocessor
abbrev pub state_carried_out : PlainRecord → Kind → PlainCommand → List Answer → State → State
state_carried_out kept kind c answers old = record {
  next = step_after kind;
  phase = entered kind c answers old.phase;
  authentication = claimed kind c answers (context_in old) old.authentication;
  selected = unwrap_or (selects kind) old.selected;
  current = if is_some (selects kind) then None else option_or (names kind c) old.current;
  pace = option_or (option_map memory_of (pace_done kind old.phase)) old.pace;
  certificates = chain_behind kept (pace_done kind old.phase) (accepts kind c) old.certificates;
  terminal = terminal_behind (pace_done kind old.phase) (makes_known kind old.authentication) old.terminal;
  chip_proven = unwrap_or (proves_chip kind) old.chip_proven;
  channel = option_or (option_map (channel_after 0) (keys_by kind answers old.phase)) (option_map two_messages_later old.channel);
  chaining = None;
}

-- one command later, beside its run and its fragments
abbrev pub state_later : State → State
state_later old = record old { channel = option_map two_messages_later old.channel; chaining = None }

-- the state without a run, and without fragments
abbrev pub without_run : State → State
without_run s = record s { next = None; phase = Idle; authentication = NotBegun; chaining = None }

-- the state after a command that was refused, and did not end the session
abbrev pub state_refused : State → State
state_refused old = without_run (state_later old)

-- the state with what a commit changes beside the record
abbrev pub with_change : Change → State → State
with_change Nothing s = s
with_change (Certificates chain) s = record s { certificates = chain_view chain }
with_change (Current file) s = record s { current = Some file.0 }

-- the state after a request of this kind was answered by this rule, with these answers of the coprocessor
abbrev pub state_by_kind : PlainRecord → ℕ → Kind → PlainCommand → List Answer → State → State
state_by_kind kept rule kind c answers old = if rule == 0 then state_carried_out kept kind c answers old else state_refused old

-- the chain that a command without a kind leaves open: a fragment that was answered goes on with it, or begins one
abbrev pub chaining_left : ℕ → Option OpenChain → PlainCommand → Option OpenChain
chaining_left rule chaining c = if rule == 0 && is_fragment c then chain_after chaining c More else None

-- the state after a fragment: its run goes on where it is one of the next step
abbrev pub state_piece : PlainCommand → State → State
state_piece c old = if is_piece_of_next old.next (Some c) then state_later old else state_refused old

-- the state after a command without a kind, beside the fragments
abbrev pub state_unkinded : ℕ → PlainCommand → State → State
state_unkinded rule c old = if rule == 0 && is_fragment c then state_piece c old else state_refused old

-- the state after a command that was answered by this rule: a fragment, or the last command of a request of this kind
abbrev pub state_answered : PlainRecord → ℕ → Option Kind → PlainCommand → List Answer → State → State
state_answered kept rule None c answers old = record (state_unkinded rule c old) { chaining = chaining_left rule old.chaining c }
state_answered kept rule (Some kind) c answers old = state_by_kind kept rule kind (request old.chaining c) answers (unchained old)

-- Inside: cited by private contracts alone.
-- What one step of the chip promises: the questions that it puts, the outcome by the rules, and what the session is
-- after it.
use Rattle.std.specs.Prelude.{◌≡◌, ℕ, ◌<◌, ◌==◌, ◌||◌, true, false, List, [], ◌∷◌, ◌++◌, length, Option, Some, None, option_map, Ok, if◌then◌else◌}
use Rattle.std.specs.Option.{option_or}
use Rattle.eid_apdu.specs.Command.{PlainCommand}
use Rattle.eid_apdu.specs.Chaining.{OpenChain}
use Rattle.eid_apdu.specs.Answer.{PlainReply, spelled}
use Rattle.eid_copro.specs.Seen.{CoproSeen}
use Rattle.eid_copro.specs.declared.ask.Ask.{Ask}
use Rattle.eid_copro.specs.declared.ask.Answer.{Answer}
use Rattle.eid_copro.specs.declared.ask.Answer.TheVariants as answers
use Rattle.sha2.specs.Sha256.{sha256}
use Rattle.eid_cvc.specs.Certificates.{PlainCertificate}
use Rattle.eid_cvc.specs.CertificateIn.{certificate_in}
use Rattle.eid_trust.specs.Trust.{PlainAccepted, accept_given}
use Rattle.eid_record.specs.Plain.{FullRecord, PlainEffect}
use Rattle.eid_copro.specs.Asking.{WereAsked, verify_ask}
use Rattle.eid_base.specs.Rules.{active_rule, try_rule, resumed_rule}
use Rattle.eid_pace.specs.Rules.{fault_rule}
use Rattle.eid_sm.specs.Keys.{ChannelState, Keys, advanced, next_counter}
use Rattle.eid_sm.specs.Replies.{sealed}
use Rattle.eid_model.specs.declared.kind.Kind.{Kind}
use Rattle.eid_model.specs.Moments.{ends_session_by}
use Rattle.eid_model.specs.Runs.{answers_of}
use Rattle.eid_model.specs.Sessions.{State, fresh, memory_of, keys_of, channel_after}
use Rattle.eid_model.specs.Bodies.{data_in, holds_value}
use Rattle.eid_model.specs.Runs as phases
use Rattle.eid_model.specs.Rules.{Incoming, OfCommand, plain_of, Situation, RuleRow, kind_rules, answer_rules, proof_rules, committing, concerns, first_failed, to_commit, name_chosen}
use Rattle.eid_model.specs.Answers.{Outcome, outcome, question, success_of, status_alone, due, outcome_of, question_by, due_by, situation, kind_incoming, command_of}
use Rattle.eid_model.specs.Legal.{IsReadAs, AreAsked}
use Rattle.eid_chip.specs.Transitions.{state_answered, state_by_kind, state_carried_out, state_refused, two_messages_later, with_change}
use Rattle.eid_chip.specs.declared.session.Session.{Session}
use Rattle.eid_chip.specs.declared.session.Change.{Change}
use Rattle.eid_chip.specs.declared.session.Memory.{Memory}
use Rattle.eid_chip.specs.declared.session.Authentication.{Authentication}
use Rattle.eid_chip.specs.declared.session.Authentication.TheVariants.{NotBegun}
use Rattle.eid_chip.specs.declared.session.Run.TheVariants as runs
use Rattle.eid_pace.specs.States.{PlainDone}
use Rattle.eid_ca.specs.States.{PlainProven}
use Rattle.eid_cvc.specs.Chains.{no_chain}
use Rattle.eid_pace.specs.declared.agreed.Agreed.{Agreed}
use Rattle.eid_chip.specs.States.{chained, state}
use Rattle.eid_chip.specs.declared.refusal.Refusal.{Refusal}
use Rattle.eid_chip.specs.Endings.{Reacted, Ended, Answered, Lost}
use Rattle.eid_chip.specs.Held.{held}
use Rattle.eid_chip.specs.Commits.{SameLayout}
use Rattle.eid_chip.specs.Worlds.{World, Leaves}

-- A refusal as numbers.
pub record PlainRefusal : Type 0 where
  pub rule : ℕ
  pub status : ℕ

abbrev pub refusal : Refusal → PlainRefusal
refusal r = record { rule = r.rule.0; status = r.status.0 }

-- what the first step of PACE is refused with by a rule on the PIN, or by a fault
abbrev pub start_refused : ℕ → PlainRefusal
start_refused rule =
    if rule == active_rule then record { rule = active_rule; status = 0x6984 }
    else if rule == try_rule then record { rule = try_rule; status = 0x6983 }
    else if rule == resumed_rule then record { rule = resumed_rule; status = 0x6985 }
    else record { rule = fault_rule; status = 0x6F00 }

-- the refusal by the first failed of these rules, or none
abbrev pub refusal_by : List RuleRow → Situation → Option PlainRefusal
refusal_by rows s = option_map (λ row. record { rule = row.number; status = row.status s }) (first_failed rows s)

-- a situation in which the kind is known
abbrev pub known : Kind → FullRecord → State → PlainCommand → List Answer → Situation
known kind kept old c answers =
    record { incoming = OfCommand c; unbroken = true; command = c; kind = Some kind; kept = kept; state = old; answers = answers }

-- what a step answered
abbrev pub outcome_seen : Reacted → PlainReply → Outcome
outcome_seen r reply = record { rule = r.rule; reply = reply }

-- the channel after a step: the one that it opened, or the one before, two messages later; none where the session ended
abbrev pub channel_left : Reacted → Option ChannelState → Option ChannelState
channel_left r channel =
    if ends_session_by r.rule then None else option_or r.opened (option_map two_messages_later channel)

-- the state after a step
abbrev pub state_left : Reacted → Option ChannelState → State
state_left r channel = state r.session (channel_left r channel)

-- the state that a moment leaves: a fresh one where it ends the session
abbrev pub state_due : ℕ → State → State
state_due rule answered = if ends_session_by rule then fresh else answered

-- a command of a known kind put these questions, was answered by the first failed of the kind's rules and those over
-- the answers, and left this state
pub record IsAnsweredByKind (kind : Kind) (kept : FullRecord) (old : State) (c : PlainCommand) (asks : List Ask) (reacted : Reacted)
    (reply : PlainReply) : Type 0 where
  pub asked : AreAsked (λ answers. question_by kind_rules (known kind kept old c answers)) [] asks
  pub ended : outcome_of kind_rules (known kind kept old c (answers_of asks)) ≡ outcome_seen reacted reply
  pub left : state_left reacted old.channel ≡ state_due reacted.rule (state_by_kind kept.fields reacted.rule kind c (answers_of asks) old)

-- a command of a known kind put questions, by which the log grew, and was answered by them, in any channel
pub record Stepped (before after : CoproSeen) (kind : Kind) (kept : FullRecord) (session : Session) (c : PlainCommand) (reacted : Reacted)
    (reply : PlainReply) : Type 0 where
  pub asks : List Ask
  pub were_asked : WereAsked before after asks
  pub tells : (channel : Option ChannelState) → IsAnsweredByKind kind kept (state session channel) c asks reacted reply

-- ---- how a command ends that may commit

-- how it ended where these effects were due: all of them were committed, and it was answered by this outcome; or fewer,
-- and the power was cut in the next one
abbrev pub IsEnding : List PlainEffect → Outcome → Ended → PlainReply → Type 0
IsEnding due outcome (Answered reacted finished) reply = (finished ≡ length due) × (outcome ≡ outcome_seen reacted reply)
IsEnding due outcome (Lost finished) reply = finished < length due

-- the state after it, where it was answered: what the session is then, with these fragments
abbrev pub IsNext : (ℕ → State) → Ended → Option ChannelState → Option OpenChain → Type 0
IsNext next (Answered reacted finished) channel chaining = chained chaining (state_left reacted channel) ≡ state_due reacted.rule (next reacted.rule)
IsNext next (Lost finished) channel chaining = Unit {0}

-- a command of a known kind put these questions, committed what was due, was answered by the rules of its kind and those
-- over the answers, and left this state and this world
pub record IsEndedByKind (kind : Kind) (old : State) (c : PlainCommand) (asks : List Ask) (ending : Ended) (reply : PlainReply)
    (before after : World) : Type 0 where
  pub asked : AreAsked (λ answers. question_by kind_rules (known kind (held before.cells) old c answers)) [] asks
  pub ended : IsEnding (due_by kind_rules (known kind (held before.cells) old c (answers_of asks)))
      (outcome_of kind_rules (known kind (held before.cells) old c (answers_of asks))) ending reply
  pub next : IsNext (λ rule. state_by_kind (held before.cells).fields rule kind c (answers_of asks) old) ending old.channel None
  pub leaves : Leaves (due_by kind_rules (known kind (held before.cells) old c (answers_of asks))) (held before.cells) ending before after

-- A command of a kind that commits one effect, proves nothing behind it, and answers no data, with what it changes beside
-- the record: it puts these questions, and no rule before its commit fails.
pub record CommitsOne (kind : Kind) (kept : FullRecord) (old : State) (c : PlainCommand) (asks : List Ask) (effect : PlainEffect)
    (change : Change) : Type 0 where
  pub asked : AreAsked (λ answers. question_by kind_rules (known kind kept old c answers)) [] asks
  pub passes : first_failed (kind_rules ++ answer_rules) (known kind kept old c (answers_of asks)) ≡ None
  pub committing : concerns committing (Some kind) ≡ true
  pub commits : to_commit (Some kind) (known kind kept old c (answers_of asks)) ≡ effect ∷ []
  pub proves : first_failed proof_rules (known kind kept old c (answers_of asks)) ≡ None
  pub answers : success_of kind (known kind kept old c (answers_of asks)) ≡ status_alone 0x9000
  pub leaves : state_carried_out kept.fields kind c (answers_of asks) old ≡ with_change change (state_refused old)

-- the question about the signature of a certificate, with its answer
abbrev pub certificate_ask : PlainCertificate → PlainAccepted → Answer → Ask
certificate_ask certificate accepted answer = verify_ask accepted.key (sha256 certificate.whole) certificate.signature answer

-- a certificate stands in this command that may be accepted, and this follows from it
pub record Imports (kept : FullRecord) (old : State) (c : PlainCommand) (certificate : PlainCertificate) (accepted : PlainAccepted) : Type 0 where
  pub reads : certificate_in c.body ≡ Some certificate
  pub given : Ok accepted ≡ accept_given kept.fields old.certificates (name_chosen old.phase) certificate.body

-- and its signature was found right
pub record WasRight (kept : FullRecord) (old : State) (c : PlainCommand) (accepted : PlainAccepted) (asks : List Ask) : Type 0 where
  pub certificate : PlainCertificate
  pub imports : Imports kept old c certificate accepted
  pub found : asks ≡ certificate_ask certificate accepted (answers.Verdict true) ∷ []

-- the terminal's token stands in this command
pub record SendsToken (c : PlainCommand) (token : List ℕ) : Type 0 where
  pub formed : holds_value 0x85 8 c.body ≡ true
  pub is : token ≡ data_in c.body

-- a session whose run has come to the tokens
abbrev pub at_tokens : Agreed → Authentication → Memory → Session
at_tokens agreed authentication memory = record { run = runs.Agreed agreed; authentication = authentication; memory = memory }

-- the keys that a chip authentication leaves
abbrev pub chip_keys : PlainProven → Keys
chip_keys proven = record { enc = proven.enc; mac = proven.mac }

-- the state after a PACE, in the channel that it opened
abbrev pub state_with_pace : Memory → PlainDone → State
state_with_pace old done = record {
  next = None;
  phase = phases.Idle;
  authentication = phases.NotBegun;
  selected = old.selected;
  current = option_map (λ file. file.0) old.current;
  pace = Some (memory_of done);
  certificates = no_chain;
  terminal = None;
  chip_proven = false;
  channel = Some (channel_after 0 (keys_of done));
  chaining = None;
}

-- the state after a chip authentication, in the channel that it opened
abbrev pub state_with_chip : Memory → PlainProven → State
state_with_chip old proven =
    record (state (record { run = runs.Idle; authentication = NotBegun; memory = old }) None) { chip_proven = true; channel = Some (channel_after 0 (chip_keys proven)) }

-- and so in any channel, with the questions by which the coprocessor's log grew
pub record Performed (kind : Kind) (session : Session) (c : PlainCommand) (ending : Ended) (reply : PlainReply) (before after : World) : Type 0 where
  pub asks : List Ask
  pub were_asked : WereAsked before.copro after.copro asks
  pub ended : (channel : Option ChannelState) → IsEndedByKind kind (state session channel) c asks ending reply before after
  pub layout : SameLayout before.cells after.cells

-- what was incoming put these questions, committed what was due, was answered by the first failed rule, and left this state
-- with these fragments, and this world
pub record IsEndedByRules (old : State) (incoming : Incoming) (asks : List Ask) (ending : Ended) (reply : PlainReply)
    (chaining : Option OpenChain) (before after : World) : Type 0 where
  pub asked : AreAsked (λ answers. question (situation (held before.cells) old incoming answers)) [] asks
  pub ended : IsEnding (due (situation (held before.cells) old incoming (answers_of asks)))
      (outcome (situation (held before.cells) old incoming (answers_of asks))) ending reply
  pub next : IsNext (λ rule. state_answered (held before.cells).fields rule (kind_incoming old incoming) (command_of incoming) (answers_of asks) old) ending old.channel chaining
  pub leaves : Leaves (due (situation (held before.cells) old incoming (answers_of asks))) (held before.cells) ending before after

-- and so a command, with these fragments before it, in any channel
pub record Reacts (session : Session) (fragments : Option OpenChain) (c : PlainCommand) (ending : Ended) (reply : PlainReply)
    (left : Option OpenChain) (before after : World) : Type 0 where
  pub asks : List Ask
  pub were_asked : WereAsked before.copro after.copro asks
  pub ended : (channel : Option ChannelState) → IsEndedByRules (chained fragments (state session channel)) (OfCommand c) asks ending reply left before after
  pub layout : SameLayout before.cells after.cells

-- a refusal before the kind is known, or without one: it puts no question and commits nothing
pub record IsAnsweredByRules (kept : FullRecord) (old : State) (incoming : Incoming) (asks : List Ask) (reacted : Reacted) (reply : PlainReply) : Type 0 where
  pub asked : AreAsked (λ answers. question (situation kept old incoming answers)) [] asks
  pub ended : outcome (situation kept old incoming (answers_of asks)) ≡ outcome_seen reacted reply
  pub undue : due (situation kept old incoming (answers_of asks)) ≡ []
  pub left : state_left reacted old.channel ≡ state_due reacted.rule (state_answered kept.fields reacted.rule (kind_incoming old incoming) (command_of incoming)
      (answers_of asks) old)

-- bytes were incoming, in a channel or without one, with these fragments before them, and the command ended so
pub record Responds (session : Session) (channel : Option ChannelState) (fragments : Option OpenChain) (bytes : List ℕ)
    (plain : Option PlainCommand) (ending : Ended) (reply : PlainReply) (left : Option OpenChain) (before after : World) : Type 0 where
  pub incoming : Incoming
  pub reads : IsReadAs channel bytes incoming
  pub is_plain : plain ≡ plain_of incoming
  pub asks : List Ask
  pub were_asked : WereAsked before.copro after.copro asks
  pub ended : IsEndedByRules (chained fragments (state session channel)) incoming asks ending reply left before after
  pub layout : SameLayout before.cells after.cells

-- the rule that a command was answered by; 0 where it was not answered
abbrev pub rule_of : Ended → ℕ
rule_of (Answered reacted finished) = reacted.rule
rule_of (Lost finished) = 0

-- the channel while the answer is made: where a protected command was incoming, one message later
abbrev pub message_in : ℕ → Option ChannelState → Option ChannelState
message_in rule channel = if rule == 2 || rule == 3 then channel else option_map advanced channel

-- a reply as it is sent in this channel, where it is the next message
abbrev pub sent_next : Option ChannelState → ℕ → PlainReply → List ℕ
sent_next None rule reply = spelled reply
sent_next (Some channel) rule reply =
    if rule == 2 || rule == 3 then spelled reply else sealed channel.keys (next_counter channel.counter) reply

-- a situation in which a command was incoming
abbrev pub with_command : FullRecord → State → PlainCommand → List Answer → Situation
with_command kept old c answers = situation kept old (OfCommand c) answers

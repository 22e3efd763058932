-- Legal journals: each moment is what the definitions make of what came and of the moments before it.
use Rattle.std.specs.Prelude.{◌≡◌, ℕ, ◌<◌, ◌≤◌, ◌==◌, ◌||◌, true, false, List, [], ◌∷◌, ◌++◌, length, Option, Some, None, IfSome, if◌then◌else◌}
use Rattle.eid_apdu.specs.Command.{PlainCommand, Spells}
use Rattle.eid_apdu.specs.Answer.{PlainReply, spelled}
use Rattle.eid_copro.specs.Asks.{fits}
use Rattle.eid_copro.specs.Told.{Source, AnswersFrom}
use Rattle.eid_copro.specs.declared.ask.Ask.{Ask}
use Rattle.eid_copro.specs.declared.ask.Question.{Question}
use Rattle.eid_copro.specs.declared.ask.Answer.{Answer}
use Rattle.eid_record.specs.Plain.{FullRecord, PlainEffect}
use Rattle.eid_sm.specs.Keys.{ChannelState, next_counter}
use Rattle.eid_sm.specs.Commands.{IsProtected, LacksObjects}
use Rattle.eid_sm.specs.Replies.{sealed}
use Rattle.eid_model.specs.Moments.{Event, PoweredOn, PoweredOff, Received, PlainMoment, on, live, script, asked, AreSteady}
use Rattle.eid_model.specs.Runs.{answers_of}
use Rattle.eid_model.specs.Sessions.{channel}
use Rattle.eid_model.specs.Rules.{Incoming, NoCommand, MissingObjects, WrongObjects, OfCommand, plain_of, Situation}
use Rattle.eid_model.specs.Answers.{Outcome, outcome, situation, question, due}
use Rattle.eid_model.specs.Ledger.{kept, pending, state_of, MayFind}

-- the longest body of one command
abbrev pub MAX_BODY : ℕ
MAX_BODY = 2200

-- without a channel the bytes say this: a command with a body that is not too long, or none such
abbrev pub IsReadPlain : List ℕ → Incoming → Type 0
IsReadPlain bytes NoCommand = (c : PlainCommand) → Spells bytes c → length c.body ≤ MAX_BODY → ⊥
IsReadPlain bytes (OfCommand c) = Spells bytes c × (length c.body ≤ MAX_BODY)
IsReadPlain bytes incoming = ⊥

-- in a channel they say this: a command that is protected at the next counter, or the objects of secure messaging
-- are missing or wrong
abbrev pub IsReadProtected : ChannelState → List ℕ → Incoming → Type 0
IsReadProtected ch bytes MissingObjects = LacksObjects bytes
IsReadProtected ch bytes WrongObjects =
    (LacksObjects bytes → ⊥) × ((c : PlainCommand) → IsProtected ch.keys (next_counter ch.counter) bytes c → ⊥)
IsReadProtected ch bytes (OfCommand c) = IsProtected ch.keys (next_counter ch.counter) bytes c
IsReadProtected ch bytes NoCommand = ⊥

abbrev pub IsReadAs : Option ChannelState → List ℕ → Incoming → Type 0
IsReadAs None bytes incoming = IsReadPlain bytes incoming
IsReadAs (Some ch) bytes incoming = IsReadProtected ch bytes incoming

-- a moment of which nothing comes: power on or off, or bytes that reach a chip without power
abbrev pub silent : Event → PlainMoment
silent input = record { input = input; plain = None; asks = []; finished = 0; rule = 0; answer = None; sent = None }

-- each question is the next one after the answers before it, its answer has its kind, and after the last there is no
-- further question
abbrev pub AreAsked : (List Answer → Option Question) → List Answer → List Ask → Type 0
AreAsked next answers [] = next answers ≡ None
AreAsked next answers (ask ∷ later) =
    (next answers ≡ Some ask.question) × (fits ask.question ask.answer ≡ true) × AreAsked next (answers ++ ask.answer ∷ []) later

-- a reply as it is sent: in a channel protected, but by rules 2 and 3
abbrev pub sent_in : Option ChannelState → ℕ → PlainReply → List ℕ
sent_in None rule reply = spelled reply
sent_in (Some ch) rule reply =
    if rule == 2 || rule == 3 then spelled reply else sealed ch.keys (next_counter (next_counter ch.counter)) reply

-- a moment that is answered, after so many commits
abbrev pub answered : Option ChannelState → List ℕ → Incoming → List Ask → ℕ → Outcome → PlainMoment
answered ch bytes incoming asks finished outcome = record {
  input = Received bytes;
  plain = plain_of incoming;
  asks = asks;
  finished = finished;
  rule = outcome.rule;
  answer = Some outcome.reply;
  sent = Some (sent_in ch outcome.rule outcome.reply);
}

-- a moment that is lost in a commit, after so many others
abbrev pub lost_in : List ℕ → Incoming → List Ask → ℕ → PlainMoment
lost_in bytes incoming asks finished =
    record { input = Received bytes; plain = plain_of incoming; asks = asks; finished = finished; rule = 0; answer = None; sent = None }

-- where what was incoming is answered, after these moments and these answers
abbrev pub situation_after : FullRecord → List PlainMoment → Incoming → List Answer → Situation
situation_after opening before incoming answers = situation (kept opening before) (state_of opening before) incoming answers

-- A chip with power puts the questions of what was incoming, and commits the effects that are due: all of them, and then it
-- answers by the first failed rule; or fewer, and the power is cut in the next commit.
abbrev pub IsMoment : Option PlainReply → Option ChannelState → List ℕ → Incoming → List PlainEffect → Outcome → PlainMoment → Type 0
IsMoment (Some reply) ch bytes incoming due outcome m = m ≡ answered ch bytes incoming m.asks (length due) outcome
IsMoment None ch bytes incoming due outcome m = (m ≡ lost_in bytes incoming m.asks m.finished) × (m.finished < length due)

pub record IsPowered (opening : FullRecord) (before : List PlainMoment) (bytes : List ℕ) (m : PlainMoment) : Type 0 where
  pub incoming : Incoming
  pub reads : IsReadAs (channel (live before)) bytes incoming
  pub asked : AreAsked (λ answers. question (situation_after opening before incoming answers)) [] m.asks
  pub moment : IsMoment m.answer (channel (live before)) bytes incoming (due (situation_after opening before incoming (answers_of m.asks)))
      (outcome (situation_after opening before incoming (answers_of m.asks))) m

-- with power and without
pub record IsHandled (opening : FullRecord) (before : List PlainMoment) (bytes : List ℕ) (m : PlainMoment) : Type 0 where
  pub powered : on before ≡ true → IsPowered opening before bytes m
  pub unpowered : on before ≡ false → m ≡ silent (Received bytes)

-- the moment is legal after those before it, by what came
abbrev pub IsLegalFor : Event → FullRecord → List PlainMoment → PlainMoment → Type 0
IsLegalFor (PoweredOn found) opening before m =
    IfSome found (MayFind (pending opening before) (kept opening before).fields.number) × (m ≡ silent (PoweredOn found))
IsLegalFor PoweredOff opening before m = m ≡ silent PoweredOff
IsLegalFor (Received bytes) opening before m = IsHandled opening before bytes m

abbrev pub IsLegalMoment : FullRecord → List PlainMoment → PlainMoment → Type 0
IsLegalMoment opening before m = IsLegalFor m.input opening before m

-- each moment is legal
abbrev pub AreLegal : FullRecord → List PlainMoment → Type 0
AreLegal opening [] = Unit {0}
AreLegal opening (m ∷ before) = IsLegalMoment opening before m × AreLegal opening before

-- no other journal without a cut is legal for this opening record, these inputs and this source of the coprocessor's
-- answers
abbrev pub IsOnlyJournal : Source → FullRecord → List PlainMoment → Type 0
IsOnlyJournal source opening moments =
    (other : List PlainMoment) → AreLegal opening other → AreSteady other → script other ≡ script moments
    → AnswersFrom source (asked other) → other ≡ moments

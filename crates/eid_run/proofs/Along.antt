-- A session that goes to its end, on its way: how the chip stands at a place of the terminal's course, and what is told from
-- there on.
use Rattle.std.proofs.Common.{◌≡◌, ℕ, Bool, true, false, List, [], ◌∷◌, Option, Some, None, refl, sym, ap, ◌∙◌, subst}
use Rattle.std.specs.Prelude.{◌==◌, if◌then◌else◌, option_map}
use Rattle.std.specs.List.{All}
use Rattle.eid_apdu.specs.Answer.{PlainReply}
use Rattle.eid_apdu.specs.Command.{PlainCommand}
use Rattle.eid_cvc.specs.Chains.{PlainChain, PlainTerminalKnown, no_chain}
use Rattle.eid_copro.specs.declared.ask.Ask.{Ask}
use Rattle.eid_copro.specs.declared.ask.Answer.{Answer}
use Rattle.eid_copro.specs.declared.ask.Question.{Question}
use Rattle.eid_record.specs.Plain.{FullRecord, PlainEffect}
use Rattle.eid_sm.specs.Keys.{ChannelState}
use Rattle.eid_model.specs.declared.kind.Kind.{Kind}
use Rattle.eid_model.specs.Answers.{Outcome, question_by}
use Rattle.eid_model.specs.Bodies.{data_in}
use Rattle.eid_model.specs.Ledger.{all_committed}
use Rattle.eid_model.specs.Legal.{AreAsked}
use Rattle.eid_model.specs.Moments.{PlainMoment, ends_session_by}
use Rattle.eid_model.specs.Rules.{is_own_point, kind_rules}
use Rattle.eid_model.specs.Runs.{answers_of}
use Rattle.eid_model.specs.Sessions.{PaceMemory, State, fresh, unchained}
use Rattle.eid_chip.specs.Steps.{known, state_due}
use Rattle.eid_chip.specs.Transitions.{state_by_kind, state_carried_out, state_refused, two_messages_later}
use Rattle.eid_terminal.specs.Courses.{Course, Asks, Ends, Gives, Passes}
use Rattle.eid_terminal.specs.Exchanges.{counted, exchange}
use Rattle.eid_terminal.specs.declared.action.Step.{Step}
use Rattle.eid_run.specs.Conversations.{Exchange, IsEnd, Passed, Result, Talks, Told}
use Rattle.eid_run.specs.Promised.{sent_data}
use Rattle.eid_run.proofs.Going.{IsGiven, Leads}
use Rattle.eid_run.proofs.Stepping.{HasSize, exchanged, was_asked}
use Rattle.eid_run.proofs.Turns.{IsOfKind, StandsAt, due_then, outcome_at}

-- A session: its opening record, its journal, and where the terminal's course ended.
pub record Way : Type 0 where
  pub opening : FullRecord
  pub after : List PlainMoment
  pub at : Course

-- The terminal is at this course, the chip keeps this record and is in this state, and these things are told from there on.
pub record AtCourse (w : Way) (full : FullRecord) (s : State) (course : Course) (told : List Told) : Type 0 where
  pub before : List PlainMoment
  pub asks : List Ask
  pub exchanges : List Exchange
  pub stands : StandsAt w.opening before full s
  pub end : IsEnd w.at
  pub given : All IsGiven asks
  pub leads : Leads w.opening before exchanges w.after
  pub talks : Talks course asks exchanges told w.at

-- ---- what comes at a course

-- a question was answered
pub record IsAnswered (w : Way) (full : FullRecord) (s : State) (question : Question) (later : Answer → Course) (told : List Told) : Type 0 where
  pub ask : Ask
  pub same : ask.question ≡ question
  pub given : IsGiven ask
  pub goes : AtCourse w full s (later ask.answer) told

pub answered_so : (w : Way) (full : FullRecord) (s : State) (question : Question) (later : Answer → Course) (told : List Told) → AtCourse w full s (Asks question later) told → IsAnswered w full s question later told
answered_so w full s question later told is =
    let was = was_asked question later is.asks is.exchanges told w.at is.end is.given is.talks in
    record {
      ask = was.ask;
      same = was.same;
      given = was.given;
      goes = record {
        before = is.before;
        asks = was.rest;
        exchanges = is.exchanges;
        stands = is.stands;
        end = is.end;
        given = was.further;
        leads = is.leads;
        talks = was.talks;
      };
    }

-- one thing was told, and more
pub record IsTold (w : Way) (full : FullRecord) (s : State) (first : Told) (later : Course) (told : List Told) : Type 0 where
  pub rest : List Told
  pub same : told ≡ first ∷ rest
  pub goes : AtCourse w full s later rest

pub passed_so : (w : Way) (full : FullRecord) (s : State) (step : Step) (later : Course) (told : List Told) → AtCourse w full s (Passes step later) told → IsTold w full s (Passed step) later told
passed_so w full s step later [] is = absurd (subst IsEnd is.talks.3 is.end)
passed_so w full s step later (t ∷ rest) is = record {
  rest = rest;
  same = ap (λ (x : Told). x ∷ rest) is.talks.0;
  goes = record { before = is.before; asks = is.asks; exchanges = is.exchanges; stands = is.stands; end = is.end; given = is.given; leads = is.leads; talks = is.talks.1 };
}

pub given_so : (w : Way) (full : FullRecord) (s : State) (place : ℕ) (reply : PlainReply) (later : Course) (told : List Told) → AtCourse w full s (Gives place reply later) told → IsTold w full s (Result place reply) later told
given_so w full s place reply later [] is = absurd (subst IsEnd is.talks.3 is.end)
given_so w full s place reply later (t ∷ rest) is = record {
  rest = rest;
  same = ap (λ (x : Told). x ∷ rest) is.talks.0;
  goes = record { before = is.before; asks = is.asks; exchanges = is.exchanges; stands = is.stands; end = is.end; given = is.given; leads = is.leads; talks = is.talks.1 };
}

-- all is done: nothing more is told
pub ended_so : (w : Way) (full : FullRecord) (s : State) (told : List Told) → AtCourse w full s Ends told → (told ≡ []) × (w.at ≡ Ends)
ended_so w full s told is = (is.talks.2, is.talks.3)

-- ---- a command

-- A command of this kind was handled: the chip put these questions, and went on as the rules say.
pub record IsHandledSo (w : Way) (full : FullRecord) (s : State) (kind : Kind) (c : PlainCommand) (later : Option ChannelState → PlainReply → Course) (told : List Told) : Type 0 where
  pub asks : List Ask
  pub asked : AreAsked (λ answers. question_by kind_rules (known kind full (unchained s) c answers)) [] asks
  pub given : All IsGiven asks
  pub apart : is_own_point (data_in c.body) (answers_of asks) ≡ false
  pub goes : AtCourse w (all_committed (due_then kind full (unchained s) c asks) full)
      (state_due (outcome_at kind full (unchained s) c asks).rule (state_by_kind full.fields (outcome_at kind full (unchained s) c asks).rule kind c (answers_of asks) (unchained s)))
      (later (counted (counted s.channel)) (outcome_at kind full (unchained s) c asks).reply) told

pub handled_so : (w : Way) (full : FullRecord) (s : State) (kind : Kind) (step : Step) (c : PlainCommand) (later : Option ChannelState → PlainReply → Course) (told : List Told)
    → IsOfKind (unchained s) c kind → HasSize c → AtCourse w full (unchained s) (exchange step c later s.channel) told → IsHandledSo w full s kind c later told
unfolding exchange
handled_so w full s kind step c later told is size at =
    let did = exchanged step w.opening at.before w.after full s kind c later at.asks at.exchanges told w.at at.stands is size at.end at.leads at.talks in
    record {
      asks = did.moment.asks;
      asked = did.took.asked;
      given = did.fair.given;
      apart = subst (λ (p : Option PlainCommand). is_own_point (sent_data p) (answers_of did.moment.asks) ≡ false) did.took.plain did.fair.apart;
      goes = record {
        before = did.moment ∷ at.before;
        asks = at.asks;
        exchanges = did.rest;
        stands = did.took.stands;
        end = at.end;
        given = at.given;
        leads = did.leads;
        talks = did.talks;
      };
    }

-- the channel two messages later, on both sides
pub counted_twice : (ch : Option ChannelState) → option_map two_messages_later ch ≡ counted (counted ch)
counted_twice None = refl
counted_twice (Some ch) = refl

-- it was carried out: the chip stands so behind it
pub carried_out : (w : Way) (full : FullRecord) (s new : State) (kind : Kind) (c : PlainCommand) (later : Option ChannelState → PlainReply → Course) (told : List Told) (reply : PlainReply) (effects : List PlainEffect)
    → (did : IsHandledSo w full s kind c later told) → outcome_at kind full (unchained s) c did.asks ≡ record { rule = 0; reply = reply }
    → due_then kind full (unchained s) c did.asks ≡ effects → state_carried_out full.fields kind c (answers_of did.asks) (unchained s) ≡ new
    → AtCourse w (all_committed effects full) new (later (counted (counted s.channel)) reply) told
carried_out w full s new kind c later told reply effects did is due_is new_is =
    subst (λ (t : State). AtCourse w (all_committed effects full) t (later (counted (counted s.channel)) reply) told) new_is
    (subst (λ (l : List PlainEffect). AtCourse w (all_committed l full) (state_carried_out full.fields kind c (answers_of did.asks) (unchained s)) (later (counted (counted s.channel)) reply) told) due_is
    (subst (λ (o : Outcome). AtCourse w (all_committed (due_then kind full (unchained s) c did.asks) full)
    (state_due o.rule (state_by_kind full.fields o.rule kind c (answers_of did.asks) (unchained s))) (later (counted (counted s.channel)) o.reply) told) is did.goes))

-- and so in the channel that goes on
pub carried_on : (w : Way) (full : FullRecord) (s new : State) (kind : Kind) (c : PlainCommand) (later : Option ChannelState → PlainReply → Course) (told : List Told) (reply : PlainReply) (effects : List PlainEffect)
    → (did : IsHandledSo w full s kind c later told) → outcome_at kind full (unchained s) c did.asks ≡ record { rule = 0; reply = reply }
    → due_then kind full (unchained s) c did.asks ≡ effects → state_carried_out full.fields kind c (answers_of did.asks) (unchained s) ≡ new
    → new.channel ≡ option_map two_messages_later s.channel
    → AtCourse w (all_committed effects full) new (later new.channel reply) told
carried_on w full s new kind c later told reply effects did is due_is new_is opens =
    subst (λ (ch : Option ChannelState). AtCourse w (all_committed effects full) new (later ch reply) told) (sym (counted_twice s.channel) ∙ sym opens)
    (carried_out w full s new kind c later told reply effects did is due_is new_is)

-- the same, where it is known what the chip asked
pub carried_with : (w : Way) (full : FullRecord) (s new : State) (kind : Kind) (c : PlainCommand) (later : Option ChannelState → PlainReply → Course) (told : List Told) (reply : PlainReply) (effects : List PlainEffect) (asks : List Ask)
    → (did : IsHandledSo w full s kind c later told) → did.asks ≡ asks → outcome_at kind full (unchained s) c asks ≡ record { rule = 0; reply = reply }
    → due_then kind full (unchained s) c asks ≡ effects → state_carried_out full.fields kind c (answers_of asks) (unchained s) ≡ new
    → new.channel ≡ option_map two_messages_later s.channel
    → AtCourse w (all_committed effects full) new (later new.channel reply) told
carried_with w full s new kind c later told reply effects asks did those is due_is new_is opens =
    carried_on w full s new kind c later told reply effects did
    (ap (outcome_at kind full (unchained s) c) those ∙ is)
    (ap (due_then kind full (unchained s) c) those ∙ due_is)
    (ap (λ (l : List Ask). state_carried_out full.fields kind c (answers_of l) (unchained s)) those ∙ new_is) opens

-- it was refused, and the session goes on
pub refused_on : (w : Way) (full : FullRecord) (s : State) (kind : Kind) (c : PlainCommand) (later : Option ChannelState → PlainReply → Course) (told : List Told) (rule : ℕ) (reply : PlainReply)
    → (did : IsHandledSo w full s kind c later told) → outcome_at kind full (unchained s) c did.asks ≡ record { rule = rule; reply = reply }
    → due_then kind full (unchained s) c did.asks ≡ [] → (rule == 0) ≡ false → ends_session_by rule ≡ false
    → AtCourse w full (state_refused (unchained s)) (later (state_refused (unchained s)).channel reply) told
refused_on w full s kind c later told rule reply did is due_is fails stays =
    let state_is : state_due rule (state_by_kind full.fields rule kind c (answers_of did.asks) (unchained s)) ≡ state_refused (unchained s) =
    ap (λ (b : Bool). if b then fresh else state_by_kind full.fields rule kind c (answers_of did.asks) (unchained s)) stays
    ∙ ap (λ (b : Bool). if b then state_carried_out full.fields kind c (answers_of did.asks) (unchained s) else state_refused (unchained s)) fails in
    subst (λ (ch : Option ChannelState). AtCourse w full (state_refused (unchained s)) (later ch reply) told) (sym (counted_twice s.channel))
    (subst (λ (t : State). AtCourse w full t (later (counted (counted s.channel)) reply) told) state_is
    (subst (λ (l : List PlainEffect). AtCourse w (all_committed l full) (state_due rule (state_by_kind full.fields rule kind c (answers_of did.asks) (unchained s))) (later (counted (counted s.channel)) reply) told) due_is
    (subst (λ (o : Outcome). AtCourse w (all_committed (due_then kind full (unchained s) c did.asks) full)
    (state_due o.rule (state_by_kind full.fields o.rule kind c (answers_of did.asks) (unchained s))) (later (counted (counted s.channel)) o.reply) told) is did.goes)))

-- ---- how far a session has come

-- behind a PACE
pub record IsPaced (s : State) (memory : PaceMemory) : Type 0 where
  pub pace : s.pace ≡ Some memory
  pub certificates : s.certificates ≡ no_chain
  pub terminal : s.terminal ≡ None
  pub chip : s.chip_proven ≡ false

-- behind a terminal authentication, with this chain
pub record IsKnown (s : State) (memory : PaceMemory) (chain : PlainChain) (known : PlainTerminalKnown) : Type 0 where
  pub pace : s.pace ≡ Some memory
  pub certificates : s.certificates ≡ chain
  pub terminal : s.terminal ≡ Some known
  pub chip : s.chip_proven ≡ false

-- behind the chip authentication too, with the application selected
pub record IsProven (s : State) (memory : PaceMemory) (chain : PlainChain) (known : PlainTerminalKnown) : Type 0 where
  pub pace : s.pace ≡ Some memory
  pub certificates : s.certificates ≡ chain
  pub terminal : s.terminal ≡ Some known
  pub chip : s.chip_proven ≡ true
  pub selected : s.selected ≡ true

-- One exchange of a session that went to its end: what the chip did, and how the terminal goes on.
use Rattle.std.proofs.Common.{◌≡◌, ◌≤◌, true, List, [], ◌∷◌, ◌++◌, length, Option, Some, None, refl, ap, ◌∙◌, subst}
use Rattle.std.specs.Prelude.{IfSome}
use Rattle.std.specs.List.{All}
use Rattle.std.proofs.lemmas.List.Elements.{All-head, All-tail}
use Rattle.eid_apdu.specs.Answer.{PlainReply}
use Rattle.eid_apdu.specs.Command.{PlainCommand}
use Rattle.eid_copro.specs.Asks.{fits}
use Rattle.eid_copro.specs.declared.ask.Ask.{Ask}
use Rattle.eid_copro.specs.declared.ask.Answer.{Answer}
use Rattle.eid_copro.specs.declared.ask.Question.{Question}
use Rattle.eid_record.specs.Plain.{FullRecord}
use Rattle.eid_sm.specs.Commands.{IsPlainClass}
use Rattle.eid_sm.specs.Keys.{ChannelState}
use Rattle.eid_model.specs.declared.kind.Kind.{Kind}
use Rattle.eid_model.specs.Legal.{AreAsked, sent_in}
use Rattle.eid_model.specs.Moments.{PlainMoment, live}
use Rattle.eid_model.specs.Sessions.{State, channel, unchained}
use Rattle.eid_terminal.specs.Courses.{Course, Asks, Sends}
use Rattle.eid_terminal.specs.Exchanges.{by_reading, counted}
use Rattle.eid_terminal.specs.declared.action.Step.{Step}
use Rattle.eid_run.specs.Conversations.{Exchange, IsEnd, Talks, Told}
use Rattle.eid_run.specs.Sessions.{bytes_or_none}
use Rattle.eid_run.proofs.Going.{IsFair, IsGiven, Leads}
use Rattle.eid_run.proofs.Turns.{CanBeSent, IsOfKind, StandsAt, Took, heard_so, outcome_at, took}

-- ---- questions

-- a session that goes on to its end puts the question that comes
pub record WasAsked (question : Question) (later : Answer → Course) (asks : List Ask) (exchanges : List Exchange) (told : List Told) (at : Course) : Type 0 where
  pub ask : Ask
  pub rest : List Ask
  pub same : ask.question ≡ question
  pub given : IsGiven ask
  pub further : All IsGiven rest
  pub talks : Talks (later ask.answer) rest exchanges told at

pub was_asked : (question : Question) (later : Answer → Course) (asks : List Ask) (exchanges : List Exchange) (told : List Told) (at : Course) → IsEnd at → All IsGiven asks
    → Talks (Asks question later) asks exchanges told at → WasAsked question later asks exchanges told at
was_asked question later [] exchanges told at end given talks = absurd (subst IsEnd talks.3 end)
was_asked question later (ask ∷ rest) exchanges told at end given talks = record {
  ask = ask;
  rest = rest;
  same = talks.0;
  given = All-head IsGiven ask rest given;
  further = All-tail IsGiven ask rest given;
  talks = talks.1;
}

-- the chip puts no question, or this one first
pub none_asked : (next : List Answer → Option Question) (given : List Answer) (asks : List Ask) → AreAsked next given asks → next given ≡ None → asks ≡ []
none_asked next given [] asked none = refl
none_asked next given (ask ∷ later) asked none = absurd (by (next given) none asked.0) where
  by : (o : Option Question) → o ≡ None → o ≡ Some ask.question → ⊥
  by o p q = cc

pub record Asked (next : List Answer → Option Question) (given : List Answer) (asks : List Ask) (question : Question) : Type 0 where
  pub answer : Answer
  pub later : List Ask
  pub is : asks ≡ record { question = question; answer = answer } ∷ later
  pub fit : fits question answer ≡ true
  pub asked : AreAsked next (given ++ answer ∷ []) later

pub one_asked : (next : List Answer → Option Question) (given : List Answer) (asks : List Ask) (question : Question) → AreAsked next given asks → next given ≡ Some question → Asked next given asks question
one_asked next given [] question asked some = absurd (by (next given) asked some) where
  by : (o : Option Question) → o ≡ None → o ≡ Some question → ⊥
  by o p q = cc
one_asked next given (ask ∷ later) question asked some =
    let same : ask.question ≡ question = by (next given) asked.0 some in
    record {
      answer = ask.answer;
      later = later;
      is = ap (λ (q : Question). record { question = q; answer = ask.answer } ∷ later) same;
      fit = subst (λ (q : Question). fits q ask.answer ≡ true) same asked.1;
      asked = asked.2;
    } where
      by : (o : Option Question) → o ≡ Some ask.question → o ≡ Some question → ask.question ≡ question
      by o p q = cc

-- ---- commands

-- a session that goes on to its end has an exchange for the command that comes
pub record Exchanged (opening : FullRecord) (before after : List PlainMoment) (full : FullRecord) (s : State) (kind : Kind) (c : PlainCommand) (later : Option ChannelState → PlainReply → Course)
    (asks : List Ask) (told : List Told) (at : Course) : Type 0 where
  pub moment : PlainMoment
  pub rest : List Exchange
  pub fair : IsFair moment
  pub took : Took opening before full (unchained s) kind c moment
  pub leads : Leads opening (moment ∷ before) rest after
  pub talks : Talks (later (counted (counted s.channel)) (outcome_at kind full (unchained s) c moment.asks).reply) asks rest told at

-- a command whose body will consist of bytes can be sent
pub record HasSize (c : PlainCommand) : Type 0 where
  pub short : length c.body ≤ 2048
  pub most : c.ne ≤ 65536
  pub class : IsPlainClass c.cla

pub exchanged : (step : Step) (opening : FullRecord) (before after : List PlainMoment) (full : FullRecord) (s : State) (kind : Kind) (c : PlainCommand) (later : Option ChannelState → PlainReply → Course) (asks : List Ask) (exchanges : List Exchange) (told : List Told) (at : Course)
    → StandsAt opening before full (unchained s) → IsOfKind (unchained s) c kind → HasSize c → IsEnd at → Leads opening before exchanges after
    → Talks (Sends (counted s.channel) c (by_reading step (later (counted (counted s.channel))))) asks exchanges told at
    → Exchanged opening before after full s kind c later asks told at
exchanged step opening before after full s kind c later asks [] told at stands is size end leads talks = absurd (subst IsEnd talks.3 end)
exchanged step opening before after full s kind c later asks (e ∷ rest) told at stands is size end leads talks =
    let m = leads.0 in
    let turn = leads.1.0 in
    let can : CanBeSent c = record { short = size.short; most = size.most; class = size.class; octets = talks.0.octets } in
    let did = took opening before full s kind c m e.command stands is can talks.0.written turn.input turn.steady turn.legal in
    let o = outcome_at kind full (unchained s) c m.asks in
    let sends : e.reply ≡ sent_in s.channel o.rule o.reply = turn.reply ∙ ap bytes_or_none did.sent in
    let ch_is : channel (live before) ≡ s.channel = ap (λ (t : State). t.channel) stands.state_left in
    let well = subst (λ (a : Option PlainReply). IfSome a _) did.answered turn.fair.answer in
    let heard : talks.1.0 ≡ Some o.reply = heard_so (live before) s.channel o.rule o.reply e.reply talks.1.0 ch_is did.other well.reply well.octets sends talks.1.1.0 in
    record {
      moment = m;
      rest = rest;
      fair = turn.fair;
      took = did;
      leads = leads.1.1;
      talks = subst (λ (r : Option PlainReply). Talks (by_reading step (later (counted (counted s.channel))) r) asks rest told at) heard talks.1.1.1;
    }

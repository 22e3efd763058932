-- What comes of a command that a terminal sends to a chip with power, as a legal journal tells it.
use Rattle.std.proofs.Common.{◌≡◌, ℕ, ◌≤◌, Bool, true, false, ◌&&◌, List, [], ◌∷◌, length, Option, Some, None, refl, sym, ap, ◌∙◌, subst, arith}
use Rattle.std.specs.Prelude.{is_none}
use Rattle.eid_apdu.specs.Answer.{PlainReply, IsReply, spelled}
use Rattle.eid_apdu.specs.Command.{PlainCommand}
use Rattle.eid_apdu.proofs.OneReply.{one_reply}
use Rattle.eid_apdu.proofs.Written.{spells_written}
use Rattle.eid_copro.specs.declared.ask.Ask.{Ask}
use Rattle.eid_copro.specs.declared.ask.Answer.{Answer}
use Rattle.eid_record.specs.Plain.{FullRecord, PlainEffect}
use Rattle.eid_sm.specs.Commands.{IsPlainClass}
use Rattle.eid_sm.specs.Keys.{ChannelState, next_counter}
use Rattle.eid_sm.specs.Parts.{AreBytes}
use Rattle.eid_sm.specs.Replies.{sealed}
use Rattle.eid_sm.proofs.OneProtected.{one_sealed}
use Rattle.eid_sm.proofs.ProtectedFacts.{written_is_protected}
use Rattle.eid_model.specs.declared.kind.Kind.{Kind}
use Rattle.eid_model.specs.Answers.{Outcome, outcome, outcome_of, due, due_by, kind_incoming, question, question_by, situation}
use Rattle.eid_model.specs.Kinds.{kind_named}
use Rattle.eid_model.specs.Ledger.{accepted, all_committed, kept, state_of, terminal, MayHold}
use Rattle.eid_model.proofs.Ledgers.{AreEntered}
use Rattle.eid_model.specs.Legal.{AreAsked, IsHandled, IsLegalMoment, IsMoment, IsPowered, IsLegalFor, IsReadAs, answered, sent_in, situation_after}
use Rattle.eid_model.specs.Moments.{PlainMoment, Event, Received, live, lost, is_lost, on}
use Rattle.eid_model.specs.Rules.{Incoming, OfCommand, Situation, kind_rules, naming_rules, request_rules}
use Rattle.eid_model.specs.Runs.{answers_of}
use Rattle.eid_model.specs.Sessions.{State, channel, unchained}
use Rattle.eid_model.proofs.Journals.{same_incoming}
use Rattle.eid_model.proofs.KeyBytes.{channel_bytes}
use Rattle.eid_model.proofs.Books.{due_entered, due_incoming, on_pends_nothing, stood_answered}
use Rattle.eid_chip.specs.Steps.{known, refusal_by, state_due, with_command}
use Rattle.eid_chip.specs.Transitions.{state_answered, state_by_kind}
use Rattle.eid_chip.proofs.Follow.{left_more, state_more}
use Rattle.eid_chip.proofs.Outcomes.{Ends, asked_alike, command_rule, is_on_objects, kind_due, kind_outcome, kind_question, request_passes}
use Rattle.eid_terminal.specs.Courses.{IsReading, sent}
use Rattle.eid_terminal.specs.Exchanges.{counted}

-- ---- what the chip reads

-- a command that the writer can send, in a channel too
pub record CanBeSent (c : PlainCommand) : Type 0 where
  pub short : length c.body ≤ 2048
  pub most : c.ne ≤ 65536
  pub class : IsPlainClass c.cla
  pub octets : AreBytes c.body

reads_so : (ch : Option ChannelState) (c : PlainCommand) (bytes : List ℕ) → CanBeSent c → bytes ≡ sent (counted ch) c → IsReadAs ch bytes (OfCommand c)
reads_so None c bytes can is = (rw is (spells_written c (omega (arith, can.short)) can.most), omega (arith, can.short))
reads_so (Some ch) c bytes can is = written_is_protected ch.keys (next_counter ch.counter) bytes c is can.short can.most can.class can.octets

-- the chip reads the command that the terminal wrote
pub read_so : (session : List PlainMoment) (ch : Option ChannelState) (c : PlainCommand) (bytes : List ℕ) (incoming : Incoming) → channel session ≡ ch → CanBeSent c → bytes ≡ sent (counted ch) c → IsReadAs ch bytes incoming → incoming ≡ OfCommand c
read_so session ch c bytes incoming opens can is reads = same_incoming session ch bytes incoming (OfCommand c) opens reads (reads_so ch c bytes can is)

-- ---- what the terminal reads

-- the key for encryption consists of bytes
abbrev HasKeyBytes : Option ChannelState → Type 0
HasKeyBytes None = Unit {0}
HasKeyBytes (Some ch) = AreBytes ch.keys.enc

key_bytes : (session : List PlainMoment) (ch : Option ChannelState) → channel session ≡ ch → HasKeyBytes ch
key_bytes session None opens = tt
key_bytes session (Some ch) opens = channel_bytes session ch opens

plain_heard : (reply : PlainReply) (reading : Option PlainReply) → IsReply reply → IsReading None (spelled reply) reading → reading ≡ Some reply
plain_heard reply None is reads = absurd (reads reply (is, refl))
plain_heard reply (Some other) is reads = ap Some (one_reply other reply (sym reads.1) reads.0 is)

sealed_heard : (ch : ChannelState) (n : ℕ) (reply : PlainReply) (reading : Option PlainReply) → AreBytes ch.keys.enc → IsReply reply → AreBytes reply.content → n ≡ next_counter ch.counter → IsReading (Some ch) (sealed ch.keys n reply) reading → reading ≡ Some reply
sealed_heard ch n reply None octets is bytes at reads = absurd (reads reply (record { reply = is; octets = bytes; written = rw at refl }))
sealed_heard ch n reply (Some other) octets is bytes at reads =
    ap Some (one_sealed ch.keys (next_counter ch.counter) (sealed ch.keys n reply) other reply octets reads (record { reply = is; octets = bytes; written = rw at refl }))

sent_sealed : (ch : ChannelState) (rule : ℕ) (reply : PlainReply) → is_on_objects rule ≡ false → sent_in (Some ch) rule reply ≡ sealed ch.keys (next_counter (next_counter ch.counter)) reply
sent_sealed ch rule reply other = rw other refl

heard_in : (ch : Option ChannelState) (rule : ℕ) (reply : PlainReply) (bytes : List ℕ) (reading : Option PlainReply) → HasKeyBytes ch → is_on_objects rule ≡ false → IsReply reply → AreBytes reply.content → bytes ≡ sent_in ch rule reply
    → IsReading (counted ch) bytes reading → reading ≡ Some reply
heard_in None rule reply bytes reading octets other is octet sends reads = plain_heard reply reading is (subst (λ (b : List ℕ). IsReading None b reading) sends reads)
heard_in (Some ch) rule reply bytes reading octets other is octet sends reads =
    sealed_heard (record { keys = ch.keys; counter = next_counter ch.counter }) (next_counter (next_counter ch.counter)) reply reading octets is octet refl
    (subst (λ (b : List ℕ). IsReading (counted (Some ch)) b reading) (sends ∙ sent_sealed ch rule reply other) reads)

-- the terminal reads the reply that the chip sent
pub heard_so : (session : List PlainMoment) (ch : Option ChannelState) (rule : ℕ) (reply : PlainReply) (bytes : List ℕ) (reading : Option PlainReply) → channel session ≡ ch → is_on_objects rule ≡ false → IsReply reply → AreBytes reply.content
    → bytes ≡ sent_in ch rule reply → IsReading (counted ch) bytes reading → reading ≡ Some reply
heard_so session ch rule reply bytes reading opens = heard_in ch rule reply bytes reading (key_bytes session ch opens)

-- ---- a turn

-- With these moments the chip has power, its state is this, and this record is kept.
pub record StandsAt (opening : FullRecord) (before : List PlainMoment) (full : FullRecord) (state : State) : Type 0 where
  pub power : on before ≡ true
  pub record_kept : kept opening before ≡ full
  pub state_left : state_of opening before ≡ state

-- the outcome of a command of this kind, with these answers
abbrev pub outcome_at : Kind → FullRecord → State → PlainCommand → List Ask → Outcome
outcome_at kind full state c asks = outcome_of kind_rules (known kind full state c (answers_of asks))

abbrev pub due_then : Kind → FullRecord → State → PlainCommand → List Ask → List PlainEffect
due_then kind full state c asks = due_by kind_rules (known kind full state c (answers_of asks))

-- A command of this kind was handled, in this state and over this record: these questions were put, this reply was sent, and
-- the chip stands there then.
pub record Took (opening : FullRecord) (before : List PlainMoment) (full : FullRecord) (state : State) (kind : Kind) (c : PlainCommand) (m : PlainMoment) : Type 0 where
  pub asked : AreAsked (λ answers. question_by kind_rules (known kind full state c answers)) [] m.asks
  pub sent : m.sent ≡ Some (sent_in state.channel (outcome_at kind full state c m.asks).rule (outcome_at kind full state c m.asks).reply)
  pub plain : m.plain ≡ Some c
  pub answered : m.answer ≡ Some (outcome_at kind full state c m.asks).reply
  pub other : is_on_objects (outcome_at kind full state c m.asks).rule ≡ false
  pub stands : StandsAt opening (m ∷ before) (all_committed (due_then kind full state c m.asks) full)
      (state_due (outcome_at kind full state c m.asks).rule (state_by_kind full.fields (outcome_at kind full state c m.asks).rule kind c (answers_of m.asks) state))

-- what is asked of a command, so that the chip answers it by the rules of its kind
pub record IsOfKind (state : State) (c : PlainCommand) (kind : Kind) : Type 0 where
  pub unchained : state.chaining ≡ None
  pub named : kind_named state.next c ≡ Some kind
  pub passes : (full : FullRecord) (answers : List Answer) → refusal_by naming_rules (with_command full state c answers) ≡ None

-- ---- from a legal moment

rules_hold : (full : FullRecord) (s : State) (c : PlainCommand) (answers : List Answer) → length c.body ≤ 2048 → refusal_by request_rules (with_command full (unchained s) c answers) ≡ None
rules_hold full s c answers short = request_passes full (unchained s) c answers refl short

ends_so : (s : State) (c : PlainCommand) (kind : Kind) → IsOfKind (unchained s) c kind → Ends (unchained s) c kind
ends_so s c kind is = record { goes_on = refl; named = is.named }

same_at : {A : Type 0} (f : Situation → A) (k full : FullRecord) (o s : State) (i j : Incoming) (answers : List Answer) → k ≡ full → o ≡ s → i ≡ j → f (situation k o i answers) ≡ f (situation full s j answers)
same_at f k full o s i j answers records states incoming =
    ap (λ (r : FullRecord). f (situation r o i answers)) records
    ∙ ap (λ (t : State). f (situation full t i answers)) states
    ∙ ap (λ (x : Incoming). f (situation full s x answers)) incoming

-- the moment of a command that was answered
abbrev moment_at : List ℕ → Kind → FullRecord → State → PlainCommand → List Ask → PlainMoment
moment_at bytes kind full s c asks = answered s.channel bytes (OfCommand c) asks (length (due_then kind full s c asks)) (outcome_at kind full s c asks)

-- the record kept behind it
kept_then : (opening : FullRecord) (before : List PlainMoment) (m : PlainMoment) (bytes : List ℕ) (c : PlainCommand) (reply : PlainReply) (full : FullRecord) (effects : List PlainEffect)
    → m.input ≡ Received bytes → m.answer ≡ Some reply → m.plain ≡ Some c → on before ≡ true → on (m ∷ before) ≡ true → kept opening before ≡ full
    → due (situation_after opening before (OfCommand c) (answers_of m.asks)) ≡ effects → m.finished ≡ length effects
    → kept opening (m ∷ before) ≡ all_committed effects full
kept_then opening before m bytes c reply full effects input answer plain power stays is due_is finished =
    let entered = subst (λ (l : List PlainEffect). AreEntered (kept opening before) l) due_is (due_entered (situation_after opening before (OfCommand c) (answers_of m.asks))) in
    let holds = stood_answered opening before m bytes reply effects (Some (all_committed effects (kept opening before))) input answer power
    (due_incoming (kept opening before) (state_of opening before) (OfCommand c) m plain ∙ due_is) finished entered refl in
    let same : Some (all_committed effects (kept opening before)) ≡ Some (kept opening (m ∷ before)) =
    subst (λ (p : Option PlainEffect). MayHold p (kept opening (m ∷ before)) (Some (all_committed effects (kept opening before)))) (on_pends_nothing opening (m ∷ before) stays) holds in
    let one : all_committed effects (kept opening before) ≡ kept opening (m ∷ before) = cc in
    sym one ∙ ap (all_committed effects) is

-- the state behind it
state_then_is : (opening : FullRecord) (before : List PlainMoment) (bytes : List ℕ) (kind : Kind) (full : FullRecord) (s : State) (c : PlainCommand) (asks : List Ask)
    → kept opening before ≡ full → state_of opening before ≡ unchained s → kind_named s.next c ≡ Some kind
    → state_of opening (moment_at bytes kind full (unchained s) c asks ∷ before)
    ≡ state_due (outcome_at kind full (unchained s) c asks).rule (state_by_kind full.fields (outcome_at kind full (unchained s) c asks).rule kind c (answers_of asks) (unchained s))
state_then_is opening before bytes kind full s c asks is state_is named =
    let o = outcome_at kind full (unchained s) c asks in
    let left = state_more (kept opening before).fields (accepted opening before) (terminal opening before) s.channel bytes (OfCommand c) asks (length (due_then kind full (unchained s) c asks)) o (live before) in
    let new : state_answered (kept opening before).fields o.rule (kind_incoming (state_of opening before) (OfCommand c)) c (answers_of asks) (state_of opening before)
    ≡ state_by_kind full.fields o.rule kind c (answers_of asks) (unchained s) =
    ap (λ (k : FullRecord). state_answered k.fields o.rule (kind_incoming (state_of opening before) (OfCommand c)) c (answers_of asks) (state_of opening before)) is
    ∙ ap (λ (t : State). state_answered full.fields o.rule (kind_incoming t (OfCommand c)) c (answers_of asks) t) state_is
    ∙ ap (λ (k : Option Kind). state_answered full.fields o.rule k c (answers_of asks) (unchained s)) named in
    sym (left_more opening before s.channel bytes (OfCommand c) asks (length (due_then kind full (unchained s) c asks)) o _ (left ∙ new))

-- the moment is the one that the rules of its kind make
moment_so : (opening : FullRecord) (before : List PlainMoment) (full : FullRecord) (s : State) (kind : Kind) (c : PlainCommand) (m : PlainMoment) (bytes : List ℕ) (incoming : Incoming) (o : Option PlainReply)
    → m.answer ≡ o → is_none o ≡ false → StandsAt opening before full (unchained s) → IsOfKind (unchained s) c kind → length c.body ≤ 2048 → incoming ≡ OfCommand c
    → IsMoment o (channel (live before)) bytes incoming (due (situation_after opening before incoming (answers_of m.asks))) (outcome (situation_after opening before incoming (answers_of m.asks))) m
    → m ≡ moment_at bytes kind full (unchained s) c m.asks
moment_so opening before full s kind c m bytes incoming None answer some stands is short read moment = absurd (cc)
moment_so opening before full s kind c m bytes incoming (Some reply) answer some stands is short read moment =
    let given = answers_of m.asks in
    let ends = ends_so s c kind is in
    let requests = rules_hold full s c given short in
    let ch : channel (live before) ≡ s.channel = ap (λ (t : State). t.channel) stands.state_left in
    let due_is : due (situation_after opening before incoming given) ≡ due_then kind full (unchained s) c m.asks =
    same_at due (kept opening before) full (state_of opening before) (unchained s) incoming (OfCommand c) given stands.record_kept stands.state_left read
    ∙ kind_due full (unchained s) c kind given ends (is.passes full given) requests in
    let outcome_is : outcome (situation_after opening before incoming given) ≡ outcome_at kind full (unchained s) c m.asks =
    same_at outcome (kept opening before) full (state_of opening before) (unchained s) incoming (OfCommand c) given stands.record_kept stands.state_left read
    ∙ kind_outcome full (unchained s) c kind given ends (is.passes full given) requests in
    moment
    ∙ ap (λ (x : Option ChannelState). answered x bytes incoming m.asks (length (due (situation_after opening before incoming given))) (outcome (situation_after opening before incoming given))) ch
    ∙ ap (λ (i : Incoming). answered s.channel bytes i m.asks (length (due (situation_after opening before incoming given))) (outcome (situation_after opening before incoming given))) read
    ∙ ap (λ (l : List PlainEffect). answered s.channel bytes (OfCommand c) m.asks (length l) (outcome (situation_after opening before incoming given))) due_is
    ∙ ap (λ (x : Outcome). answered s.channel bytes (OfCommand c) m.asks (length (due_then kind full (unchained s) c m.asks)) x) outcome_is

-- the questions are those of its kind
asked_so : (opening : FullRecord) (before : List PlainMoment) (full : FullRecord) (s : State) (kind : Kind) (c : PlainCommand) (incoming : Incoming) (asks : List Ask)
    → StandsAt opening before full (unchained s) → IsOfKind (unchained s) c kind → length c.body ≤ 2048 → incoming ≡ OfCommand c
    → AreAsked (λ answers. question (situation_after opening before incoming answers)) [] asks → AreAsked (λ answers. question_by kind_rules (known kind full (unchained s) c answers)) [] asks
asked_so opening before full s kind c incoming asks stands is short read asked =
    asked_alike (λ answers. question (situation_after opening before incoming answers)) (λ answers. question_by kind_rules (known kind full (unchained s) c answers))
    (λ given.
    same_at question (kept opening before) full (state_of opening before) (unchained s) incoming (OfCommand c) given stands.record_kept stands.state_left read
    ∙ kind_question full (unchained s) c kind given (ends_so s c kind is) (is.passes full given) (rules_hold full s c given short))
    [] asks asked

-- it was handled so
handled_so : (opening : FullRecord) (before : List PlainMoment) (full : FullRecord) (s : State) (kind : Kind) (c : PlainCommand) (m : PlainMoment) (bytes : List ℕ) → StandsAt opening before full (unchained s) → IsOfKind (unchained s) c kind
    → m ≡ moment_at bytes kind full (unchained s) c m.asks → length c.body ≤ 2048
    → AreAsked (λ answers. question_by kind_rules (known kind full (unchained s) c answers)) [] m.asks → Took opening before full (unchained s) kind c m
handled_so opening before full s kind c m bytes stands is same short asked =
    let given = answers_of m.asks in
    let made = moment_at bytes kind full (unchained s) c m.asks in
    let due_is : due (situation_after opening before (OfCommand c) given) ≡ due_then kind full (unchained s) c m.asks =
    same_at due (kept opening before) full (state_of opening before) (unchained s) (OfCommand c) (OfCommand c) given stands.record_kept stands.state_left refl
    ∙ kind_due full (unchained s) c kind given (ends_so s c kind is) (is.passes full given) (rules_hold full s c given short) in
    record {
      asked = asked;
      sent = ap (λ (x : PlainMoment). x.sent) same;
      plain = ap (λ (x : PlainMoment). x.plain) same;
      answered = ap (λ (x : PlainMoment). x.answer) same;
      other = command_rule full (unchained s) c given (outcome_at kind full (unchained s) c m.asks)
          (kind_outcome full (unchained s) c kind given (ends_so s c kind is) (is.passes full given) (rules_hold full s c given short));
      stands = subst (λ (x : PlainMoment). StandsAt opening (x ∷ before) (all_committed (due_then kind full (unchained s) c m.asks) full)
          (state_due (outcome_at kind full (unchained s) c m.asks).rule (state_by_kind full.fields (outcome_at kind full (unchained s) c m.asks).rule kind c given (unchained s)))) (sym same) (record {
            power = stands.power;
            record_kept = kept_then opening before made bytes c (outcome_at kind full (unchained s) c m.asks).reply full (due_then kind full (unchained s) c m.asks)
                refl refl refl stands.power stands.power stands.record_kept due_is refl;
            state_left = state_then_is opening before bytes kind full s c m.asks stands.record_kept stands.state_left is.named;
          });
    }

alone : (b : Bool) → (b && true) ≡ false → b ≡ false
alone true e = e
alone false e = refl

-- A command that can be sent, of this kind: the chip with power handles it so, where the power is not cut.
pub took : (opening : FullRecord) (before : List PlainMoment) (full : FullRecord) (s : State) (kind : Kind) (c : PlainCommand) (m : PlainMoment) (bytes : List ℕ)
    → StandsAt opening before full (unchained s) → IsOfKind (unchained s) c kind → CanBeSent c → bytes ≡ sent (counted s.channel) c
    → m.input ≡ Received bytes → lost m before ≡ false → IsLegalMoment opening before m → Took opening before full (unchained s) kind c m
took opening before full s kind c m bytes stands is can written input steady legal =
    let handled : IsHandled opening before bytes m = subst (λ (e : Event). IsLegalFor e opening before m) input legal in
    let p : IsPowered opening before bytes m = handled.powered stands.power in
    let ch : channel (live before) ≡ s.channel = ap (λ (t : State). t.channel) stands.state_left in
    let read = read_so (live before) s.channel c bytes p.incoming ch can written (subst (λ (x : Option ChannelState). IsReadAs x bytes p.incoming) ch p.reads) in
    let not_lost : (is_none m.answer && true) ≡ false = subst (λ (b : Bool). (is_none m.answer && b) ≡ false) stands.power (subst (λ (e : Event). is_lost e (is_none m.answer && on before) ≡ false) input steady) in
    let some : is_none m.answer ≡ false = alone (is_none m.answer) not_lost in
    handled_so opening before full s kind c m bytes stands is (moment_so opening before full s kind c m bytes p.incoming m.answer refl some stands is can.short read p.moment) can.short
    (asked_so opening before full s kind c p.incoming m.asks stands is can.short read p.asked)

-- A PACE with the PIN goes on only while a try is left.
use Rattle.std.proofs.Common.{◌≡◌, ℕ, ◌≤◌, Bool, true, false, ◌==◌, List, [], Option, Some, None, refl, sym, ap, ◌∙◌, subst, inl, inr}
use Rattle.std.specs.Prelude.{◌⊎◌}
use Rattle.std.proofs.lemmas.Bool.{leb-true, eqb-true}
use Rattle.eid_apdu.specs.Command.{PlainCommand}
use Rattle.eid_apdu.specs.Chaining.{OpenChain, is_fragment, request}
use Rattle.eid_apdu.specs.Answer.{PlainReply}
use Rattle.eid_copro.specs.declared.ask.Ask.{Ask}
use Rattle.eid_copro.specs.declared.ask.Answer.{Answer}
use Rattle.eid_record.specs.Plain.{FullRecord, PlainRecord, PlainEffect}
use Rattle.eid_store.specs.Stands.{stands}
use Rattle.eid_store.specs.Store as stored
use Rattle.eid_sm.specs.Keys.{ChannelState}
use Rattle.eid_model.specs.declared.kind.Kind.{Kind}
use Rattle.eid_model.specs.declared.kind.Kind.TheVariants.{EncryptedNonce}
use Rattle.eid_model.specs.Answers.{Outcome, due, outcome, situation, kind_incoming, command_of}
use Rattle.eid_model.specs.Laws.{goes_on_with_pin}
use Rattle.eid_model.specs.Ledger.{all_committed}
use Rattle.eid_model.specs.Moments.{ends_session_by}
use Rattle.eid_model.specs.Rules.{Incoming, OfCommand, Situation, starts_pin}
use Rattle.eid_model.specs.Runs.{Phase, answers_of, is_piece_of_next}
use Rattle.eid_model.specs.Sessions.{State}
use Rattle.eid_model.proofs.Books.{nothing_due}
use Rattle.eid_model.proofs.Compared.{is_compared, try_held}
use Rattle.eid_model.proofs.Laws.{GoesOn, goes_entered}
use Rattle.eid_chip.specs.Held.{held}
use Rattle.eid_chip.specs.States.{chained, phase_of, state}
use Rattle.eid_chip.specs.Steps.{IsEndedByRules, Reacts, outcome_seen, state_due}
use Rattle.eid_chip.specs.Transitions.{state_answered, state_unkinded}
use Rattle.eid_chip.specs.Tries.{IsIdleIfLost, IsTryLeft, tries_pin}
use Rattle.eid_chip.specs.Worlds.{World, IsMounted}
use Rattle.eid_chip.specs.declared.reaction.Ending.{Ending}
use Rattle.eid_chip.specs.declared.reaction.Ending.TheVariants as endings
use Rattle.eid_chip.specs.Endings.{Answered, Reacted, ended, reacted}
use Rattle.eid_chip.specs.declared.session.Run.{Run}
use Rattle.eid_chip.specs.declared.session.Run.TheVariants as runs
use Rattle.eid_chip.specs.declared.session.Session.{Session}
use Rattle.eid_chip.proofs.HeldFiles.{held_is, held_fields}

-- the run tries the PIN where its phase does
phase_tries : (run : Run) → tries_pin run ≡ goes_on_with_pin (phase_of run)
phase_tries runs.Idle = refl
phase_tries (runs.Chosen chosen) = refl
phase_tries (runs.NonceSent sent) = refl
phase_tries (runs.Mapped mapped) = refl
phase_tries (runs.Agreed agreed) = refl
phase_tries (runs.KeyChosen name) = refl
phase_tries runs.RiChosen = refl

-- What was answered where the PACE goes on: a request was carried out that goes on, or a fragment taken.
record Continued (rule : ℕ) (kind : Option Kind) (before : Phase) : Type 0 where
  carried_out : rule ≡ 0
  goes : GoesOn kind before

-- a command without a kind
unkinded_at : (done piece goes : Bool) (rule : ℕ) (c : PlainCommand) (old : State) → (rule == 0) ≡ done → is_fragment c ≡ piece → is_piece_of_next old.next (Some c) ≡ goes
    → goes_on_with_pin (state_unkinded rule c old).phase ≡ true → Continued rule None old.phase
unkinded_at true true true rule c old is fragment next e = record {
  carried_out = eqb-true rule 0 is;
  goes = record { commits_nothing = λ s. refl; by_step = inr (rw (is, fragment, next) at e) };
}
unkinded_at true true false rule c old is fragment next e = absurd (let none : goes_on_with_pin (state_unkinded rule c old).phase ≡ false = rw (is, fragment, next) refl in cc)
unkinded_at true false goes rule c old is fragment next e = absurd (let none : goes_on_with_pin (state_unkinded rule c old).phase ≡ false = rw (is, fragment) refl in cc)
unkinded_at false piece goes rule c old is fragment next e = absurd (let none : goes_on_with_pin (state_unkinded rule c old).phase ≡ false = rw is refl in cc)

continued_at : (kept : PlainRecord) (ends : Bool) (done : Bool) (rule : ℕ) (kind : Option Kind) (c : PlainCommand) (given : List Answer) (old : State) → ends_session_by rule ≡ ends → (rule == 0) ≡ done
    → goes_on_with_pin (state_due rule (state_answered kept rule kind c given old)).phase ≡ true → Continued rule kind old.phase
continued_at kept true done rule kind c given old ends is e = absurd (let none : goes_on_with_pin (state_due rule (state_answered kept rule kind c given old)).phase ≡ false = rw ends refl in cc)
continued_at kept false done rule None c given old ends is e =
    unkinded_at (rule == 0) (is_fragment c) (is_piece_of_next old.next (Some c)) rule c old refl refl refl (rw ends at e)
continued_at kept false false rule (Some kind) c given old ends is e = absurd (let none : goes_on_with_pin (state_due rule (state_answered kept rule (Some kind) c given old)).phase ≡ false = rw (ends, is) refl in cc)
continued_at kept false true rule (Some kind) c given old ends is e = record {
  carried_out = eqb-true rule 0 is;
  goes = goes_entered kind (request old.chaining c) given old.phase (rw (ends, is) at e);
}

-- a command that commits nothing leaves the fields
fields_stay : (was now : World) → IsMounted was → IsMounted now → stands now.cells ≡ Some (held was.cells) → stored.fields_of now.store ≡ stored.fields_of was.store
fields_stay was now before after same =
    sym (held_fields now.store now.device now.cells after) ∙ ap (λ (f : FullRecord). f.fields) (held_is now.cells (held was.cells) same) ∙ held_fields was.store was.device was.cells before

abbrev seen_at : Session → Option ChannelState → Option OpenChain → Incoming → List Ask → World → Situation
seen_at session channel fragments incoming asks was = situation (held was.cells) (chained fragments (state session channel)) incoming (answers_of asks)

tries_left : (session : Session) (channel : Option ChannelState) (fragments : Option OpenChain) (incoming : Incoming) (asks : List Ask) (r : Reacted) (reply : PlainReply) (was now : World) → IsMounted was → IsTryLeft session.run (stored.fields_of was.store)
    → outcome (seen_at session channel fragments incoming asks was) ≡ outcome_seen r reply → IsMounted now → stands now.cells ≡ Some (all_committed (due (seen_at session channel fragments incoming asks was)) (held was.cells))
    → Continued r.rule (kind_incoming (chained fragments (state session channel)) incoming) (phase_of session.run) → 1 ≤ (stored.fields_of now.store).tries
tries_left session channel fragments incoming asks r reply was now mounted earlier is after leaves went = by went.goes.by_step where
  s : Situation
  s = seen_at session channel fragments incoming asks was

  none : due s ≡ []
  none = nothing_due s (went.goes.commits_nothing s)

  same : stored.fields_of now.store ≡ stored.fields_of was.store
  same = fields_stay was now mounted after (leaves ∙ ap (λ (l : List PlainEffect). Some (all_committed l (held was.cells))) none)

  stays : 1 ≤ (stored.fields_of was.store).tries → 1 ≤ (stored.fields_of now.store).tries
  stays left = subst (λ (f : PlainRecord). 1 ≤ f.tries) (sym same) left

  by : ((kind_incoming (chained fragments (state session channel)) incoming ≡ Some EncryptedNonce) × (starts_pin (phase_of session.run) ≡ true)) ⊎ (goes_on_with_pin (phase_of session.run) ≡ true) → 1 ≤ (stored.fields_of now.store).tries
  by (inl first) =
      let compared : is_compared (outcome s).rule ≡ true = ap is_compared (ap (λ (o : Outcome). o.rule) is ∙ went.carried_out) in
      let held_try = leb-true 1 (held was.cells).fields.tries (try_held s first.0 compared first.1) in
      stays (subst (λ (f : PlainRecord). 1 ≤ f.tries) (held_fields was.store was.device was.cells mounted) held_try)
  by (inr goes) = stays (earlier (phase_tries session.run ∙ goes))

-- the tries after a command that was answered
pub try_stays : (session : Session) (channel : Option ChannelState) (fragments : Option OpenChain) (incoming : Incoming) (asks : List Ask) (r : Reacted) (finished : ℕ) (reply : PlainReply) (left : Option OpenChain) (was now : World) → IsMounted was → IsTryLeft session.run (stored.fields_of was.store)
    → IsEndedByRules (chained fragments (state session channel)) incoming asks (Answered r finished) reply left was now → IsTryLeft r.session.run (stored.fields_of now.store)
try_stays session channel fragments incoming asks r finished reply left was now mounted earlier ended tries =
    let old : State = chained fragments (state session channel) in
    let s : Situation = situation (held was.cells) old incoming (answers_of asks) in
    let next : phase_of r.session.run ≡ (state_due r.rule (state_answered (held was.cells).fields r.rule (kind_incoming old incoming) (command_of incoming) (answers_of asks) old)).phase = ap (λ (x : State). x.phase) ended.next in
    let goes : goes_on_with_pin (state_due r.rule (state_answered (held was.cells).fields r.rule (kind_incoming old incoming) (command_of incoming) (answers_of asks) old)).phase ≡ true =
    ap goes_on_with_pin (sym next) ∙ sym (phase_tries r.session.run) ∙ tries in
    let went = continued_at (held was.cells).fields (ends_session_by r.rule) (r.rule == 0) r.rule (kind_incoming old incoming) (command_of incoming) (answers_of asks) old refl refl goes in
    tries_left session channel fragments incoming asks r reply was now mounted earlier ended.ended.1 ended.leaves.0 ended.leaves.1 went

-- and so after a command
pub reaction_stays : (session : Session) (fragments : Option OpenChain) (c : PlainCommand) (r : Reacted) (finished : ℕ) (reply : PlainReply) (left : Option OpenChain) (was now : World) → IsMounted was → IsTryLeft session.run (stored.fields_of was.store)
    → Reacts session fragments c (Answered r finished) reply left was now → IsTryLeft r.session.run (stored.fields_of now.store)
reaction_stays session fragments c r finished reply left was now mounted earlier reacts =
    try_stays session None fragments (OfCommand c) reacts.asks r finished reply left was now mounted earlier (reacts.ended None)

-- no run tries the PIN where there is none
idle_tries : (run : Run) (kept : PlainRecord) → run ≡ runs.Idle → IsTryLeft run kept
idle_tries run kept idle tries = absurd (let none : tries_pin run ≡ false = ap tries_pin idle in cc)

-- and so however it ended
pub ending_stays : (ending : Ending) (session new : Session) (fragments : Option OpenChain) (c : PlainCommand) (reply : PlainReply) (left : Option OpenChain) (was now : World) → IsMounted was → IsTryLeft session.run (stored.fields_of was.store)
    → IsIdleIfLost ending new.run → Reacts session fragments c (ended ending new) reply left was now → IsTryLeft new.run (stored.fields_of now.store)
ending_stays (endings.Answered reaction finished) session new fragments c reply left was now mounted earlier idle reacts =
    reaction_stays session fragments c (reacted reaction new) finished reply left was now mounted earlier reacts
ending_stays (endings.Lost finished) session new fragments c reply left was now mounted earlier idle reacts = idle_tries new.run (stored.fields_of now.store) idle

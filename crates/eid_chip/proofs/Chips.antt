-- From what the chip did to the journal with its moment.
use Rattle.std.proofs.Common.{◌≡◌, ℕ, Bool, true, false, ◌==◌, ◌||◌, List, [], ◌∷◌, Option, Some, None, refl, sym, ap, ◌∙◌, subst}
use Rattle.std.specs.Prelude.{is_some, option_map, if◌then◌else◌}
use Rattle.std.specs.Option.{option_or}
use Rattle.eid_apdu.specs.Command.{PlainCommand}
use Rattle.eid_apdu.specs.Chaining.{OpenChain}
use Rattle.eid_apdu.specs.Answer.{PlainReply, spelled}
use Rattle.eid_cells.specs.Device.{Device}
use Rattle.eid_copro.specs.Seen.{CoproSeen}
use Rattle.eid_copro.specs.declared.ask.Ask.{Ask}
use Rattle.eid_record.specs.Plain.{FullRecord, PlainRecord, PlainEffect}
use Rattle.eid_sm.specs.Keys.{ChannelState, advanced}
use Rattle.eid_store.specs.declared.store.Store.{Store}
use Rattle.eid_store.specs.Stands.{stands}
use Rattle.eid_store.specs.Store as stored
use Rattle.eid_model.specs.Moments.{PoweredOn, PoweredOff, Received, PlainMoment, on, ends_session_by}
use Rattle.eid_model.specs.Sessions.{State, fresh}
use Rattle.eid_model.specs.Legal.{IsReadAs, IsLegalMoment, answered, lost_in, sent_in, silent}
use Rattle.eid_model.specs.Ledger.{account, kept, pending, state_of, MayHold}
use Rattle.eid_model.specs.Rules.{Incoming, plain_of}
use Rattle.eid_model.proofs.Books.{on_pends_nothing, stood_silent, stood_off, stood_cut, stood_on}
use Rattle.eid_model.proofs.Ledgers.{nothing_committed}
use Rattle.eid_chip.specs.Endings.{Ended, Reacted}
use Rattle.eid_chip.specs.Endings as ended
use Rattle.eid_chip.specs.declared.running.Running.{Running}
use Rattle.eid_chip.specs.Held.{held}
use Rattle.eid_chip.specs.Worlds.{World}
use Rattle.eid_chip.specs.States.{RunningView, ChipView, chained, running_view, state}
use Rattle.eid_chip.specs.Steps.{outcome_seen, message_in, sent_next, channel_left, state_left, IsEndedByRules, Responds}
use Rattle.eid_chip.specs.Fits.{Scene, scene, Fits, Follows, Handles, HasState, IsSoundRunning, Came, Silence, Answer, Loss, moment_of}
use Rattle.eid_chip.specs.Transitions.{two_messages_later}
use Rattle.eid_chip.proofs.HeldFiles.{held_is}
use Rattle.eid_store.proofs.Laws.{stood_for}
use Rattle.eid_chip.proofs.Follow.{responded, was_lost}
use Rattle.eid_copro.proofs.Asking.{not_asked}

-- what was sent is what is sent after the message that was incoming
pub sent_so : (ch : Option ChannelState) (rule : ℕ) (reply : PlainReply) → sent_next (message_in rule ch) rule reply ≡ sent_in ch rule reply
sent_so None rule reply = by (rule == 2 || rule == 3) where
  by : (b : Bool) → sent_next (if b then None else None) rule reply ≡ spelled reply
  by true = refl
  by false = refl
sent_so (Some ch) rule reply = by (rule == 2 || rule == 3) refl where
  by : (b : Bool) → (rule == 2 || rule == 3) ≡ b → sent_next (if b then Some ch else Some (advanced ch)) rule reply ≡ sent_in (Some ch) rule reply
  by true is = rw is refl
  by false is = rw is refl

-- the channel that is kept is the one that is left
pub kept_channel : (ch opened : Option ChannelState) (rule : ℕ) → (if ends_session_by rule then None else option_or opened (message_in rule (message_in rule ch))) ≡ (if ends_session_by rule then None else option_or opened (option_map two_messages_later ch))
kept_channel None opened rule = by (rule == 2 || rule == 3) where
  by : (b : Bool) → (if ends_session_by rule then None else option_or opened (if b then (if b then None else None) else (option_map advanced (if b then None else None)))) ≡ (if ends_session_by rule then None else option_or opened None)
  by true = refl
  by false = refl
kept_channel (Some ch) opened rule = by (rule == 2) (rule == 3) where
  by : (two three : Bool) → (if two || three || rule == 50 then None else option_or opened (if two || three then (if two || three then Some ch else Some (advanced ch)) else (option_map advanced (if two || three then Some ch else Some (advanced ch))))) ≡ (if two || three || rule == 50 then None else option_or opened (Some (two_messages_later ch)))
  by true three = refl
  by false true = refl
  by false false = refl

-- a chip with power that answered makes a legal moment, and fits the journal with it
pub chip_answers : (old : Scene) (running : RunningView) (after : Option RunningView) (new_state : State) (bytes : List ℕ) (incoming : Incoming) (plain : Option PlainCommand) (asks : List Ask) (r : Reacted) (finished : ℕ) (reply : PlainReply) (sent : List ℕ) (fragments : Option OpenChain) (was now : World)
    → old.chip.running ≡ Some running → was.cells ≡ old.cells → after ≡ Some (record { store = now.store; state = new_state }) → new_state ≡ chained fragments (state_left r running.state.channel)
    → sent ≡ sent_in running.state.channel r.rule reply → IsReadAs running.state.channel bytes incoming → plain ≡ plain_of incoming
    → IsEndedByRules running.state incoming asks (ended.Answered r finished) reply fragments was now
    → Follows old (record { chip = record { running = after }; device = now.device; cells = now.cells }) (moment_of bytes asks (Answer plain finished r.rule reply sent))
chip_answers old running after new_state bytes incoming plain asks r finished reply sent fragments was now alive cells_are running_is left_is written reads plain_is did opening before fits =
    let power : on before ≡ true = sym fits.powered ∙ ap is_some alive in
    let same_state : running.state ≡ state_of opening before = subst (λ (l : Option RunningView). HasState l opening before) alive fits.state in
    let none : pending opening before ≡ None = on_pends_nothing opening before power in
    let standing : stands old.cells ≡ Some (kept opening before) = subst (λ (p : Option PlainEffect). MayHold p (kept opening before) (stands old.cells)) none fits.standing in
    let is : held was.cells ≡ kept opening before = held_is was.cells (kept opening before) (ap stands cells_are ∙ standing) in
    let done = responded running.state opening before bytes incoming asks r finished reply fragments was now power same_state is reads did in
    let same : answered running.state.channel bytes incoming asks finished (outcome_seen r reply) ≡ moment_of bytes asks (Answer plain finished r.rule reply sent) =
    ap (λ (p : Option PlainCommand). moment_of bytes asks (Answer p finished r.rule reply (sent_in running.state.channel r.rule reply))) (sym plain_is)
    ∙ ap (λ (s : List ℕ). moment_of bytes asks (Answer plain finished r.rule reply s)) (sym written) in
    subst (λ (m : PlainMoment). IsLegalMoment opening before m × Fits (record { chip = record { running = after }; device = now.device; cells = now.cells }) opening (m ∷ before)) same (
      done.0,
      record {
        powered = ap is_some running_is ∙ sym done.1;
        sound = subst (λ (l : Option RunningView). IsSoundRunning l now.device now.cells) (sym running_is) did.leaves.0;
        state = subst (λ (l : Option RunningView). HasState l opening (answered running.state.channel bytes incoming asks finished (outcome_seen r reply) ∷ before)) (sym running_is) (left_is ∙ done.2);
        standing = done.3;
      },
    )

-- a chip with power that was lost in a commit is off
pub chip_lost : (old : Scene) (running : RunningView) (after : Option RunningView) (bytes : List ℕ) (incoming : Incoming) (plain : Option PlainCommand) (asks : List Ask) (finished : ℕ) (reply : PlainReply) (fragments : Option OpenChain) (was now : World)
    → old.chip.running ≡ Some running → was.cells ≡ old.cells → after ≡ None → IsReadAs running.state.channel bytes incoming → plain ≡ plain_of incoming
    → IsEndedByRules running.state incoming asks (ended.Lost finished) reply fragments was now
    → Follows old (record { chip = record { running = after }; device = now.device; cells = now.cells }) (moment_of bytes asks (Loss plain finished))
chip_lost old running after bytes incoming plain asks finished reply fragments was now alive cells_are off reads plain_is did opening before fits =
    let power : on before ≡ true = sym fits.powered ∙ ap is_some alive in
    let same_state : running.state ≡ state_of opening before = subst (λ (l : Option RunningView). HasState l opening before) alive fits.state in
    let none : pending opening before ≡ None = on_pends_nothing opening before power in
    let standing : stands old.cells ≡ Some (kept opening before) = subst (λ (p : Option PlainEffect). MayHold p (kept opening before) (stands old.cells)) none fits.standing in
    let is : held was.cells ≡ kept opening before = held_is was.cells (kept opening before) (ap stands cells_are ∙ standing) in
    let done = was_lost running.state opening before bytes incoming asks finished reply fragments was now power same_state is reads did in
    let same : lost_in bytes incoming asks finished ≡ moment_of bytes asks (Loss plain finished) =
    ap (λ (p : Option PlainCommand). moment_of bytes asks (Loss p finished)) (sym plain_is) in
    subst (λ (m : PlainMoment). IsLegalMoment opening before m × Fits (record { chip = record { running = after }; device = now.device; cells = now.cells }) opening (m ∷ before)) same (
      done.0,
      record {
        powered = ap is_some off;
        sound = subst (λ (l : Option RunningView). IsSoundRunning l now.device now.cells) (sym off) tt;
        state = subst (λ (l : Option RunningView). HasState l opening (lost_in bytes incoming asks finished ∷ before)) (sym off) tt;
        standing = done.1;
      },
    )

-- a chip without power says nothing
pub silent_follows : (old new : Scene) (bytes : List ℕ) → old.chip.running ≡ None → new.chip.running ≡ None → new.device ≡ old.device → new.cells ≡ old.cells → Follows old new (silent (Received bytes))
silent_follows old new bytes off still device cells opening before fits =
    let none : on before ≡ false = sym fits.powered ∙ ap is_some off in (
      record { powered = λ power. absurd (cc); unpowered = λ power. refl },
      record {
        powered = ap is_some still;
        sound = subst (λ (l : Option RunningView). IsSoundRunning l new.device new.cells) (sym still) tt;
        state = subst (λ (l : Option RunningView). HasState l opening (silent (Received bytes) ∷ before)) (sym still) tt;
        standing = subst (λ (c : List ℕ). MayHold (pending opening (silent (Received bytes) ∷ before)) (kept opening (silent (Received bytes) ∷ before)) (stands c)) (sym cells)
            (stood_silent opening before bytes (stands old.cells) none fits.standing);
      },
    )

-- power off
pub off_follows : (old new : Scene) → new.chip.running ≡ None → new.cells ≡ old.cells → Follows old new (silent PoweredOff)
off_follows old new off cells opening before fits = (
  refl,
  record {
    powered = ap is_some off;
    sound = subst (λ (l : Option RunningView). IsSoundRunning l new.device new.cells) (sym off) tt;
    state = subst (λ (l : Option RunningView). HasState l opening (silent PoweredOff ∷ before)) (sym off) tt;
    standing = subst (λ (c : List ℕ). MayHold (pending opening (silent PoweredOff ∷ before)) (kept opening (silent PoweredOff ∷ before)) (stands c)) (sym cells)
        (stood_off opening before (stands old.cells) fits.standing);
  },
)

-- a power-on that was cut
pub cut_follows : (old new : Scene) → new.chip.running ≡ None → stands new.cells ≡ stands old.cells → Follows old new (silent (PoweredOn None))
cut_follows old new off cells opening before fits = (
  (tt, refl),
  record {
    powered = ap is_some off;
    sound = subst (λ (l : Option RunningView). IsSoundRunning l new.device new.cells) (sym off) tt;
    state = subst (λ (l : Option RunningView). HasState l opening (silent (PoweredOn None) ∷ before)) (sym off) tt;
    standing = subst (λ (o : Option FullRecord). MayHold (pending opening (silent (PoweredOn None) ∷ before)) (kept opening (silent (PoweredOn None) ∷ before)) o) (sym cells)
        (stood_cut opening before (stands old.cells) fits.standing);
  },
)

-- a power-on that found this number, which is the one of the record that the cells stand for
pub on_follows : (old new : Scene) (store : Store) (number : ℕ) → new.chip.running ≡ Some (record { store = store; state = fresh }) → stored.Fits store new.device new.cells → stands new.cells ≡ stands old.cells → number ≡ (stored.fields_of store).number → Follows old new (silent (PoweredOn (Some number)))
unfolding account
on_follows old new store number is fits cells number_is opening before before_fits =
    let found = stood_for store new.device new.cells fits in
    let full = found.0 in
    let same : full.fields.number ≡ number = ap (λ (r : PlainRecord). r.number) found.2 ∙ sym number_is in
    let stood = stood_on opening before full (stands old.cells) (sym cells ∙ found.1) before_fits.standing in
    subst (λ (n : ℕ). IsLegalMoment opening before (silent (PoweredOn (Some n))) × Fits new opening (silent (PoweredOn (Some n)) ∷ before)) same (
      (stood.0, refl),
      record {
        powered = ap is_some is;
        sound = subst (λ (l : Option RunningView). IsSoundRunning l new.device new.cells) (sym is) fits;
        state = subst (λ (l : Option RunningView). HasState l opening (silent (PoweredOn (Some full.fields.number)) ∷ before)) (sym is) refl;
        standing = subst (λ (o : Option FullRecord). MayHold (pending opening (silent (PoweredOn (Some full.fields.number)) ∷ before)) (kept opening (silent (PoweredOn (Some full.fields.number)) ∷ before)) o) (sym cells) stood.1;
      },
    )

-- a chip without power fits each journal without moments
pub new_fits : (s : Scene) (opening : FullRecord) → s.chip.running ≡ None → stands s.cells ≡ Some opening → Fits s opening []
unfolding account
new_fits s opening off standing = record {
  powered = ap is_some off;
  sound = subst (λ (l : Option RunningView). IsSoundRunning l s.device s.cells) (sym off) tt;
  state = subst (λ (l : Option RunningView). HasState l opening []) (sym off) tt;
  standing = standing ∙ ap Some (sym (nothing_committed opening));
}

-- ---- bytes that were handled

-- a chip with power answered
pub handles_answer : (chip : ChipView) (fragments left : Option OpenChain) (running : Running) (channel : Option ChannelState) (bytes : List ℕ) (plain : Option PlainCommand) (ending : Ended) (r : Reacted) (finished : ℕ) (reply : PlainReply) (sent : List ℕ) (was now : World)
    → chip.running ≡ Some (running_view fragments running) → Responds running.session running.channel fragments bytes plain ending reply left was now → ending ≡ ended.Answered r finished
    → channel ≡ channel_left r running.channel → sent ≡ sent_in running.channel r.rule reply
    → Handles was.copro now.copro (scene chip was.device was.cells) (scene (record { running = Some (record { store = now.store; state = chained left (state r.session channel) }) }) now.device now.cells) bytes (Answer plain finished r.rule reply sent)
handles_answer chip fragments left running channel bytes plain ending r finished reply sent was now alive responds ends is written =
    let did = subst (λ (e : Ended). IsEndedByRules (chained fragments (state running.session running.channel)) responds.incoming responds.asks e reply left was now) ends responds.ended in
    let next_state : State = chained left (state r.session channel) in
    let left_is : next_state ≡ chained left (state_left r running.channel) = ap (λ (c : Option ChannelState). chained left (state r.session c)) is in
    record {
      asks = responds.asks;
      were_asked = responds.were_asked;
      unasked = λ silent. absurd (cc);
      follows =
          chip_answers (scene chip was.device was.cells) (running_view fragments running) (Some (record { store = now.store; state = next_state })) next_state bytes responds.incoming plain responds.asks r finished reply sent left was now
          alive refl refl left_is written responds.reads responds.is_plain did;
      silent = rw alive refl;
      running = refl;
      device = did.leaves.2;
      layout = responds.layout;
      sound = did.leaves.0;
    }

-- a chip with power was lost in a commit
pub handles_loss : (chip : ChipView) (fragments left : Option OpenChain) (running : Running) (after : Option RunningView) (bytes : List ℕ) (plain : Option PlainCommand) (ending : Ended) (finished : ℕ) (reply : PlainReply) (was now : World)
    → chip.running ≡ Some (running_view fragments running) → Responds running.session running.channel fragments bytes plain ending reply left was now → ending ≡ ended.Lost finished → after ≡ None
    → Handles was.copro now.copro (scene chip was.device was.cells) (scene (record { running = after }) now.device now.cells) bytes (Loss plain finished)
handles_loss chip fragments left running after bytes plain ending finished reply was now alive responds ends off =
    let did = subst (λ (e : Ended). IsEndedByRules (chained fragments (state running.session running.channel)) responds.incoming responds.asks e reply left was now) ends responds.ended in
    record {
      asks = responds.asks;
      were_asked = responds.were_asked;
      unasked = λ silent. absurd (cc);
      follows =
          chip_lost (scene chip was.device was.cells) (running_view fragments running) after bytes responds.incoming plain responds.asks finished reply left was now
          alive refl off responds.reads responds.is_plain did;
      silent = rw alive refl;
      running = rw off refl;
      device = did.leaves.1;
      layout = responds.layout;
      sound = rw off tt;
    }

-- a chip without power
pub handles_silence : (chip : ChipView) (after : Option RunningView) (bytes : List ℕ) (copro : CoproSeen) (device : Device) (cells : List ℕ) → chip.running ≡ None → after ≡ None
    → Handles copro copro (scene chip device cells) (scene (record { running = after }) device cells) bytes Silence
handles_silence chip after bytes copro device cells off still = record {
  asks = [];
  were_asked = not_asked copro;
  unasked = λ silent. refl;
  follows = silent_follows (scene chip device cells) (scene (record { running = after }) device cells) bytes off still refl refl;
  silent = rw off refl;
  running = rw still refl;
  device = refl;
  layout = refl;
  sound = rw still tt;
}

-- the same of chips that are the same
pub handles_same : (before after : CoproSeen) (chip old new behind : ChipView) (device now : Device) (cells cells_now : List ℕ) (bytes : List ℕ) (came : Came) → chip ≡ old → behind ≡ new
    → Handles before after (scene chip device cells) (scene behind now cells_now) bytes came → Handles before after (scene old device cells) (scene new now cells_now) bytes came
handles_same before after chip old new behind device now cells cells_now bytes came same kept handles =
    subst (λ (v : ChipView). Handles before after (scene v device cells) (scene new now cells_now) bytes came) same
    (subst (λ (v : ChipView). Handles before after (scene chip device cells) (scene v now cells_now) bytes came) kept handles)

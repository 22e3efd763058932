-- When a chip over a device fits a journal.
use Rattle.std.specs.Prelude.{◌≡◌, ℕ, Bool, true, false, List, [], ◌∷◌, Option, Some, None, is_some, is_none, option_map, Result, Ok, Err}
use Rattle.eid_apdu.specs.Command.{PlainCommand}
use Rattle.eid_apdu.specs.Answer.{PlainReply, plain_reply}
use Rattle.eid_cells.specs.Device.{Device}
use Rattle.eid_copro.specs.Asking.{WereAsked}
use Rattle.eid_copro.specs.Seen.{CoproSeen}
use Rattle.eid_copro.specs.declared.ask.Ask.{Ask}
use Rattle.eid_record.specs.Plain.{FullRecord}
use Rattle.eid_store.specs.declared.durable.MountError.{MountError}
use Rattle.eid_store.specs.Stands.{stands}
use Rattle.eid_store.specs.Store as store
use Rattle.eid_sm.specs.declared.channel.Header.{Header}
use Rattle.eid_sm.specs.Plain.{plain_of as with_body}
use Rattle.eid_model.specs.Ledger.{kept, pending, state_of, MayHold}
use Rattle.eid_model.specs.Moments.{Received, PlainMoment, on}
use Rattle.eid_model.specs.Legal.{IsLegalMoment, silent}
use Rattle.eid_model.specs.View as view
use Rattle.eid_chip.specs.declared.exchange.Exchange.{Exchange}
use Rattle.eid_chip.specs.declared.exchange.Handled.{Handled}
use Rattle.eid_chip.specs.declared.exchange.Handled.TheVariants.{Silent, Answered, Lost}
use Rattle.eid_chip.specs.declared.exchange.HandledIn.{HandledIn}
use Rattle.eid_chip.specs.declared.exchange.HandledIn.TheVariants as in_exchange
use Rattle.eid_chip.specs.Commits.{Wrote, WasCutBehind, SameLayout}
use Rattle.eid_chip.specs.States.{ChipView, RunningView}

-- A chip, its device, and the device's cells.
pub record Scene : Type 0 where
  pub chip : ChipView
  pub device : Device
  pub cells : List ℕ

abbrev pub scene : ChipView → Device → List ℕ → Scene
scene chip device cells = record { chip = chip; device = device; cells = cells }

-- where the chip is on, its store fits the cells
abbrev pub IsSoundRunning : Option RunningView → Device → List ℕ → Type 0
IsSoundRunning None device cells = Unit {0}
IsSoundRunning (Some running) device cells = store.Fits running.store device cells

abbrev pub IsSound : Scene → Type 0
IsSound s = IsSoundRunning s.chip.running s.device s.cells

-- where the chip is on, its state is what the moments leave
abbrev pub HasState : Option RunningView → FullRecord → List PlainMoment → Type 0
HasState None opening moments = Unit {0}
HasState (Some running) opening moments = running.state ≡ state_of opening moments

-- The chip over its device is where these moments leave a chip whose cells stood for this record.
pub record Fits (s : Scene) (opening : FullRecord) (moments : List PlainMoment) : Type 0 where
  pub powered : is_some s.chip.running ≡ on moments
  pub sound : IsSound s
  pub state : HasState s.chip.running opening moments
  pub standing : MayHold (pending opening moments) (kept opening moments) (stands s.cells)

-- From one chip over its device to another by a moment: wherever the first fits a journal, the moment is
-- legal there, and the second fits the journal with it.
abbrev pub Follows : Scene → Scene → PlainMoment → Type 0
Follows old new m = (opening : FullRecord) (before : List PlainMoment) → Fits old opening before → IsLegalMoment opening before m
    × Fits new opening (m ∷ before)

-- What came of the bytes of a command: nothing from a chip without power; an answer, after so many commits; or, after so
-- many, a cut of the power in the next one.
pub data Came : Type 0 where
  Silence : Came
  Answer : (plain : Option PlainCommand) (finished rule : ℕ) (reply : PlainReply) (sent : List ℕ) → Came
  Loss : (plain : Option PlainCommand) (finished : ℕ) → Came

abbrev pub came : Handled → Came
came Silent = Silence
came (Answered plain finished rule answer sent) = Answer (option_map view.plain plain) finished rule.0 (plain_reply answer) sent.items
came (Lost plain finished) = Loss (option_map view.plain plain) finished

-- the plain command whose body stands in an exchange, where there is one
abbrev pub plain_in : Exchange → Option Header → Option PlainCommand
plain_in exchange plain = option_map (λ header. with_body header exchange.body.items) plain

-- and in an exchange
abbrev pub came_in : Exchange → HandledIn → Came
came_in exchange in_exchange.Silent = Silence
came_in exchange (in_exchange.Answered plain finished rule) =
    Answer (plain_in exchange plain) finished rule.0 (plain_reply exchange.reply) exchange.sent.items
came_in exchange (in_exchange.Lost plain finished) = Loss (plain_in exchange plain) finished

-- the moment of bytes of which this came, with these questions
abbrev pub moment_of : List ℕ → List Ask → Came → PlainMoment
moment_of bytes asks Silence = silent (Received bytes)
moment_of bytes asks (Answer plain finished rule reply sent) =
    record { input = Received bytes; plain = plain; asks = asks; finished = finished; rule = rule; answer = Some reply; sent = Some sent }
moment_of bytes asks (Loss plain finished) =
    record { input = Received bytes; plain = plain; asks = asks; finished = finished; rule = 0; answer = None; sent = None }

abbrev pub is_silence : Came → Bool
is_silence Silence = true
is_silence (Answer plain finished rule reply sent) = false
is_silence (Loss plain finished) = false

-- the chip is off after it: it was off, or the power was cut
abbrev pub leaves_off : Came → Bool
leaves_off Silence = true
leaves_off (Answer plain finished rule reply sent) = false
leaves_off (Loss plain finished) = true

-- what it did to the device
abbrev pub CameOver : Came → Device → Device → Type 0
CameOver Silence old new = new ≡ old
CameOver (Answer plain finished rule reply sent) old new = Wrote finished old new
CameOver (Loss plain finished) old new = WasCutBehind finished old new

abbrev pub is_off : ChipView → Bool
is_off chip = is_none chip.running

-- the number that a power-on found, where mounting was not cut
abbrev pub found : Result ℕ MountError → Option ℕ
found (Ok number) = Some number
found (Err error) = None

-- Bytes were handled: the coprocessor's log grew by the questions of a moment that follows, and the device was written to
-- by its commits alone. Nothing comes of them exactly where the chip is off.
pub record Handles (before after : CoproSeen) (old new : Scene) (bytes : List ℕ) (came : Came) : Type 0 where
  pub asks : List Ask
  pub were_asked : WereAsked before after asks
  pub unasked : is_silence came ≡ true → asks ≡ []
  pub follows : Follows old new (moment_of bytes asks came)
  pub silent : is_silence came ≡ is_off old.chip
  pub running : is_off new.chip ≡ leaves_off came
  pub device : CameOver came old.device new.device
  pub layout : SameLayout old.cells new.cells
  pub sound : IsSound new

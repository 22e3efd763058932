-- Inside: cited by private contracts alone.
-- What one turn of a session does.
use Rattle.std.specs.Prelude.{◌≡◌, ◌⊎◌, ℕ, List, [], Option, Some, None, IsTrue}
use Rattle.eid_base.specs.Seen.{SinkSeen, Grew, GrewByPart}
use Rattle.std.specs.List.{slice_get}
use Rattle.eid_chip.specs.Fits.{Came, Silence, Answer, Loss, Scene, scene}
use Rattle.eid_model.specs.Moments.{PlainMoment}
use Rattle.eid_copro.specs.Seen.{CoproSeen}
use Rattle.eid_copro.specs.Told.{AnswersFrom, KeepsTo, Source}
use Rattle.eid_copro.specs.Told as told
use Rattle.eid_copro.specs.declared.ask.Ask.{Ask}
use Rattle.eid_script.specs.Scripts.{ApduLine}
use Rattle.eid_apdu.specs.Answer.{PlainReply}
use Rattle.eid_terminal.specs.declared.action.Deed.{Deed}
use Rattle.eid_terminal.specs.declared.plan.Request.{Request}
use Rattle.eid_terminal.specs.Moves.{Move}
use Rattle.eid_terminal.specs.Moves as moves
use Rattle.eid_terminal.specs.Terminals.{Goes, TerminalView, move_made}
use Rattle.eid_step.specs.Effects.{Did}
use Rattle.eid_step.specs.Lines.{IsLine, Keeps}
use Rattle.eid_step.specs.Sendable.{AnswersWell}
use Rattle.eid_run.specs.Report.{asked_line, fault_line, passed_line, stopped_line}
use Rattle.eid_run.specs.Sessions.{replied}
use Rattle.eid_run.specs.Tallies.{tally_more}
use Rattle.eid_run.specs.declared.tally.Tally.{Tally}
use Rattle.eid_cells.specs.Device.{Device}
use Rattle.eid_terminal.specs.Seen.{terminal_view}
use Rattle.eid_run.specs.declared.session.Conversation.{Conversation}
use Rattle.eid_run.specs.declared.session.Due.{Due}
use Rattle.eid_run.specs.declared.session.Due.TheVariants.{Nothing, Sent, NoBytes}

-- a coprocessor that tells this has its answers from the source
abbrev pub HasSource : told.Told → Source → Type 0
HasSource of source = (log : List Ask) → KeepsTo of log → AnswersFrom source log

-- the bytes that came back
abbrev pub sent_back : Came → List ℕ
sent_back Silence = []
sent_back (Answer plain finished rule reply sent) = sent
sent_back (Loss plain finished) = []

-- the reply that is due, where the exchange holds these bytes
abbrev pub due_bytes : Due → List ℕ → Option (List ℕ)
due_bytes Nothing sent = None
due_bytes Sent sent = Some sent
due_bytes NoBytes sent = Some []

-- ---- one turn

-- the line of a report that a move is told by, if it is
abbrev pub turn_line : List Request → Move → List ℕ
turn_line requests (moves.Asks question) = []
turn_line requests (moves.Sends bytes) = []
turn_line requests (moves.Passes step) = passed_line step
turn_line requests (moves.Gives place reply) = asked_line (slice_get requests place) reply
turn_line requests (moves.Stops step status) = stopped_line step status
turn_line requests (moves.Faults step) = fault_line step
turn_line requests moves.Ends = []

-- the chip handled these bytes, and this came back
pub record ChipReplied (old new : Scene) (log log_now : List Ask) (bytes : List ℕ) (due : Option (List ℕ)) : Type 0 where
  pub moment : PlainMoment
  pub made : IsLine old new log log_now (ApduLine bytes) (Did moment)
  pub keeps : Keeps old new (ApduLine bytes)
  pub brought : due ≡ Some (replied moment)
  pub sendable : AnswersWell moment

-- the chip was left alone
abbrev pub IsLeftAlone : Scene → Scene → List Ask → List Ask → Type 0
IsLeftAlone old new log log_now = (new ≡ old) × (log_now ≡ log)

-- a command is handed to the chip; by anything else it is left alone, and no reply is due
abbrev pub ChipDid : Scene → Scene → List Ask → List Ask → Option (List ℕ) → Move → Type 0
ChipDid old new log log_now due (moves.Asks question) = IsLeftAlone old new log log_now × (due ≡ None)
ChipDid old new log log_now due (moves.Sends bytes) = ChipReplied old new log log_now bytes due
ChipDid old new log log_now due (moves.Passes step) = IsLeftAlone old new log log_now × (due ≡ None)
ChipDid old new log log_now due (moves.Gives place reply) = IsLeftAlone old new log log_now × (due ≡ None)
ChipDid old new log log_now due (moves.Stops step status) = IsLeftAlone old new log log_now × (due ≡ None)
ChipDid old new log log_now due (moves.Faults step) = IsLeftAlone old new log log_now × (due ≡ None)
ChipDid old new log log_now due moves.Ends = IsLeftAlone old new log log_now × (due ≡ None)

-- where a session stands: the chip, the log of its coprocessor, the terminal's coprocessor, the terminal, the reply that
-- is due, the sink, and the tally of the results
pub record Standing : Type 0 where
  pub scene : Scene
  pub log : List Ask
  pub copro : CoproSeen
  pub terminal : TerminalView
  pub due : Option (List ℕ)
  pub sink : SinkSeen
  pub tally : Tally

abbrev pub standing : Scene → List Ask → CoproSeen → TerminalView → Option (List ℕ) → SinkSeen → Tally → Standing
standing scene log copro terminal due sink tally =
    record { scene = scene; log = log; copro = copro; terminal = terminal; due = due; sink = sink; tally = tally }

-- where a conversation stands over this device
abbrev pub stands_at : Conversation → Device → List ℕ → List Ask → CoproSeen → SinkSeen → Standing
stands_at c device cells log copro sink =
    standing (scene c.stepper.chip device cells) log copro (terminal_view c.terminal) (due_bytes c.due c.stepper.exchange.sent.items) sink c.tally

-- the terminal took its turn, the chip did what it was asked to, and the turn was told and counted
pub record DidTurn (requests : List Request) (old new : Standing) : Type 0 where
  pub asked : CoproSeen
  pub room : asked.log ≡ old.copro.log
  pub deed : Deed
  pub message : List ℕ
  pub heard : PlainReply
  pub goes : Goes asked new.copro old.terminal new.terminal old.due (move_made deed message heard)
  pub chip : ChipDid old.scene new.scene old.log new.log new.due (move_made deed message heard)
  pub written : IsTrue old.sink.tells → Grew old.sink.written new.sink.written (turn_line requests (move_made deed message heard))
  pub counted : new.tally ≡ tally_more old.tally (move_made deed message heard)

-- the turn broke off: it was not taken, or it was not told whole, or the chip had no room for a command's questions
pub record PartOfTurn (requests : List Request) (old new : Standing) : Type 0 where
  pub asked : CoproSeen
  pub room : asked.log ≡ old.copro.log
  pub deed : Deed
  pub message : List ℕ
  pub heard : PlainReply
  pub goes : Goes asked new.copro old.terminal new.terminal old.due (move_made deed message heard)
  pub chip : IsLeftAlone old.scene new.scene old.log new.log
  pub written : IsTrue old.sink.tells → GrewByPart old.sink.written new.sink.written (turn_line requests (move_made deed message heard))

pub record NoTurn (old new : Standing) : Type 0 where
  pub log : new.copro.log ≡ old.copro.log
  pub terminal : new.terminal ≡ old.terminal
  pub due : new.due ≡ old.due
  pub chip : IsLeftAlone old.scene new.scene old.log new.log
  pub written : IsTrue old.sink.tells → new.sink.written ≡ old.sink.written

abbrev pub BrokeTurn : List Request → Standing → Standing → Type 0
BrokeTurn requests old new = NoTurn old new ⊎ PartOfTurn requests old new

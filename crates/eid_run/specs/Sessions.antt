-- What a session of a terminal with a chip does. This project's own.
use Rattle.std.specs.Prelude.{◌≡◌, ℕ, List, [], ◌∷◌, ◌++◌, map, Option, Some, None, IfSome, IsTrue}
use Rattle.std.specs.List.{All}
use Rattle.std.specs.Option.{option_to_list}
use Rattle.eid_base.specs.Seen.{Grew, GrewByPart}
use Rattle.eid_copro.specs.Seen.{CoproSeen}
use Rattle.eid_copro.specs.declared.ask.Ask.{Ask}
use Rattle.eid_record.specs.Plain.{FullRecord}
use Rattle.eid_model.specs.Moments.{Event, PoweredOn, PoweredOff, Received, PlainMoment}
use Rattle.eid_script.specs.Scripts.{ScriptLine, OnLine, ApduLine}
use Rattle.eid_terminal.specs.Courses.{Course}
use Rattle.eid_terminal.specs.Plans.{PlainPlan}
use Rattle.eid_terminal.specs.Terminals.{course}
use Rattle.eid_run.specs.Conversations.{Exchange, Told, Talks, IsDue, IsEnd, command_of, reply_of}
use Rattle.eid_run.specs.Report.{report}
use Rattle.eid_step.specs.Effects.{LineEffect}
use Rattle.eid_step.specs.Sendable.{AnswersWell}
use Rattle.eid_run.specs.Runs.{Outside, RanLines, journal, lines_of}

-- the bytes that come back of a moment: those sent, or none where nothing was sent
abbrev pub bytes_or_none : Option (List ℕ) → List ℕ
bytes_or_none None = []
bytes_or_none (Some bytes) = bytes

abbrev pub replied : PlainMoment → List ℕ
replied m = bytes_or_none m.sent

-- those of a command; power brings none
abbrev pub replies_to : Event → List ℕ → List (List ℕ)
replies_to (PoweredOn found) bytes = []
replies_to PoweredOff bytes = []
replies_to (Received command) bytes = bytes ∷ []

-- the replies to the commands of a journal, the first one first
abbrev pub replies_in : List PlainMoment → List (List ℕ)
replies_in [] = []
replies_in (m ∷ before) = replies_in before ++ replies_to m.input (replied m)

-- the commands of a session as the lines of a script: power first, and then each as it was sent
abbrev pub command_line : Exchange → ScriptLine
command_line e = ApduLine (command_of e)

abbrev pub session_lines : List Exchange → List ScriptLine
session_lines exchanges = OnLine ∷ map command_line exchanges

-- the replies of these exchanges are what the chip sent, and each of its answers can be sent
pub record AreReplies (happened : List LineEffect) (exchanges : List Exchange) : Type 0 where
  pub same : replies_in (journal happened) ≡ map reply_of exchanges
  pub sendable : All AnswersWell (journal happened)

-- The terminal came along its course to that place by what it asked its coprocessor and what the chip replied, and told
-- these things; the chip was given power and ran these commands, but for what is undone, and no others; each reply is what
-- the chip sent. The last reply may be unheard: its command is the one that the course sends there.
pub record Conversed (plan : PlainPlan) (opening : FullRecord) (old new : Outside) (terminal terminal_now : CoproSeen)
    (told : List Told) (at : Course) : Type 0 where
  pub asks : List Ask
  pub exchanges : List Exchange
  pub unheard : Option Exchange
  pub talks : Talks (course plan) asks exchanges told at
  pub sends : IfSome unheard (λ e. IsDue at e.command)
  pub happened : List LineEffect
  pub ran : RanLines opening happened old new
  pub undone : List ScriptLine
  pub carried : lines_of happened ++ undone ≡ session_lines (exchanges ++ option_to_list unheard)
  pub replies : AreReplies happened (exchanges ++ option_to_list unheard)
  pub logged : terminal_now.log ≡ terminal.log ++ asks
  pub same_told : terminal_now.told ≡ terminal.told

-- the session went to its end, and its report was written
pub record DidSession (plan : PlainPlan) (opening : FullRecord) (old new : Outside) (terminal terminal_now : CoproSeen) : Type 0 where
  pub told : List Told
  pub at : Course
  pub conversed : Conversed plan opening old new terminal terminal_now told at
  pub heard : conversed.unheard ≡ None
  pub done : conversed.undone ≡ []
  pub ended : IsEnd at
  pub written : IsTrue old.sink.tells → Grew old.sink.written new.sink.written (report plan told at)

-- the session broke off: a front of its report was written
pub record DidPartOfSession (plan : PlainPlan) (opening : FullRecord) (old new : Outside) (terminal terminal_now : CoproSeen) : Type 0 where
  pub told : List Told
  pub at : Course
  pub conversed : Conversed plan opening old new terminal terminal_now told at
  pub written : IsTrue old.sink.tells → GrewByPart old.sink.written new.sink.written (report plan told at)

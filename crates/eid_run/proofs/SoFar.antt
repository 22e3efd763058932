-- A run and a session so far.
use Rattle.std.specs.Prelude.{◌≡◌, ℕ, ◌+◌, ◌^◌, ◌<◌, true, false, List, [], ◌++◌, length, Option, Some, None, IsTrue, is_some, option_map, if◌then◌else◌}
use Rattle.std.specs.Option.{option_to_list}
use Rattle.eid_base.specs.Seen.{SinkSeen, Grew}
use Rattle.eid_record.specs.Plain.{FullRecord}
use Rattle.eid_copro.specs.declared.ask.Ask.{Ask}
use Rattle.eid_model.specs.Moments.{asked, AreSteady}
use Rattle.eid_model.specs.Legal.{AreLegal}
use Rattle.eid_model.specs.Trace.{trace}
use Rattle.eid_chip.specs.Fits.{Scene, Fits, is_off}
use Rattle.eid_script.specs.Scripts.{ScriptLine}
use Rattle.eid_terminal.specs.Plans.{PlainPlan}
use Rattle.eid_terminal.specs.Terminals.{TerminalView, course}
use Rattle.eid_run.specs.Conversations.{Exchange, IsDue, IsEnd, Told, Talks, reply_of}
use Rattle.eid_run.specs.Report.{stop_line, told_lines}
use Rattle.eid_step.specs.Effects.{LineEffect}
use Rattle.eid_step.specs.Sinks.{untold}
use Rattle.eid_run.specs.Runs.{lines_of, journal, has_plan, losses, Counts, CutsAsPlanned, stretch, IsAhead}
use Rattle.eid_run.specs.Sessions.{AreReplies, session_lines}
use Rattle.eid_run.specs.Talk.{Standing}
use Rattle.eid_run.specs.Tallies.{IsTallyOf}

-- the lines so far were carried out, and the scene fits their journal
pub record IsRunSoFar (opening : FullRecord) (start now_at : Scene) (log log_now : List Ask) (lines : List ScriptLine) (before now : SinkSeen) : Type 0 where
  pub happened : List LineEffect
  pub fits : Fits now_at opening (journal happened)
  pub legal : AreLegal opening (journal happened)
  pub counts : Counts start.device.cuts happened now_at.device.cuts
  pub exact : IsTrue start.device.told → now_at.device.cuts ≡ start.device.cuts + losses (journal happened)
  pub unplanned : IsTrue start.device.told → start.device.planned ≡ 0 → has_plan happened ≡ false
      → AreSteady (journal happened) × (now_at.device.planned ≡ 0)
  pub strikes : IsTrue start.device.told → start.device.planned ≡ 0 → start.device.cuts + length happened < 2 ^ 64
      → CutsAsPlanned happened × IsAhead (stretch happened) now_at.device.planned
  pub same_told : now_at.device.told ≡ start.device.told
  pub dark : start.device.has_power ≡ false → is_off now_at.chip ≡ true → now_at.device.has_power ≡ false
  pub carried : lines_of happened ≡ lines
  pub logged : log_now ≡ log ++ asked (journal happened)
  pub written : IsTrue before.tells → Grew before.written now.written (trace (journal happened))

-- what a terminal that told this has had written, once it stands there
abbrev pub written_so_far : PlainPlan → List Told → TerminalView → List ℕ
written_so_far plan told terminal = told_lines plan told ++ (if terminal.ended then stop_line terminal.course else [])

-- the turns that it took: in each a command was sent, or something told
abbrev pub turns : List Exchange → Option Exchange → List Told → ℕ
turns exchanges pending told = length (exchanges ++ option_to_list pending) + length told

-- from where it began to where it stands
pub record IsTalkSoFar (plan : PlainPlan) (opening : FullRecord) (start : Scene) (first now : Standing) (taken : ℕ) : Type 0 where
  pub asks : List Ask
  pub exchanges : List Exchange
  pub told : List Told
  pub pending : Option Exchange
  pub talks : Talks (course plan) asks exchanges told now.terminal.course
  pub sends : (e : Exchange) → pending ≡ Some e → IsDue now.terminal.course e.command
  pub due_is : now.due ≡ option_map reply_of pending
  pub waits : now.terminal.waits ≡ is_some pending
  pub logged : now.copro.log ≡ first.copro.log ++ asks
  pub run : IsRunSoFar opening start now.scene first.log now.log (session_lines (exchanges ++ option_to_list pending)) untold untold
  pub replies : AreReplies run.happened (exchanges ++ option_to_list pending)
  pub written : IsTrue first.sink.tells → Grew first.sink.written now.sink.written (written_so_far plan told now.terminal)
  pub counted : now.terminal.ended ≡ false → taken ≡ turns exchanges pending told
  pub tallied : IsTallyOf told now.tally
  pub over : now.terminal.ended ≡ true → IsEnd now.terminal.course × (pending ≡ None)

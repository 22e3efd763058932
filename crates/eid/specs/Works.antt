-- What the program did, and why it ended so. This project's own.
use Rattle.std.specs.Prelude.{◌≡◌, ◌≢◌, Bool, IsTrue, ◌⊎◌}
use Rattle.eid_base.specs.Faults.{Rose}
use Rattle.eid_base.specs.Seen.{FolderSeen, SinkSeen, SameFiles}
use Rattle.eid_inputs.specs.declared.exit.Exit.{Exit}
use Rattle.eid_inputs.specs.declared.exit.Exit.TheVariants.{Done, Usage, FileFault, NoMemory, BadImage, BadScript, BadConfig, SinkFault, BadAnswers}
use Rattle.eid.specs.Big.{BigBrokeOff, BigFinished}
use Rattle.eid.specs.Commands.{Command, Run, Replay, Session, Big, Make, Kit, Show}
use Rattle.eid.specs.Expected.{expected}
use Rattle.eid.specs.Kit.{KitFinished, KitNotStored}
use Rattle.eid.specs.Make.{MakeFinished, MakeNotStored}
use Rattle.eid.specs.Run.{RunFinished, RunBrokeOff, RunNotStored, OfRun, OfReplay}
use Rattle.eid.specs.Session.{SessionFinished, SessionBrokeOff, SessionNotStored, OfSession}
use Rattle.eid.specs.Show.{ShowFinished, ShowBrokeOff}
use Rattle.eid.specs.Sinks.{WroteNothing}

-- why it ended so: a fault only where a count rose or an input is absent, any other exit but want of
-- memory exactly where it is expected
abbrev pub HasReason : Bool → Exit → Type 0 → Type 0 → Exit → Type 0
HasReason tells expected folder_rose sink_rose NoMemory = Unit {0}
HasReason tells expected folder_rose sink_rose FileFault = folder_rose ⊎ (IsTrue tells × (expected ≡ FileFault))
HasReason tells expected folder_rose sink_rose SinkFault = sink_rose
HasReason tells expected folder_rose sink_rose Done = IsTrue tells → expected ≡ Done
HasReason tells expected folder_rose sink_rose Usage = ⊥
HasReason tells expected folder_rose sink_rose BadImage = IsTrue tells → expected ≡ BadImage
HasReason tells expected folder_rose sink_rose (BadScript line) = IsTrue tells → expected ≡ BadScript line
HasReason tells expected folder_rose sink_rose (BadConfig key) = IsTrue tells → expected ≡ BadConfig key
HasReason tells expected folder_rose sink_rose (BadAnswers line) = IsTrue tells → expected ≡ BadAnswers line

-- no fault is told as another exit: a count of faults stayed as it was where the exit does not name one of its faults
pub record NamesFaults (old new : FolderSeen) (before now : SinkSeen) (exit : Exit) : Type 0 where
  pub folder : exit ≢ FileFault → new.faults ≡ old.faults
  pub sink : exit ≢ SinkFault → now.faults ≡ before.faults

-- the files are as before, and nothing was written
pub record DidNothing (old new : FolderSeen) (before now : SinkSeen) : Type 0 where
  pub files : SameFiles old new
  pub sink : WroteNothing before now

-- all of the command's work was done
abbrev pub Finished : Command → FolderSeen → FolderSeen → SinkSeen → SinkSeen → Type 0
Finished (Run image script start) old new before now = OfRun image script start old (λ source s. RunFinished image source s old new before now)
Finished (Replay image script answers) old new before now = OfReplay image script answers old (λ source s. RunFinished image source s old new before now)
Finished (Session image terminal start) old new before now = OfSession image terminal old (λ s. SessionFinished image start s old new before now)
Finished (Big sessions) old new before now = BigFinished sessions old new before now
Finished (Make config image) old new before now = MakeFinished config image old new before now
Finished (Kit config file) old new before now = KitFinished config file old new before now
Finished (Show image) old new before now = ShowFinished image old new before now

-- it broke off while it printed; a command that prints nothing never does
abbrev pub BrokeOff : Command → FolderSeen → FolderSeen → SinkSeen → SinkSeen → Type 0
BrokeOff (Run image script start) old new before now = OfRun image script start old (λ source s. RunBrokeOff source s old new before now)
BrokeOff (Replay image script answers) old new before now = OfReplay image script answers old (λ source s. RunBrokeOff source s old new before now)
BrokeOff (Session image terminal start) old new before now = OfSession image terminal old (λ s. SessionBrokeOff start s old new before now)
BrokeOff (Big sessions) old new before now = BigBrokeOff sessions old new before now
BrokeOff (Make config image) old new before now = ⊥
BrokeOff (Kit config file) old new before now = ⊥
BrokeOff (Show image) old new before now = ShowBrokeOff image old new before now

-- all was done but for the storing of a file; a command that stores none never ends so
abbrev pub NotStored : Command → FolderSeen → FolderSeen → SinkSeen → SinkSeen → Type 0
NotStored (Run image script start) old new before now = OfRun image script start old (λ source s. RunNotStored image source s old new before now)
NotStored (Replay image script answers) old new before now = OfReplay image script answers old (λ source s. RunNotStored image source s old new before now)
NotStored (Session image terminal start) old new before now = OfSession image terminal old (λ s. SessionNotStored image start s old new before now)
NotStored (Big sessions) old new before now = ⊥
NotStored (Make config image) old new before now = MakeNotStored config image old new before now
NotStored (Kit config file) old new before now = KitNotStored config file old new before now
NotStored (Show image) old new before now = ⊥

-- what was done, by the exit
abbrev pub IsEnd : Command → FolderSeen → FolderSeen → SinkSeen → SinkSeen → Exit → Type 0
IsEnd c old new before now Done = Finished c old new before now
IsEnd c old new before now SinkFault = BrokeOff c old new before now
IsEnd c old new before now FileFault = DidNothing old new before now ⊎ NotStored c old new before now
IsEnd c old new before now NoMemory = DidNothing old new before now ⊎ (BrokeOff c old new before now ⊎ NotStored c old new before now)
IsEnd c old new before now Usage = ⊥
IsEnd c old new before now BadImage = DidNothing old new before now
IsEnd c old new before now (BadScript line) = DidNothing old new before now
IsEnd c old new before now (BadConfig key) = DidNothing old new before now
IsEnd c old new before now (BadAnswers line) = DidNothing old new before now

-- the program did what the command asks for
pub record Meets (c : Command) (old new : FolderSeen) (before now : SinkSeen) (exit : Exit) : Type 0 where
  pub reason : HasReason old.tells (expected c old.file) (Rose old.faults new.faults) (Rose before.faults now.faults) exit
  pub end : IsEnd c old new before now exit

-- the words ask for nothing: that is told, or memory is wanting, and nothing is done
abbrev pub IsIdle : FolderSeen → FolderSeen → SinkSeen → SinkSeen → Exit → Type 0
IsIdle old new before now exit = (new ≡ old) × (now ≡ before) × ((exit ≡ Usage) ⊎ (exit ≡ NoMemory))

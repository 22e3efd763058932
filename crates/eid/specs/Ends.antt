-- Inside: cited by private contracts alone.
-- How a command that had its inputs ends, and the exits of what failed.
use Rattle.std.specs.Prelude.{◌⊎◌, ℕ, List}
use Rattle.eid_base.specs.Faults.{Rose}
use Rattle.eid_base.specs.Seen.{FolderSeen, SinkSeen}
use Rattle.eid_record.specs.Plain.{FullRecord}
use Rattle.eid_copro.specs.Told.{Source}
use Rattle.eid_script.specs.Scripts.{ScriptLine}
use Rattle.eid_inputs.specs.declared.exit.Exit.{Exit}
use Rattle.eid_inputs.specs.declared.exit.Exit.TheVariants.{Done, Usage, FileFault, NoMemory, BadImage, BadScript, BadConfig, SinkFault, BadAnswers}
use Rattle.eid.specs.Run.{Setup, RunFinished, RunBrokeOff, RunNotStored}
use Rattle.eid_run.specs.Meetings.{Meeting}
use Rattle.eid.specs.Session.{SessionFinished, SessionBrokeOff, SessionNotStored}

abbrev pub setup : FullRecord → List ℕ → List ScriptLine → Setup
setup opening cells lines = record { opening = opening; cells = cells; lines = lines }

-- how a command that had its inputs ended, by the exit: it did all, it broke off while it printed, or its file was not stored
abbrev pub IsEndOf : (finished broke_off not_stored folder_rose sink_rose : Type 0) → Exit → Type 0
IsEndOf finished broke_off not_stored folder_rose sink_rose Done = finished
IsEndOf finished broke_off not_stored folder_rose sink_rose SinkFault = broke_off × sink_rose
IsEndOf finished broke_off not_stored folder_rose sink_rose FileFault = not_stored × folder_rose
IsEndOf finished broke_off not_stored folder_rose sink_rose NoMemory = broke_off ⊎ not_stored
IsEndOf finished broke_off not_stored folder_rose sink_rose Usage = ⊥
IsEndOf finished broke_off not_stored folder_rose sink_rose BadImage = ⊥
IsEndOf finished broke_off not_stored folder_rose sink_rose (BadScript line) = ⊥
IsEndOf finished broke_off not_stored folder_rose sink_rose (BadConfig key) = ⊥
IsEndOf finished broke_off not_stored folder_rose sink_rose (BadAnswers line) = ⊥

-- of a run, and of a session, from a folder on with the files of `old`
abbrev pub IsEndOfRun : (image : List ℕ) → Source → Setup → (old middle new : FolderSeen) → SinkSeen → SinkSeen → Exit → Type 0
IsEndOfRun image source s old middle new before now exit = IsEndOf (RunFinished image source s old new before now) (RunBrokeOff source s old new before now)
    (RunNotStored image source s old new before now) (Rose middle.faults new.faults) (Rose before.faults now.faults) exit

abbrev pub IsEndOfSession : (image : List ℕ) → (start : ℕ) → Meeting → (old middle new : FolderSeen) → SinkSeen → SinkSeen → Exit → Type 0
IsEndOfSession image start s old middle new before now exit = IsEndOf (SessionFinished image start s old new before now)
    (SessionBrokeOff start s old new before now) (SessionNotStored image start s old new before now) (Rose middle.faults new.faults)
    (Rose before.faults now.faults) exit

-- What the run of a script does. This project's own.
use Rattle.std.specs.Prelude.{◌≡◌, ℕ, false, IsTrue, List, [], Some, Ok, slice_index}
use Rattle.eid_base.specs.Seen.{FolderSeen, SinkSeen, SameFiles, SameOthers, IsLeftBy}
use Rattle.eid_record.specs.Plain.{FullRecord}
use Rattle.eid_copro.specs.Model.{model_answer}
use Rattle.eid_copro.specs.Script.{script_answer}
use Rattle.eid_copro.specs.Told.{Source, AnswersFrom}
use Rattle.eid_copro.specs.declared.ask.Answer.{Answer}
use Rattle.eid_copro.specs.Seen.{CoproSeen}
use Rattle.eid_cells.specs.Device.{Device}
use Rattle.eid_model.specs.Moments.{asked, AreSteady}
use Rattle.eid_model.specs.Legal.{IsOnlyJournal}
use Rattle.eid_model.specs.Ledger.{kept, pending, MayHold}
use Rattle.eid_script.specs.Scripts.{ScriptLine}
use Rattle.eid_run.specs.Runs.{journal, has_plan, outside, resting, CutsAsPlanned, DidLines, DidSomeLines}
use Rattle.eid_inputs.specs.Images.{record_of}
use Rattle.eid_inputs.specs.Inputs.{image_in, script_in, answers_in}

-- What a run begins with: the opening record, the cells that stand for it, and the lines of the script.
pub record Setup : Type 0 where
  pub opening : FullRecord
  pub cells : List ℕ
  pub lines : List ScriptLine

-- the files give it
pub record IsGiven (image script_name : List ℕ) (old : FolderSeen) (s : Setup) : Type 0 where
  pub is_record : record_of s.cells ≡ Some s.opening
  pub stood : IsTrue old.tells → image_in (old.file image) ≡ Ok s.opening
  pub held : IsTrue old.tells → old.file image ≡ Some s.cells
  pub read : IsTrue old.tells → script_in (old.file script_name) ≡ Ok s.lines

-- The script ran to its end over a device at rest with the image's cells, and the answers that the coprocessor gave, which
-- had been asked nothing, are those of the source. Cuts of the power come as the `cut` lines plan them.
pub record RanWhole (source : Source) (s : Setup) (new_cells : List ℕ) (before now : SinkSeen) : Type 0 where
  pub copro : CoproSeen
  pub unasked : copro.log ≡ []
  pub copro_now : CoproSeen
  pub device : Device
  pub did : DidLines s.opening s.lines (outside resting s.cells copro before) (outside device new_cells copro_now now)
  pub strikes : CutsAsPlanned did.happened
  pub told : AnswersFrom source (asked (journal did.happened))
  pub tells : now.tells ≡ before.tells

-- a run of a script: all of it done. The image then has cells that stand for the record kept, or for that with the effect
-- that is pending, of the same layout, and no other name changed. Without a `cut` line no power was cut; and where none
-- was, no other journal without a cut is legal for this record, these lines and this source of the answers.
pub record RunFinished (image : List ℕ) (source : Source) (s : Setup) (old new : FolderSeen) (before now : SinkSeen) : Type 0 where
  pub new_cells : List ℕ
  pub ran : RanWhole source s new_cells before now
  pub steady : has_plan ran.did.happened ≡ false → AreSteady (journal ran.did.happened)
  pub only : AreSteady (journal ran.did.happened) → IsOnlyJournal source s.opening (journal ran.did.happened)
  pub stored : IsTrue old.tells → new.file image ≡ Some new_cells
  pub stands : MayHold (pending s.opening (journal ran.did.happened)) (kept s.opening (journal ran.did.happened)) (record_of new_cells)
  pub layout : slice_index new_cells 0 ≡ slice_index s.cells 0
  pub others : SameOthers image old new

-- a run that broke off: the files are as before, and a front of the trace was written
pub record RunBrokeOff (source : Source) (s : Setup) (old new : FolderSeen) (before now : SinkSeen) : Type 0 where
  pub copro : CoproSeen
  pub unasked : copro.log ≡ []
  pub copro_now : CoproSeen
  pub device : Device
  pub cells : List ℕ
  pub did : DidSomeLines s.opening s.lines (outside resting s.cells copro before) (outside device cells copro_now now)
  pub strikes : CutsAsPlanned did.happened
  pub told : AnswersFrom source (asked (journal did.happened))
  pub tells : now.tells ≡ before.tells
  pub files : SameFiles old new

-- the trace was written whole, and the image not stored: it is absent, old, or a front of the new cells
pub record RunNotStored (image : List ℕ) (source : Source) (s : Setup) (old new : FolderSeen) (before now : SinkSeen) : Type 0 where
  pub new_cells : List ℕ
  pub ran : RanWhole source s new_cells before now
  pub left : IsTrue old.tells → IsLeftBy (old.file image) (new.file image) new_cells
  pub others : SameOthers image old new

-- a run came to such an end, and the answers are those of the model with this start
abbrev pub OfRun : (image script_name : List ℕ) (start : ℕ) → FolderSeen → (Source → Setup → Type 0) → Type 0
OfRun image script_name start old End = (s : Setup) × IsGiven image script_name old s × End (model_answer start) s

-- a run came to such an end, and the answers are those of a file
abbrev pub OfReplay : (image script_name answers_name : List ℕ) → FolderSeen → (Source → Setup → Type 0) → Type 0
OfReplay image script_name answers_name old End =
    (s : Setup) × IsGiven image script_name old s
    × ((answers : List Answer) × (IsTrue old.tells → answers_in (old.file answers_name) ≡ Ok answers) × End (script_answer answers) s)

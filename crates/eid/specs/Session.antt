-- What the session of a terminal with the chip of an image does. This project's own.
use Rattle.std.specs.Prelude.{◌≡◌, ℕ, IsTrue, List, [], Some, Ok, slice_index}
use Rattle.eid_base.specs.Seen.{FolderSeen, SinkSeen, Grew, SameFiles, SameOthers, IsLeftBy}
use Rattle.eid_cells.specs.Device.{Device}
use Rattle.eid_copro.specs.Model.{model_answer}
use Rattle.eid_copro.specs.Told.{AnswersFrom}
use Rattle.eid_model.specs.Ledger.{kept}
use Rattle.eid_model.specs.Legal.{IsOnlyJournal}
use Rattle.eid_model.specs.Moments.{asked, AreSteady}
use Rattle.eid_run.specs.Honest.{IsHonest}
use Rattle.eid_run.specs.Meetings.{Coprocessors, Meeting, MetWhole, inverted}
use Rattle.eid_run.specs.Promised.{FoundPoints, promised_report}
use Rattle.eid_run.specs.Runs.{journal, outside, resting}
use Rattle.eid_run.specs.Sessions.{DidPartOfSession}
use Rattle.eid_inputs.specs.Images.{record_of}
use Rattle.eid_inputs.specs.Inputs.{image_in, plan_in}

-- the files give it
pub record IsMeeting (image terminal_name : List ℕ) (old : FolderSeen) (s : Meeting) : Type 0 where
  pub is_record : record_of s.cells ≡ Some s.opening
  pub stood : IsTrue old.tells → image_in (old.file image) ≡ Ok s.opening
  pub held : IsTrue old.tells → old.file image ≡ Some s.cells
  pub read : IsTrue old.tells → plan_in (old.file terminal_name) ≡ Ok s.plan

-- All of it done: the image then has cells that stand for the record kept, of the same layout, and no other name changed.
-- No other journal without a cut is legal for this record, these commands, and the model's answers. Where the plan is honest
-- and the coprocessors found points, the report is the promised one.
pub record SessionFinished (image : List ℕ) (start : ℕ) (s : Meeting) (old new : FolderSeen) (before now : SinkSeen) : Type 0 where
  pub new_cells : List ℕ
  pub met : MetWhole start s new_cells before now
  pub only : IsOnlyJournal (model_answer start) s.opening (journal met.did.conversed.happened)
  pub promised : (honest : IsHonest s.plan s.opening) → FoundPoints (journal met.did.conversed.happened) met.did.conversed.asks
      → IsTrue before.tells → Grew before.written now.written (promised_report s.plan s.opening honest.chain)
  pub stored : IsTrue old.tells → new.file image ≡ Some new_cells
  pub stands : record_of new_cells ≡ Some (kept s.opening (journal met.did.conversed.happened))
  pub layout : slice_index new_cells 0 ≡ slice_index s.cells 0
  pub others : SameOthers image old new

-- a session that broke off: the files are as before, and a front of the report was written
pub record SessionBrokeOff (start : ℕ) (s : Meeting) (old new : FolderSeen) (before now : SinkSeen) : Type 0 where
  pub copros : Coprocessors
  pub chip_unasked : copros.chip.log ≡ []
  pub terminal_unasked : copros.terminal.log ≡ []
  pub device : Device
  pub cells : List ℕ
  pub did : DidPartOfSession s.plan s.opening (outside resting s.cells copros.chip before) (outside device cells copros.chip_now now)
      copros.terminal copros.terminal_now
  pub chip_told : AnswersFrom (model_answer start) (asked (journal did.conversed.happened))
  pub terminal_told : AnswersFrom (model_answer (inverted start)) did.conversed.asks
  pub steady : AreSteady (journal did.conversed.happened)
  pub tells : now.tells ≡ before.tells
  pub files : SameFiles old new

-- the report was written whole, and the image not stored: it is absent, old, or a front of the new cells
pub record SessionNotStored (image : List ℕ) (start : ℕ) (s : Meeting) (old new : FolderSeen) (before now : SinkSeen) : Type 0 where
  pub new_cells : List ℕ
  pub met : MetWhole start s new_cells before now
  pub left : IsTrue old.tells → IsLeftBy (old.file image) (new.file image) new_cells
  pub others : SameOthers image old new

-- a session came to such an end
abbrev pub OfSession : (image terminal_name : List ℕ) → FolderSeen → (Meeting → Type 0) → Type 0
OfSession image terminal_name old End = (s : Meeting) × IsMeeting image terminal_name old s × End s

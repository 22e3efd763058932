-- What the run of generated sessions does. This project's own.
use Rattle.std.specs.Prelude.{◌≡◌, ℕ}
use Rattle.eid_base.specs.Seen.{FolderSeen, SinkSeen, SameFiles}
use Rattle.eid_run.specs.Big.{DidBig, PartOfBig}

-- all sessions were run, their numbers were printed, and no file changed
pub record BigFinished (sessions : ℕ) (old new : FolderSeen) (before now : SinkSeen) : Type 0 where
  pub did : DidBig sessions before now
  pub files : SameFiles old new
  pub tells : now.tells ≡ before.tells

-- the printing broke off: a front of the lines was printed, and no file changed
pub record BigBrokeOff (sessions : ℕ) (old new : FolderSeen) (before now : SinkSeen) : Type 0 where
  pub did : PartOfBig sessions before now
  pub files : SameFiles old new
  pub tells : now.tells ≡ before.tells

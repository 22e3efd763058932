-- What the making of an image does. This project's own.
use Rattle.std.specs.Prelude.{◌≡◌, ℕ, IsTrue, List, Some, Ok}
use Rattle.eid_base.specs.Seen.{FolderSeen, SinkSeen, SameOthers, IsLeftBy}
use Rattle.eid_perso.specs.Config.{PlainConfig, full_record}
use Rattle.eid_perso.specs.Image.{image}
use Rattle.eid_inputs.specs.Images.{record_of}
use Rattle.eid_inputs.specs.Inputs.{config_in}
use Rattle.eid.specs.Sinks.{WroteNothing}

-- the cells of the image that a configuration asks for, which stand for its record
pub record IsImageOf (config_name : List ℕ) (old : FolderSeen) (cells : List ℕ) : Type 0 where
  pub config : PlainConfig
  pub read : IsTrue old.tells → config_in (old.file config_name) ≡ Ok config
  pub is : cells ≡ image config
  pub stands : record_of cells ≡ Some (full_record config)

-- the image was stored, no other name changed, and nothing was printed
pub record MakeFinished (config_name image_name : List ℕ) (old new : FolderSeen) (before now : SinkSeen) : Type 0 where
  pub cells : List ℕ
  pub made : IsImageOf config_name old cells
  pub silent : WroteNothing before now
  pub stored : IsTrue old.tells → new.file image_name ≡ Some cells
  pub others : SameOthers image_name old new

-- the image was made, and not stored: it is absent, old, or a front of the cells
pub record MakeNotStored (config_name image_name : List ℕ) (old new : FolderSeen) (before now : SinkSeen) : Type 0 where
  pub cells : List ℕ
  pub made : IsImageOf config_name old cells
  pub silent : WroteNothing before now
  pub left : IsTrue old.tells → IsLeftBy (old.file image_name) (new.file image_name) cells
  pub others : SameOthers image_name old new

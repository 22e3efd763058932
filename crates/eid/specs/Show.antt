-- What the showing of an image does. This project's own.
use Rattle.std.specs.Prelude.{◌≡◌, ℕ, IsTrue, List, Some, slice_index}
use Rattle.eid_base.specs.Seen.{FolderSeen, SinkSeen, SameFiles, Grew, GrewByPart}
use Rattle.eid_record.specs.Plain.{FullRecord}
use Rattle.eid_perso.specs.Show.{shown}
use Rattle.eid_inputs.specs.Images.{record_of}

-- the text of the record that an image stands for, and of the layout in its first byte
pub record IsTextOf (image_name : List ℕ) (old : FolderSeen) (text : List ℕ) : Type 0 where
  pub cells : List ℕ
  pub full : FullRecord
  pub held : IsTrue old.tells → old.file image_name ≡ Some cells
  pub stands : record_of cells ≡ Some full
  pub is : text ≡ shown (slice_index cells 0) full.fields

-- the text was printed, and no file changed
pub record ShowFinished (image_name : List ℕ) (old new : FolderSeen) (before now : SinkSeen) : Type 0 where
  pub text : List ℕ
  pub shows : IsTextOf image_name old text
  pub files : SameFiles old new
  pub tells : now.tells ≡ before.tells
  pub written : IsTrue before.tells → Grew before.written now.written text

-- the printing broke off: a front of the text was printed, and no file changed
pub record ShowBrokeOff (image_name : List ℕ) (old new : FolderSeen) (before now : SinkSeen) : Type 0 where
  pub text : List ℕ
  pub shows : IsTextOf image_name old text
  pub files : SameFiles old new
  pub tells : now.tells ≡ before.tells
  pub written : IsTrue before.tells → GrewByPart before.written now.written text

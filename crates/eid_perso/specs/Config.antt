-- What a configuration says.
use Rattle.std.specs.Prelude.{◌≡◌, ℕ, ◌+◌, ◌≤◌, List, length, Option, IsTrue}
use Rattle.eid_record.specs.Files.{total, full_of}
use Rattle.eid_record.specs.Layout.{file_count}
use Rattle.eid_record.specs.Plain.{PlainRecord, FullRecord}
use Rattle.eid_record.specs.Reading.{size}
use Rattle.eid_record.specs.Valid.{IsValid, lengths_fit}
use Rattle.eid_record.specs.View.{record_view}
use Rattle.eid_store.specs.Layouts.{two_slot_layout}
use Rattle.eid_perso.specs.declared.config.Config.{Config}

-- the layout, the record's fields, and the bytes of the files that are there, in the order of the files' numbers
pub record PlainConfig : Type 0 where
  pub layout : ℕ
  pub fields : PlainRecord
  pub files : List ℕ

abbrev pub config_view : Config → PlainConfig
config_view c = record { layout = c.layout; fields = record_view c.kept; files = c.files.items }

-- the full record that an image of it holds
abbrev pub full_record : PlainConfig → FullRecord
full_record c = full_of c.fields c.files

-- layout 1, the fields that a record may have, and as many bytes as the files have together
pub record IsWhole (c : PlainConfig) : Type 0 where
  pub layout : c.layout ≡ two_slot_layout
  pub valid : IsValid c.fields
  pub files : length c.files ≡ total c.fields.lengths

-- the bytes of files so far, with a file of this length
pub record IsFileLength (before now : List ℕ) (n : Option ℕ) : Type 0 where
  pub more : length now ≡ length before + size n
  pub short : size n ≤ 2048
  pub room : length now ≤ 24000

-- lengths that a record may have, and as many bytes
pub record AreFiles (lengths : List (Option ℕ)) (bytes : List ℕ) : Type 0 where
  pub count : length lengths ≡ file_count
  pub fit : IsTrue (lengths_fit 0 lengths)
  pub total : length bytes ≡ total lengths

-- The bytes of a record: its fixed bytes, and then those of the files that are there, in the order of their numbers.
use Rattle.std.specs.Prelude.{ℕ, ◌+◌, List, [], ◌∷◌, ◌++◌, take, drop, Option, Some, None, Result, Ok, Err, slice_index_or, slice_range}
use Rattle.std.specs.Option.{option_map}
use Rattle.eid_record.specs.Plain.{PlainRecord, FullRecord}
use Rattle.eid_record.specs.Layout.{fixed_size, fixed_bytes}
use Rattle.eid_record.specs.Reading.{record_in, size}

-- how many bytes files of these lengths have together
abbrev pub total : List (Option ℕ) → ℕ
total [] = 0
total (n ∷ lengths) = size n + total lengths

-- files of these lengths, whose bytes stand one behind the other
abbrev pub files_in : List (Option ℕ) → List ℕ → List (Option (List ℕ))
files_in [] bytes = []
files_in (None ∷ lengths) bytes = None ∷ files_in lengths bytes
files_in (Some n ∷ lengths) bytes = Some (take n bytes) ∷ files_in lengths (drop n bytes)

-- the bytes of the files that are there, one behind the other
abbrev pub files_bytes : List (Option (List ℕ)) → List ℕ
files_bytes [] = []
files_bytes (None ∷ files) = files_bytes files
files_bytes (Some file ∷ files) = file ++ files_bytes files

-- the full record of fields whose files' bytes stand one behind the other
abbrev pub full_of : PlainRecord → List ℕ → FullRecord
full_of fields bytes = record { fields = fields; files = files_in fields.lengths bytes }

-- the full record of fields that were read, behind which these bytes stand
abbrev pub full_read : Result PlainRecord ℕ → List ℕ → Option FullRecord
full_read (Ok fields) bytes = Some (full_of fields bytes)
full_read (Err place) bytes = None

-- the full record that these bytes spell, whatever stands behind it; none where a field is refused
unfoldable pub full_in : List ℕ → Option FullRecord
full_in bytes = full_read (record_in (take fixed_size bytes)) (drop fixed_size bytes)

-- the bytes of a full record, as they are written
abbrev pub full_bytes : FullRecord → List ℕ
full_bytes full = fixed_bytes full.fields ++ files_bytes full.files

-- so many bytes of a file from this offset on, where it is there
abbrev pub file_range : ℕ → ℕ → ℕ → FullRecord → Option (List ℕ)
file_range file offset count full =
    option_map (λ bytes. slice_range bytes offset (offset + count)) (slice_index_or full.files file None)

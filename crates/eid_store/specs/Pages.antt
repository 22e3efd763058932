-- Inside: cited by private contracts alone.
-- The bytes that a commit writes.
use Rattle.std.specs.Prelude.{ℕ, ◌+◌, ◌-◌, ◌*◌, List, [], ◌++◌, length, take, drop, replicate, Option, slice_range}
use Rattle.eid_record.specs.Files.{total}
use Rattle.eid_record.specs.Layout.{replaced}
use Rattle.eid_record.specs.Plain.{PlainEffect, Write}

-- the first byte that the effect changes, counted from the first byte of the first file
abbrev pub change_place : PlainEffect → List (Option ℕ) → ℕ
change_place (Write file offset bytes) lengths = total (take file lengths) + offset
change_place effect lengths = 0

-- the bytes that it puts there
abbrev pub change_bytes : PlainEffect → List ℕ
change_bytes (Write file offset bytes) = bytes
change_bytes effect = []

-- the record's bytes: the fixed bytes, and those of the files as they stand in this room up to here, with a change
abbrev pub new_bytes : List ℕ → ℕ → ℕ → List ℕ → List ℕ → List ℕ
new_bytes fixed size place change room = fixed ++ replaced place change (slice_range room 448 (448 + size))

-- so many whole pages, the last of them filled with 00
abbrev pub filled : ℕ → List ℕ → List ℕ
filled pages bytes = bytes ++ replicate (64 * pages - length bytes) 0

-- the page of this number
abbrev pub page_of : ℕ → List ℕ → List ℕ
page_of index pages = take 64 (drop (64 * index) pages)

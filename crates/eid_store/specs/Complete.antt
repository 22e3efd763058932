-- The full records that cells can stand for, whatever their layout.
use Rattle.std.specs.Prelude.{◌≡◌, ℕ, ◌≤◌, length, map, None, IfSome, slice_index_or}
use Rattle.std.specs.Option.{option_map}
use Rattle.eid_record.specs.Plain.{FullRecord}
use Rattle.eid_record.specs.Valid.{IsValid}
use Rattle.eid_record.specs.Files.{total}

-- Its fields are valid, a file is there exactly where its length is, with so many bytes, and no file has more than
-- 2,048 bytes, nor all together more than 24,000.
pub record IsComplete (full : FullRecord) : Type 0 where
  pub valid : IsValid full.fields
  pub files : map (option_map length) full.files ≡ full.fields.lengths
  pub small : (file : ℕ) → IfSome (slice_index_or full.fields.lengths file None) (λ n. n ≤ 2048)
  pub fit : total full.fields.lengths ≤ 24000

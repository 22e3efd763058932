use Rattle.std.proofs.Common.{◌≡◌, ℕ, ◌+◌, ◌≤◌, List, [], Option, length, take, drop, IsTrue}
use Rattle.toml.specs.Data.{Members}
use Rattle.toml.specs.View.{table_view}
use Rattle.eid_record.specs.Files.{total}
use Rattle.eid_record.specs.Valid.{lengths_fit}
use Rattle.eid_perso.specs.Keys.{files_from}
use Rattle.eid_perso.specs.Names.{file_names}
use Rattle.eid_perso.proofs.files.read_files.Given as goal

-- after i files
pub record SoFar (m : Members) (lengths : List (Option ℕ)) (bytes : List ℕ) (i : ℕ) : Type 0 where
  pub read : files_from (18 + i) (take i lengths) bytes (drop i file_names) m ≡ files_from 18 [] [] file_names m
  pub count : length lengths ≡ 23
  pub fit : IsTrue (lengths_fit 0 (take i lengths))
  pub size : length bytes ≡ total (take i lengths)
  pub room : length bytes ≤ 24000

abbrev pub invariant-loop-i : goal.invariant-loop-i
invariant-loop-i l = SoFar (table_view l.table) l.lengths l.bytes.items l.i

-- What a list of named files holds, and what the folder and the sink in memory are seen as.
-- This project's own.
use Rattle.std.specs.Prelude.{ℕ, Bool, true, false, List, [], ◌∷◌, ◌++◌, Option, Some, None, Result, Ok, Err, if◌then◌else◌, is_some, map, String, string_bytes, Vec, ◌==◌}
use Rattle.std.specs.List.{list_any}
use Rattle.std.specs.Str.{bytes_eq}
use Rattle.std.specs.declared.alloc.Global.{Global}
use Rattle.eid_base.specs.declared.outside.IoError.{IoError}
use Rattle.eid_base.specs.declared.outside.IoError.TheVariants.{Absent, Fault, NoMemory}
use Rattle.eid_base.specs.Faults.{next_number}
use Rattle.eid_base.specs.Seen.{FolderSeen, SinkSeen}

-- what the name holds: of equal names the last one counts
abbrev pub file_in : List (List ℕ × List ℕ) → List ℕ → Option (List ℕ)
file_in [] name = None
file_in (file ∷ later) name =
    let held = file_in later name in
    if is_some held then held else if bytes_eq file.0 name then Some file.1 else None

-- names and bytes alone
abbrev pub plain_files : List (String Global × Vec ℕ Global) → List (List ℕ × List ℕ)
plain_files files = map (λ f. (string_bytes f.0, f.1.items)) files

-- A folder in memory: its files, the numbers of the calls that fail, the calls so far, and the faults so far.
pub record MemoryFiles : Type 0 where
  pub files : List (List ℕ × List ℕ)
  pub fail : List ℕ
  pub calls : ℕ
  pub faults : ℕ

-- it tells everything
abbrev pub folder_seen : MemoryFiles → FolderSeen
folder_seen m = record { tells = true; file = file_in m.files; faults = m.faults }

-- the answer is a fault
abbrev pub is_fault : {T : Type 0} → Result T IoError → Bool
is_fault (Err Fault) = true
is_fault (Err Absent) = false
is_fault (Err NoMemory) = false
is_fault (Ok value) = false

-- after one more call that changed no file, which failed or not
abbrev pub called : Bool → MemoryFiles → MemoryFiles
called failed m = record m { calls = next_number m.calls; faults = if failed then next_number m.faults else m.faults }

-- after one more call that stored a file
abbrev pub stored : List ℕ → List ℕ → MemoryFiles → MemoryFiles
stored name bytes m = record m { files = m.files ++ (name, bytes) ∷ []; calls = next_number m.calls }

-- the next call is one of those that fail
abbrev pub fails_next : List ℕ → ℕ → Bool
fails_next fail calls = list_any (λ n. n == next_number calls) fail

-- A sink in memory: the bytes written, the numbers of the calls that fail, the calls so far, and the faults so far.
pub record MemoryBytes : Type 0 where
  pub written : List ℕ
  pub fail : List ℕ
  pub calls : ℕ
  pub faults : ℕ

-- after one more call that wrote this piece, which failed or not
abbrev pub wrote : List ℕ → Bool → MemoryBytes → MemoryBytes
wrote piece failed m =
    record m { written = m.written ++ piece; calls = next_number m.calls; faults = if failed then next_number m.faults else m.faults }

-- it tells everything
abbrev pub sink_seen : MemoryBytes → SinkSeen
sink_seen m = record { tells = true; written = m.written; faults = m.faults }

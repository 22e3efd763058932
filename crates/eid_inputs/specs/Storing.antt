-- How a file is stored. This project's own.
use Rattle.std.specs.Prelude.{◌≡◌, ℕ, IsTrue, List, Some}
use Rattle.eid_base.specs.Faults.{Rose}
use Rattle.eid_base.specs.Seen.{FolderSeen, SameOthers, IsLeftBy}
use Rattle.eid_inputs.specs.declared.exit.Exit.{Exit}
use Rattle.eid_inputs.specs.declared.exit.Exit.TheVariants.{Done, Usage, FileFault, NoMemory, BadImage, BadScript, BadConfig, SinkFault, BadAnswers}

abbrev pub IsLeftIn : (name bytes : List ℕ) → FolderSeen → FolderSeen → Type 0
IsLeftIn name bytes old new = (IsTrue old.tells → IsLeftBy (old.file name) (new.file name) bytes) × SameOthers name old new

-- a file was stored, or it is left absent, old, or with a front of the bytes, by the exit
abbrev pub IsStored : (name bytes : List ℕ) → FolderSeen → FolderSeen → Exit → Type 0
IsStored name bytes old new Done = (IsTrue old.tells → new.file name ≡ Some bytes) × SameOthers name old new
IsStored name bytes old new FileFault = IsLeftIn name bytes old new × Rose old.faults new.faults
IsStored name bytes old new NoMemory = IsLeftIn name bytes old new
IsStored name bytes old new SinkFault = ⊥
IsStored name bytes old new Usage = ⊥
IsStored name bytes old new BadImage = ⊥
IsStored name bytes old new (BadScript line) = ⊥
IsStored name bytes old new (BadConfig key) = ⊥
IsStored name bytes old new (BadAnswers line) = ⊥

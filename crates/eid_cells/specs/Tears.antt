-- What a cut leaves in the range that was being written (this project's own).
use Rattle.std.specs.Prelude.{ℕ, ◌/◌, List, ◌++◌, length, take, drop, replicate}
use Rattle.eid_cells.specs.declared.tear.Tear.{Tear}
use Rattle.eid_cells.specs.declared.tear.Tear.TheVariants.{Old, New, Half, Fill}

-- by the tear, what stood there, and what was to be written
abbrev pub torn : Tear → List ℕ → List ℕ → List ℕ
torn Old before bytes = before
torn New before bytes = bytes
torn Half before bytes = take (length bytes / 2) bytes ++ drop (length bytes / 2) before
torn (Fill byte) before bytes = replicate (length bytes) byte

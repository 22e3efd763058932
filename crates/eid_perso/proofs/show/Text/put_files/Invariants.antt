use Rattle.std.proofs.Common.{◌≡◌, ◌++◌, drop}
use Rattle.eid_perso.specs.Names.{file_names}
use Rattle.eid_perso.specs.Show.{file_lines}
use Rattle.eid_perso.proofs.show.Text.put_files.Given as goal

-- what was written, and the lines that are still to be written
abbrev pub invariant-loop-file : goal.invariant-loop-file
invariant-loop-file l =
    l.self.bytes.items ++ file_lines (drop l.file file_names) (drop l.file l.lengths)
    ≡ l.fn.self.bytes.items ++ file_lines file_names l.lengths

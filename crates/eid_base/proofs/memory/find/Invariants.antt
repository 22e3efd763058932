use Rattle.std.proofs.Common.{◌≡◌, take}
use Rattle.std.specs.Prelude.{option_map}
use Rattle.eid_base.specs.Files.{file_in, plain_files}
use Rattle.eid_base.proofs.memory.find.Given as goal

-- what the files so far hold under the name
abbrev pub invariant-loop-file : goal.invariant-loop-file
invariant-loop-file l = option_map (λ bytes. bytes.now) l.held ≡ file_in (plain_files (take l.file-index l.files)) l.name

use Rattle.std.proofs.Common.{◌≡◌, ◌+◌, drop}
use Rattle.eid_record.specs.Files.{total}
use Rattle.eid_store.proofs.files.files_size.Given as goal

abbrev pub invariant-loop-length : goal.invariant-loop-length
invariant-loop-length l = l.sum + total (drop l.length-index l.lengths) ≡ total l.lengths

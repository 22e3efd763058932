use Rattle.std.proofs.Common.{arith}
use Rattle.eid_store.proofs.FileBytes.{total-take}
use Rattle.eid_store.proofs.files.place_of.Goals as goal

pub files_size-requires : goal.files_size-requires
files_size-requires c = omega (arith, total-take c.from.result c.args.lengths.now, c.requires.fit)

use Rattle.std.proofs.Common.{length, arith}
use Rattle.eid_record.specs.Effect.{HasRange}
use Rattle.eid_store.proofs.FileBytes.{range_known, range_inside}
use Rattle.eid_store.proofs.files.change_of.Goals as goal

pub place_of-requires-clause-known : goal.place_of-requires-clause-known
place_of-requires-clause-known c =
    let has : HasRange c.args.kept.now.lengths c.in-Write.file.0 c.in-Write.offset (length c.in-Write.bytes.now) = rw c.in-Write.is at c.requires.effect in
    omega (arith, range_known c.args.kept.now.lengths c.in-Write.file.0 c.in-Write.offset (length c.in-Write.bytes.now) has, c.requires.count)

pub overflow_add-result : goal.overflow_add-result
overflow_add-result c =
    let has : HasRange c.args.kept.now.lengths c.in-Write.file.0 c.in-Write.offset (length c.in-Write.bytes.now) = rw c.in-Write.is at c.requires.effect in
    omega (arith, c.place_of.ensures, c.from.ensures, c.requires.fit, range_inside c.args.kept.now.lengths c.in-Write.file.0 c.in-Write.offset (length c.in-Write.bytes.now) has)

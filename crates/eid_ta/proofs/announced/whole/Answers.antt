-- A value is shorter than the object with it.
use Rattle.std.proofs.Common.{refl, arith}
use Rattle.eid_tlv.proofs.Sizes.{object_size}
use Rattle.eid_ta.proofs.announced.whole.Goals as goal

pub put-requires : goal.put-requires
put-requires c =
    let fits = rw c.in-Some.is at c.requires in
    (omega arith, (refl, omega (arith, object_size 0x67 c.in-Some.value.now, fits)))

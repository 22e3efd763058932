use Rattle.std.proofs.Common.{arith}
use Rattle.eid_cvc.proofs.Sizes.{two_bytes}
use Rattle.eid_cvc.proofs.writing.write_certificate.Goals as goal

pub unwrap-requires-2 : goal.unwrap-requires-2
unwrap-requires-2 g c =
    let behind = two_bytes 0x5F37 c.args.signature.now 64 (omega (arith, c.told-signature)) (omega arith) in
    grind (arith, c.write_body.ensures.written, c.put.ensures.full)

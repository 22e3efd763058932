use Rattle.std.proofs.Common.{◌≡◌, ◌+◌, ◌*◌, get_or, refl, arith}
use Rattle.eid_tlv.proofs.Forms.{begins_three_byte_length}
use Rattle.eid_tlv.proofs.reading.read_length.Goals as goal

pub returns-in-130-clause-found : goal.returns-in-130-clause-found
returns-in-130-clause-found c =
    let bytes = c.args.bytes.now in
    let size : c.from.result ≡ get_or bytes 1 0 * 256 + get_or bytes 2 0 = omega (arith, c.from.ensures, c.from_be_bytes.ensures) in
    rw size
    (begins_three_byte_length bytes (get_or bytes 1 0) (get_or bytes 2 0) c.in-130.len_at_least (omega arith) refl refl
    (omega arith) (omega (arith, c.type_inv.bytes 1)) (omega (arith, c.type_inv.bytes 2)))

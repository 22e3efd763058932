use Rattle.eid_bits.proofs.Masks.{no_bit_above}
use Rattle.eid_bits.proofs.rights.is_set.Goals as goal

pub returns-else-bit-lt-BITS : goal.returns-else-bit-lt-BITS
returns-else-bit-lt-BITS c = no_bit_above c.args.number c.args.bit c.ranges.number.fits c.if-bit-lt-BITS.false

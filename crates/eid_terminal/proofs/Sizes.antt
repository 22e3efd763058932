-- How long identifiers are.
use Rattle.std.proofs.Common.{◌≤◌, length, arith}
use Rattle.eid_bits.specs.Identifiers.{known_bytes}
use Rattle.eid_bits.specs.declared.identifier.Known.{Known}
use Rattle.eid_bits.specs.declared.identifier.Known.TheVariants as known

pub short_identifier : (identifier : Known) → length (known_bytes identifier) ≤ 10
short_identifier known.Application = omega arith
short_identifier known.PaceAes128 = omega arith
short_identifier known.PaceAes256 = omega arith
short_identifier known.CaAes128 = omega arith
short_identifier known.CaAes256 = omega arith
short_identifier known.TaSha256 = omega arith
short_identifier known.RiSha256 = omega arith
short_identifier known.AtTemplate = omega arith
short_identifier known.Birth = omega arith
short_identifier known.Expiry = omega arith
short_identifier known.Community = omega arith
short_identifier known.Sector = omega arith

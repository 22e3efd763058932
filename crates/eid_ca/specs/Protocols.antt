-- The protocols of chip authentication that can be selected, and their object identifiers (BSI TR-03110-3).
use Rattle.std.specs.Prelude.{ℕ, List, Option, Some, None, if◌then◌else◌}
use Rattle.std.specs.Str.{bytes_eq}
use Rattle.eid_bits.specs.Identifiers.{known_bytes}
use Rattle.eid_bits.specs.declared.identifier.Known.{Known}
use Rattle.eid_bits.specs.declared.identifier.Known.TheVariants.{CaAes128}
use Rattle.eid_ca.specs.declared.protocol.Protocol.{Protocol}
use Rattle.eid_ca.specs.declared.protocol.Protocol.TheVariants.{EcdhAes128}

abbrev pub identifier_of : Protocol → Known
identifier_of EcdhAes128 = CaAes128

abbrev pub protocol_bytes : Protocol → List ℕ
protocol_bytes protocol = known_bytes (identifier_of protocol)

-- the protocol with that object identifier
abbrev pub protocol_with : List ℕ → Option Protocol
protocol_with bytes = if bytes_eq bytes (protocol_bytes EcdhAes128) then Some EcdhAes128 else None

-- The body of MSE:Set AT that names a protocol by the object 80 (BSI TR-03110-3), and how a selection of chip
-- authentication is answered.
use Rattle.std.specs.Prelude.{ℕ, Bool, false, List, [], ◌∷◌, Option, Some, None, option_and_then, Result, Ok, Err}
use Rattle.std.specs.Str.{bytes_eq}
use Rattle.eid_bits.specs.Identifiers.{known_bytes}
use Rattle.eid_bits.specs.declared.identifier.Known.{Known}
use Rattle.eid_tlv.specs.Lists.{values}
use Rattle.eid_tlv.specs.ListIn.{list_in}
use Rattle.eid_ca.specs.Protocols.{protocol_with}
use Rattle.eid_ca.specs.Rules.{form_rule}
use Rattle.eid_ca.specs.States.{PlainCaChosen}
use Rattle.eid_ca.specs.declared.protocol.Protocol.{Protocol}

abbrev pub only_one : List (List ℕ) → Option (List ℕ)
only_one [] = None
only_one (value ∷ []) = Some value
only_one (value ∷ other ∷ later) = None

-- the value of the one 80, where the body is a list of data objects with exactly one; other tags are passed over
unfoldable pub named_in : List ℕ → Option (List ℕ)
named_in body = option_and_then (λ list. only_one (values 0x80 list)) (list_in body)

abbrev pub is_identifier : Known → Option (List ℕ) → Bool
is_identifier identifier None = false
is_identifier identifier (Some bytes) = bytes_eq bytes (known_bytes identifier)

-- the one 80 has this identifier
abbrev pub names : Known → List ℕ → Bool
names identifier body = is_identifier identifier (named_in body)

-- the protocol of chip authentication that the body selects
abbrev pub chosen_in : List ℕ → Option Protocol
chosen_in body = option_and_then protocol_with (named_in body)

-- the state after a selection by a terminal with this X half, or the rule that failed
abbrev pub chosen_by : Option Protocol → List ℕ → Result PlainCaChosen ℕ
chosen_by None key_x = Err form_rule
chosen_by (Some protocol) key_x = Ok (record { protocol = protocol; key_x = key_x })

-- The selection that a body is, as a function, where it is one.
use Rattle.std.specs.Prelude.{ℕ, List, [], ◌∷◌}
use Rattle.std.specs.Prelude.{Option, Some, None, option_map, option_and_then}
use Rattle.eid_tlv.specs.Lists.{values}
use Rattle.eid_tlv.specs.ListIn.{list_in}
use Rattle.eid_pace.specs.Protocols.{protocol_with}
use Rattle.eid_cvc.specs.Templates.{template_in}
use Rattle.eid_pace.specs.Selections.{PlainSelection}
use Rattle.eid_pace.specs.declared.protocol.Protocol.{Protocol}

-- one value, a protocol
abbrev pub protocol_in : List (List ℕ) → Option Protocol
protocol_in [] = None
protocol_in (value ∷ []) = protocol_with value
protocol_in (value ∷ other ∷ later) = None

abbrev pub one_byte : List ℕ → Option ℕ
one_byte [] = None
one_byte (byte ∷ []) = Some byte
one_byte (byte ∷ other ∷ later) = None

-- one value of one byte
abbrev pub reference_in : List (List ℕ) → Option ℕ
reference_in [] = None
reference_in (value ∷ []) = one_byte value
reference_in (value ∷ other ∷ later) = None

-- no value, or one with a template
abbrev pub template_if_any : List (List ℕ) → Option (Option (List ℕ))
template_if_any [] = Some None
template_if_any (value ∷ []) = option_map Some (template_in value)
template_if_any (value ∷ other ∷ later) = None

abbrev pub selection_of : Option Protocol → Option ℕ → Option (Option (List ℕ)) → Option PlainSelection
selection_of None reference template = None
selection_of (Some protocol) None template = None
selection_of (Some protocol) (Some reference) None = None
selection_of (Some protocol) (Some reference) (Some template) =
    Some (record { protocol = protocol; reference = reference; template = template })

-- by the values of 80, 83 and 7F4C
abbrev pub selection_by : List (List ℕ) → List (List ℕ) → List (List ℕ) → Option PlainSelection
selection_by protocols references templates =
    selection_of (protocol_in protocols) (reference_in references) (template_if_any templates)

unfoldable pub selection_in : List ℕ → Option PlainSelection
selection_in body = option_and_then (λ list. selection_by (values 0x80 list) (values 0x83 list) (values 0x7F4C list)) (list_in body)

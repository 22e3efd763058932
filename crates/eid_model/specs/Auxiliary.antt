-- The verification of auxiliary data (BSI TR-03110-2, TR-03110-3): what the terminal sent in terminal authentication is compared
-- with what data groups hold.
use Rattle.std.specs.Prelude.{ℕ, Bool, true, false, List, Option, Some, None, is_some, slice_index_or, if◌then◌else◌}
use Rattle.std.specs.Str.{bytes_eq}
use Rattle.eid_aux.specs.Compared.{compared_birth, compared_community, compared_expiry}
use Rattle.eid_aux.specs.declared.compared.Compared.{Compared}
use Rattle.eid_aux.specs.declared.compared.Compared.TheVariants.{Yes, No, NoReference}
use Rattle.eid_bits.specs.Identifiers.{known_bytes}
use Rattle.eid_bits.specs.declared.identifier.Known.{Known}
use Rattle.eid_bits.specs.declared.identifier.Known.TheVariants as known
use Rattle.eid_cvc.specs.Chains.{PlainAux, PlainTerminalKnown}
use Rattle.eid_files.specs.Names.{data_group}
use Rattle.eid_model.specs.declared.comparison.Comparison.{Comparison}
use Rattle.eid_model.specs.declared.comparison.Comparison.TheVariants.{Age, Validity, Community}
use Rattle.eid_record.specs.Plain.{FullRecord}
use Rattle.eid_tlv.specs.Objects.{object}

-- the identifier by which a comparison is named
abbrev pub identifier : Comparison → Known
identifier Age = known.Birth
identifier Validity = known.Expiry
identifier Community = known.Community

-- the body of its VERIFY: one object with the identifier
abbrev pub body_of : Comparison → List ℕ
body_of comparison = object 0x06 (known_bytes (identifier comparison))

-- the comparison that a body names
unfoldable pub comparison_in : List ℕ → Option Comparison
comparison_in body =
    if bytes_eq body (body_of Age) then Some Age
    else if bytes_eq body (body_of Validity) then Some Validity
    else if bytes_eq body (body_of Community) then Some Community else None

-- what the terminal sent to be compared
abbrev pub sent_in_aux : Comparison → PlainAux → Option (List ℕ)
sent_in_aux Age aux = aux.birth
sent_in_aux Validity aux = aux.expiry
sent_in_aux Community aux = aux.community

-- and where a terminal has authenticated itself
abbrev pub sent_by : Option PlainTerminalKnown → Comparison → Option (List ℕ)
sent_by None comparison = None
sent_by (Some terminal) comparison = sent_in_aux comparison terminal.aux

-- the file that it is compared with: the date of birth is data group 8, the date of expiry 3, the community 18
abbrev pub reference_file : Comparison → ℕ
reference_file Age = data_group 8
reference_file Validity = data_group 3
reference_file Community = data_group 18

abbrev pub compared_with : Comparison → (stored sent : List ℕ) → Compared
compared_with Age stored sent = compared_birth stored sent
compared_with Validity stored sent = compared_expiry stored sent
compared_with Community stored sent = compared_community stored sent

-- an absent file is no reference
abbrev pub compared_to : Comparison → Option (List ℕ) → List ℕ → Compared
compared_to comparison None sent = NoReference
compared_to comparison (Some stored) sent = compared_with comparison stored sent

-- the data that was sent, with those of the record kept; nothing sent is compared with nothing
abbrev pub compared_sent : FullRecord → Comparison → Option (List ℕ) → Compared
compared_sent kept comparison None = NoReference
compared_sent kept comparison (Some sent) = compared_to comparison (slice_index_or kept.files (reference_file comparison) None) sent

-- what the comparison gives that a request names, with what the terminal sent
abbrev pub compared_of : FullRecord → Option Comparison → Option PlainTerminalKnown → Compared
compared_of kept None terminal = NoReference
compared_of kept (Some comparison) terminal = compared_sent kept comparison (sent_by terminal comparison)

-- the terminal sent what it compares
abbrev pub has_sent : Option Comparison → Option PlainTerminalKnown → Bool
has_sent None terminal = false
has_sent (Some comparison) terminal = is_some (sent_by terminal comparison)

abbrev pub has_reference : Compared → Bool
has_reference Yes = true
has_reference No = true
has_reference NoReference = false

abbrev pub is_yes : Compared → Bool
is_yes Yes = true
is_yes No = false
is_yes NoReference = false

-- The announcement that a body is, as a function, where it is one (BSI TR-03110-3, MSE:Set AT for terminal
-- authentication).
use Rattle.std.specs.Prelude.{ℕ, ◌==◌, List, [], length, Option, Some, None, if◌then◌else◌}
use Rattle.std.specs.Str.{bytes_eq}
use Rattle.eid_bits.specs.Date.{is_between}
use Rattle.eid_bits.specs.Identifiers.{known_bytes}
use Rattle.eid_bits.specs.declared.identifier.Known.TheVariants.{TaSha256}
use Rattle.eid_tlv.specs.Objects.{object}
use Rattle.eid_cvc.specs.Chains.{PlainAux, no_aux}
use Rattle.eid_cvc.specs.Fronts.{◌>>=◌}
use Rattle.eid_ta.specs.States.{PlainAnnouncement}
use Rattle.eid_ta.specs.Objects.{only_in, optional_in}
use Rattle.eid_ta.specs.AuxiliaryIn.{auxiliary_in}

-- 83, of 1 to 16 bytes
unfoldable pub reference_in : List ℕ → Option (List ℕ)
reference_in body = do
  reference ← only_in 0x83 body
  if is_between 1 16 (length reference) then Some reference else None

-- 91, of 32 bytes
unfoldable pub key_in : List ℕ → Option (List ℕ)
key_in body = do
  key ← only_in 0x91 body
  if length key == 32 then Some key else None

-- the auxiliary data in the value of a 67, where there is one
abbrev pub auxiliary_if_any : Option (List ℕ) → Option PlainAux
auxiliary_if_any None = Some no_aux
auxiliary_if_any (Some value) = auxiliary_in value

-- the object 67 with this value, where there is one
abbrev pub whole : Option (List ℕ) → List ℕ
whole None = []
whole (Some value) = object 0x67 value

-- data objects in any order, among them 80 with id-TA-ECDSA-SHA-256, and at most one 67
unfoldable pub announcement_in : List ℕ → Option PlainAnnouncement
announcement_in body = do
  protocol ← only_in 0x80 body
  reference ← reference_in body
  key_x ← key_in body
  value ← optional_in 0x67 body
  aux ← auxiliary_if_any value
  if bytes_eq protocol (known_bytes TaSha256)
      then Some (record { reference = reference; key_x = key_x; sent = whole value; aux = aux })
      else None

-- Auxiliary data of terminal authentication (BSI TR-03110-3): the value of an object 67, by writing it.
use Rattle.std.specs.Prelude.{◌≡◌, ℕ, ◌≤◌, List, ◌++◌, length, map, IfSome, IsTrue}
use Rattle.std.specs.List.{filter, flat_map}
use Rattle.std.specs.Option.{option_to_list}
use Rattle.std.specs.Str.{bytes_eq}
use Rattle.eid_bits.specs.Date.{is_long_date}
use Rattle.eid_bits.specs.Identifiers.{known_bytes}
use Rattle.eid_bits.specs.declared.identifier.Known.{Known}
use Rattle.eid_bits.specs.declared.identifier.Known.TheVariants.{Birth, Expiry, Community}
use Rattle.eid_tlv.specs.Objects.{object}
use Rattle.eid_cvc.specs.Chains.{PlainAux}
use Rattle.eid_ta.specs.AuxiliaryIn.{PlainEntry, is_community}

-- an object 73 with the identifier in 06 and the value in 53
abbrev pub entry_bytes : PlainEntry → List ℕ
entry_bytes e = object 0x73 (object 0x06 e.identifier ++ object 0x53 e.value)

-- all of them, one behind the other
abbrev pub entries : List PlainEntry → List ℕ
entries list = flat_map entry_bytes list

-- the values of the entries with this identifier, in order
abbrev pub values_of : Known → List PlainEntry → List (List ℕ)
values_of identifier list =
    map (λ (e : PlainEntry). e.value) (filter (λ (e : PlainEntry). bytes_eq e.identifier (known_bytes identifier)) list)

-- dates are dates of eight digits, and a community is one
pub record AreValid (aux : PlainAux) : Type 0 where
  pub birth : IfSome aux.birth (λ date. IsTrue (is_long_date date))
  pub expiry : IfSome aux.expiry (λ date. IsTrue (is_long_date date))
  pub community : IfSome aux.community (λ community. IsTrue (is_community community))

-- one to three entries, among them those for date of birth, expiry and community where there are such data; those with
-- other identifiers say nothing
pub record IsAuxiliary (value : List ℕ) (aux : PlainAux) : Type 0 where
  pub list : List PlainEntry
  pub spelled : value ≡ entries list
  pub some : 1 ≤ length list
  pub few : length list ≤ 3
  pub valid : AreValid aux
  pub birth : values_of Birth list ≡ option_to_list aux.birth
  pub expiry : values_of Expiry list ≡ option_to_list aux.expiry
  pub community : values_of Community list ≡ option_to_list aux.community

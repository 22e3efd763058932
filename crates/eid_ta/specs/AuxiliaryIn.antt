-- The auxiliary data that the value of an object 67 is, as a function, where it is some (BSI TR-03110-3): entry by
-- entry, each an object 73 with an identifier and what is to be compared.
use Rattle.std.specs.Prelude.{ℕ, zero, suc, ◌==◌, Bool, List, [], ◌∷◌, length, Option, Some, None, if◌then◌else◌}
use Rattle.std.specs.Str.{bytes_eq}
use Rattle.eid_bits.specs.Date.{is_between, is_long_date}
use Rattle.eid_bits.specs.Identifiers.{known_bytes}
use Rattle.eid_bits.specs.declared.identifier.Known.TheVariants.{Birth, Expiry, Community}
use Rattle.eid_cvc.specs.Chains.{PlainAux, no_aux}
use Rattle.eid_cvc.specs.Fronts.{◌>>=◌, front_in}

-- An entry: its identifier, and the value of its object 53.
pub record PlainEntry : Type 0 where
  pub identifier : List ℕ
  pub value : List ℕ

-- an entry in the value of a 73: the two objects, and nothing behind them
unfoldable pub entry_in : List ℕ → Option PlainEntry
entry_in bytes = do
  identifier ← front_in 0x06 bytes
  compared ← front_in 0x53 identifier.rest
  if length compared.rest == 0 then Some (record { identifier = identifier.value; value = compared.value }) else None

-- a community has 1 to 16 bytes
abbrev pub is_community : List ℕ → Bool
is_community value = is_between 1 16 (length value)

-- a value that passes the test, where there was none before
abbrev pub new_value : (List ℕ → Bool) → Option (List ℕ) → List ℕ → Option (List ℕ)
new_value test (Some earlier) value = None
new_value test None value = if test value then Some value else None

-- the data with a date of birth, an expiry or a community more
unfoldable pub with_birth : PlainAux → List ℕ → Option PlainAux
with_birth aux value = do
  birth ← new_value is_long_date aux.birth value
  Some (record { birth = Some birth; expiry = aux.expiry; community = aux.community })

unfoldable pub with_expiry : PlainAux → List ℕ → Option PlainAux
with_expiry aux value = do
  expiry ← new_value is_long_date aux.expiry value
  Some (record { birth = aux.birth; expiry = Some expiry; community = aux.community })

unfoldable pub with_community : PlainAux → List ℕ → Option PlainAux
with_community aux value = do
  community ← new_value is_community aux.community value
  Some (record { birth = aux.birth; expiry = aux.expiry; community = Some community })

-- the data with one entry more; an entry with another identifier is passed over
abbrev pub with_entry : PlainAux → PlainEntry → Option PlainAux
with_entry aux entry =
    if bytes_eq entry.identifier (known_bytes Birth) then with_birth aux entry.value
    else if bytes_eq entry.identifier (known_bytes Expiry) then with_expiry aux entry.value
    else if bytes_eq entry.identifier (known_bytes Community) then with_community aux entry.value
    else Some aux

-- the data with at most n entries more, one behind the other
unfoldable pub with_entries : ℕ → PlainAux → List ℕ → Option PlainAux
with_entries n aux [] = Some aux
with_entries zero aux (first ∷ rest) = None
with_entries (suc n) aux (first ∷ rest) = do
  front ← front_in 0x73 (first ∷ rest)
  entry ← entry_in front.value
  more ← with_entry aux entry
  with_entries n more front.rest

-- one to three entries
unfoldable pub auxiliary_in : List ℕ → Option PlainAux
auxiliary_in [] = None
auxiliary_in (first ∷ rest) = with_entries 3 no_aux (first ∷ rest)

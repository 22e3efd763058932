-- The sector keys that a body has, as a function, where it has some.
use Rattle.std.specs.Prelude.{ℕ, ◌==◌, ◌&&◌, List, length, Option, Some, None, if◌then◌else◌}
use Rattle.eid_bits.specs.declared.identifier.Known.TheVariants.{RiSha256}
use Rattle.eid_cvc.specs.CertificateIn.{public_key_in}
use Rattle.eid_cvc.specs.Fronts.{PlainFront, ◌>>=◌, front_in}
use Rattle.eid_ri.specs.SectorKeys.{PlainSectorKey, PlainSectorKeys, is_some_key}

-- the sector key that an A0 or A2 holds: one object 7F49, and nothing behind it
unfoldable pub sector_key_in : List ℕ → Option PlainSectorKey
sector_key_in value = do
  key ← front_in 0x7F49 value
  point ← public_key_in RiSha256 key.value
  if length key.rest == 0 then Some (record { object = value; point = point }) else None

-- A sector key that may be left out, and the bytes behind it.
pub record PlainMaybeKey : Type 0 where
  pub key : Option PlainSectorKey
  pub rest : List ℕ

abbrev pub key_behind : List ℕ → PlainSectorKey → Option PlainMaybeKey
key_behind rest key = Some (record { key = Some key; rest = rest })

abbrev pub key_with : List ℕ → Option PlainFront → Option PlainMaybeKey
key_with bytes None = Some (record { key = None; rest = bytes })
key_with bytes (Some front) = sector_key_in front.value >>= key_behind front.rest

-- the sector key in an object with this tag, where one stands at the front
unfoldable pub key_if_any : ℕ → List ℕ → Option PlainMaybeKey
key_if_any tag bytes = key_with bytes (front_in tag bytes)

abbrev pub both_of : PlainMaybeKey → PlainMaybeKey → PlainSectorKeys
both_of first second = record { first = first.key; second = second.key }

-- the keys in the value of 7C, of which there is at least one
unfoldable pub keys_in : List ℕ → Option PlainSectorKeys
keys_in value = do
  first ← key_if_any 0xA0 value
  second ← key_if_any 0xA2 first.rest
  if length second.rest == 0 && is_some_key (both_of first second) then Some (both_of first second) else None

-- the keys in the body: one 7C, and nothing behind it
unfoldable pub sector_keys_in : List ℕ → Option PlainSectorKeys
sector_keys_in body = do
  whole ← front_in 0x7C body
  keys ← keys_in whole.value
  if length whole.rest == 0 then Some keys else None

-- Public keys (BSI TR-03110-3): the value of an object 7F49, by writing it.
use Rattle.std.specs.Prelude.{◌≡◌, ℕ, List, [], ◌++◌, ◌≤◌, length, slice_index, slice_range, Option, Some, None, IfSome}
use Rattle.eid_bits.specs.Identifiers.{known_bytes}
use Rattle.eid_bits.specs.declared.identifier.Known.{Known}
use Rattle.eid_tlv.specs.Objects.{object}

-- an object that may be left out
abbrev pub optional : ℕ → Option (List ℕ) → List ℕ
optional tag None = []
optional tag (Some value) = object tag value

-- Domain parameters, each of which may be left out. There is one curve, so that their values are passed over.
pub record Domain : Type 0 where
  pub prime : Option (List ℕ)
  pub first_coefficient : Option (List ℕ)
  pub second_coefficient : Option (List ℕ)
  pub base_point : Option (List ℕ)
  pub order : Option (List ℕ)
  pub cofactor : Option (List ℕ)

abbrev pub no_domain : Domain
no_domain = record { prime = None; first_coefficient = None; second_coefficient = None; base_point = None; order = None; cofactor = None }

-- the parameters that stand before the point
unfoldable pub parameters : Domain → List ℕ
parameters d =
    optional 0x81 d.prime ++ optional 0x82 d.first_coefficient ++ optional 0x83 d.second_coefficient ++ optional 0x84 d.base_point
    ++ optional 0x85 d.order

-- the identifier of the key's use, the parameters, the point, the cofactor
unfoldable pub public_key : Known → Domain → List ℕ → List ℕ
public_key use_of d point = object 0x06 (known_bytes use_of) ++ parameters d ++ object 0x86 point ++ optional 0x87 d.cofactor

-- the whole object that an authentication token is made over: the identifier of the protocol and an ephemeral point, without
-- parameters
unfoldable pub token_object : (protocol point : List ℕ) → List ℕ
token_object protocol point = object 0x7F49 (object 0x06 protocol ++ object 0x86 point)

-- 65 bytes that begin with 04
pub record IsPoint (point : List ℕ) : Type 0 where
  pub size : length point ≡ 65
  pub form : slice_index point 0 ≡ 4

-- the X half of a point, its first coordinate
abbrev pub x_half : List ℕ → List ℕ
x_half point = slice_range point 1 33

-- it has no value, or one that an object can have
abbrev pub IsSized : Option (List ℕ) → Type 0
IsSized parameter = IfSome parameter (λ value. length value ≤ 65535)

-- each parameter can be written
pub record AreSized (d : Domain) : Type 0 where
  pub prime : IsSized d.prime
  pub first_coefficient : IsSized d.first_coefficient
  pub second_coefficient : IsSized d.second_coefficient
  pub base_point : IsSized d.base_point
  pub order : IsSized d.order
  pub cofactor : IsSized d.cofactor

-- the value is that of a public key of this use with this point
pub record IsPublicKey (use_of : Known) (value point : List ℕ) : Type 0 where
  pub domain : Domain
  pub writable : AreSized domain
  pub form : IsPoint point
  pub spelled : value ≡ public_key use_of domain point

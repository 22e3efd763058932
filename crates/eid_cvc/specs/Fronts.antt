-- Bytes read from the front, data object by data object (ISO/IEC 7816-4).
use Rattle.std.specs.Prelude.{ℕ, ◌==◌, List, Option, Some, None, if◌then◌else◌}
use Rattle.eid_tlv.specs.ListIn.{Header, header_in, object_behind, bytes_behind}
use Rattle.eid_cvc.specs.declared.fronts.AtFront.{AtFront}

infixl 10 ◌>>=◌
abbrev pub ◌>>=◌ : {A B : Type 0} → Option A → (A → Option B) → Option B
None >>= f = None
(Some x) >>= f = f x

-- The value of the object at the front, and the bytes behind the object.
pub record PlainFront : Type 0 where
  pub value : List ℕ
  pub rest : List ℕ

abbrev pub front_view : AtFront → PlainFront
front_view f = record { value = f.value.now; rest = f.rest.now }

abbrev pub front_with : ℕ → List ℕ → Option Header → Option PlainFront
front_with tag bytes None = None
front_with tag bytes (Some h) =
    if h.tag == tag then Some (record { value = (object_behind bytes h).value; rest = bytes_behind bytes h }) else None

-- what stands at the front, where it is an object with this tag
unfoldable pub front_in : ℕ → List ℕ → Option PlainFront
front_in tag bytes = front_with tag bytes (header_in bytes)

abbrev pub rest_of : List ℕ → Option PlainFront → List ℕ
rest_of bytes None = bytes
rest_of bytes (Some front) = front.rest

-- the bytes behind the object at the front, where it has this tag, and else all of them
abbrev pub behind : ℕ → List ℕ → List ℕ
behind tag bytes = rest_of bytes (front_in tag bytes)

-- The value that a tag has in bytes that are a list of data objects (ISO/IEC 7816-4), where it stands there once, or
-- at most once.
use Rattle.std.specs.Prelude.{ℕ, List, [], ◌∷◌, Option, Some, None}
use Rattle.eid_tlv.specs.Lists.{values}
use Rattle.eid_tlv.specs.ListIn.{list_in}
use Rattle.eid_cvc.specs.Fronts.{◌>>=◌}

-- the one value of a list, and that there is at most one
abbrev pub one : List (List ℕ) → Option (List ℕ)
one [] = None
one (value ∷ []) = Some value
one (value ∷ other ∷ later) = None

abbrev pub one_at_most : List (List ℕ) → Option (Option (List ℕ))
one_at_most [] = Some None
one_at_most (value ∷ []) = Some (Some value)
one_at_most (value ∷ other ∷ later) = None

-- the value of the one object with the tag
unfoldable pub only_in : ℕ → List ℕ → Option (List ℕ)
only_in tag bytes = do
  list ← list_in bytes
  one (values tag list)

-- the value of the one object with the tag, or that there is none
unfoldable pub optional_in : ℕ → List ℕ → Option (Option (List ℕ))
optional_in tag bytes = do
  list ← list_in bytes
  one_at_most (values tag list)

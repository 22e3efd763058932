-- How bytes can begin.
use Rattle.std.specs.Prelude.{◌≡◌, ℕ, ◌<◌, ◌⊎◌, List, [], ◌∷◌, ◌++◌, length, true}
use Rattle.eid_tlv.specs.Objects.{goes_on, IsObject, object, tag_bytes, is_tag}

-- with that object, and then the rest
pub record BeginsWith (bytes : List ℕ) (tag : ℕ) (value rest : List ℕ) : Type 0 where
  pub fits : IsObject tag value
  pub spelled : bytes ≡ object tag value ++ rest

-- inside of some object: they are a proper prefix of it
pub record IsCutShort (bytes : List ℕ) : Type 0 where
  pub tag : ℕ
  pub value : List ℕ
  pub missing : List ℕ
  pub fits : IsObject tag value
  pub some : 0 < length missing
  pub whole : bytes ++ missing ≡ object tag value

-- with a first byte that goes on, and a second that ends no tag
abbrev pub HasBadTag : List ℕ → Type 0
HasBadTag [] = ⊥
HasBadTag (first ∷ []) = ⊥
HasBadTag (first ∷ second ∷ rest) = (goes_on first ≡ true) × ((second < 0x1F) ⊎ (0x7F < second))

abbrev pub StartsBelow : ℕ → List ℕ → Type 0
StartsBelow limit [] = ⊥
StartsBelow limit (byte ∷ rest) = byte < limit

-- no form of a length, or a length that has a shorter form
abbrev pub IsBadLength : List ℕ → Type 0
IsBadLength [] = ⊥
IsBadLength (form ∷ rest) =
    (form ≡ 0x80) ⊎ (0x82 < form) ⊎ ((form ≡ 0x81) × StartsBelow 0x80 rest) ⊎ ((form ≡ 0x82) × StartsBelow 0x01 rest)

-- with a tag, and no length behind it
pub record HasBadLength (bytes : List ℕ) : Type 0 where
  pub tag : ℕ
  pub after : List ℕ
  pub tagged : is_tag tag ≡ true
  pub spelled : bytes ≡ tag_bytes tag ++ after
  pub bad : IsBadLength after

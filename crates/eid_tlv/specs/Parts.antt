-- Inside: what the refusals of the parts of an object say. Only private functions cite these.
use Rattle.std.specs.Prelude.{◌≡◌, ℕ, ◌<◌, ◌⊎◌, List, [], ◌∷◌, ⊤, true}
use Rattle.eid_tlv.specs.Objects.{goes_on}
use Rattle.eid_tlv.specs.Reading.{HasBadLength, HasBadTag, IsBadLength, IsCutShort}
use Rattle.eid_tlv.specs.declared.reading.TlvError.{TlvError}
use Rattle.eid_tlv.specs.declared.reading.TlvError.TheVariants.{Short, BadTag, BadLength}

abbrev pub IsRefusal : List ℕ → TlvError → Type 0
IsRefusal bytes Short = IsCutShort bytes
IsRefusal bytes BadTag = HasBadTag bytes
IsRefusal bytes BadLength = HasBadLength bytes

-- the tag wants one more byte
abbrev pub IsTagStart : List ℕ → Type 0
IsTagStart [] = ⊤
IsTagStart (first ∷ []) = goes_on first ≡ true
IsTagStart (first ∷ second ∷ rest) = ⊥

abbrev pub IsTagRefusal : List ℕ → TlvError → Type 0
IsTagRefusal bytes Short = IsTagStart bytes
IsTagRefusal bytes BadTag = HasBadTag bytes
IsTagRefusal bytes BadLength = ⊥

-- the length wants one or two more bytes
abbrev pub IsLengthStart : List ℕ → Type 0
IsLengthStart [] = ⊤
IsLengthStart (form ∷ []) = (form ≡ 0x81) ⊎ (form ≡ 0x82)
IsLengthStart (form ∷ high ∷ []) = (form ≡ 0x82) × (0 < high) × (high < 256)
IsLengthStart (form ∷ high ∷ low ∷ rest) = ⊥

abbrev pub IsLengthRefusal : List ℕ → TlvError → Type 0
IsLengthRefusal bytes Short = IsLengthStart bytes
IsLengthRefusal bytes BadTag = ⊥
IsLengthRefusal bytes BadLength = IsBadLength bytes

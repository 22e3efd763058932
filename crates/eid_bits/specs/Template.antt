-- What contracts see of a template.
use Rattle.std.specs.Prelude.{ℕ, ◌==◌, Bool, List, ◌∷◌}
use Rattle.std.specs.Int.{w64, bit_at, from_be_bytes}
use Rattle.eid_bits.specs.declared.template.Template.{Template}

-- its five bytes, the one with the role first
abbrev pub template_bytes : Template → List ℕ
template_bytes t = t.bytes

-- the five bytes as one number, the first of them highest
abbrev pub template_number : List ℕ → ℕ
template_number bytes = from_be_bytes w64 (0 ∷ 0 ∷ 0 ∷ bytes)

-- whether a bit of that number is set, where bit 0 is the lowest of 40
unfoldable pub template_bit : List ℕ → ℕ → Bool
template_bit bytes bit = bit_at (template_number bytes) bit == 1

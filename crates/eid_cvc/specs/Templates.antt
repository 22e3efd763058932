-- Certificate holder authorization templates (BSI TR-03110-3): the value of an object 7F4C.
use Rattle.std.specs.Prelude.{ℕ, ◌==◌, ◌&&◌, List, ◌++◌, length, drop, Option, Some, None, if◌then◌else◌}
use Rattle.std.specs.Str.{bytes_eq}
use Rattle.eid_bits.specs.Identifiers.{known_bytes}
use Rattle.eid_bits.specs.declared.identifier.Known.TheVariants.{AtTemplate}
use Rattle.eid_tlv.specs.Objects.{object}

-- the type of a template for authentication terminals, and then the five bytes
unfoldable pub template_value : List ℕ → List ℕ
template_value template = object 0x06 (known_bytes AtTemplate) ++ object 0x53 template

-- the five bytes behind the thirteen that say the type
abbrev pub template_in : List ℕ → Option (List ℕ)
template_in value =
    let template = drop 13 value in
    if length template == 5 && bytes_eq value (template_value template) then Some template else None

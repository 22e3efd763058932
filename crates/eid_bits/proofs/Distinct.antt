-- No two identifiers have the same bytes.
use Rattle.std.proofs.Common.{◌≡◌, ℕ, List, map, refl, sym, ap, ◌∙◌, Option, Some}
use Rattle.std.specs.List.{find}
use Rattle.std.specs.Str.{bytes_eq}
use Rattle.eid_bits.specs.Identifiers.{known_bytes}
use Rattle.eid_bits.specs.declared.identifier.Known.{Known}
use Rattle.eid_bits.specs.declared.identifier.Known.TheVariants.{Application, PaceAes128, PaceAes256, CaAes128, CaAes256, TaSha256, RiSha256, AtTemplate, Birth, Expiry, Community, Sector}
use Rattle.eid_bits.specs.declared.identifier.TheConstants.{TABLE}

found_itself : (identifier : Known) → find (λ other. bytes_eq (known_bytes other) (known_bytes identifier)) (map (λ row. row.0) TABLE) ≡ Some identifier
found_itself Application = refl
found_itself PaceAes128 = refl
found_itself PaceAes256 = refl
found_itself CaAes128 = refl
found_itself CaAes256 = refl
found_itself TaSha256 = refl
found_itself RiSha256 = refl
found_itself AtTemplate = refl
found_itself Birth = refl
found_itself Expiry = refl
found_itself Community = refl
found_itself Sector = refl

pub only_one : (bytes : List ℕ) (result : Option Known) → result ≡ find (λ other. bytes_eq (known_bytes other) bytes) (map (λ row. row.0) TABLE)
    → (identifier : Known) → known_bytes identifier ≡ bytes → result ≡ Some identifier
only_one bytes result is identifier same =
    is ∙ ap (λ b. find (λ other. bytes_eq (known_bytes other) b) (map (λ row. row.0) TABLE)) (sym same) ∙ found_itself identifier

pub one_identifier : (a b : Known) → known_bytes a ≡ known_bytes b → a ≡ b
one_identifier a b same =
    let both : Some a ≡ Some b = only_one (known_bytes b) (Some a) (sym (found_itself a) ∙ ap (λ bytes. find (λ other. bytes_eq (known_bytes other) bytes) (map (λ row. row.0) TABLE)) same) b refl in
    cc

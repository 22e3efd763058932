-- What was found of the tag of a template is what the body says of it.
use Rattle.std.proofs.Common.{◌≡◌, ℕ, List, [], ◌∷◌, length, Option, Some, None, refl, arith}
use Rattle.eid_tlv.specs.Lists.{IsFound}
use Rattle.eid_tlv.specs.declared.lists.Found.{Found}
use Rattle.eid_tlv.specs.declared.lists.Found.TheVariants.{NoList, Absent, Once, Repeated}
use Rattle.eid_tlv.proofs.Findings.{found_values, not_once}
use Rattle.eid_cvc.specs.Templates.{template_value}
use Rattle.eid_pace.specs.Selections.{HasTemplate}

-- a template that is not found stands nowhere
pub no_template : (body : List ℕ) (template : Option (List ℕ)) → IsFound 0x7F4C body Absent → HasTemplate body template → None ≡ template
no_template body None is has = refl
no_template body (Some t) is has = let none = found_values 0x7F4C body Absent (template_value t ∷ []) is has.1 in cc

-- a value that is found once is that of the template
pub one_template : (body : List ℕ) (value : _) (template : Option (List ℕ)) → IsFound 0x7F4C body (Once value) → HasTemplate body template → (t : List ℕ) × (template ≡ Some t) × (length t ≡ 5) × (value.now ≡ template_value t)
one_template body value None is has = let none = found_values 0x7F4C body (Once value) [] is has in cc
one_template body value (Some t) is has =
    let same = found_values 0x7F4C body (Once value) (template_value t ∷ []) is has.1 in
    let first : value.now ≡ template_value t = cc in
    (t, refl, has.0, first)

-- a tag that was found neither once nor not at all has no template
pub bad_template : (body : List ℕ) (found : Found) (template : Option (List ℕ)) → (found ≡ Absent → ⊥) → ((v : _) → found ≡ Once v → ⊥) → IsFound 0x7F4C body found → HasTemplate body template → ⊥
bad_template body found (Some t) absent once is has = not_once 0x7F4C body found (template_value t) once is has.1
bad_template body NoList None absent once is has = is has.list has.is_list
bad_template body Absent None absent once is has = absent refl
bad_template body (Once v) None absent once is has = once v refl
bad_template body Repeated None absent once is has = let more = found_values 0x7F4C body Repeated [] is has in omega (arith, more)

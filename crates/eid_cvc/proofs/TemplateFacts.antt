-- The bytes of a template's object are what stands before the template, and the template.
use Rattle.std.proofs.Common.{◌≡◌, ℕ, ◌==◌, ◌&&◌, true, List, [], ◌∷◌, ◌++◌, length, take, drop, Some, None, refl, sym, ◌∙◌, ap}
use Rattle.std.specs.Str.{bytes_eq}
use Rattle.std.proofs.lemmas.Bool.{and_parts, eqb-true}
use Rattle.std.proofs.lemmas.List.{take-append-drop}
use Rattle.std.proofs.lemmas.Option.{cond_some}
use Rattle.std.proofs.lemmas.Slice.Eq.{bytes_eq-Decides}
use Rattle.eid_tlv.specs.Objects.{object, tag_bytes, length_bytes}
use Rattle.eid_cvc.specs.Templates.{template_value, template_in}
use Rattle.eid_cvc.proofs.FrontFacts.{is_none}

abbrev pub before_template : List ℕ
before_template = 0x06 ∷ 9 ∷ 0x04 ∷ 0x00 ∷ 0x7F ∷ 0x00 ∷ 0x07 ∷ 3 ∷ 1 ∷ 2 ∷ 2 ∷ 0x53 ∷ 5 ∷ []

pub template_spelled : (template : List ℕ) → length template ≡ 5 → template_value template ≡ before_template ++ template
unfolding template_value object tag_bytes length_bytes
template_spelled template size = rw size refl

-- the bytes of a template's object begin so, and end in the template
pub begins_so : (value template : List ℕ) → length template ≡ 5 → value ≡ template_value template → bytes_eq (take 13 value) before_template ≡ true
begins_so value template size is = rw (is, template_spelled template size) refl

pub ends_so : (value template : List ℕ) → length template ≡ 5 → value ≡ template_value template → drop 13 value ≡ template
ends_so value template size is = rw (is, template_spelled template size) refl

-- what begins and ends so is the bytes of a template's object
pub is_template : (value template : List ℕ) → length template ≡ 5 → bytes_eq (take 13 value) before_template ≡ true
    → template ≡ drop 13 value → value ≡ template_value template
is_template value template size same rest =
    sym (take-append-drop 13 value) ∙ ap (λ (front : List ℕ). front ++ drop 13 value) ((bytes_eq-Decides (take 13 value) before_template).0 same)
    ∙ ap (λ (after : List ℕ). before_template ++ after) (sym rest) ∙ sym (template_spelled template size)

-- what the function gives is the template of the object
pub template_found : (value template : List ℕ) → template_in value ≡ Some template → (length template ≡ 5) × (value ≡ template_value template)
template_found value template h =
    let is = cond_some (length (drop 13 value) == 5 && bytes_eq value (template_value (drop 13 value))) (drop 13 value) template h in
    let tests = and_parts (length (drop 13 value) == 5) (bytes_eq value (template_value (drop 13 value))) is.0 in (
      sym (ap length is.1) ∙ eqb-true (length (drop 13 value)) 5 tests.0,
      (bytes_eq-Decides value (template_value (drop 13 value))).0 tests.1 ∙ ap template_value is.1,
    )

pub template_complete : (value template : List ℕ) → length template ≡ 5 → value ≡ template_value template → template_in value ≡ Some template
template_complete value template size is =
    let rest = ends_so value template size is in
    let same = (bytes_eq-Decides value (template_value template)).1 is in
    rw (rest, size, same) refl

pub template_none : (value : List ℕ) → ((template : List ℕ) → length template ≡ 5 → value ≡ template_value template → ⊥) → None ≡ template_in value
template_none value none =
    sym (is_none (template_in value) (λ template is. let found = template_found value template is in none template found.0 found.1))

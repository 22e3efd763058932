-- The name in a body of MSE:Set DST, as a relation and as a function.
use Rattle.std.proofs.Common.{◌≡◌, ◌↔◌, ◌≤◌, ℕ, Bool, true, false, List, [], ◌∷◌, length, Option, Some, None, refl, sym, ap, ◌∙◌, subst, arith}
use Rattle.std.specs.Prelude.{nat_le, if◌then◌else◌}
use Rattle.std.specs.Option.{option_and_then}
use Rattle.std.proofs.lemmas.Bool.{and_parts, leb-true}
use Rattle.std.proofs.lemmas.Bool.Decides.{nat_tests}
use Rattle.std.proofs.lemmas.Option.{same_Some}
use Rattle.eid_bits.specs.Date.{is_between}
use Rattle.eid_tlv.specs.Objects.{Object}
use Rattle.eid_tlv.specs.Lists.{values}
use Rattle.eid_tlv.specs.ListIn.{list_in}
use Rattle.eid_tlv.proofs.ListIn.{list_in-exact}
use Rattle.eid_cvc.specs.Certificates.{IsReference}
use Rattle.eid_model.specs.Bodies.{NamesKey, one_name, key_name_in}

within : (n : ℕ) → is_between 1 16 n ≡ true → (1 ≤ n) × (n ≤ 16)
within n e =
    let both = and_parts (nat_le 1 n) (nat_le n 16) e in
    (leb-true 1 n both.0, leb-true n 16 both.1)

between : (n : ℕ) → 1 ≤ n → n ≤ 16 → is_between 1 16 n ≡ true
between n low high = grind (arith, nat_tests)

name_is : (those : List (List ℕ)) (name : List ℕ) → one_name those ≡ Some name → (those ≡ name ∷ []) × IsReference name
name_is [] name h = absurd (none h) where
  none : None ≡ Some name → ⊥
  none h = cc
name_is (value ∷ []) name h = by (is_between 1 16 (length value)) refl h where
  by : (b : Bool) → is_between 1 16 (length value) ≡ b → (if b then Some value else None) ≡ Some name → (value ∷ [] ≡ name ∷ []) × IsReference name
  by true is h =
      let same = same_Some value name h in
      (ap (λ (v : List ℕ). v ∷ []) same, subst IsReference same (within (length value) is))
  by false is h = absurd (none h) where
    none : None ≡ Some name → ⊥
    none h = cc
name_is (value ∷ other ∷ later) name h = absurd (none h) where
  none : None ≡ Some name → ⊥
  none h = cc

found : (body name : List ℕ) → key_name_in body ≡ Some name → NamesKey body name
unfolding key_name_in
found body name h = by (list_in body) refl h where
  by : (o : Option (List Object)) → list_in body ≡ o → option_and_then (λ list. one_name (values 0x83 list)) o ≡ Some name → NamesKey body name
  by None listed h = absurd (none h) where
    none : None ≡ Some name → ⊥
    none h = cc
  by (Some list) listed h =
      let parts = name_is (values 0x83 list) name h in
      (record { list = list; is_list = (list_in-exact body list).0 listed; those = parts.0 }, parts.1)

complete : (body name : List ℕ) → NamesKey body name → key_name_in body ≡ Some name
unfolding key_name_in
complete body name is =
    let listed : list_in body ≡ Some is.0.list = (list_in-exact body is.0.list).1 is.0.is_list in
    let few : is_between 1 16 (length name) ≡ true = between (length name) is.1.0 is.1.1 in
    rw listed (ap one_name is.0.those ∙ rw few refl)

pub key_name_in-exact : (body name : List ℕ) → key_name_in body ≡ Some name ↔ NamesKey body name
key_name_in-exact body name = (found body name, complete body name)

-- a body that names no key
pub key_name_in-none : (body : List ℕ) → ((name : List ℕ) → NamesKey body name → ⊥) → None ≡ key_name_in body
key_name_in-none body none = by (key_name_in body) refl where
  by : (o : Option (List ℕ)) → key_name_in body ≡ o → None ≡ key_name_in body
  by None is = sym is
  by (Some name) is = absurd (none name (found body name is))

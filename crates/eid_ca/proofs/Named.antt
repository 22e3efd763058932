-- The identifier that a selection names is the value of its one object 80.
use Rattle.std.proofs.Common.{◌≡◌, ◌↔◌, ℕ, List, [], ◌∷◌, Option, Some, None, option_map, IfSome, IsSomeAnd, Bor, refl, sym, ap}
use Rattle.std.specs.Option.{option_and_then}
use Rattle.eid_tlv.specs.Objects.{Object}
use Rattle.eid_tlv.specs.Lists.{HasOnly, values}
use Rattle.eid_tlv.specs.ListIn.{list_in}
use Rattle.eid_tlv.proofs.ListIn.{list_in-exact}
use Rattle.eid_ca.specs.Selections.{only_one, named_in}

one_is : (those : List (List ℕ)) (value : List ℕ) → only_one those ≡ Some value → those ≡ value ∷ []
one_is [] value h = cc
one_is (first ∷ []) value h = cc
one_is (first ∷ other ∷ later) value h = cc

found : (body value : List ℕ) → named_in body ≡ Some value → HasOnly 0x80 value body
unfolding named_in
found body value h = by (list_in body) refl h where
  none : None ≡ Some value → ⊥
  none h = cc

  by : (o : Option (List Object)) → list_in body ≡ o → option_and_then (λ list. only_one (values 0x80 list)) o ≡ Some value
      → HasOnly 0x80 value body
  by None listed h = absurd (none h)
  by (Some list) listed h = record { list = list; is_list = (list_in-exact body list).0 listed; those = one_is (values 0x80 list) value h }

complete : (body value : List ℕ) → HasOnly 0x80 value body → named_in body ≡ Some value
unfolding named_in
complete body value is =
    let list : List Object = is.list in
    let listed : list_in body ≡ Some list = (list_in-exact body list).1 is.is_list in
    rw listed (ap only_one is.those)

pub named-exact : (body value : List ℕ) → named_in body ≡ Some value ↔ HasOnly 0x80 value body
named-exact body value = (found body value, complete body value)

-- a body without exactly one 80
pub named-none : (body : List ℕ) → ((value : List ℕ) → HasOnly 0x80 value body → ⊥) → None ≡ named_in body
named-none body none = by (named_in body) refl where
  by : (o : Option (List ℕ)) → named_in body ≡ o → None ≡ named_in body
  by None is = sym is
  by (Some value) is = absurd (none value (found body value is))

-- what a reader gives that finds exactly the value of the one 80
pub named-read : (body : List ℕ) (result : Option (Bor (List ℕ))) → IfSome result (λ value. HasOnly 0x80 value.now body)
    → ((value : List ℕ) → HasOnly 0x80 value body → IsSomeAnd result (λ found. found.now ≡ value))
    → option_map (λ value. value.now) result ≡ named_in body
named-read body None has only = named-none body only
named-read body (Some value) has only = sym (complete body value.now has)

-- What was found of a tag is what the functions over bytes say of it.
use Rattle.std.proofs.Common.{◌≡◌, ℕ, ◌+◌, ◌==◌, ◌≤◌, Bool, true, false, cond, List, [], ◌∷◌, length, map, Option, Some, None, refl, sym, ◌∙◌, ap, arith, length-append}
use Rattle.std.specs.List.{filter}
use Rattle.std.specs.Option.{option_to_list}
use Rattle.std.proofs.lemmas.Bool.{eqb-true}
use Rattle.std.proofs.lemmas.Option.{none-some, same_Some}
use Rattle.eid_tlv.specs.Objects.{Object, object, objects}
use Rattle.eid_tlv.specs.Lists.{AreObjects, IsListOf, values, HasValues, IsFound}
use Rattle.eid_tlv.specs.ListIn.{list_in}
use Rattle.eid_tlv.specs.declared.lists.Found.{Found}
use Rattle.eid_tlv.specs.declared.lists.Found.TheVariants.{NoList, Absent, Once, Repeated}
use Rattle.eid_tlv.proofs.ListIn.{list_in-exact}
use Rattle.eid_cvc.specs.Fronts.{◌>>=◌}
use Rattle.eid_cvc.proofs.FrontFacts.{is_none, bound}
use Rattle.eid_ta.specs.Objects.{one, one_at_most, only_in, optional_in}

-- bytes that are a list
pub only_of : (tag : ℕ) (bytes : List ℕ) (list : List Object) → IsListOf list bytes → only_in tag bytes ≡ one (values tag list)
unfolding only_in
only_of tag bytes list is = ap (λ (o : Option (List Object)). o >>= λ (l : List Object). one (values tag l)) ((list_in-exact bytes list).1 is)

pub optional_of : (tag : ℕ) (bytes : List ℕ) (list : List Object) → IsListOf list bytes → optional_in tag bytes ≡ one_at_most (values tag list)
unfolding optional_in
optional_of tag bytes list is =
    ap (λ (o : Option (List Object)). o >>= λ (l : List Object). one_at_most (values tag l)) ((list_in-exact bytes list).1 is)

pub only_with : (tag : ℕ) (bytes : List ℕ) (those : List (List ℕ)) → HasValues tag those bytes → one those ≡ only_in tag bytes
only_with tag bytes those has = sym (only_of tag bytes has.list has.is_list ∙ ap one has.those)

pub optional_with : (tag : ℕ) (bytes : List ℕ) (those : List (List ℕ)) → HasValues tag those bytes → one_at_most those ≡ optional_in tag bytes
optional_with tag bytes those has = sym (optional_of tag bytes has.list has.is_list ∙ ap one_at_most has.those)

-- bytes that are no list
no_list : (bytes : List ℕ) → ((list : List Object) → IsListOf list bytes → ⊥) → list_in bytes ≡ None
no_list bytes none = is_none (list_in bytes) (λ list is. none list ((list_in-exact bytes list).0 is))

many_not_one : (those : List (List ℕ)) → 2 ≤ length those → one those ≡ None
many_not_one [] many = refl
many_not_one (value ∷ []) many = absurd (omega (arith, many))
many_not_one (value ∷ other ∷ later) many = refl

many_at_most : (those : List (List ℕ)) → 2 ≤ length those → one_at_most those ≡ None
many_at_most [] many = absurd (omega (arith, many))
many_at_most (value ∷ []) many = absurd (omega (arith, many))
many_at_most (value ∷ other ∷ later) many = refl

-- a tag that does not stand once
pub not_only : (tag : ℕ) (bytes : List ℕ) (found : Found) → ((v : _) → found ≡ Once v → ⊥) → IsFound tag bytes found → None ≡ only_in tag bytes
unfolding only_in
not_only tag bytes NoList other is =
    sym (ap (λ (o : Option (List Object)). o >>= λ (l : List Object). one (values tag l)) (no_list bytes is))
not_only tag bytes Absent other is = only_with tag bytes [] is
not_only tag bytes (Once v) other is = absurd (other v refl)
not_only tag bytes Repeated other is = sym (only_of tag bytes is.list is.is_list ∙ many_not_one (values tag is.list) is.some)

-- a tag that stands neither once nor not at all
pub not_optional : (tag : ℕ) (bytes : List ℕ) (found : Found) → (found ≡ Absent → ⊥) → ((v : _) → found ≡ Once v → ⊥) → IsFound tag bytes found
    → None ≡ optional_in tag bytes
unfolding optional_in
not_optional tag bytes NoList absent other is =
    sym (ap (λ (o : Option (List Object)). o >>= λ (l : List Object). one_at_most (values tag l)) (no_list bytes is))
not_optional tag bytes Absent absent other is = absurd (absent refl)
not_optional tag bytes (Once v) absent other is = absurd (other v refl)
not_optional tag bytes Repeated absent other is = sym (optional_of tag bytes is.list is.is_list ∙ many_at_most (values tag is.list) is.some)

-- ---- what the functions give stands in the bytes

one_is : (those : List (List ℕ)) (value : List ℕ) → one those ≡ Some value → those ≡ value ∷ []
one_is [] value is = absurd (none-some value is)
one_is (v ∷ []) value is = ap (λ (x : List ℕ). x ∷ []) (same_Some v value is)
one_is (v ∷ w ∷ later) value is = absurd (none-some value is)

at_most_one_is : (those : List (List ℕ)) (value : Option (List ℕ)) → one_at_most those ≡ Some value → those ≡ option_to_list value
at_most_one_is [] value is = ap option_to_list (same_Some None value is)
at_most_one_is (v ∷ []) value is = ap option_to_list (same_Some (Some v) value is)
at_most_one_is (v ∷ w ∷ later) value is = absurd (none-some value is)

pub only_found : (tag : ℕ) (bytes value : List ℕ) → only_in tag bytes ≡ Some value → HasValues tag (value ∷ []) bytes
unfolding only_in
only_found tag bytes value is =
    let list = bound (list_in bytes) _ value is in
    record { list = list.0; is_list = (list_in-exact bytes list.0).0 list.1; those = one_is (values tag list.0) value list.2 }

pub optional_found : (tag : ℕ) (bytes : List ℕ) (value : Option (List ℕ)) → optional_in tag bytes ≡ Some value
    → HasValues tag (option_to_list value) bytes
unfolding optional_in
optional_found tag bytes value is =
    let list = bound (list_in bytes) _ value is in
    record { list = list.0; is_list = (list_in-exact bytes list.0).0 list.1; those = at_most_one_is (values tag list.0) value list.2 }

-- an object with one value of a tag is not longer than the list
object_within : (tag : ℕ) (list : List Object) (value : List ℕ) (later : List (List ℕ)) → values tag list ≡ value ∷ later
    → length (object tag value) ≤ length (objects list)
object_within tag [] value later is = absurd (never value later is) where
  never : (value : List ℕ) (later : List (List ℕ)) → [] ≡ value ∷ later → ⊥
  never value later same = cc
object_within tag (o ∷ list) value later is = by (o.tag == tag) refl (object_within tag list value later) is where
  longer : length (object o.tag o.value) + length (objects list) ≡ length (objects (o ∷ list))
  longer = sym (length-append (object o.tag o.value) (objects list))

  first : (x y : List ℕ) (xs ys : List (List ℕ)) → x ∷ xs ≡ y ∷ ys → x ≡ y
  first x y xs ys same = cc

  by : (b : Bool) → (o.tag == tag) ≡ b
      → (values tag list ≡ value ∷ later → length (object tag value) ≤ length (objects list))
      → map (λ (o : Object). o.value) (cond b (o ∷ filter (λ (o : Object). o.tag == tag) list) (filter (λ (o : Object). o.tag == tag) list)) ≡ value ∷ later
      → length (object tag value) ≤ length (objects (o ∷ list))
  by true same within those =
      let tagged : o.tag ≡ tag = eqb-true o.tag tag same in
      let valued : o.value ≡ value = first o.value value _ later those in
      let is : length (object o.tag o.value) ≡ length (object tag value) =
      ap (λ (t : ℕ). length (object t o.value)) tagged ∙ ap (λ (v : List ℕ). length (object tag v)) valued in
      omega (arith, is, longer)
  by false same within those = omega (arith, within those, longer)

pub value_within : (tag : ℕ) (bytes value : List ℕ) → HasValues tag (value ∷ []) bytes → length (object tag value) ≤ length bytes
value_within tag bytes value has =
    omega (arith, object_within tag has.list value [] has.those, ap length has.is_list.spelled)

-- a value of an object in a list can be written
sized_within : (tag : ℕ) (list : List Object) (value : List ℕ) (later : List (List ℕ)) → AreObjects list → values tag list ≡ value ∷ later
    → length value ≤ 65535
sized_within tag [] value later fit is = absurd (never value later is) where
  never : (value : List ℕ) (later : List (List ℕ)) → [] ≡ value ∷ later → ⊥
  never value later same = cc
sized_within tag (o ∷ list) value later fit is = by (o.tag == tag) (sized_within tag list value later fit.1) is where
  first : (x y : List ℕ) (xs ys : List (List ℕ)) → x ∷ xs ≡ y ∷ ys → x ≡ y
  first x y xs ys same = cc

  by : (b : Bool) → (values tag list ≡ value ∷ later → length value ≤ 65535)
      → map (λ (o : Object). o.value) (cond b (o ∷ filter (λ (o : Object). o.tag == tag) list) (filter (λ (o : Object). o.tag == tag) list)) ≡ value ∷ later
      → length value ≤ 65535
  by true within those = omega (arith, fit.0.sized, ap length (first o.value value _ later those))
  by false within those = within those

pub value_sized : (tag : ℕ) (bytes value : List ℕ) → HasValues tag (value ∷ []) bytes → length value ≤ 65535
value_sized tag bytes value has = sized_within tag has.list value [] has.is_list.fit has.those

pub optional_is : (tag : ℕ) (bytes : List ℕ) (value : Option (List ℕ)) → HasValues tag (option_to_list value) bytes
    → optional_in tag bytes ≡ Some value
optional_is tag bytes None has = sym (optional_with tag bytes [] has)
optional_is tag bytes (Some value) has = sym (optional_with tag bytes (value ∷ []) has)

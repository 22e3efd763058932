-- What was found of a tag is what a list says of it.
use Rattle.std.proofs.Common.{◌≡◌, ◌≤◌, ℕ, List, [], ◌∷◌, length, refl, sym, ◌∙◌, ap, subst, arith}
use Rattle.eid_tlv.specs.Objects.{Object}
use Rattle.eid_tlv.specs.Lists.{IsListOf, values, HasValues, HasOnly, IsAmong, IsFound}
use Rattle.eid_tlv.specs.declared.lists.Found.{Found}
use Rattle.eid_tlv.specs.declared.lists.Found.TheVariants.{NoList, Absent, Once, Repeated}
use Rattle.eid_tlv.proofs.Walks.{one_list}

-- a list of the same bytes has the same values
pub same_values : (tag : ℕ) (bytes : List ℕ) (list other : List Object) (those : List (List ℕ)) → IsListOf list bytes → IsListOf other bytes → values tag list ≡ those → values tag other ≡ those
same_values tag bytes list other those is also has = ap (λ (l : List Object). values tag l) (one_list bytes other list also is) ∙ has

pub found_values : (tag : ℕ) (bytes : List ℕ) (found : Found) (those : List (List ℕ)) → IsFound tag bytes found → HasValues tag those bytes → IsAmong those found
found_values tag bytes NoList those is has = is has.list has.is_list
found_values tag bytes Absent those is has =
    sym has.those ∙ same_values tag bytes is.list has.list [] is.is_list has.is_list is.those
found_values tag bytes (Once value) those is has =
    sym has.those ∙ same_values tag bytes is.list has.list (value.now ∷ []) is.is_list has.is_list is.those
found_values tag bytes Repeated those is has =
    subst (λ (l : List (List ℕ)). 2 ≤ length l) (same_values tag bytes has.list is.list those has.is_list is.is_list has.those) is.some

-- a tag that was not found once has no one value
pub not_once : (tag : ℕ) (bytes : List ℕ) (found : Found) (value : List ℕ) → ((v : _) → found ≡ Once v → ⊥) → IsFound tag bytes found → HasValues tag (value ∷ []) bytes → ⊥
not_once tag bytes NoList value not is has = is has.list has.is_list
not_once tag bytes Absent value not is has = let none = found_values tag bytes Absent (value ∷ []) is has in cc
not_once tag bytes (Once v) value not is has = not v refl
not_once tag bytes Repeated value not is has = let more = found_values tag bytes Repeated (value ∷ []) is has in omega (arith, more)

-- one list has one value of a tag
pub one_value : (tag : ℕ) (bytes v w : List ℕ) → HasOnly tag v bytes → HasOnly tag w bytes → v ≡ w
one_value tag bytes v w p q =
    let same : w ∷ [] ≡ v ∷ [] = sym (same_values tag bytes q.list p.list (w ∷ []) q.is_list p.is_list q.those) ∙ p.those in
    cc

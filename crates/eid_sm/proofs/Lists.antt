-- Protected messages as lists of objects.
use Rattle.std.proofs.Common.{◌≡◌, ℕ, suc, ◌≤◌, ◌==◌, Bool, List, [], ◌∷◌, ◌++◌, length, map, refl, sym, ap, ◌∙◌, arith, length-append}
use Rattle.std.specs.List.{filter}
use Rattle.std.proofs.lemmas.List.{append-nil, map-append}
use Rattle.std.proofs.lemmas.List.Elements.{filter-append}
use Rattle.std.proofs.lemmas.Grind.{flat_map-append}
use Rattle.eid_tlv.specs.Objects.{Object, IsObject, object, objects}
use Rattle.eid_tlv.specs.Lists.{AreObjects, IsListOf, values, IsFound}
use Rattle.eid_tlv.specs.declared.lists.Found.{Found}
use Rattle.eid_tlv.specs.declared.lists.Found.TheVariants.{NoList, Absent, Once, Repeated}
use Rattle.eid_tlv.proofs.Walks.{one_list}
use Rattle.eid_tlv.proofs.Sizes.{object_size}
use Rattle.eid_cmac.specs.Cmac.{mac8}
use Rattle.eid_sm.specs.Parts.{cryptogram, encrypted_object, padded_objects, mac_object, with_mac}
use Rattle.eid_sm.specs.Replies.{HasNoMac}
use Rattle.eid_sm.proofs.Lengths.{length-mac8}

-- a list of objects as a fact on bytes
pub record AreListed (bytes : List ℕ) : Type 0 where
  pub list : List Object
  pub is_list : IsListOf list bytes

both_fit : (a b : List Object) → AreObjects a → AreObjects b → AreObjects (a ++ b)
both_fit [] b one other = other
both_fit (o ∷ a) b one other = (one.0, both_fit a b one.1 other)

joined : (a b : List Object) (x y : List ℕ) → IsListOf a x → IsListOf b y → IsListOf (a ++ b) (x ++ y)
joined a b x y one other =
    let write : Object → List ℕ = λ (o : Object). object o.tag o.value in
    record {
      fit = both_fit a b one.fit other.fit;
      spelled = ap (λ s. s ++ y) one.spelled ∙ ap (λ s. objects a ++ s) other.spelled ∙ sym (flat_map-append write a b);
    }

pub listed_both : (x y : List ℕ) → AreListed x → AreListed y → AreListed (x ++ y)
listed_both x y one other = record { list = one.list ++ other.list; is_list = joined one.list other.list x y one.is_list other.is_list }

pub listed_none : AreListed []
listed_none = record { list = []; is_list = record { fit = _; spelled = refl } }

single : (tag : ℕ) (value : List ℕ) → IsObject tag value → IsListOf (record { tag = tag; value = value } ∷ []) (object tag value)
single tag value fits = record { fit = (fits, _); spelled = sym (append-nil (object tag value)) }

pub listed_one : (tag : ℕ) (value : List ℕ) → IsObject tag value → AreListed (object tag value)
listed_one tag value fits = record { list = record { tag = tag; value = value } ∷ []; is_list = single tag value fits }

pub listed_encrypted : (key count p : List ℕ) → length (encrypted_object key count p) ≤ 65535 → AreListed (encrypted_object key count p)
unfolding encrypted_object
listed_encrypted key count [] short = listed_none
listed_encrypted key count (b ∷ bs) short =
    let value : List ℕ = 0x01 ∷ cryptogram key count (b ∷ bs) in
    listed_one 0x87 value (record { tagged = refl; sized = omega (arith, object_size 0x87 value, short) })

-- data objects with their MAC are no list without a MAC
pub mac_is_there : (key start bytes : List ℕ) → AreListed bytes → HasNoMac (with_mac key start bytes) → ⊥
unfolding mac_object
mac_is_there key start bytes listed none =
    let mac : List ℕ = mac8 key (start ++ padded_objects bytes) in
    let last : Object = record { tag = 0x8E; value = mac } in
    let fits : IsObject 0x8E mac = record { tagged = refl; sized = omega (arith, length-mac8 key (start ++ padded_objects bytes)) } in
    let whole = joined listed.list (last ∷ []) bytes (object 0x8E mac) listed.is_list (single 0x8E mac fits) in
    let test : Object → Bool = λ (o : Object). o.tag == 0x8E in
    let those : values 0x8E (listed.list ++ last ∷ []) ≡ values 0x8E listed.list ++ mac ∷ [] =
    ap (λ list. map (λ (o : Object). o.value) list) (filter-append test listed.list (last ∷ []))
    ∙ map-append (λ (o : Object). o.value) (filter test listed.list) (last ∷ []) in
    let same = one_list _ none.list (listed.list ++ last ∷ []) none.is_list whole in
    let size : length (values 0x8E listed.list ++ mac ∷ []) ≡ 0 = ap length (sym those ∙ ap (λ list. values 0x8E list) (sym same) ∙ none.those) in
    omega (arith, length-append (values 0x8E listed.list) (mac ∷ []))

-- ---- what is found of object 8E

pub absent : (bytes : List ℕ) (f : Found) → IsFound 0x8E bytes f → HasNoMac bytes → f ≡ Absent
absent bytes NoList told none = absurd (told none.list none.is_list)
absent bytes Absent told none = refl
absent bytes (Once value) told none =
    let same = one_list bytes told.list none.list told.is_list none.is_list in
    let size : suc 0 ≡ 0 = ap length (sym told.those ∙ ap (λ list. values 0x8E list) same ∙ none.those) in
    absurd (omega arith)
absent bytes Repeated told none =
    let same = one_list bytes told.list none.list told.is_list none.is_list in
    let size : length (values 0x8E told.list) ≡ 0 = ap length (ap (λ list. values 0x8E list) same ∙ none.those) in
    absurd (omega (arith, told.some))

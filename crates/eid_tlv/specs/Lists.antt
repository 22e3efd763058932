-- Bytes that are a list of data objects (ISO/IEC 7816-4), and the objects of one tag among them.
use Rattle.std.specs.Prelude.{◌≡◌, ℕ, ◌≤◌, ◌==◌, List, [], ◌∷◌, length, ⊤, map}
use Rattle.std.specs.List.{filter}
use Rattle.eid_tlv.specs.Objects.{Object, IsObject, objects}
use Rattle.eid_tlv.specs.declared.lists.Found.{Found}
use Rattle.eid_tlv.specs.declared.lists.Found.TheVariants.{NoList, Absent, Once, Repeated}

-- each of them can be written
abbrev pub AreObjects : List Object → Type 0
AreObjects [] = ⊤
AreObjects (o ∷ list) = IsObject o.tag o.value × AreObjects list

-- the bytes are those of the objects, one behind the other
pub record IsListOf (list : List Object) (bytes : List ℕ) : Type 0 where
  pub fit : AreObjects list
  pub spelled : bytes ≡ objects list

-- the values of the objects with this tag, in order
abbrev pub values : ℕ → List Object → List (List ℕ)
values tag list = map (λ (o : Object). o.value) (filter (λ (o : Object). o.tag == tag) list)

-- the bytes are a list in which the objects of this tag have these values
pub record HasValues (tag : ℕ) (found : List (List ℕ)) (bytes : List ℕ) : Type 0 where
  pub list : List Object
  pub is_list : IsListOf list bytes
  pub those : values tag list ≡ found

-- the bytes are a list in which exactly one object has this tag, with this value
abbrev pub HasOnly : ℕ → List ℕ → List ℕ → Type 0
HasOnly tag value bytes = HasValues tag (value ∷ []) bytes

-- the bytes are a list in which this tag stands more than once
pub record HasRepeated (tag : ℕ) (bytes : List ℕ) : Type 0 where
  pub list : List Object
  pub is_list : IsListOf list bytes
  pub some : 2 ≤ length (values tag list)

-- what a list of values is as a finding
abbrev pub IsAmong : List (List ℕ) → Found → Type 0
IsAmong those NoList = ⊥
IsAmong those Absent = those ≡ []
IsAmong those (Once value) = those ≡ value.now ∷ []
IsAmong those Repeated = 2 ≤ length those

-- what was found of a tag
abbrev pub IsFound : ℕ → List ℕ → Found → Type 0
IsFound tag bytes NoList = (list : List Object) → IsListOf list bytes → ⊥
IsFound tag bytes Absent = HasValues tag [] bytes
IsFound tag bytes (Once value) = HasValues tag (value.now ∷ []) bytes
IsFound tag bytes Repeated = HasRepeated tag bytes

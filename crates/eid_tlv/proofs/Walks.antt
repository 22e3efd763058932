-- A list of objects walked object by object.
use Rattle.std.proofs.Common.{◌≡◌, ◌≢◌, ℕ, ◌+◌, ◌<◌, ◌==◌, Bool, true, false, Result, Ok, Err, List, [], ◌∷◌, ◌++◌, length, map, refl, sym, ◌∙◌, ap, subst, arith, append_assoc, length-append}
use Rattle.std.specs.Prelude.{IsOkAnd}
use Rattle.std.specs.List.{filter}
use Rattle.std.proofs.lemmas.List.{append-nil, map-append}
use Rattle.std.proofs.lemmas.List.Elements.{filter-append}
use Rattle.std.proofs.lemmas.Bool.Decides.{nat_tests}
use Rattle.std.proofs.lemmas.Grind.{flat_map-append}
use Rattle.eid_tlv.specs.Objects.{Object, IsObject, object, objects}
use Rattle.eid_tlv.specs.Reading.{BeginsWith}
use Rattle.eid_tlv.specs.Lists.{AreObjects, IsListOf, values, IsAmong, IsFound}
use Rattle.eid_tlv.specs.declared.lists.Found.{Found}
use Rattle.eid_tlv.specs.declared.lists.Found.TheVariants.{NoList, Absent, Once, Repeated}
use Rattle.eid_tlv.proofs.Distinct.{same_object}
use Rattle.eid_tlv.proofs.Sizes.{object_size, length_size, some_length}

-- the bytes begin with a list in which this was found of the tag, and then the rest
pub record IsWalked (tag : ℕ) (bytes rest : List ℕ) (found : Found) : Type 0 where
  pub read : List Object
  pub fit : AreObjects read
  pub split : bytes ≡ objects read ++ rest
  pub among : IsAmong (values tag read) found

pub walked_none : (tag : ℕ) (bytes : List ℕ) → IsWalked tag bytes bytes Absent
walked_none tag bytes = record { read = []; fit = _; split = refl; among = refl }

fit_one_more : (read : List Object) (o : Object) → AreObjects read → IsObject o.tag o.value → AreObjects (read ++ o ∷ [])
fit_one_more [] o fit one = (one, _)
fit_one_more (first ∷ read) o fit one = (fit.0, fit_one_more read o fit.1 one)

split_one_more : (bytes rest after : List ℕ) (read : List Object) (o : Object) → bytes ≡ objects read ++ rest
    → rest ≡ object o.tag o.value ++ after → bytes ≡ objects (read ++ o ∷ []) ++ after
split_one_more bytes rest after read o split one =
    let f : Object → List ℕ = λ (o : Object). object o.tag o.value in
    let more : objects (read ++ o ∷ []) ≡ objects read ++ object o.tag o.value =
    flat_map-append f read (o ∷ []) ∙ ap (λ s. objects read ++ s) (append-nil (object o.tag o.value)) in
    split ∙ ap (λ s. objects read ++ s) one ∙ sym (append_assoc (objects read) (object o.tag o.value) after)
    ∙ ap (λ s. s ++ after) (sym more)

values_one_more : (tag : ℕ) (read : List Object) (o : Object) → values tag (read ++ o ∷ []) ≡ values tag read ++ values tag (o ∷ [])
values_one_more tag read o =
    let test : Object → Bool = λ (o : Object). o.tag == tag in
    ap (λ list. map (λ (o : Object). o.value) list) (filter-append test read (o ∷ []))
    ∙ map-append (λ (o : Object). o.value) (filter test read) (filter test (o ∷ []))

one_value : (tag t : ℕ) (v : List ℕ) → t ≡ tag → values tag (record { tag = t; value = v } ∷ []) ≡ v ∷ []
one_value tag t v same =
    let is : (t == tag) ≡ true = grind (arith, nat_tests) in
    rw is refl

no_value : (tag t : ℕ) (v : List ℕ) → t ≢ tag → values tag (record { tag = t; value = v } ∷ []) ≡ []
no_value tag t v other =
    let is : (t == tag) ≡ false = grind (arith, nat_tests) in
    rw is refl

-- one object more, with the tag or with another
pub walked_more : (tag : ℕ) (bytes rest : List ℕ) (found later : Found) (t : ℕ) (v after : List ℕ) → IsWalked tag bytes rest found
    → BeginsWith rest t v after → t ≡ tag
    → ((those : List (List ℕ)) → IsAmong those found → IsAmong (those ++ v ∷ []) later) → IsWalked tag bytes after later
walked_more tag bytes rest found later t v after walked begins same more =
    let o : Object = record { tag = t; value = v } in
    let those : values tag (o ∷ []) ≡ v ∷ [] = one_value tag t v same in
    record {
      read = walked.read ++ o ∷ [];
      fit = fit_one_more walked.read o walked.fit begins.fits;
      split = split_one_more bytes rest after walked.read o walked.split begins.spelled;
      among = subst (λ (s : List (List ℕ)). IsAmong s later) (sym (values_one_more tag walked.read o ∙ ap (λ s. values tag walked.read ++ s) those))
          (more (values tag walked.read) walked.among);
    }

pub walked_past : (tag : ℕ) (bytes rest : List ℕ) (found : Found) (t : ℕ) (v after : List ℕ) → IsWalked tag bytes rest found
    → BeginsWith rest t v after → t ≢ tag → IsWalked tag bytes after found
walked_past tag bytes rest found t v after walked begins other =
    let o : Object = record { tag = t; value = v } in
    let those : values tag (o ∷ []) ≡ [] = no_value tag t v other in
    record {
      read = walked.read ++ o ∷ [];
      fit = fit_one_more walked.read o walked.fit begins.fits;
      split = split_one_more bytes rest after walked.read o walked.split begins.spelled;
      among = subst (λ (s : List (List ℕ)). IsAmong s found)
          (sym (values_one_more tag walked.read o ∙ ap (λ s. values tag walked.read ++ s) those ∙ append-nil (values tag walked.read))) walked.among;
    }

-- at the end
pub walked_all : (tag : ℕ) (bytes : List ℕ) (found : Found) → IsWalked tag bytes [] found → IsFound tag bytes found
walked_all tag bytes found walked = those found walked.among where
  is : IsListOf walked.read bytes
  is = record { fit = walked.fit; spelled = walked.split ∙ append-nil (objects walked.read) }

  those : (found : Found) → IsAmong (values tag walked.read) found → IsFound tag bytes found
  those NoList among = absurd among
  those Absent among = record { list = walked.read; is_list = is; those = among }
  those (Once value) among = record { list = walked.read; is_list = is; those = among }
  those Repeated among = record { list = walked.read; is_list = is; some = among }

-- a list that begins with the objects read has them, and the rest is a list
rest_is_list : (read list : List Object) (rest : List ℕ) → AreObjects read → AreObjects list → objects list ≡ objects read ++ rest
    → (later : List Object) × IsListOf later rest
rest_is_list [] list rest fit list_fit same = (list, record { fit = list_fit; spelled = sym same })
rest_is_list (o ∷ read) [] rest fit list_fit same = absurd (no_bytes o.tag o.value (objects read) rest fit.0 same) where
  no_bytes : (t : ℕ) (v a b : List ℕ) → IsObject t v → [] ≡ (object t v ++ a) ++ b → ⊥
  no_bytes t v a b fits none =
      let size : 0 ≡ length (object t v ++ a) + length b = ap length none ∙ length-append (object t v ++ a) b in
      omega (arith, length-append (object t v) a, object_size t v, some_length (length v))
rest_is_list (o ∷ read) (p ∷ list) rest fit list_fit same =
    let ends = same_object p.tag o.tag p.value o.value (objects list) (objects read ++ rest) list_fit.0.tagged fit.0.tagged
    (same ∙ append_assoc (object o.tag o.value) (objects read) rest) in
    rest_is_list read list rest fit.1 list_fit.1 ends.2

-- bytes are at most one list
pub one_list : (bytes : List ℕ) (a b : List Object) → IsListOf a bytes → IsListOf b bytes → a ≡ b
one_list bytes a b first second = lists a b first.fit second.fit (sym first.spelled ∙ second.spelled) where
  no_bytes : (o : Object) (list : List Object) → [] ≡ objects (o ∷ list) → ⊥
  no_bytes o list none =
      let size : 0 ≡ length (object o.tag o.value) + length (objects list) =
      ap length none ∙ length-append (object o.tag o.value) (objects list) in
      omega (arith, object_size o.tag o.value, some_length (length o.value))

  lists : (a b : List Object) → AreObjects a → AreObjects b → objects a ≡ objects b → a ≡ b
  lists [] [] fit other same = refl
  lists [] (p ∷ b) fit other same = absurd (no_bytes p b same)
  lists (o ∷ a) [] fit other same = absurd (no_bytes o a (sym same))
  lists (o ∷ a) (p ∷ b) fit other same =
      let ends = same_object o.tag p.tag o.value p.value (objects a) (objects b) fit.0.tagged other.0.tagged same in
      same_first o p ends.0 ends.1 ∙ ap (λ (later : List Object). p ∷ later) (lists a b fit.1 other.1 ends.2)
    where
      same_first : (o p : Object) → o.tag ≡ p.tag → o.value ≡ p.value → o ∷ a ≡ p ∷ a
      same_first o p tags vals =
          ap (λ (t : ℕ). record { tag = t; value = o.value } ∷ a) tags ∙ ap (λ (v : List ℕ). record { tag = p.tag; value = v } ∷ a) vals

-- where no object begins the rest, the bytes are no list
rest_is_empty : (rest : List ℕ) → ((t : ℕ) (v after : List ℕ) → BeginsWith rest t v after → ⊥) → (list : List Object)
    → IsListOf list rest → rest ≡ []
rest_is_empty rest none [] is = is.spelled
rest_is_empty rest none (o ∷ list) is = absurd (none o.tag o.value (objects list) (record { fits = is.fit.0; spelled = is.spelled }))

pub walked_no_further : (tag : ℕ) (bytes rest : List ℕ) (found : Found) → IsWalked tag bytes rest found → false ≡ (length rest == 0)
    → ((t : ℕ) (v after : List ℕ) → BeginsWith rest t v after → ⊥) → (list : List Object) → IsListOf list bytes → ⊥
walked_no_further tag bytes rest found walked some none list is =
    let later = rest_is_list walked.read list rest walked.fit is.fit (sym is.spelled ∙ walked.split) in
    let no_rest : length rest ≡ 0 = ap length (rest_is_empty rest none later.0 later.1) in
    grind (arith, nat_tests)

-- each object takes some of the bytes
pub shorter_after : (rest : List ℕ) (t : ℕ) (v after : List ℕ) → BeginsWith rest t v after → length after < length rest
shorter_after rest t v after begins =
    let size : length rest ≡ length (object t v) + length after = ap length begins.spelled ∙ length-append (object t v) after in
    omega (arith, object_size t v, length_size (length v), some_length (length v))

pub not_ok : {A E : Type 0} (P : A → Type 0) (result : Result A E) → ((x : A) → result ≡ Ok x → ⊥) → IsOkAnd result P → ⊥
not_ok P (Ok x) none some = none x refl
not_ok P (Err e) none some = some

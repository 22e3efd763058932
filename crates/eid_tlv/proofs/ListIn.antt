-- The list that the function gives is the one that the bytes are.
use Rattle.std.proofs.Common.{◌≡◌, ◌↔◌, ℕ, zero, suc, ◌+◌, ◌-◌, ◌*◌, ◌/◌, ◌%◌, ◌≤◌, ◌⊎◌, inl, inr, Bool, true, false, cond, ◌||◌, List, [], ◌∷◌, ◌++◌, length, take, drop, slice_index, Option, Some, None, refl, sym, ◌∙◌, ap, subst, arith, append_assoc, length-append}
use Rattle.std.specs.Prelude.{option_map, option_and_then}
use Rattle.std.specs.List.{find, list_any}
use Rattle.std.proofs.lemmas.Bool.Decides.{nat_tests}
use Rattle.std.proofs.lemmas.Slice.Eq.{bytes_eq-Decides}
use Rattle.std.proofs.lemmas.List.{take-append-drop, take_at, append-nil, length-drop, length-take-le, drop-drop}
use Rattle.eid_tlv.specs.Objects.{Object, object, objects, is_tag, tag_bytes, length_bytes}
use Rattle.eid_tlv.specs.Reading.{BeginsWith}
use Rattle.eid_tlv.specs.Lists.{IsListOf}
use Rattle.eid_tlv.specs.ListIn.{Header, header_bytes, begins_with, headers_of, headers, header_in, object_behind, bytes_behind, list_within, list_in}
use Rattle.eid_tlv.proofs.Distinct.{one_object, object_parts, LengthForm, in_one, in_two, in_three, length_form}
use Rattle.eid_tlv.proofs.Forms.{IsOneByte, IsTwoBytes, tag_form, tag_bytes-one, tag_bytes-two, length_bytes-one, length_bytes-two, length_bytes-three}
use Rattle.eid_tlv.proofs.Walks.{shorter_after}

module _ {X : Type 0} (test : X → Bool) where
  -- what a search finds passes
  pub passes : (xs : List X) (x : X) → find test xs ≡ Some x → test x ≡ true
  passes [] x found = absurd (none x found) where
    none : (x : X) → None ≡ Some x → ⊥
    none x found = cc
  passes (y ∷ xs) x found = by (test y) refl (passes xs x) found where
    first : (y x : X) → Some y ≡ Some x → y ≡ x
    first y x same = cc

    by : (b : Bool) → test y ≡ b → (find test xs ≡ Some x → test x ≡ true) → cond b (Some y) (find test xs) ≡ Some x → test x ≡ true
    by true is later same = subst (λ (z : X). test z ≡ true) (first y x same) is
    by false is later same = later same

  -- where some element passes, something is found
  pub finds : (xs : List X) → list_any test xs ≡ true → (x : X) × (find test xs ≡ Some x)
  finds [] some = absurd (never some) where
    never : false ≡ true → ⊥
    never same = cc
  finds (y ∷ xs) some = by (test y) (finds xs) some where
    Finds : Bool → Type 0
    Finds b = (x : X) × (cond b (Some y) (find test xs) ≡ Some x)

    by : (b : Bool) → (list_any test xs ≡ true → Finds false) → (b || list_any test xs) ≡ true → Finds b
    by true later some = (y, refl)
    by false later some = later some

-- what the test of a header says
pub record Begins (bytes : List ℕ) (h : Header) : Type 0 where
  pub tagged : is_tag h.tag ≡ true
  pub sized : h.size ≤ 65535
  pub written : take (length (header_bytes h)) bytes ≡ header_bytes h
  pub long : length (header_bytes h) + h.size ≤ length bytes

begins-true : (bytes : List ℕ) (h : Header) → begins_with bytes h ≡ true → Begins bytes h
unfolding begins_with
begins-true bytes h is = record {
  tagged = grind (arith, nat_tests);
  sized = grind (arith, nat_tests);
  written = grind (arith, nat_tests, bytes_eq-Decides);
  long = grind (arith, nat_tests);
}

true-begins : (bytes : List ℕ) (h : Header) → Begins bytes h → begins_with bytes h ≡ true
unfolding begins_with
true-begins bytes h b =
    let tagged : is_tag h.tag ≡ true = b.tagged in
    let sized : h.size ≤ 65535 = b.sized in
    let written : take (length (header_bytes h)) bytes ≡ header_bytes h = b.written in
    let long : length (header_bytes h) + h.size ≤ length bytes = b.long in
    grind (arith, nat_tests, bytes_eq-Decides)

from_parts : (tag : ℕ) (value rest : List ℕ) (n : ℕ) → length value ≡ n
    → (tag_bytes tag ++ length_bytes n) ++ (value ++ rest) ≡ object tag value ++ rest
from_parts tag value rest n size =
    append_assoc (tag_bytes tag) (length_bytes n) (value ++ rest)
    ∙ ap (λ m. tag_bytes tag ++ (length_bytes m ++ (value ++ rest))) (sym size) ∙ sym (object_parts tag value rest)

-- bytes that begin with a header begin with its object
pub begins_object : (bytes : List ℕ) (h : Header) → Begins bytes h
    → BeginsWith bytes h.tag (object_behind bytes h).value (bytes_behind bytes h)
begins_object bytes h b =
    let head = header_bytes h in
    let tail = drop (length head) bytes in
    let left : length tail ≡ length bytes - length head = length-drop (length head) bytes in
    let long : length head + h.size ≤ length bytes = b.long in
    let size : length (take h.size tail) ≡ h.size = length-take-le h.size tail (omega arith) in
    let whole : bytes ≡ head ++ tail = sym (take-append-drop (length head) bytes) ∙ ap (λ s. s ++ tail) b.written in
    let parts : tail ≡ take h.size tail ++ drop h.size tail = sym (take-append-drop h.size tail) in
    let rest : drop h.size tail ≡ bytes_behind bytes h = drop-drop h.size (length head) bytes in
    let spelled : head ++ (take h.size tail ++ drop h.size tail) ≡ object h.tag (take h.size tail) ++ drop h.size tail =
    from_parts h.tag (take h.size tail) (drop h.size tail) h.size size in
    record {
      fits = record { tagged = b.tagged; sized = rw size b.sized };
      spelled = whole ∙ ap (λ s. head ++ s) parts ∙ spelled ∙ ap (λ s. object h.tag (take h.size tail) ++ s) rest;
    }

-- bytes that begin with an object begin with its header
object_begins : (bytes : List ℕ) (t : ℕ) (v rest : List ℕ) → BeginsWith bytes t v rest
    → begins_with bytes (record { tag = t; size = length v }) ≡ true
object_begins bytes t v rest begins =
    let h : Header = record { tag = t; size = length v } in
    let whole : bytes ≡ header_bytes h ++ (v ++ rest) = begins.spelled ∙ sym (from_parts t v rest (length v) refl) in
    let size : length bytes ≡ length (header_bytes h) + length (v ++ rest) = ap length whole ∙ length-append (header_bytes h) (v ++ rest) in
    true-begins bytes h (record {
      tagged = begins.fits.tagged;
      sized = begins.fits.sized;
      written = ap (take (length (header_bytes h))) whole ∙ take_at (header_bytes h) (v ++ rest) _ refl;
      long = omega (arith, length-append v rest);
    })

or_first : (a b : Bool) → a ≡ true → (a || b) ≡ true
or_first a b is = rw is refl

or_later : (a b : Bool) → b ≡ true → (a || b) ≡ true
or_later true b is = refl
or_later false b is = is

-- one of three, or of three more
any_of : {X : Type 0} (test : X → Bool) (a b c : X) (later : List X) → (test a ≡ true) ⊎ (test b ≡ true) ⊎ (test c ≡ true) ⊎ (list_any test later ≡ true)
    → list_any test (a ∷ b ∷ c ∷ later) ≡ true
any_of test a b c later is = elim is [
  | inl first ↦ or_first (test a) _ first
  | inr (inl second) ↦ or_later (test a) _ (or_first (test b) _ second)
  | inr (inr (inl third)) ↦ or_later (test a) _ (or_later (test b) _ (or_first (test c) _ third))
  | inr (inr (inr more)) ↦ or_later (test a) _ (or_later (test b) _ (or_later (test c) _ more))
]

-- the length stands behind the tag in one of its three forms
is_in_group : (bytes : List ℕ) (t n : ℕ) (after behind : List ℕ) (later : List Header)
    → begins_with bytes (record { tag = t; size = n }) ≡ true → after ≡ length_bytes n ++ behind
    → list_any (begins_with bytes) (headers_of t after ++ later) ≡ true
is_in_group bytes t n after behind later is form = by (length_form n) where
  at : (m : ℕ) → n ≡ m → begins_with bytes (record { tag = t; size = m }) ≡ true
  at m same = subst (λ (k : ℕ). begins_with bytes (record { tag = t; size = k }) ≡ true) same is

  by : LengthForm n → list_any (begins_with bytes) (headers_of t after ++ later) ≡ true
  by (in_one short) =
      let plain : after ≡ n ∷ behind = form ∙ ap (λ s. s ++ behind) (length_bytes-one n short) in
      any_of (begins_with bytes) _ _ _ later (inl (at _ (sym (ap (λ s. slice_index s 0) plain))))
  by (in_two from below) =
      let plain : after ≡ 0x81 ∷ n ∷ behind = form ∙ ap (λ s. s ++ behind) (length_bytes-two n from below) in
      any_of (begins_with bytes) _ _ _ later (inr (inl (at _ (sym (ap (λ s. slice_index s 1) plain)))))
  by (in_three from) =
      let plain : after ≡ 0x82 ∷ n / 256 ∷ n % 256 ∷ behind = form ∙ ap (λ s. s ++ behind) (length_bytes-three n from) in
      let high : slice_index after 1 ≡ n / 256 = ap (λ s. slice_index s 1) plain in
      let low : slice_index after 2 ≡ n % 256 = ap (λ s. slice_index s 2) plain in
      any_of (begins_with bytes) _ _ _ later (inr (inr (inl (at _ (omega arith)))))

-- the header of an object that the bytes begin with is one of those looked for
is_looked_for : (bytes : List ℕ) (t : ℕ) (v rest : List ℕ) → BeginsWith bytes t v rest
    → list_any (begins_with bytes) (headers bytes) ≡ true
is_looked_for bytes t v rest begins = by (tag_form t begins.fits.tagged) where
  is : begins_with bytes (record { tag = t; size = length v }) ≡ true
  is = object_begins bytes t v rest begins

  parts : bytes ≡ tag_bytes t ++ (length_bytes (length v) ++ (v ++ rest))
  parts = begins.spelled ∙ object_parts t v rest

  one_byte : List Header
  one_byte = headers_of (slice_index bytes 0) (drop 1 bytes)

  two_bytes : List Header
  two_bytes = headers_of (256 * slice_index bytes 0 + slice_index bytes 1) (drop 2 bytes)

  by : IsOneByte t ⊎ IsTwoBytes t → list_any (begins_with bytes) (headers bytes) ≡ true
  by (inl one) =
      let plain : bytes ≡ t ∷ (length_bytes (length v) ++ (v ++ rest)) = parts ∙ ap (λ s. s ++ (length_bytes (length v) ++ (v ++ rest))) (tag_bytes-one t one.below) in
      let first : slice_index bytes 0 ≡ t = ap (λ s. slice_index s 0) plain in
      subst (λ (x : ℕ). list_any (begins_with bytes) (headers_of x (drop 1 bytes) ++ two_bytes) ≡ true) (sym first)
      (is_in_group bytes t (length v) (drop 1 bytes) (v ++ rest) two_bytes is (ap (drop 1) plain))
  by (inr two) =
      let plain : bytes ≡ t / 256 ∷ t % 256 ∷ (length_bytes (length v) ++ (v ++ rest)) = parts ∙ ap (λ s. s ++ (length_bytes (length v) ++ (v ++ rest))) (tag_bytes-two t two.from) in
      let high : slice_index bytes 0 ≡ t / 256 = ap (λ s. slice_index s 0) plain in
      let low : slice_index bytes 1 ≡ t % 256 = ap (λ s. slice_index s 1) plain in
      let tag : 256 * slice_index bytes 0 + slice_index bytes 1 ≡ t = omega arith in
      any_of (begins_with bytes) _ _ _ two_bytes (inr (inr (inr (
      rw tag (subst (λ (more : List Header). list_any (begins_with bytes) more ≡ true) (append-nil (headers_of t (drop 2 bytes)))
      (is_in_group bytes t (length v) (drop 2 bytes) (v ++ rest) [] is (ap (drop 2) plain)))))))

-- bytes begin with an object exactly where a header is found, and it is that of the object
pub header_of_object : (bytes : List ℕ) (t : ℕ) (v rest : List ℕ) → BeginsWith bytes t v rest
    → (h : Header) × (header_in bytes ≡ Some h) × (object_behind bytes h ≡ record { tag = t; value = v }) × (bytes_behind bytes h ≡ rest)
unfolding header_in
header_of_object bytes t v rest begins =
    let found = finds (begins_with bytes) (headers bytes) (is_looked_for bytes t v rest begins) in
    let h = found.0 in
    let test = passes (begins_with bytes) (headers bytes) h found.1 in
    let same = one_object bytes h.tag t (object_behind bytes h).value v (bytes_behind bytes h) rest (begins_object bytes h (begins-true bytes h test)) begins in
    let tag : h.tag ≡ t = same.0 in
    let value : (object_behind bytes h).value ≡ v = same.1 in (
      h,
      found.1,
      ap (λ (x : ℕ). record { tag = x; value = (object_behind bytes h).value }) tag ∙ ap (λ (x : List ℕ). record { tag = t; value = x }) value,
      same.2,
    )

pub object_of_header : (bytes : List ℕ) (h : Header) → header_in bytes ≡ Some h
    → BeginsWith bytes h.tag (object_behind bytes h).value (bytes_behind bytes h)
unfolding header_in
object_of_header bytes h found = begins_object bytes h (begins-true bytes h (passes (begins_with bytes) (headers bytes) h found))

-- ---- lists

empty_list : IsListOf [] []
empty_list = record { fit = _; spelled = refl }

one_more : (bytes : List ℕ) (o : Object) (rest : List ℕ) (later : List Object) → BeginsWith bytes o.tag o.value rest → IsListOf later rest
    → IsListOf (o ∷ later) bytes
one_more bytes o rest later begins is = record {
  fit = (begins.fits, is.fit);
  spelled = begins.spelled ∙ ap (λ s. object o.tag o.value ++ s) is.spelled;
}

-- what the function gives is the list that the bytes are
within_is_list : (n : ℕ) (bytes : List ℕ) (list : List Object) → list_within n bytes ≡ Some list → IsListOf list bytes
unfolding list_within
within_is_list n [] list found = by list found where
  by : (list : List Object) → Some [] ≡ Some list → IsListOf list []
  by [] found = empty_list
  by (o ∷ list) found = absurd (never found) where
    never : Some [] ≡ Some (o ∷ list) → ⊥
    never same = cc
within_is_list zero (first ∷ rest) list found = absurd (never list found) where
  never : (list : List Object) → None ≡ Some list → ⊥
  never list same = cc
within_is_list (suc n) (first ∷ rest) list found =
    by (header_in (first ∷ rest)) refl (λ h later. within_is_list n (bytes_behind (first ∷ rest) h) later) found
  where
    bytes : List ℕ
    bytes = first ∷ rest

    never : (list : List Object) → None ≡ Some list → ⊥
    never list same = cc

    same_list : (a b : List Object) → Some a ≡ Some b → a ≡ b
    same_list a b same = cc

    by_later : (h : Header) → header_in bytes ≡ Some h → (o : Option (List Object)) → ((later : List Object) → o ≡ Some later → IsListOf later (bytes_behind bytes h))
        → option_map (λ later. object_behind bytes h ∷ later) o ≡ Some list → IsListOf list bytes
    by_later h is None lists same = absurd (never list same)
    by_later h is (Some later) lists same =
        subst (λ (l : List Object). IsListOf l bytes) (same_list (object_behind bytes h ∷ later) list same)
        (one_more bytes (object_behind bytes h) (bytes_behind bytes h) later (object_of_header bytes h is) (lists later refl))

    by : (o : Option Header) → header_in bytes ≡ o → ((h : Header) (later : List Object) → list_within n (bytes_behind bytes h) ≡ Some later → IsListOf later (bytes_behind bytes h))
        → option_and_then (λ h. option_map (λ later. object_behind bytes h ∷ later) (list_within n (bytes_behind bytes h))) o ≡ Some list → IsListOf list bytes
    by None is lists same = absurd (never list same)
    by (Some h) is lists same = by_later h is (list_within n (bytes_behind bytes h)) (lists h) same

-- the list that the bytes are is what the function gives
list_is_within : (list : List Object) (n : ℕ) (bytes : List ℕ) → length bytes ≤ n → IsListOf list bytes → list_within n bytes ≡ Some list
unfolding list_within
list_is_within [] n bytes long is = subst (λ (b : List ℕ). list_within n b ≡ Some []) (sym is.spelled) refl
list_is_within (o ∷ list) n [] long is = absurd (omega (arith, shorter_after [] o.tag o.value (objects list) (record { fits = is.fit.0; spelled = is.spelled })))
list_is_within (o ∷ list) zero (first ∷ rest) long is = absurd (omega arith)
list_is_within (o ∷ list) (suc n) (first ∷ rest) long is =
    let begins : BeginsWith (first ∷ rest) o.tag o.value (objects list) = record { fits = is.fit.0; spelled = is.spelled } in
    let found = header_of_object (first ∷ rest) o.tag o.value (objects list) begins in
    let h = found.0 in
    let shorter = shorter_after (first ∷ rest) o.tag o.value (objects list) begins in
    let later : list_within n (objects list) ≡ Some list = list_is_within list n (objects list) (omega arith) (record { fit = is.fit.1; spelled = refl }) in
    rw (found.1, found.3, later) (ap (λ (x : Object). Some (x ∷ list)) found.2)

pub list_in-exact : (bytes : List ℕ) (list : List Object) → list_in bytes ≡ Some list ↔ IsListOf list bytes
list_in-exact bytes list = (within_is_list (length bytes) bytes list, list_is_within list (length bytes) bytes (omega arith))

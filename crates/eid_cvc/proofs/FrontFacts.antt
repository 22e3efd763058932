-- What the functions that read from the front give is what stands there.
use Rattle.std.proofs.Common.{◌≡◌, ◌≢◌, ℕ, ◌+◌, ◌-◌, ◌==◌, ◌≤◌, true, List, [], ◌∷◌, ◌++◌, length, take, Option, Some, None, refl, ◌∙◌, ap, subst, arith, length-append}
use Rattle.std.specs.Prelude.{IfSome, option_map}
use Rattle.std.proofs.lemmas.Bool.{eqb-true, eq-eqb}
use Rattle.std.proofs.lemmas.List.{append-nil, take_at}
use Rattle.std.proofs.lemmas.Option.{cond_some, none-some, same_Some}
use Rattle.eid_tlv.specs.Objects.{is_tag, object}
use Rattle.eid_tlv.specs.Reading.{BeginsWith}
use Rattle.eid_tlv.specs.ListIn.{Header, header_in, object_behind, bytes_behind}
use Rattle.eid_tlv.proofs.Distinct.{one_object}
use Rattle.eid_tlv.proofs.ListIn.{header_of_object, object_of_header}
use Rattle.eid_tlv.proofs.Sizes.{object_size, some_length}
use Rattle.eid_tlv.proofs.Walks.{shorter_after}
use Rattle.eid_cvc.specs.Fronts.{PlainFront, ◌>>=◌, front_with, front_in, rest_of, behind}
use Rattle.eid_cvc.specs.PublicKeys.{optional, IsSized}
use Rattle.eid_cvc.specs.CertificateIn.{PlainHash, hash_with, hash_in}

pub is_none : {A : Type 0} (o : Option A) → ((x : A) → o ≡ Some x → ⊥) → o ≡ None
is_none None none = refl
is_none (Some x) none = absurd (none x refl)

-- what a step that gave something began with
pub bound : {A B : Type 0} (o : Option A) (f : A → Option B) (y : B) → o >>= f ≡ Some y → (x : A) × (o ≡ Some x) × (f x ≡ Some y)
bound None f y is = absurd (none-some y is)
bound (Some x) f y is = (x, refl, is)

pub mapped : {A B : Type 0} (o : Option A) (f : A → B) (y : B) → option_map f o ≡ Some y → (x : A) × (o ≡ Some x) × (f x ≡ y)
mapped None f y is = absurd (none-some y is)
mapped (Some x) f y is = (x, refl, same_Some (f x) y is)

-- a value is not longer than an object with it
pub value_fits : (tag : ℕ) (value rest : List ℕ) → (length value + length rest) + 1 ≤ length (object tag value ++ rest)
value_fits tag value rest = omega (arith, length-append (object tag value) rest, object_size tag value, some_length (length value))

pub no_rest : (bytes : List ℕ) → (length bytes == 0) ≡ true → bytes ≡ []
no_rest [] none = refl
no_rest (first ∷ rest) none = absurd (never (eqb-true (length (first ∷ rest)) 0 none)) where
  never : length (first ∷ rest) ≡ 0 → ⊥
  never same = omega arith

pub front_found : (tag : ℕ) (bytes : List ℕ) (f : PlainFront) → front_in tag bytes ≡ Some f → BeginsWith bytes tag f.value f.rest
unfolding front_in
front_found tag bytes f is = by (header_in bytes) refl is where
  by : (o : Option Header) → header_in bytes ≡ o → front_with tag bytes o ≡ Some f → BeginsWith bytes tag f.value f.rest
  by None heads same = absurd (none-some f same)
  by (Some h) heads same =
      let parts = cond_some (h.tag == tag) (record { value = (object_behind bytes h).value; rest = bytes_behind bytes h }) f same in
      let tagged : h.tag ≡ tag = eqb-true h.tag tag parts.0 in
      subst (λ (g : PlainFront). BeginsWith bytes tag g.value g.rest) parts.1
      (subst (λ (t : ℕ). BeginsWith bytes t (object_behind bytes h).value (bytes_behind bytes h)) tagged (object_of_header bytes h heads))

pub front_complete : (tag : ℕ) (bytes value rest : List ℕ) → BeginsWith bytes tag value rest
    → front_in tag bytes ≡ Some (record { value = value; rest = rest })
unfolding front_in
front_complete tag bytes value rest begins =
    let found = header_of_object bytes tag value rest begins in
    let h = found.0 in
    let tagged : h.tag ≡ tag = ap (λ (o : _). o.tag) found.2 in
    let same : (h.tag == tag) ≡ true = eq-eqb h.tag tag tagged in
    let values : (object_behind bytes h).value ≡ value = ap (λ (o : _). o.value) found.2 in
    rw (found.1, same)
    (ap (λ (v : List ℕ). Some (record { value = v; rest = bytes_behind bytes h })) values
    ∙ ap (λ (r : List ℕ). Some (record { value = value; rest = r })) found.3)

pub rest_not_longer : (tag : ℕ) (bytes : List ℕ) (f : PlainFront) → front_in tag bytes ≡ Some f → length f.rest ≤ length bytes
rest_not_longer tag bytes f is = omega (arith, shorter_after bytes tag f.value f.rest (front_found tag bytes f is))

-- what stands before the rest is the object
pub object_before : (tag : ℕ) (bytes : List ℕ) (f : PlainFront) → front_in tag bytes ≡ Some f
    → take (length bytes - length f.rest) bytes ≡ object tag f.value
object_before tag bytes f is =
    let whole = (front_found tag bytes f is).spelled in
    let size : length bytes ≡ length (object tag f.value) + length f.rest = ap length whole ∙ length-append (object tag f.value) f.rest in
    let count : length bytes - length f.rest ≡ length (object tag f.value) = omega (arith, size) in
    ap (λ (n : ℕ). take n bytes) count ∙ ap (take (length (object tag f.value))) whole ∙ take_at (object tag f.value) f.rest (length (object tag f.value)) refl

-- no object with the tag stands there
pub front_none : (tag : ℕ) (bytes : List ℕ) → ((value rest : List ℕ) → BeginsWith bytes tag value rest → ⊥) → front_in tag bytes ≡ None
front_none tag bytes none = is_none (front_in tag bytes) (λ f is. none f.value f.rest (front_found tag bytes f is))

pub front_other : (tag other : ℕ) (bytes value rest : List ℕ) → BeginsWith bytes other value rest → other ≢ tag → front_in tag bytes ≡ None
front_other tag other bytes value rest begins differs =
    front_none tag bytes (λ v r found. differs (one_object bytes other tag value v rest r begins found).0)

pub front_empty : (tag : ℕ) → front_in tag [] ≡ None
front_empty tag = front_none tag [] (λ value rest begins. absurd (omega (arith, shorter_after [] tag value rest begins)))

-- an object, and then the rest
pub begins : (tag : ℕ) (value rest : List ℕ) → is_tag tag ≡ true → length value ≤ 65535 → BeginsWith (object tag value ++ rest) tag value rest
begins tag value rest tagged sized = record { fits = record { tagged = tagged; sized = sized }; spelled = refl }

pub front_of_object : (tag : ℕ) (value rest : List ℕ) → is_tag tag ≡ true → length value ≤ 65535
    → front_in tag (object tag value ++ rest) ≡ Some (record { value = value; rest = rest })
front_of_object tag value rest tagged sized = front_complete tag (object tag value ++ rest) value rest (begins tag value rest tagged sized)

pub front_of_last : (tag : ℕ) (value : List ℕ) → is_tag tag ≡ true → length value ≤ 65535
    → front_in tag (object tag value) ≡ Some (record { value = value; rest = [] })
front_of_last tag value tagged sized =
    subst (λ (b : List ℕ). front_in tag b ≡ Some (record { value = value; rest = [] })) (append-nil (object tag value))
    (front_of_object tag value [] tagged sized)

-- ---- an object that may be left out

-- the bytes are an object that may be left out, and then the rest
pub record IsBehind (tag : ℕ) (bytes rest : List ℕ) : Type 0 where
  pub parameter : Option (List ℕ)
  pub writable : IsSized parameter
  pub spelled : bytes ≡ optional tag parameter ++ rest

pub behind_found : (tag : ℕ) (bytes : List ℕ) → IsBehind tag bytes (behind tag bytes)
behind_found tag bytes = by (front_in tag bytes) refl where
  by : (o : Option PlainFront) → front_in tag bytes ≡ o → IsBehind tag bytes (rest_of bytes o)
  by None is = record { parameter = None; writable = _; spelled = refl }
  by (Some f) is =
      let found = front_found tag bytes f is in
      record { parameter = Some f.value; writable = found.fits.sized; spelled = found.spelled }

pub behind_complete : (tag : ℕ) (parameter : Option (List ℕ)) (rest : List ℕ) → is_tag tag ≡ true → IsSized parameter
    → front_in tag rest ≡ None → behind tag (optional tag parameter ++ rest) ≡ rest
behind_complete tag None rest tagged writable none = ap (rest_of rest) none
behind_complete tag (Some value) rest tagged writable none =
    ap (rest_of (object tag value ++ rest)) (front_of_object tag value rest tagged writable)

-- before the rest stands at most an object with another tag
pub not_there : (tag other : ℕ) (parameter : Option (List ℕ)) (rest : List ℕ) → is_tag other ≡ true → other ≢ tag → IsSized parameter
    → front_in tag rest ≡ None → front_in tag (optional other parameter ++ rest) ≡ None
not_there tag other None rest tagged differs writable none = none
not_there tag other (Some value) rest tagged differs writable none =
    front_other tag other (object other value ++ rest) value rest (begins other value rest tagged writable) differs

-- ---- a hash that may be left out

pub record IsHash (tag : ℕ) (bytes : List ℕ) (h : PlainHash) : Type 0 where
  pub sized : IfSome h.hash (λ hash. length hash ≡ 32)
  pub spelled : bytes ≡ optional tag h.hash ++ h.rest

pub hash_found : (tag : ℕ) (bytes : List ℕ) (h : PlainHash) → hash_in tag bytes ≡ Some h → IsHash tag bytes h
unfolding hash_in
hash_found tag bytes h is = by (front_in tag bytes) refl is where
  same_hash : (a b : PlainHash) → Some a ≡ Some b → IsHash tag bytes a → IsHash tag bytes b
  same_hash a b same hash = subst (λ (o : PlainHash). IsHash tag bytes o) (same_Some a b same) hash

  by : (o : Option PlainFront) → front_in tag bytes ≡ o → hash_with bytes o ≡ Some h → IsHash tag bytes h
  by None front same = same_hash (record { hash = None; rest = bytes }) h same (record { sized = _; spelled = refl })
  by (Some f) front same =
      let parts = cond_some (length f.value == 32) (record { hash = Some f.value; rest = f.rest }) h same in
      let size : length f.value ≡ 32 = eqb-true (length f.value) 32 parts.0 in
      subst (λ (o : PlainHash). IsHash tag bytes o) parts.1 (record { sized = size; spelled = (front_found tag bytes f front).spelled })

pub hash_complete : (tag : ℕ) (hash : Option (List ℕ)) (rest : List ℕ) → is_tag tag ≡ true → IfSome hash (λ h. length h ≡ 32)
    → front_in tag rest ≡ None → hash_in tag (optional tag hash ++ rest) ≡ Some (record { hash = hash; rest = rest })
unfolding hash_in
hash_complete tag None rest tagged sized none = ap (hash_with rest) none
hash_complete tag (Some value) rest tagged sized none =
    let size : (length value == 32) ≡ true = eq-eqb (length value) 32 sized in
    ap (hash_with (object tag value ++ rest)) (front_of_object tag value rest tagged (omega arith)) ∙ rw size refl

pub writable : (hash : Option (List ℕ)) → IfSome hash (λ h. length h ≡ 32) → IsSized hash
writable None sized = _
writable (Some value) sized = omega (arith, sized)

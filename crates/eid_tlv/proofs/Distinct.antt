-- Bytes begin in one way alone: with one object, or inside of one, or with no tag, or with no length.
use Rattle.std.proofs.Common.{◌≡◌, ℕ, ◌/◌, ◌%◌, ◌<◌, ◌≤◌, true, ◌⊎◌, inl, inr, List, [], ◌∷◌, ◌++◌, length, take, drop, refl, sym, ◌∙◌, ap, subst, arith, append_assoc, length-append}
use Rattle.std.proofs.lemmas.List.{append-nil, take_at, drop_at}
use Rattle.std.proofs.lemmas.Bool.{cases_lt}
use Rattle.std.proofs.lemmas.Bool.Decides.{nat_tests}
use Rattle.eid_tlv.specs.Objects.{goes_on, is_tag, tag_bytes, length_bytes, object}
use Rattle.eid_tlv.specs.Reading.{BeginsWith, IsCutShort, HasBadTag, HasBadLength, IsBadLength, StartsBelow}
use Rattle.eid_tlv.proofs.Forms.{IsOneByte, IsTwoBytes, tag_form, tag_bytes-one, tag_bytes-two, length_bytes-one, length_bytes-two, length_bytes-three}

-- a tag is not the front of another
pub same_tag : (s t : ℕ) (a b : List ℕ) → is_tag s ≡ true → is_tag t ≡ true → tag_bytes s ++ a ≡ tag_bytes t ++ b
    → (s ≡ t) × (a ≡ b)
same_tag s t a b s_tagged t_tagged same = tags (tag_form s s_tagged) (tag_form t t_tagged) where
  tags : IsOneByte s ⊎ IsTwoBytes s → IsOneByte t ⊎ IsTwoBytes t → (s ≡ t) × (a ≡ b)
  tags (inl one) (inl other) =
      let plain : s ∷ a ≡ t ∷ b = rw (tag_bytes-one s one.below, tag_bytes-one t other.below) at same in
      (cc, cc)
  tags (inl one) (inr two) =
      let plain : s ∷ a ≡ t / 256 ∷ t % 256 ∷ b = rw (tag_bytes-one s one.below, tag_bytes-two t two.from) at same in
      let first : s ≡ t / 256 = cc in
      absurd (one.ends (ap (λ x. x % 32) first ∙ two.first))
  tags (inr two) (inl one) =
      let plain : s / 256 ∷ s % 256 ∷ a ≡ t ∷ b = rw (tag_bytes-two s two.from, tag_bytes-one t one.below) at same in
      let first : s / 256 ≡ t = cc in
      absurd (one.ends (ap (λ x. x % 32) (sym first) ∙ two.first))
  tags (inr two) (inr other) =
      let plain : s / 256 ∷ s % 256 ∷ a ≡ t / 256 ∷ t % 256 ∷ b = rw (tag_bytes-two s two.from, tag_bytes-two t other.from) at same in
      let first : s / 256 ≡ t / 256 = cc in
      let second : s % 256 ≡ t % 256 = cc in
      let rest : a ≡ b = cc in
      (omega arith, rest)

heads : (x y : ℕ) (a b : List ℕ) → x ∷ a ≡ y ∷ b → x ≡ y
heads x y a b same = cc

-- the forms of a length, by its size
pub data LengthForm (n : ℕ) : Type 0 where
  in_one : n < 0x80 → LengthForm n
  in_two : 0x80 ≤ n → n < 0x100 → LengthForm n
  in_three : 0x100 ≤ n → LengthForm n

pub length_form : (n : ℕ) → LengthForm n
length_form n = elim (cases_lt n 0x80) [
  | inl short ↦ in_one short
  | inr long ↦ elim (cases_lt n 0x100) [ inl short ↦ in_two long short | inr longer ↦ in_three longer ]
]

-- a length is not the front of another
pub same_length : (m n : ℕ) (a b : List ℕ) → length_bytes m ++ a ≡ length_bytes n ++ b → (m ≡ n) × (a ≡ b)
same_length m n a b same = lengths (length_form m) (length_form n) where
  lengths : LengthForm m → LengthForm n → (m ≡ n) × (a ≡ b)
  lengths (in_one short) (in_one other) =
      let plain : m ∷ a ≡ n ∷ b = rw (length_bytes-one m short, length_bytes-one n other) at same in
      (cc, cc)
  lengths (in_one short) (in_two from below) =
      let plain : m ∷ a ≡ 0x81 ∷ n ∷ b = rw (length_bytes-one m short, length_bytes-two n from below) at same in
      let first : m ≡ 0x81 = cc in
      absurd (omega arith)
  lengths (in_one short) (in_three from) =
      let plain : m ∷ a ≡ 0x82 ∷ n / 256 ∷ n % 256 ∷ b = rw (length_bytes-one m short, length_bytes-three n from) at same in
      let first : m ≡ 0x82 = cc in
      absurd (omega arith)
  lengths (in_two from below) (in_one short) =
      let plain : 0x81 ∷ m ∷ a ≡ n ∷ b = rw (length_bytes-two m from below, length_bytes-one n short) at same in
      let first : 0x81 ≡ n = cc in
      absurd (omega arith)
  lengths (in_two from below) (in_two other_from other_below) =
      let plain : 0x81 ∷ m ∷ a ≡ 0x81 ∷ n ∷ b = rw (length_bytes-two m from below, length_bytes-two n other_from other_below) at same in
      (cc, cc)
  lengths (in_two from below) (in_three other_from) =
      let plain : 0x81 ∷ m ∷ a ≡ 0x82 ∷ n / 256 ∷ n % 256 ∷ b = rw (length_bytes-two m from below, length_bytes-three n other_from) at same in
      absurd (omega (arith, heads 0x81 0x82 _ _ plain))
  lengths (in_three from) (in_one short) =
      let plain : 0x82 ∷ m / 256 ∷ m % 256 ∷ a ≡ n ∷ b = rw (length_bytes-three m from, length_bytes-one n short) at same in
      let first : 0x82 ≡ n = cc in
      absurd (omega arith)
  lengths (in_three from) (in_two other_from other_below) =
      let plain : 0x82 ∷ m / 256 ∷ m % 256 ∷ a ≡ 0x81 ∷ n ∷ b = rw (length_bytes-three m from, length_bytes-two n other_from other_below) at same in
      absurd (omega (arith, heads 0x82 0x81 _ _ plain))
  lengths (in_three from) (in_three other_from) =
      let plain : 0x82 ∷ m / 256 ∷ m % 256 ∷ a ≡ 0x82 ∷ n / 256 ∷ n % 256 ∷ b = rw (length_bytes-three m from, length_bytes-three n other_from) at same in
      let high : m / 256 ≡ n / 256 = cc in
      let low : m % 256 ≡ n % 256 = cc in
      let rest : a ≡ b = cc in
      (omega arith, rest)

-- an object and what follows, part by part
pub object_parts : (tag : ℕ) (value rest : List ℕ)
    → object tag value ++ rest ≡ tag_bytes tag ++ (length_bytes (length value) ++ (value ++ rest))
unfolding object
object_parts tag value rest = simp append_assoc

-- an object is not the front of another
pub same_object : (s t : ℕ) (u v a b : List ℕ) → is_tag s ≡ true → is_tag t ≡ true → object s u ++ a ≡ object t v ++ b
    → (s ≡ t) × (u ≡ v) × (a ≡ b)
same_object s t u v a b s_tagged t_tagged same =
    let tags = same_tag s t (length_bytes (length u) ++ (u ++ a)) (length_bytes (length v) ++ (v ++ b)) s_tagged t_tagged
    (sym (object_parts s u a) ∙ same ∙ object_parts t v b) in
    let sizes = same_length (length u) (length v) (u ++ a) (v ++ b) tags.1 in
    let values : u ≡ v =
    sym (take_at u a (length u) refl) ∙ ap (take (length u)) sizes.1 ∙ take_at v b (length u) (sym sizes.0) in
    let rests : a ≡ b =
    sym (drop_at u a (length u) refl) ∙ ap (drop (length u)) sizes.1 ∙ drop_at v b (length u) (sym sizes.0) in
    (tags.0, values, rests)

pub on : (tag : ℕ) → goes_on tag ≡ true → tag % 32 ≡ 31
on tag goes = grind (arith, nat_tests)

-- a length in its form is not a bad one
not_one : (n : ℕ) (rest : List ℕ) → n < 0x80 → IsBadLength (n ∷ rest) → ⊥
not_one n rest short bad = grind arith

not_two : (n : ℕ) (rest : List ℕ) → 0x80 ≤ n → IsBadLength (0x81 ∷ n ∷ rest) → ⊥
not_two n rest from bad = grind arith

not_three : (n : ℕ) (rest : List ℕ) → 0x100 ≤ n → IsBadLength (0x82 ∷ n / 256 ∷ n % 256 ∷ rest) → ⊥
not_three n rest from bad = grind arith

-- a tag is no bad tag
tag_is_good : (tag : ℕ) (rest : List ℕ) → is_tag tag ≡ true → HasBadTag (tag_bytes tag ++ rest) → ⊥
tag_is_good tag rest tagged bad = elim (tag_form tag tagged) [
  | inl one ↦ ends tag rest one (rw (tag_bytes-one tag one.below) at bad)
  | inr two ↦ goes tag rest two (rw (tag_bytes-two tag two.from) at bad)
] where
  ends : (tag : ℕ) (rest : List ℕ) → IsOneByte tag → HasBadTag (tag ∷ rest) → ⊥
  ends tag [] one bad = bad
  ends tag (second ∷ rest) one bad = one.ends (on tag bad.0)

  goes : (tag : ℕ) (rest : List ℕ) → IsTwoBytes tag → HasBadTag (tag / 256 ∷ tag % 256 ∷ rest) → ⊥
  goes tag rest two bad = elim bad.1 [ inl below ↦ omega arith | inr above ↦ omega arith ]

-- a length is no bad length
length_is_good : (n : ℕ) (rest : List ℕ) → IsBadLength (length_bytes n ++ rest) → ⊥
length_is_good n rest bad = elim (length_form n) [
  | in_one short ↦ not_one n rest short (rw (length_bytes-one n short) at bad)
  | in_two from below ↦ not_two n rest from (rw (length_bytes-two n from below) at bad)
  | in_three from ↦ not_three n rest from (rw (length_bytes-three n from) at bad)
]

-- what is bad stays bad, whatever follows
bad_tag_more : (bytes more : List ℕ) → HasBadTag bytes → HasBadTag (bytes ++ more)
bad_tag_more [] more bad = absurd bad
bad_tag_more (first ∷ []) more bad = absurd bad
bad_tag_more (first ∷ second ∷ rest) more bad = bad

starts_more : (limit : ℕ) (bytes more : List ℕ) → StartsBelow limit bytes → StartsBelow limit (bytes ++ more)
starts_more limit [] more below = absurd below
starts_more limit (first ∷ rest) more below = below

bad_length_more : (bytes more : List ℕ) → IsBadLength bytes → IsBadLength (bytes ++ more)
bad_length_more [] more bad = absurd bad
bad_length_more (form ∷ rest) more bad = elim bad [
  | inl unwritten ↦ inl unwritten
  | inr (inl long) ↦ inr (inl long)
  | inr (inr (inl (is, small))) ↦ inr (inr (inl (is, starts_more 0x80 rest more small)))
  | inr (inr (inr (is, small))) ↦ inr (inr (inr (is, starts_more 0x01 rest more small)))
]

-- the four ways to begin exclude each other
pub one_object : (bytes : List ℕ) (s t : ℕ) (u v a b : List ℕ) → BeginsWith bytes s u a → BeginsWith bytes t v b
    → (s ≡ t) × (u ≡ v) × (a ≡ b)
one_object bytes s t u v a b first second =
    same_object s t u v a b first.fits.tagged second.fits.tagged (sym first.spelled ∙ second.spelled)

pub whole_or_cut : (bytes : List ℕ) (tag : ℕ) (value rest : List ℕ) → BeginsWith bytes tag value rest → IsCutShort bytes → ⊥
whole_or_cut bytes tag value rest whole short =
    let longer : object tag value ++ (rest ++ short.missing) ≡ object short.tag short.value ++ [] =
    sym (append_assoc (object tag value) rest short.missing) ∙ ap (λ s. s ++ short.missing) (sym whole.spelled)
    ∙ short.whole ∙ sym (append-nil (object short.tag short.value)) in
    let ends = same_object tag short.tag value short.value (rest ++ short.missing) [] whole.fits.tagged short.fits.tagged longer in
    let some : 0 < length short.missing = short.some in
    let none : length (rest ++ short.missing) ≡ 0 = ap length ends.2 in
    omega (arith, length-append rest short.missing)

pub whole_or_bad_tag : (bytes : List ℕ) (tag : ℕ) (value rest : List ℕ) → BeginsWith bytes tag value rest → HasBadTag bytes → ⊥
whole_or_bad_tag bytes tag value rest whole bad =
    tag_is_good tag (length_bytes (length value) ++ (value ++ rest)) whole.fits.tagged
    (subst HasBadTag (whole.spelled ∙ object_parts tag value rest) bad)

pub whole_or_bad_length : (bytes : List ℕ) (tag : ℕ) (value rest : List ℕ) → BeginsWith bytes tag value rest → HasBadLength bytes → ⊥
whole_or_bad_length bytes tag value rest whole bad =
    let tags = same_tag bad.tag tag bad.after (length_bytes (length value) ++ (value ++ rest)) bad.tagged whole.fits.tagged
    (sym bad.spelled ∙ whole.spelled ∙ object_parts tag value rest) in
    length_is_good (length value) (value ++ rest) (subst IsBadLength tags.1 bad.bad)

-- what is cut short begins an object once the missing bytes stand
completed : (bytes : List ℕ) (short : IsCutShort bytes) → BeginsWith (bytes ++ short.missing) short.tag short.value []
completed bytes short = record { fits = short.fits; spelled = short.whole ∙ sym (append-nil (object short.tag short.value)) }

pub cut_or_bad_tag : (bytes : List ℕ) → IsCutShort bytes → HasBadTag bytes → ⊥
cut_or_bad_tag bytes short bad =
    whole_or_bad_tag (bytes ++ short.missing) short.tag short.value [] (completed bytes short) (bad_tag_more bytes short.missing bad)

pub cut_or_bad_length : (bytes : List ℕ) → IsCutShort bytes → HasBadLength bytes → ⊥
cut_or_bad_length bytes short bad =
    whole_or_bad_length (bytes ++ short.missing) short.tag short.value [] (completed bytes short) (record {
      tag = bad.tag;
      after = bad.after ++ short.missing;
      tagged = bad.tagged;
      spelled = ap (λ s. s ++ short.missing) bad.spelled ∙ append_assoc (tag_bytes bad.tag) bad.after short.missing;
      bad = bad_length_more bad.after short.missing bad.bad;
    })

pub bad_tag_or_length : (bytes : List ℕ) → HasBadTag bytes → HasBadLength bytes → ⊥
bad_tag_or_length bytes bad other = tag_is_good other.tag other.after other.tagged (subst HasBadTag other.spelled bad)

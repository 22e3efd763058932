-- Object 97 from its bytes, and the objects of a command parted.
use Rattle.std.proofs.Common.{◌≡◌, ℕ, ◌+◌, ◌-◌, ◌≤◌, List, [], ◌∷◌, ◌++◌, length, take, drop, get_or, refl, sym, ap, ◌∙◌, arith, length-append}
use Rattle.std.proofs.lemmas.Slice.Eq.{text_from_reads}
use Rattle.eid_tlv.specs.Objects.{object, tag_bytes}
use Rattle.eid_tlv.specs.Reading.{BeginsWith}
use Rattle.eid_tlv.proofs.Sizes.{object_size}
use Rattle.eid_tlv.proofs.Distinct.{same_object}
use Rattle.eid_apdu.specs.Command.{IsShortLe, IsExtendedLe, short_le, extended_le, two_bytes}
use Rattle.eid_sm.specs.Commands.{IsLe, LeForm, OneByte, TwoBytes, NoLe, CanSay, le_object}
use Rattle.eid_sm.specs.Parts.{cryptogram, encrypted_object}
use Rattle.eid_sm.proofs.Ends.{before_end, after_before}
use Rattle.eid_sm.proofs.PartFacts.{le_object_one, le_object_two, encrypted_nothing}

pub says_one : (bytes : List ℕ) (ne : ℕ) → length bytes ≡ 3 → get_or bytes 0 0 ≡ 0x97 → get_or bytes 1 0 ≡ 1 → short_le ne ≡ get_or bytes 2 0 → IsShortLe ne → IsLe bytes ne
says_one bytes ne size tag one le range =
    let whole : bytes ≡ 0x97 ∷ 1 ∷ short_le ne ∷ [] = text_from_reads bytes _ size (tag, (one, (sym le, tt))) in
    record { form = OneByte; says = range; written = whole ∙ sym (le_object_one (short_le ne)) }

pub says_two : (bytes : List ℕ) (ne : ℕ) → length bytes ≡ 4 → get_or bytes 0 0 ≡ 0x97 → get_or bytes 1 0 ≡ 2
    → two_bytes (extended_le ne) ≡ get_or bytes 2 0 ∷ get_or bytes 3 0 ∷ [] → IsExtendedLe ne → IsLe bytes ne
says_two bytes ne size tag two le range =
    let whole : bytes ≡ 0x97 ∷ 2 ∷ get_or bytes 2 0 ∷ get_or bytes 3 0 ∷ [] = text_from_reads bytes _ size (tag, (two, (refl, (refl, tt)))) in
    record { form = TwoBytes; says = range; written = whole ∙ ap (λ s. 0x97 ∷ 2 ∷ s) (sym le) ∙ sym (le_object_two _ _) }

-- ---- object 87 in front of object 97

-- the first object of the bytes is no 87
abbrev pub NotFirst : List ℕ → Type 0
NotFirst bytes = (v after : List ℕ) → BeginsWith bytes 0x87 v after → ⊥

begins_encrypted : (key count rest bytes : List ℕ) (b : ℕ) (bs : List ℕ) → length bytes ≤ 2200 → bytes ≡ encrypted_object key count (b ∷ bs) ++ rest
    → BeginsWith bytes 0x87 (0x01 ∷ cryptogram key count (b ∷ bs)) rest
unfolding encrypted_object
begins_encrypted key count rest bytes b bs short e =
    let value : List ℕ = 0x01 ∷ cryptogram key count (b ∷ bs) in
    let size : length bytes ≡ length (object 0x87 value) + length rest = ap length e ∙ length-append (object 0x87 value) rest in
    record { fits = record { tagged = refl; sized = omega (arith, object_size 0x87 value) }; spelled = e }

pub none_first : (key count p rest bytes : List ℕ) → length bytes ≤ 2200 → bytes ≡ encrypted_object key count p ++ rest → NotFirst bytes
    → ([] ≡ encrypted_object key count p) × (bytes ≡ rest)
none_first key count [] rest bytes short e none =
    let nothing = encrypted_nothing key count in
    (sym nothing, e ∙ ap (λ s. s ++ rest) nothing)
none_first key count (b ∷ bs) rest bytes short e none = absurd (none _ rest (begins_encrypted key count rest bytes b bs short e))

first_byte : (v after : List ℕ) (x : ℕ) (xs : List ℕ) → object 0x87 v ++ after ≡ x ∷ xs → x ≡ 0x87
unfolding object tag_bytes
first_byte v after x xs e = cc

some_byte : (v after : List ℕ) → object 0x87 v ++ after ≡ [] → ⊥
unfolding object tag_bytes
some_byte v after e = cc

-- an object 97 is no 87
le_not_first : (form : LeForm) (ne : ℕ) → NotFirst (le_object form ne)
le_not_first NoLe ne = λ v after begins. some_byte v after (sym begins.spelled)
le_not_first OneByte ne = λ v after begins.
    let e : ◌≡◌ {A = ℕ} 0x97 0x87 = first_byte v after 0x97 _ (sym begins.spelled ∙ le_object_one (short_le ne)) in
    omega arith
le_not_first TwoBytes ne = λ v after begins.
    let e : ◌≡◌ {A = ℕ} 0x97 0x87 = first_byte v after 0x97 _ (sym begins.spelled ∙ le_object_two _ _) in
    omega arith

pub one_first : (key count p rest bytes v after : List ℕ) (ne : ℕ) → IsLe rest ne → length bytes ≤ 2200 → bytes ≡ encrypted_object key count p ++ rest → BeginsWith bytes 0x87 v after
    → (take (length bytes - length after) bytes ≡ encrypted_object key count p) × (drop (length bytes - length after) bytes ≡ rest)
one_first key count [] rest bytes v after ne says short e begins =
    let same : bytes ≡ le_object says.form ne = e ∙ ap (λ s. s ++ rest) (encrypted_nothing key count) ∙ says.written in
    absurd (le_not_first says.form ne v after (record { fits = begins.fits; spelled = sym same ∙ begins.spelled }))
one_first key count (b ∷ bs) rest bytes v after ne says short e begins =
    let ends = same_object 0x87 0x87 _ v rest after refl refl (sym (begins_encrypted key count rest bytes b bs short e).spelled ∙ begins.spelled) in
    let size : length rest ≡ length after = ap length ends.2 in
    (before_end bytes _ rest (length after) e size, after_before bytes _ rest (length after) e size)

pub said : (form : LeForm) (ne : ℕ) (bytes : List ℕ) → CanSay form ne → bytes ≡ le_object form ne → IsLe bytes ne
said form ne bytes says e = record { form = form; says = says; written = e }

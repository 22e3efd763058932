-- The files of the record that a chip's cells stand for.
use Rattle.std.proofs.Common.{◌≡◌, ℕ, zero, suc, ◌+◌, ◌-◌, ◌≤◌, min, List, [], ◌∷◌, length, map, take, drop, Bool, true, false, Option, Some, None, Result, Ok, Err, slice_range, refl, sym, ap, ◌∙◌, subst, arith, inl, inr}
use Rattle.std.specs.Prelude.{◌⊎◌, IfSome, IsSomeAnd, slice_index_or, unwrap_or, nat_le, nat_lt, ◌&&◌, ◌||◌, ◌==◌, not, if◌then◌else◌}
use Rattle.std.specs.Option.{option_map, option_and_then}
use Rattle.std.proofs.Math.Nat.{min_comm}
use Rattle.std.proofs.lemmas.Bool.Decides.{nat_tests}
use Rattle.std.proofs.lemmas.List.{length-drop, take_min}
use Rattle.eid_base.specs.Rules.{end_rule, offset_rule}
use Rattle.eid_cells.specs.Device.{Device}
use Rattle.eid_record.specs.Plain.{PlainRecord, FullRecord}
use Rattle.eid_files.specs.Ranges.{read_given, read_status, write_refusal}
use Rattle.eid_record.specs.Files.{file_range}
use Rattle.eid_store.specs.declared.store.Store.{Store}
use Rattle.eid_store.specs.Stands.{stands}
use Rattle.eid_store.specs.Store.{Fits, fields_of}
use Rattle.eid_store.proofs.Laws.{complete, stood_for}
use Rattle.eid_apdu.specs.Answer.{PlainReply}
use Rattle.eid_model.specs.Answers.{read_reply}
use Rattle.eid_chip.specs.Held.{held, held_file}
use Rattle.eid_chip.specs.Steps.{PlainRefusal}

-- the length of the file of this number is the length of that number
length_at : (files : List (Option (List ℕ))) (file : ℕ) → option_map (λ (b : List ℕ). length b) (slice_index_or files file None) ≡ slice_index_or (map (option_map (λ (b : List ℕ). length b)) files) file None
length_at [] file = refl
length_at (first ∷ later) zero = refl
length_at (first ∷ later) (suc file) = length_at later file

-- what is held, where the cells stand for it
pub held_is : (cells : List ℕ) (full : FullRecord) → stands cells ≡ Some full → held cells ≡ full
held_is cells full e = rw e refl

-- the cells that a store fits stand for the record held
pub held_stands : (store : Store) (device : Device) (cells : List ℕ) → Fits store device cells → stands cells ≡ Some (held cells)
held_stands store device cells fits =
    let found = stood_for store device cells fits in
    found.1 ∙ ap Some (sym (held_is cells found.0 found.1))

-- the record held has the store's fields
pub held_fields : (store : Store) (device : Device) (cells : List ℕ) → Fits store device cells → (held cells).fields ≡ fields_of store
held_fields store device cells fits =
    let found = stood_for store device cells fits in
    ap (λ (f : FullRecord). f.fields) (held_is cells found.0 found.1) ∙ found.2

-- a file has the length that the store keeps for it, at most 2,048
pub held_length : (store : Store) (device : Device) (cells : List ℕ) (file : ℕ) → length cells ≡ 65536 → Fits store device cells → (option_map (λ (b : List ℕ). length b) (held_file cells file) ≡ slice_index_or (fields_of store).lengths file None) × IfSome (slice_index_or (fields_of store).lengths file None) (λ n. n ≤ 2048)
held_length store device cells file long fits =
    let found = stood_for store device cells fits in
    let full = found.0 in
    let whole = complete cells full long found.1 in
    let same : option_map (λ (b : List ℕ). length b) (slice_index_or full.files file None) ≡ slice_index_or full.fields.lengths file None =
    length_at full.files file ∙ ap (λ (lengths : List (Option ℕ)). slice_index_or lengths file None) whole.files in
    let held_same : option_map (λ (b : List ℕ). length b) (held_file cells file) ≡ slice_index_or full.fields.lengths file None =
    ap (λ (f : FullRecord). option_map (λ (b : List ℕ). length b) (slice_index_or f.files file None)) (held_is cells full found.1) ∙ same in
    let fields : full.fields ≡ fields_of store = found.2 in (
      held_same ∙ ap (λ (r : PlainRecord). slice_index_or r.lengths file None) fields,
      subst (λ (r : PlainRecord). IfSome (slice_index_or r.lengths file None) (λ n. n ≤ 2048)) fields (whole.small file),
    )

-- bytes of a file, as the store reads them
pub held_part : (cells : List ℕ) (file offset count : ℕ) (into : List ℕ) (full : FullRecord) → stands cells ≡ Some full → option_and_then (file_range file offset count) (stands cells) ≡ Some into → into ≡ slice_range (unwrap_or (held_file cells file) []) offset (offset + count)
held_part cells file offset count into full is read =
    let of_full : option_map (λ (b : List ℕ). slice_range b offset (offset + count)) (slice_index_or full.files file None) ≡ Some into = rw is at read in
    let same : held_file cells file ≡ slice_index_or full.files file None = ap (λ (f : FullRecord). slice_index_or f.files file None) (held_is cells full is) in
    rw same (from_some (slice_index_or full.files file None) of_full)
  where
    from_some : (o : Option (List ℕ)) → option_map (λ (b : List ℕ). slice_range b offset (offset + count)) o ≡ Some into → into ≡ slice_range (unwrap_or o []) offset (offset + count)
    from_some None e = absurd cc
    from_some (Some b) e = cc

-- a range inside a held file is one inside the store's length of it
pub has_range : (o : Option (List ℕ)) (l : Option ℕ) (offset count : ℕ) → option_map (λ (b : List ℕ). length b) o ≡ l → IsSomeAnd o (λ b. offset + count ≤ length b) → IsSomeAnd l (λ n. offset + count ≤ n)
has_range None l offset count e h = absurd h
has_range (Some b) None offset count e h = absurd cc
has_range (Some b) (Some n) offset count e h = let same : length b ≡ n = cc in rw same at h

-- a file that is there, with its length
pub long_enough : (o : Option (List ℕ)) (offset left count : ℕ) → option_map (λ (b : List ℕ). length b) o ≡ Some (offset + left) → count ≤ left → IsSomeAnd o (λ b. offset + count ≤ length b)
long_enough None offset left count e le = absurd cc
long_enough (Some b) offset left count e le = let same : length b ≡ offset + left = cc in omega (arith, same, le)

take_least : (left ne : ℕ) (xs : List ℕ) → length xs ≡ left → take (min left ne) xs ≡ take ne xs
take_least left ne xs long =
    let swapped : min left ne ≡ min ne (length xs) = omega (arith, long) in
    rw swapped (take_min ne xs)

-- what is left of a file behind the offset
left_of : (o : Option (List ℕ)) (offset left : ℕ) → option_map (λ (b : List ℕ). length b) o ≡ Some (offset + left) → length (drop offset (unwrap_or o [])) ≡ left
left_of None offset left e = absurd cc
left_of (Some b) offset left e = let same : length b ≡ offset + left = cc in omega (arith, length-drop offset b, same)

abbrev reply_of : List ℕ → ℕ → PlainReply
reply_of content status = record { content = content; status = status }

same_reply : (a b : List ℕ) (m n : ℕ) → a ≡ b → m ≡ n → reply_of a m ≡ reply_of b n
same_reply a b m n p q = cc

-- the answer that has these bytes and this status is the one of the definition
pub answer_is : (o : Option (List ℕ)) (offset left ne : ℕ) (content : List ℕ) (status : ℕ) → option_map (λ (b : List ℕ). length b) o ≡ Some (offset + left) → content ≡ slice_range (unwrap_or o []) offset (offset + min left ne) → status ≡ (if nat_lt left ne && not (ne == 256 || ne == 65536) then 0x6282 else 0x9000) → record { content = content; status = status } ≡ read_reply (drop offset (unwrap_or o [])) ne
answer_is o offset left ne content status there read said =
    let long = left_of o offset left there in
    let count : (offset + min left ne) - offset ≡ min left ne = omega arith in
    let bytes : content ≡ take ne (drop offset (unwrap_or o [])) = read ∙ ap (λ (n : ℕ). take n (drop offset (unwrap_or o []))) count ∙ take_least left ne (drop offset (unwrap_or o [])) long in
    let status_is : status ≡ (if nat_lt (length (drop offset (unwrap_or o []))) ne && not (ne == 256 || ne == 65536) then 0x6282 else 0x9000) = rw long said in
    same_reply content _ status _ bytes status_is

-- ---- ranges

ok_parts : (a b x y : ℕ) → ◌≡◌ {A = Result (ℕ × ℕ) ℕ} (Ok (a, b)) (Ok (x, y)) → (a ≡ x) × (b ≡ y)
ok_parts a b x y e =
    (ap (λ (r : Result (ℕ × ℕ) ℕ). elim r [ Ok pair ↦ pair.0 | Err rule ↦ rule ]) e, ap (λ (r : Result (ℕ × ℕ) ℕ). elim r [ Ok pair ↦ pair.1 | Err rule ↦ rule ]) e)

-- the range of a reading is in the file
pub given_is : (size offset ne count status : ℕ) → Ok (count, status) ≡ read_given size offset ne → (offset ≤ size) × (count ≡ min ne (size - offset)) × (status ≡ read_status (size - offset) ne)
given_is size offset ne count status e = by (nat_lt size offset) refl e where
  by : (behind : Bool) → nat_lt size offset ≡ behind → ◌≡◌ {A = Result (ℕ × ℕ) ℕ} (Ok (count, status)) (if behind then Err offset_rule else Ok (min ne (size - offset), read_status (size - offset) ne))
      → (offset ≤ size) × (count ≡ min ne (size - offset)) × (status ≡ read_status (size - offset) ne)
  by true is so = absurd (cc)
  by false is so =
      let parts = ok_parts count status (min ne (size - offset)) (read_status (size - offset) ne) so in
      (grind (arith, nat_tests, is), parts.0, parts.1)

-- or its offset is behind the end
pub given_none : (size offset ne rule : ℕ) → Err rule ≡ read_given size offset ne → nat_le offset size ≡ false
given_none size offset ne rule e = by (nat_lt size offset) refl e where
  by : (behind : Bool) → nat_lt size offset ≡ behind → ◌≡◌ {A = Result (ℕ × ℕ) ℕ} (Err rule) (if behind then Err offset_rule else Ok (min ne (size - offset), read_status (size - offset) ne)) → nat_le offset size ≡ false
  by true is so = grind (arith, nat_tests, is)
  by false is so = absurd (cc)

-- the answer to a reading
pub range_is : (o : Option (List ℕ)) (size offset ne count : ℕ) (content : List ℕ) (status : ℕ) → option_map (λ (b : List ℕ). length b) o ≡ Some size → Ok (count, status) ≡ read_given size offset ne
    → content ≡ slice_range (unwrap_or o []) offset (offset + count) → record { content = content; status = status } ≡ read_reply (drop offset (unwrap_or o [])) ne
range_is o size offset ne count content status there given read =
    let is = given_is size offset ne count status given in
    let whole : size ≡ offset + (size - offset) = omega (arith, is.0) in
    let least : count ≡ min (size - offset) ne = is.1 ∙ min_comm ne (size - offset) in
    answer_is o offset (size - offset) ne content status (there ∙ ap (λ (n : ℕ). Some n) whole) (read ∙ ap (λ (n : ℕ). slice_range (unwrap_or o []) offset (offset + n)) least) is.2

-- what is written ends in the file
pub written_in : (size offset count : ℕ) → None ≡ write_refusal size offset count → (nat_le offset size ≡ true) × (nat_le (offset + count) size ≡ true)
written_in size offset count e = by (nat_lt size offset) (nat_lt (size - offset) count) refl refl e where
  by : (behind over : Bool) → nat_lt size offset ≡ behind → nat_lt (size - offset) count ≡ over → None ≡ (if behind then Some offset_rule else if over then Some end_rule else None)
      → (nat_le offset size ≡ true) × (nat_le (offset + count) size ≡ true)
  by true over is ends so = absurd (cc)
  by false true is ends so = absurd (cc)
  by false false is ends so = (grind (arith, nat_tests, is), grind (arith, nat_tests, is, ends))

-- or it is refused by its offset, or by its end
pub record IsBehind (size offset rule : ℕ) : Type 0 where
  pub rule_is : rule ≡ offset_rule
  pub behind : nat_le offset size ≡ false

pub record IsBeyond (size offset count rule : ℕ) : Type 0 where
  pub rule_is : rule ≡ end_rule
  pub inside : nat_le offset size ≡ true
  pub beyond : nat_le (offset + count) size ≡ false

-- a refusal by the range
pub range_refusal : (refused : PlainRefusal) (rule : ℕ) → refused ≡ record { rule = rule; status = if rule == end_rule then 0x6A84 else 0x6B00 } → (rule ≡ offset_rule → refused ≡ record { rule = 38; status = 0x6B00 }) × (rule ≡ end_rule → refused ≡ record { rule = 39; status = 0x6A84 })
range_refusal refused rule e = (λ is. e ∙ rw is refl, λ is. e ∙ rw is refl)

pub written_out : (size offset count rule : ℕ) → Some rule ≡ write_refusal size offset count → IsBehind size offset rule ⊎ IsBeyond size offset count rule
written_out size offset count rule e = by (nat_lt size offset) (nat_lt (size - offset) count) refl refl e where
  by : (behind over : Bool) → nat_lt size offset ≡ behind → nat_lt (size - offset) count ≡ over → Some rule ≡ (if behind then Some offset_rule else if over then Some end_rule else None)
      → IsBehind size offset rule ⊎ IsBeyond size offset count rule
  by true over is ends so = inl (record { rule_is = cc; behind = grind (arith, nat_tests, is) })
  by false true is ends so = inr (record { rule_is = cc; inside = grind (arith, nat_tests, is); beyond = grind (arith, nat_tests, is, ends) })
  by false false is ends so = absurd (cc)

-- The record after a commit.
use Rattle.std.proofs.Common.{◌≡◌, ℕ, ◌+◌, ◌-◌, ◌*◌, ◌≤◌, ◌&&◌, List, [], ◌∷◌, ◌++◌, length, take, drop, slice_index, replicate, Option, Some, None, Result, Ok, Err, IsTrue, refl, sym, ap, subst, ◌∙◌, arith, append_assoc, nat_le}
use Rattle.std.specs.Int.{w32, from_be_bytes}
use Rattle.std.proofs.lemmas.Bool.{leb-true, and_parts}
use Rattle.std.proofs.lemmas.List.{take_at, drop_at, take-take, take-append-drop, length-take}
use Rattle.eid_record.specs.Plain.{PlainRecord, FullRecord, PlainEffect, Spend, Refill, Unblock, SetPin, SetCan, Active, Advance, Write}
use Rattle.eid_record.specs.Reading.{record_in, ◌>>=◌, counters_in, passwords_in, date_at, trust_point_at, optional_point_at, lengths_from}
use Rattle.eid_record.specs.Valid.{IsValid, lengths_fit}
use Rattle.eid_record.specs.Effect.{CanApply, HasRange, applied, files_after, committed_fields, committed}
use Rattle.eid_record.specs.Layout.{replaced}
use Rattle.eid_record.specs.Files.{total, full_in, full_read, full_of, files_in}
use Rattle.eid_record.proofs.ReadValid.{record_in-valid}
use Rattle.eid_store.specs.declared.slot.Slot.{Slot}
use Rattle.eid_store.specs.declared.next.NewRecord.{NewRecord}
use Rattle.eid_store.specs.Slots.{other_of, room_of, number_in}
use Rattle.eid_store.specs.Cost.{page_count}
use Rattle.eid_store.specs.Pages.{change_place, change_bytes}
use Rattle.eid_store.specs.NewRecord.{IsReady, next_bytes}
use Rattle.eid_store.specs.Turn.{SameSlot, IsTurned}
use Rattle.eid_store.proofs.Rooms.{length-room}
use Rattle.eid_store.proofs.PageBytes.{old_files, new_files, length-old_files, length-new_files}
use Rattle.eid_store.proofs.FileBytes.{files_in-front, files_in-append, files_in-changed, range_inside}
use Rattle.eid_store.proofs.SlotStands.{Holds, held_by_other}

-- ---- the parts of a record that is read

bind_ok : {A B : Type 0} (r : Result A ℕ) (f : A → Result B ℕ) (y : B) → (r >>= f) ≡ Ok y → (x : A) × (r ≡ Ok x) × (f x ≡ Ok y)
bind_ok (Ok x) f y e = (x, refl, e)
bind_ok (Err place) f y e = absurd cc

abbrev done : PlainRecord → Result PlainRecord ℕ
done r = Ok r

number_of : (x y : PlainRecord) → done x ≡ done y → x.number ≡ y.number
number_of x y e = let same : x ≡ y = cc in ap (λ (r : PlainRecord). r.number) same

-- the commit number is the first four bytes
pub number_is : (w : List ℕ) (r : PlainRecord) → record_in w ≡ Ok r → from_be_bytes w32 (take 4 w) ≡ r.number
unfolding record_in
number_is w r e =
    let a = bind_ok (counters_in w) _ r e in
    let b = bind_ok (passwords_in w) _ r a.2 in
    let c = bind_ok (date_at 29 w) _ r b.2 in
    let d = bind_ok (trust_point_at 64 w) _ r c.2 in
    let f = bind_ok (optional_point_at 192 w) _ r d.2 in
    let g = bind_ok (lengths_from 23 384 0 w) _ r f.2 in
    number_of _ r g.2

parts_of : (r : Result PlainRecord ℕ) (bytes : List ℕ) (full : FullRecord) → full_read r bytes ≡ Some full → (r ≡ Ok full.fields) × (full.files ≡ files_in full.fields.lengths bytes)
parts_of (Ok fields) bytes full e =
    let same : full_of fields bytes ≡ full = cc in
    (ap (λ (x : FullRecord). Ok x.fields) same, subst (λ (x : FullRecord). x.files ≡ files_in x.fields.lengths bytes) same refl)
parts_of (Err place) bytes full e = absurd cc

pub full_parts : (room : List ℕ) (full : FullRecord) → full_in room ≡ Some full → (record_in (take 448 room) ≡ Ok full.fields) × (full.files ≡ files_in full.fields.lengths (drop 448 room))
unfolding full_in
full_parts room full e = parts_of (record_in (take 448 room)) (drop 448 room) full e

pub number_in-is : (slot : Slot) (cells : List ℕ) (full : FullRecord) → full_in (room_of slot cells) ≡ Some full → number_in slot cells ≡ full.fields.number
number_in-is slot cells full e =
    let parts = full_parts (room_of slot cells) full e in
    ap (from_be_bytes w32) (sym (take-take 4 448 (room_of slot cells) (omega arith))) ∙ number_is (take 448 (room_of slot cells)) full.fields parts.0

pub valid_fields : (slot : Slot) (cells : List ℕ) (full : FullRecord) → length cells ≡ 65536 → full_in (room_of slot cells) ≡ Some full → IsValid full.fields
valid_fields slot cells full long e =
    let parts = full_parts (room_of slot cells) full e in
    record_in-valid (take 448 (room_of slot cells)) full.fields (omega (arith, length-take 448 (room_of slot cells), length-room slot cells long)) parts.0

pub total-fits : (sum : ℕ) (lengths : List (Option ℕ)) → sum ≤ 24000 → IsTrue (lengths_fit sum lengths) → sum + total lengths ≤ 24000
total-fits sum [] le fits = omega (arith, le)
total-fits sum (None ∷ lengths) le fits = omega (arith, total-fits sum lengths le fits)
total-fits sum (Some n ∷ lengths) le fits =
    let both = and_parts (nat_le n 2048 && nat_le (sum + n) 24000) (lengths_fit (sum + n) lengths) fits in
    let each = and_parts (nat_le n 2048) (nat_le (sum + n) 24000) both.0 in
    omega (arith, total-fits (sum + n) lengths (leb-true (sum + n) 24000 each.1) both.1)

-- ---- what an effect leaves

pub applied-lengths : (effect : PlainEffect) (r : PlainRecord) → (applied effect r).lengths ≡ r.lengths
applied-lengths Spend r = refl
applied-lengths Refill r = refl
applied-lengths (Unblock by_puk) r = refl
applied-lengths (SetPin pin) r = refl
applied-lengths (SetCan can) r = refl
applied-lengths (Active active) r = refl
applied-lengths (Advance date now before) r = refl
applied-lengths (Write file offset bytes) r = refl

pub applied-number : (effect : PlainEffect) (r : PlainRecord) → (applied effect r).number ≡ r.number
applied-number Spend r = refl
applied-number Refill r = refl
applied-number (Unblock by_puk) r = refl
applied-number (SetPin pin) r = refl
applied-number (SetCan can) r = refl
applied-number (Active active) r = refl
applied-number (Advance date now before) r = refl
applied-number (Write file offset bytes) r = refl

pub change-inside : (effect : PlainEffect) (r : PlainRecord) → CanApply effect r → change_place effect r.lengths + length (change_bytes effect) ≤ total r.lengths
change-inside Spend r can = omega arith
change-inside Refill r can = omega arith
change-inside (Unblock by_puk) r can = omega arith
change-inside (SetPin pin) r can = omega arith
change-inside (SetCan can_digits) r can = omega arith
change-inside (Active active) r can = omega arith
change-inside (Advance date now before) r can = omega arith
change-inside (Write file offset bytes) r can = range_inside r.lengths file offset (length bytes) can

pub write_range : (effect : PlainEffect) (r : PlainRecord) → CanApply effect r → (file offset : ℕ) (bytes : List ℕ) → effect ≡ Write file offset bytes → HasRange r.lengths file offset (length bytes)
write_range effect r can file offset bytes is = subst (λ (e : PlainEffect). CanApply e r) is can

-- ---- the room of the other slot after the turn

-- fixed bytes, files and anything behind them
pub full_written : (fixed files more : List ℕ) (fields : PlainRecord) → length fixed ≡ 448 → record_in fixed ≡ Ok fields → length files ≡ total fields.lengths
    → full_in ((fixed ++ files) ++ more) ≡ Some (full_of fields files)
unfolding full_in
full_written fixed files more fields long read size_is =
    let regroup : (fixed ++ files) ++ more ≡ fixed ++ (files ++ more) = append_assoc fixed files more in
    let front : take 448 ((fixed ++ files) ++ more) ≡ fixed = ap (take 448) regroup ∙ take_at fixed (files ++ more) 448 long in
    let rest : drop 448 ((fixed ++ files) ++ more) ≡ files ++ more = ap (drop 448) regroup ∙ drop_at fixed (files ++ more) 448 long in
    ap (λ (w : List ℕ). full_read (record_in w) (drop 448 ((fixed ++ files) ++ more))) front
    ∙ ap (λ (r : Result PlainRecord ℕ). full_read r (drop 448 ((fixed ++ files) ++ more))) read
    ∙ ap (λ (b : List ℕ). Some (full_of fields b)) rest
    ∙ ap (λ (fs : List (Option (List ℕ))). Some (record { fields = fields; files = fs })) (files_in-append fields.lengths files more size_is)

-- what the new record is made of
pub record IsNextOf (effect : PlainEffect) (fields : PlainRecord) (next : NewRecord) : Type 0 where
  pub can : CanApply effect fields
  pub fixed : record_in next.fixed.now ≡ Ok (committed_fields effect fields)
  pub size : next.size ≡ total fields.lengths
  pub place : next.change_at ≡ change_place effect fields.lengths
  pub bytes : next.change.now ≡ change_bytes effect

pub turned_full : (slot : Slot) (effect : PlainEffect) (full : FullRecord) (next : NewRecord) (old new : List ℕ) → length old ≡ 65536
    → full_in (room_of slot old) ≡ Some full → IsReady next → IsNextOf effect full.fields next → IsTurned slot next old new
    → full_in (room_of (other_of slot) new) ≡ Some (committed effect full)
turned_full slot effect full next old new long record_is ready is turned =
    let room = room_of slot old in
    let other = room_of (other_of slot) new in
    let lengths = full.fields.lengths in
    let fields = committed_fields effect full.fields in
    let files = new_files next room in
    let stood = old_files next room in
    let n = 64 * page_count next.size in
    let zeros : List ℕ = replicate (n - length (next_bytes next room)) 0 in
    let parts = full_parts room full record_is in
    let room_long = length-room slot old long in
    let same_lengths : fields.lengths ≡ lengths = applied-lengths effect full.fields in
    let whole : other ≡ (next.fixed.now ++ files) ++ (zeros ++ drop n other) =
    sym (take-append-drop n other) ∙ ap (λ (t : List ℕ). t ++ drop n other) turned.written ∙ append_assoc (next.fixed.now ++ files) zeros (drop n other) in
    let files_long : length files ≡ total fields.lengths = length-new_files next room ready room_long ∙ is.size ∙ ap total (sym same_lengths) in
    let stood_long : total lengths ≤ length stood = omega (arith, length-old_files next room ready room_long, is.size) in
    let as_stood : files_in lengths stood ≡ full.files =
    files_in-front lengths ((448 + next.size) - 448) (drop 448 room) (omega (arith, is.size)) ∙ sym parts.1 in
    let as_changed : files_in fields.lengths files ≡ files_after effect full.files =
    ap (λ (ns : List (Option ℕ)). files_in ns files) same_lengths
    ∙ ap (λ (k : ℕ). files_in lengths (replaced k next.change.now stood)) is.place
    ∙ ap (λ (b : List ℕ). files_in lengths (replaced (change_place effect lengths) b stood)) is.bytes
    ∙ files_in-changed effect lengths stood (write_range effect full.fields is.can) stood_long
    ∙ ap (files_after effect) as_stood in
    ap full_in whole ∙ full_written next.fixed.now files (zeros ++ drop n other) fields ready.fixed is.fixed files_long
    ∙ ap (λ (fs : List (Option (List ℕ))). Some (record { fields = fields; files = fs })) as_changed

-- ---- the cells after a commit

pub after_turn : (slot : Slot) (effect : PlainEffect) (full : FullRecord) (next : NewRecord) (old new : List ℕ) → length old ≡ 65536
    → Holds slot full old → IsReady next → IsNextOf effect full.fields next → SameSlot slot old new → slice_index new 0 ≡ slice_index old 0 → IsTurned slot next old new
    → Holds (other_of slot) (committed effect full) new
after_turn slot effect full next old new long holds ready is same layout turned =
    let written = turned_full slot effect full next old new long holds.record_is ready is turned in
    let before : number_in slot new ≡ full.fields.number = ap (λ (r : List ℕ). from_be_bytes w32 (take 4 r)) same.room ∙ number_in-is slot old full holds.record_is in
    let after : number_in (other_of slot) new ≡ full.fields.number + 1 = number_in-is (other_of slot) new (committed effect full) written in
    held_by_other slot full (committed effect full) old new holds layout same turned.opened (omega (arith, before, after)) written

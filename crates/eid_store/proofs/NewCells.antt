-- What new cells stand for.
use Rattle.std.proofs.Common.{◌≡◌, ℕ, ◌+◌, ◌-◌, ◌≤◌, ◌<◌, true, false, eqb, List, [], ◌∷◌, ◌++◌, length, take, drop, get_or, replicate, slice_index, Some, Ok, refl, sym, ap, ◌∙◌, arith, length-append, take-append-drop}
use Rattle.std.proofs.lemmas.List.{length-take, length-replicate, get_or-replicate, get_or-append_right, get_or_append_left}
use Rattle.eid_cells.specs.Cells.{patched, SameOutside}
use Rattle.eid_cells.proofs.Ranges.{length-patched, same_outside-patched, same_outside_wider, patched-patched, cell_before, cell_behind}
use Rattle.eid_record.specs.Files.{total, full_of}
use Rattle.eid_record.specs.Plain.{PlainRecord}
use Rattle.eid_record.specs.Reading.{record_in}
use Rattle.eid_record.specs.Valid.{IsValid}
use Rattle.eid_store.specs.declared.slot.Slot.TheVariants.{A, B}
use Rattle.eid_store.specs.NewCells.{with_record, blank, new_cells}
use Rattle.eid_store.specs.Slots.{is_open, room_of}
use Rattle.eid_store.specs.Stands.{two_slot_stands, stands}
use Rattle.eid_store.proofs.Committed.{total-fits}
use Rattle.eid_store.proofs.Fitting.{first_slot_stands}
use Rattle.eid_store.proofs.Turning.{room_written}

pub files-fit : (fields : PlainRecord) (files : List ℕ) → IsValid fields → length files ≡ total fields.lengths → length files ≤ 24000
files-fit fields files valid long = omega (arith, long, total-fits 0 fields.lengths (omega arith) valid.lengths)

-- a record that is put in two parts
pub record_laid : (fixed files mid third last : List ℕ) → length fixed ≡ 448 → 576 + length files ≤ length mid → third ≡ patched 128 fixed mid → last ≡ patched 576 files third
    → last ≡ patched 128 (fixed ++ files) mid
record_laid fixed files mid third last long fits first second =
    let place : 576 ≡ 128 + length fixed = omega (arith, long) in
    second ∙ ap (patched 576 files) first ∙ ap (λ (n : ℕ). patched n files (patched 128 fixed mid)) place
    ∙ patched-patched 128 fixed files mid (omega (arith, long, fits))

-- a cell that was written is read
written_cell : (place b : ℕ) (cells : List ℕ) → place < length cells → slice_index (patched place (b ∷ []) cells) place ≡ b
written_cell place b cells inside =
    let front = take place cells in
    let front_long : length front ≡ place = omega (arith, length-take place cells, inside) in
    let none : place - place ≡ 0 = omega arith in
    get_or_append_left (front ++ b ∷ []) (drop (place + 1) cells) 0 place (omega (arith, front_long, length-append front (b ∷ [])))
    ∙ get_or-append_right front (b ∷ []) place place 0 front_long (omega arith)
    ∙ ap (λ (k : ℕ). get_or (b ∷ []) k 0) none

-- the room of a slot that was written begins with the record
room_split : (bytes room : List ℕ) (n : ℕ) → take n room ≡ bytes → room ≡ bytes ++ drop n room
room_split bytes room n begins = sym (take-append-drop n room) ∙ ap (λ (front : List ℕ). front ++ drop n room) begins

-- what stands in cells whose gate of slot B is closed, once they have a record
stands-with : (fields : PlainRecord) (fixed files blank : List ℕ) → length blank ≡ 65536 → slice_index blank 24576 ≡ 0 → length files ≤ 24000 → length files ≡ total fields.lengths
    → length fixed ≡ 448 → record_in fixed ≡ Ok fields → two_slot_stands (with_record 1 (fixed ++ files) blank) ≡ Some (full_of fields files)
stands-with fields fixed files blank long closed fits size fixed_long again =
    let bytes = fixed ++ files in
    let first = patched 0 (1 ∷ []) blank in
    let second = patched 64 (165 ∷ []) first in
    let last = patched 128 bytes second in
    let bytes_long : length bytes ≡ 448 + length files = omega (arith, fixed_long, length-append fixed files) in
    let first_long : length first ≡ 65536 = length-patched 0 (1 ∷ []) blank (omega (arith, long)) ∙ long in
    let second_long : length second ≡ 65536 = length-patched 64 (165 ∷ []) first (omega (arith, first_long)) ∙ first_long in
    let by_layout : SameOutside 0 1 blank first = same_outside-patched 0 1 (1 ∷ []) blank refl (omega (arith, long)) in
    let by_gate : SameOutside 64 1 first second = same_outside-patched 64 1 (165 ∷ []) first refl (omega (arith, first_long)) in
    let by_record : SameOutside 128 24448 second last =
    same_outside_wider 128 (length bytes) 128 24448 second last (omega arith) (omega (arith, bytes_long, fits))
    (same_outside-patched 128 (length bytes) bytes second refl (omega (arith, bytes_long, fits, second_long))) in
    let layout : slice_index last 0 ≡ 1 =
    cell_before 128 24448 0 second last (omega arith) by_record ∙ cell_before 64 1 0 first second (omega arith) by_gate
    ∙ written_cell 0 1 blank (omega (arith, long)) in
    let gate : slice_index last 64 ≡ 165 = cell_before 128 24448 64 second last (omega arith) by_record ∙ written_cell 64 165 first (omega (arith, first_long)) in
    let other : slice_index last 24576 ≡ 0 =
    cell_behind 128 24448 24576 second last (omega arith) by_record ∙ cell_behind 64 1 24576 first second (omega arith) by_gate
    ∙ cell_behind 0 1 24576 blank first (omega arith) by_layout ∙ closed in
    let open_a : is_open A last ≡ true = ap (λ (b : ℕ). eqb b 165) gate in
    let closed_b : is_open B last ≡ false = ap (λ (b : ℕ). eqb b 165) other in
    let room = room_of A last in
    first_slot_stands last fixed files (drop (length bytes) room) fields layout open_a closed_b
    (room_split bytes room (length bytes) (room_written A bytes second second_long (omega (arith, bytes_long, fits)))) fixed_long again size

-- the same of new cells
blank_closed : (n : ℕ) (cells : List ℕ) → n ≡ 65536 → cells ≡ replicate n 0 → (length cells ≡ 65536) × (slice_index cells 24576 ≡ 0)
blank_closed n cells is zeros =
    (ap length zeros ∙ length-replicate n 0 ∙ is, ap (λ (t : List ℕ). slice_index t 24576) zeros ∙ get_or-replicate n 24576 0 0 (omega (arith, is)))

pub length-blank : length blank ≡ 65536
unfolding blank
length-blank = (blank_closed 65536 blank refl refl).0

closed-blank : slice_index blank 24576 ≡ 0
unfolding blank
closed-blank = (blank_closed 65536 blank refl refl).1

pub stands-new : (fields : PlainRecord) (fixed files : List ℕ) → length files ≤ 24000 → length files ≡ total fields.lengths
    → length fixed ≡ 448 → record_in fixed ≡ Ok fields → stands (new_cells 1 (fixed ++ files)) ≡ Some (full_of fields files)
unfolding stands new_cells
stands-new fields fixed files fits size fixed_long again = stands-with fields fixed files blank length-blank closed-blank fits size fixed_long again

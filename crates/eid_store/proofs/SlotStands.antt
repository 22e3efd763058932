-- What cells of two slots stand for, before and after a slot was written.
use Rattle.std.proofs.Common.{◌≡◌, ℕ, ◌<◌, Bool, true, false, eqb, List, take, slice_index, Some, refl, ap, ◌∙◌, arith, eq-eqb}
use Rattle.std.specs.Prelude.{nat_lt}
use Rattle.std.specs.Int.{w32, from_be_bytes}
use Rattle.std.proofs.lemmas.Bool.{lt-ltb, le-ltb}
use Rattle.eid_cells.specs.Cells.{SameOutside}
use Rattle.eid_cells.proofs.Ranges.{cell_before, cell_behind, range_before, range_behind}
use Rattle.eid_record.specs.Plain.{FullRecord}
use Rattle.eid_record.specs.Files.{full_in}
use Rattle.eid_store.specs.declared.slot.Slot.{Slot}
use Rattle.eid_store.specs.declared.slot.Slot.TheVariants.{A, B}
use Rattle.eid_store.specs.Slots.{gate_of, record_of, other_of, is_open, room_of, number_in, chosen, current}
use Rattle.eid_store.specs.Stands.{two_slot_stands}
use Rattle.eid_store.specs.Turn.{SameSlot}
use Rattle.eid_store.proofs.Writes.{room_apart}

-- this slot counts, and its record is this one
pub record Holds (slot : Slot) (full : FullRecord) (cells : List ℕ) : Type 0 where
  pub layout : slice_index cells 0 ≡ 1
  pub counts : current cells ≡ Some slot
  pub record_is : full_in (room_of slot cells) ≡ Some full

pub stands_where_held : (slot : Slot) (full : FullRecord) (cells : List ℕ) → Holds slot full cells → two_slot_stands cells ≡ Some full
unfolding two_slot_stands
stands_where_held slot full cells holds =
    let layout : eqb (slice_index cells 0) 1 ≡ true = eq-eqb (slice_index cells 0) 1 holds.layout in
    rw (layout, holds.counts) holds.record_is

-- the slot that was chosen is open
chosen_first : (b c : Bool) (m n : ℕ) → chosen b c m n ≡ Some A → b ≡ true
chosen_first true c m n e = refl
chosen_first false true m n e = absurd cc
chosen_first false false m n e = absurd cc

chosen_second : (b c : Bool) (m n : ℕ) → chosen b c m n ≡ Some B → c ≡ true
chosen_second b true m n e = refl
chosen_second true false m n e = absurd cc
chosen_second false false m n e = absurd cc

pub open_where_current : (slot : Slot) (cells : List ℕ) → current cells ≡ Some slot → is_open slot cells ≡ true
open_where_current A cells e = chosen_first (is_open A cells) (is_open B cells) (number_in A cells) (number_in B cells) e
open_where_current B cells e = chosen_second (is_open A cells) (is_open B cells) (number_in A cells) (number_in B cells) e

-- an open slot counts where the other is closed
current_alone : (slot : Slot) (cells : List ℕ) → is_open slot cells ≡ true → is_open (other_of slot) cells ≡ false → current cells ≡ Some slot
current_alone A cells one other = rw (one, other) refl
current_alone B cells one other = rw (other, one) refl

-- and where the other's number is smaller
current_greater : (slot : Slot) (cells : List ℕ) → is_open slot cells ≡ true → is_open (other_of slot) cells ≡ true → number_in (other_of slot) cells < number_in slot cells → current cells ≡ Some slot
current_greater A cells one other lt =
    let greater : nat_lt (number_in B cells) (number_in A cells) ≡ true = lt-ltb (number_in B cells) (number_in A cells) lt in
    rw (one, other, greater) refl
current_greater B cells one other lt =
    let not_less : nat_lt (number_in B cells) (number_in A cells) ≡ false = le-ltb (number_in B cells) (number_in A cells) (omega (arith, lt)) in
    let greater : nat_lt (number_in A cells) (number_in B cells) ≡ true = lt-ltb (number_in A cells) (number_in B cells) lt in
    rw (one, other, not_less, greater) refl

-- the current slot stays, and the other is closed
pub held_alone : (slot : Slot) (full : FullRecord) (old new : List ℕ) → Holds slot full old → slice_index new 0 ≡ slice_index old 0 → SameSlot slot old new
    → is_open (other_of slot) new ≡ false → Holds slot full new
held_alone slot full old new holds layout same closed = record {
  layout = layout ∙ holds.layout;
  counts = current_alone slot new (same.gate ∙ open_where_current slot old holds.counts) closed;
  record_is = ap full_in same.room ∙ holds.record_is;
}

same_chosen : (a b c d : Bool) (m n x y : List ℕ) → a ≡ b → c ≡ d → m ≡ n → x ≡ y
    → chosen a c (from_be_bytes w32 (take 4 m)) (from_be_bytes w32 (take 4 x)) ≡ chosen b d (from_be_bytes w32 (take 4 n)) (from_be_bytes w32 (take 4 y))
same_chosen a b c d m n x y first second third fourth =
    ap (λ (t : Bool). chosen t c (from_be_bytes w32 (take 4 m)) (from_be_bytes w32 (take 4 x))) first
    ∙ ap (λ (t : Bool). chosen b t (from_be_bytes w32 (take 4 m)) (from_be_bytes w32 (take 4 x))) second
    ∙ ap (λ (t : List ℕ). chosen b d (from_be_bytes w32 (take 4 t)) (from_be_bytes w32 (take 4 x))) third
    ∙ ap (λ (t : List ℕ). chosen b d (from_be_bytes w32 (take 4 n)) (from_be_bytes w32 (take 4 t))) fourth

current_still : (slot : Slot) (old new : List ℕ) → SameSlot slot old new → SameSlot (other_of slot) old new → current new ≡ current old
current_still A old new same other =
    same_chosen (is_open A new) (is_open A old) (is_open B new) (is_open B old) (room_of A new) (room_of A old) (room_of B new) (room_of B old) same.gate other.gate same.room other.room
current_still B old new same other =
    same_chosen (is_open A new) (is_open A old) (is_open B new) (is_open B old) (room_of A new) (room_of A old) (room_of B new) (room_of B old) other.gate same.gate other.room same.room

-- both slots stay
pub held_still : (slot : Slot) (full : FullRecord) (old new : List ℕ) → Holds slot full old → slice_index new 0 ≡ slice_index old 0 → SameSlot slot old new
    → SameSlot (other_of slot) old new → Holds slot full new
held_still slot full old new holds layout same other = record {
  layout = layout ∙ holds.layout;
  counts = current_still slot old new same other ∙ holds.counts;
  record_is = ap full_in same.room ∙ holds.record_is;
}

-- the other slot takes over
pub held_by_other : (slot : Slot) (full next : FullRecord) (old new : List ℕ) → Holds slot full old → slice_index new 0 ≡ slice_index old 0 → SameSlot slot old new
    → is_open (other_of slot) new ≡ true → number_in slot new < number_in (other_of slot) new → full_in (room_of (other_of slot) new) ≡ Some next → Holds (other_of slot) next new
held_by_other A full next old new holds layout same opened less record_is = record {
  layout = layout ∙ holds.layout;
  counts = current_greater B new opened (same.gate ∙ open_where_current A old holds.counts) less;
  record_is = record_is;
}
held_by_other B full next old new holds layout same opened less record_is = record {
  layout = layout ∙ holds.layout;
  counts = current_greater A new opened (same.gate ∙ open_where_current B old holds.counts) less;
  record_is = record_is;
}

-- ---- what changes of a slot leave

pub gate_apart : (slot : Slot) (old new : List ℕ) → SameOutside (gate_of (other_of slot)) 1 old new → SameSlot slot old new
unfolding room_of
gate_apart A old new same = record {
  gate = ap (λ (b : ℕ). eqb b 165) (cell_before 24576 1 64 old new (omega arith) same);
  room = range_before 24576 1 128 24576 old new (omega arith) same;
}
gate_apart B old new same = record {
  gate = ap (λ (b : ℕ). eqb b 165) (cell_behind 64 1 24576 old new (omega arith) same);
  room = range_behind 64 1 24640 49088 old new (omega arith) same;
}

pub pages_apart : (slot : Slot) (old new : List ℕ) → SameOutside (record_of (other_of slot)) 24448 old new → SameSlot slot old new
pages_apart A old new same = record {
  gate = ap (λ (b : ℕ). eqb b 165) (cell_before 24640 24448 64 old new (omega arith) same);
  room = room_apart A old new same;
}
pages_apart B old new same = record {
  gate = ap (λ (b : ℕ). eqb b 165) (cell_behind 128 24448 24576 old new (omega arith) same);
  room = room_apart B old new same;
}

-- the gate of a slot stays where its room is written, and its room where its gate is
pub gate_stays : (slot : Slot) (old new : List ℕ) → SameOutside (record_of slot) 24448 old new → is_open slot new ≡ is_open slot old
gate_stays A old new same = ap (λ (b : ℕ). eqb b 165) (cell_before 128 24448 64 old new (omega arith) same)
gate_stays B old new same = ap (λ (b : ℕ). eqb b 165) (cell_before 24640 24448 24576 old new (omega arith) same)

pub room_stays : (slot : Slot) (old new : List ℕ) → SameOutside (gate_of slot) 1 old new → room_of slot new ≡ room_of slot old
unfolding room_of
room_stays A old new same = range_behind 64 1 128 24576 old new (omega arith) same
room_stays B old new same = range_behind 24576 1 24640 49088 old new (omega arith) same

pub layout_by_gate : (slot : Slot) (old new : List ℕ) → SameOutside (gate_of slot) 1 old new → slice_index new 0 ≡ slice_index old 0
layout_by_gate A old new same = cell_before 64 1 0 old new (omega arith) same
layout_by_gate B old new same = cell_before 24576 1 0 old new (omega arith) same

pub layout_by_pages : (slot : Slot) (old new : List ℕ) → SameOutside (record_of slot) 24448 old new → slice_index new 0 ≡ slice_index old 0
layout_by_pages A old new same = cell_before 128 24448 0 old new (omega arith) same
layout_by_pages B old new same = cell_before 24640 24448 0 old new (omega arith) same

pub same_slot_trans : (slot : Slot) (a b c : List ℕ) → SameSlot slot a b → SameSlot slot b c → SameSlot slot a c
same_slot_trans slot a b c first second = record { gate = second.gate ∙ first.gate; room = second.room ∙ first.room }

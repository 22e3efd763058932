-- The full record that cells stand for, if any.
use Rattle.std.specs.Prelude.{ℕ, List, Option, Some, None, ◌==◌, if◌then◌else◌}
use Rattle.eid_record.specs.Plain.{FullRecord}
use Rattle.eid_record.specs.Files.{full_in}
use Rattle.eid_store.specs.declared.slot.Slot.{Slot}
use Rattle.eid_store.specs.Layouts.{two_slot_layout, layout_of}
use Rattle.eid_store.specs.Slots.{room_of, current}

-- the record of that slot
abbrev pub record_in_slot : Option Slot → List ℕ → Option FullRecord
record_in_slot None cells = None
record_in_slot (Some slot) cells = full_in (room_of slot cells)

-- layout 1: the cells name it, and the current slot has a valid record
unfoldable pub two_slot_stands : List ℕ → Option FullRecord
two_slot_stands cells = if layout_of cells == two_slot_layout then record_in_slot (current cells) cells else None

-- the cells name their layout, of which there is one
unfoldable pub stands : List ℕ → Option FullRecord
stands cells = two_slot_stands cells

-- Layout 1: two slots in the cells, each a gate and a room for a record (this project's own).
use Rattle.std.specs.Prelude.{ℕ, ◌+◌, Bool, true, false, List, take, Option, Some, None, ◌==◌, nat_lt, slice_index, slice_range, if◌then◌else◌}
use Rattle.std.specs.Int.{w32, from_be_bytes}
use Rattle.eid_store.specs.declared.slot.Slot.{Slot}
use Rattle.eid_store.specs.declared.slot.Slot.TheVariants.{A, B}

-- the cell of the slot's gate
abbrev pub gate_of : Slot → ℕ
gate_of A = 64
gate_of B = 24576

-- a gate of this value is open, of each other value closed
abbrev pub open_gate : ℕ
open_gate = 0xA5

-- the first cell of the slot's record
abbrev pub record_of : Slot → ℕ
record_of A = 128
record_of B = 24640

-- the cells that a slot has for its record
abbrev pub room : ℕ
room = 24448

abbrev pub other_of : Slot → Slot
other_of A = B
other_of B = A

-- the slot's gate is open
abbrev pub is_open : Slot → List ℕ → Bool
is_open slot cells = slice_index cells (gate_of slot) == open_gate

-- the cells of the slot's record
unfoldable pub room_of : Slot → List ℕ → List ℕ
room_of slot cells = slice_range cells (record_of slot) (record_of slot + room)

-- the commit number that the slot's record begins with
abbrev pub number_in : Slot → List ℕ → ℕ
number_in slot cells = from_be_bytes w32 (take 4 (room_of slot cells))

-- of two slots that may be open and have these numbers, the current one: of two open ones that of the greater number
abbrev pub chosen : Bool → Bool → ℕ → ℕ → Option Slot
chosen false false a b = None
chosen true false a b = Some A
chosen false true a b = Some B
chosen true true a b = if nat_lt b a then Some A else if nat_lt a b then Some B else None

-- the current slot, whose record counts
abbrev pub current : List ℕ → Option Slot
current cells = chosen (is_open A cells) (is_open B cells) (number_in A cells) (number_in B cells)

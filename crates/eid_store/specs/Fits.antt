-- When a store of two slots fits cells.
use Rattle.std.specs.Prelude.{◌≡◌, List, ℕ, Some, IsTrue, IsSomeAnd}
use Rattle.eid_cells.specs.Device.{Device}
use Rattle.eid_record.specs.Files.{total}
use Rattle.eid_record.specs.Plain.{PlainRecord, PlainEffect}
use Rattle.eid_record.specs.View.{record_view}
use Rattle.eid_store.specs.declared.two_slot.TwoSlot.{TwoSlot}
use Rattle.eid_store.specs.Slots.{current}
use Rattle.eid_store.specs.Stands.{two_slot_stands}
use Rattle.eid_store.specs.Cost.{turn_cost}

-- the fields that the store keeps
abbrev pub two_slot_fields : TwoSlot → PlainRecord
two_slot_fields store = record_view store.kept

-- there is power, the cells stand for a record with the store's fields, and the store's slot is the one that counts
pub record TwoSlotFits (store : TwoSlot) (device : Device) (cells : List ℕ) : Type 0 where
  pub power : IsTrue device.has_power
  pub stands : IsSomeAnd (two_slot_stands cells) (λ full. full.fields ≡ two_slot_fields store)
  pub slot : current cells ≡ Some store.slot

-- The writes of a commit: one for each page of the record, one that opens the gate, and one before them where that gate
-- is open and has to be closed.
abbrev pub commit_writes : TwoSlot → List ℕ → PlainEffect → ℕ
commit_writes store cells effect = turn_cost store.slot (total (two_slot_fields store).lengths) cells

-- When a store fits cells, whatever their layout, and what its calls cost.
use Rattle.std.specs.Prelude.{ℕ, List}
use Rattle.eid_cells.specs.Device.{Device}
use Rattle.eid_record.specs.Plain.{PlainRecord, PlainEffect}
use Rattle.eid_store.specs.declared.store.Store.{Store}
use Rattle.eid_store.specs.declared.store.Store.TheVariants.{Slots}
use Rattle.eid_store.specs.Fits.{two_slot_fields, TwoSlotFits, commit_writes}

-- the fields that the store keeps
unfoldable pub fields_of : Store → PlainRecord
fields_of (Slots slots) = two_slot_fields slots

-- there is power, the cells stand for a full record of the store's fields, and the place that the store keeps is the one
-- that their layout reads
unfoldable pub Fits : Store → Device → List ℕ → Type 0
Fits (Slots slots) device cells = TwoSlotFits slots device cells

-- the writes of mounting these cells: layout 1 needs none
unfoldable pub mount_cost : List ℕ → ℕ
mount_cost cells = 0

-- the writes of a commit of the effect to these cells
unfoldable pub commit_cost : Store → List ℕ → PlainEffect → ℕ
commit_cost (Slots slots) cells effect = commit_writes slots cells effect

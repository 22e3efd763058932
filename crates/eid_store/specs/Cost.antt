-- What writes do to a device that may cut them.
use Rattle.std.specs.Prelude.{◌≡◌, ℕ, ◌+◌, ◌-◌, ◌/◌, ◌≤◌, ◌↔◌, Bool, List, Result, IsTrue, IsErr, OnOk, OnErr, if◌then◌else◌}
use Rattle.eid_cells.specs.Device.{Device, WasCut}
use Rattle.eid_store.specs.declared.slot.Slot.{Slot}
use Rattle.eid_store.specs.Slots.{other_of, is_open}

-- after so many writes that were not cut: a plan is as many writes nearer, and none stays none
abbrev pub written_times : ℕ → Device → Device
written_times writes device = record device { planned = device.planned - writes }

-- So many writes, of which one may be cut: without a cut the count of cuts stays and a plan is as many writes nearer;
-- with one the count rose. A device that tells its plan cuts exactly where the plan names one of these writes.
pub record Costs {T E : Type 0} (writes : ℕ) (old new : Device) (result : Result T E) : Type 0 where
  pub steady : OnOk result (new ≡ written_times writes old)
  pub cut : OnErr result (WasCut old new)
  pub as_planned : IsTrue old.told → (IsErr result ↔ ((1 ≤ old.planned) × (old.planned ≤ writes)))

abbrev pub once : Bool → ℕ
once b = if b then 1 else 0

-- the pages of a record whose files have so many bytes
abbrev pub page_count : ℕ → ℕ
page_count size = (448 + size + 63) / 64

-- the writes of a commit from this slot to the other, where the files have so many bytes: the pages, the gate, and before
-- them the gate where it has to be closed
abbrev pub turn_cost : Slot → ℕ → List ℕ → ℕ
turn_cost slot size cells = once (is_open (other_of slot) cells) + page_count size + 1

-- Inside: cited by private contracts alone.
-- What turning from one slot to the other leaves.
use Rattle.std.specs.Prelude.{◌≡◌, ℕ, ◌*◌, true, false, List, take}
use Rattle.eid_store.specs.declared.slot.Slot.{Slot}
use Rattle.eid_store.specs.declared.next.NewRecord.{NewRecord}
use Rattle.eid_store.specs.Slots.{other_of, is_open, room_of}
use Rattle.eid_store.specs.Pages.{filled}
use Rattle.eid_store.specs.NewRecord.{next_bytes}
use Rattle.eid_store.specs.Cost.{page_count}

-- a slot is as it was
pub record SameSlot (slot : Slot) (old new : List ℕ) : Type 0 where
  pub gate : is_open slot new ≡ is_open slot old
  pub room : room_of slot new ≡ room_of slot old

-- the other slot is open and begins with the pages of the new record
pub record IsTurned (slot : Slot) (next : NewRecord) (old new : List ℕ) : Type 0 where
  pub opened : is_open (other_of slot) new ≡ true
  pub written : take (64 * page_count next.size) (room_of (other_of slot) new) ≡ filled (page_count next.size) (next_bytes next (room_of slot old))

-- After a cut the other slot is as it was, closed, or turned to.
pub data WasTurning (slot : Slot) (next : NewRecord) (old new : List ℕ) : Type 0 where
  Before : SameSlot (other_of slot) old new → WasTurning slot next old new
  Closed : is_open (other_of slot) new ≡ false → WasTurning slot next old new
  Turned : IsTurned slot next old new → WasTurning slot next old new

use Rattle.std.proofs.Common.{◌≡◌, ℕ, ◌*◌, ◌<◌, List, take, IsTrue}
use Rattle.eid_cells.specs.Cells.{patched}
use Rattle.eid_cells.specs.Device.{Device}
use Rattle.eid_store.specs.declared.slot.Slot.{Slot}
use Rattle.eid_store.specs.declared.next.NewRecord.{NewRecord}
use Rattle.eid_store.specs.Cost.{written_times, page_count}
use Rattle.eid_store.specs.Pages.{filled}
use Rattle.eid_store.specs.NewRecord.{next_bytes}
use Rattle.eid_store.specs.Slots.{record_of, other_of, room_of}
use Rattle.eid_store.proofs.pages.write_pages.Given as goal

-- after this many pages, none of which was cut
pub record SoFar (source : Slot) (next : NewRecord) (first cells : List ℕ) (old device : Device) (count : ℕ) : Type 0 where
  pub written : cells ≡ patched (record_of (other_of source)) (take (64 * count) (filled (page_count next.size) (next_bytes next (room_of source first)))) first
  pub steady : device ≡ written_times count old
  pub spared : IsTrue old.told → 0 < old.planned → count < old.planned

abbrev pub invariant-loop-index : goal.invariant-loop-index
invariant-loop-index g l =
    SoFar l.source l.next (g.E.Eeprom.cells l.fn.cells) (g.E.Eeprom.cells l.cells) (g.E.Eeprom.device l.fn.cells) (g.E.Eeprom.device l.cells) l.index

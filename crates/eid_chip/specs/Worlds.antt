-- Inside: cited by private contracts alone.
-- What a command finds outside of its session, and leaves there.
use Rattle.std.specs.Prelude.{◌≡◌, ℕ, List, take, drop, Some}
use Rattle.eid_cells.specs.Device.{Device}
use Rattle.eid_copro.specs.Seen.{CoproSeen}
use Rattle.eid_record.specs.Plain.{FullRecord, PlainEffect}
use Rattle.eid_store.specs.declared.store.Store.{Store}
use Rattle.eid_store.specs.Stands.{stands}
use Rattle.eid_store.specs.Store as store
use Rattle.eid_model.specs.Ledger.{MayHold, all_committed, first_of}
use Rattle.eid_chip.specs.Endings.{Ended, Answered, Lost}
use Rattle.eid_chip.specs.Commits.{Wrote, WasCutBehind}

-- What a command finds outside of its session, and leaves there: what the coprocessor shows, the store, its device, and
-- the device's cells.
pub record World : Type 0 where
  pub copro : CoproSeen
  pub store : Store
  pub device : Device
  pub cells : List ℕ

abbrev pub world : CoproSeen → Store → Device → List ℕ → World
world copro store device cells = record { copro = copro; store = store; device = device; cells = cells }

-- the store fits its device
abbrev pub IsMounted : World → Type 0
IsMounted w = store.Fits w.store w.device w.cells

-- What a command leaves where these effects were due: all of them are committed, and the store fits; or the power was
-- cut in one of them, and the cells may hold it or not.
abbrev pub Leaves : List PlainEffect → FullRecord → Ended → World → World → Type 0
Leaves due kept (Answered reacted finished) old new =
    IsMounted new × (stands new.cells ≡ Some (all_committed due kept)) × Wrote finished old.device new.device
Leaves due kept (Lost finished) old new =
    MayHold (first_of (drop finished due)) (all_committed (take finished due) kept) (stands new.cells)
    × WasCutBehind finished old.device new.device

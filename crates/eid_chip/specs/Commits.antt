-- What commits do to a chip's store, its device and the cells.
use Rattle.std.specs.Prelude.{◌≡◌, ℕ, ◌*◌, ◌≤◌, List, IsTrue, slice_index}
use Rattle.eid_cells.specs.Device.{Device, WasCut}
use Rattle.eid_store.specs.Cost.{written_times}

-- the writes of one commit, at least and at most
abbrev pub LEAST_WRITES : ℕ
LEAST_WRITES = 5

abbrev pub MOST_WRITES : ℕ
MOST_WRITES = 384

-- the writes of mounting, at most
abbrev pub MOST_MOUNTING : ℕ
MOST_MOUNTING = 40

-- So many commits finished: the device was written to so often, and cut none of these writes.
pub record Wrote (finished : ℕ) (old new : Device) : Type 0 where
  pub writes : ℕ
  pub least : LEAST_WRITES * finished ≤ writes
  pub most : writes ≤ MOST_WRITES * finished
  pub device : new ≡ written_times writes old
  pub spared : IsTrue old.told → (1 ≤ old.planned) × (old.planned ≤ writes) → ⊥

-- So many commits finished, and the power was cut in the next one.
pub record WasCutBehind (finished : ℕ) (old new : Device) : Type 0 where
  pub between : Device
  pub wrote : Wrote finished old between
  pub cut : WasCut between new
  pub struck : IsTrue between.told → (1 ≤ between.planned) × (between.planned ≤ MOST_WRITES)

-- no call of the chip changes the cell that names the layout
abbrev pub SameLayout : List ℕ → List ℕ → Type 0
SameLayout old new = slice_index new 0 ≡ slice_index old 0

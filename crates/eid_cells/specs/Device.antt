-- What a device shows beside its cells (this project's own).
use Rattle.std.specs.Prelude.{◌≡◌, ℕ, ◌+◌, ◌-◌, ◌^◌, ◌≤◌, Bool, false, IsTrue, ◌&&◌, nat_lt, min, if◌then◌else◌}

pub record Device : Type 0 where
  pub has_power : Bool
  pub told : Bool  -- whether the device tells which write it will cut
  pub planned : ℕ  -- where told, the number of that write, where the next one has the number 1; 0 is none
  pub cuts : ℕ  -- how often the power was cut in a write

-- a write that is not cut: a plan is one write nearer
abbrev pub written_once : Device → Device
written_once device = record device { planned = device.planned - 1 }

-- the power was cut in a write
pub record WasCut (old new : Device) : Type 0 where
  pub power : new.has_power ≡ false
  pub told : new.told ≡ old.told
  pub planned : new.planned ≡ 0
  pub rose : min (old.cuts + 1) (2 ^ 64 - 1) ≤ new.cuts
  pub never_falls : old.cuts ≤ new.cuts
  pub by_one : IsTrue old.told → new.cuts ≡ old.cuts + 1

-- a new plan replaces the old one; a device that can count no more cuts ignores it
abbrev pub planned_at : ℕ → Device → Device
planned_at write device =
    record device { planned = if device.told && nat_lt device.cuts (2 ^ 64 - 1) then write else device.planned }

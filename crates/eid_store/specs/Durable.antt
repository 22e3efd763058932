-- What contracts of stores say.
use Rattle.std.specs.Prelude.{◌≡◌, ℕ, ◌≤◌, ◌⊎◌, Bool, true, false, Option, Result, Err, IsTrue, OnOk}
use Rattle.std.specs.Option.{option_map}
use Rattle.eid_cells.specs.Device.{Device, WasCut}
use Rattle.eid_record.specs.Plain.{PlainEffect, FullRecord, Spend}
use Rattle.eid_record.specs.Effect.{committed}
use Rattle.eid_store.specs.declared.durable.MountError.{MountError}
use Rattle.eid_store.specs.declared.durable.MountError.TheVariants.{Cut, BadImage}
use Rattle.eid_store.specs.Cost.{written_times}

-- a commit of this effect
abbrev pub is_spend : PlainEffect → Bool
is_spend Spend = true
is_spend effect = false

-- The cells stand for what they stood for, or for that with the effect committed.
abbrev pub IsAllOrNothing : PlainEffect → Option FullRecord → Option FullRecord → Type 0
IsAllOrNothing effect old new = (new ≡ old) ⊎ (new ≡ option_map (committed effect) old)

-- What mounting does to the device, where it takes so many writes: a bad image is found before any write; a cut comes
-- only where there is a write and the count rose, and from a device that tells its plan exactly where the plan names
-- one of these writes, so never where it tells that none is planned.
pub record Mounts {S : Type 0} (writes : ℕ) (old new : Device) (result : Result S MountError) : Type 0 where
  pub mounted : OnOk result (new ≡ written_times writes old)
  pub bad_image : result ≡ Err BadImage → new ≡ old
  pub cut : result ≡ Err Cut → WasCut old new
  pub written : result ≡ Err Cut → 1 ≤ writes
  pub struck : IsTrue old.told → result ≡ Err Cut → (1 ≤ old.planned) × (old.planned ≤ writes)
  pub spared : IsTrue old.told → OnOk result ((1 ≤ old.planned) × (old.planned ≤ writes) → ⊥)

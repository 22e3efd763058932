-- What holds of every store and of the cells that it fits: what proofs in crates above cite.
use Rattle.std.proofs.Common.{◌≡◌, ℕ, List, length, Option, Some, None, IsTrue, refl}
use Rattle.std.specs.Prelude.{IsSomeAnd}
use Rattle.eid_cells.specs.Device.{Device}
use Rattle.eid_record.specs.Plain.{FullRecord}
use Rattle.eid_store.specs.declared.store.Store.{Store}
use Rattle.eid_store.specs.declared.store.Store.TheVariants.{Slots}
use Rattle.eid_store.specs.Complete.{IsComplete}
use Rattle.eid_store.specs.Stands.{stands}
use Rattle.eid_store.specs.Store.{fields_of, Fits}
use Rattle.eid_store.proofs.TwoSlotLaws.{two_slot_complete, two_slot_fitting, two_slot_refitting}

pub complete : (cells : List ℕ) (full : FullRecord) → length cells ≡ 65536 → stands cells ≡ Some full → IsComplete full
unfolding stands
complete cells full long is = two_slot_complete cells full long is

pub fitting : (store : Store) (device : Device) (cells : List ℕ) → Fits store device cells → IsTrue device.has_power × IsSomeAnd (stands cells) (λ full. full.fields ≡ fields_of store)
unfolding stands Fits fields_of
fitting (Slots slots) device cells fits = two_slot_fitting slots device cells fits

-- on another device, or after a cut was planned
pub refitting : (store : Store) (old new : Device) (cells : List ℕ) → Fits store old cells → IsTrue new.has_power → Fits store new cells
unfolding Fits
refitting (Slots slots) old new cells fits power = two_slot_refitting slots old new cells fits power

-- a fitting store has power
pub powered : (store : Store) (device : Device) (cells : List ℕ) → Fits store device cells → IsTrue device.has_power
powered store device cells fits = (fitting store device cells fits).0

some_and : (o : Option FullRecord) (P : FullRecord → Type 0) → IsSomeAnd o P → (full : FullRecord) × (o ≡ Some full) × P full
some_and None P h = absurd h
some_and (Some full) P h = (full, refl, h)

-- the record that the cells stand for has the store's fields
pub stood_for : (store : Store) (device : Device) (cells : List ℕ) → Fits store device cells → (full : FullRecord) × (stands cells ≡ Some full) × (full.fields ≡ fields_of store)
stood_for store device cells fits = some_and (stands cells) _ (fitting store device cells fits).1

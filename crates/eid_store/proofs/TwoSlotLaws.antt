-- The laws of stores, for layout 1.
use Rattle.std.proofs.Common.{◌≡◌, ℕ, zero, suc, ◌+◌, ◌/◌, ◌≤◌, Bool, true, false, cond, eqb, List, [], ◌∷◌, length, take, drop, map, Option, Some, None, IsTrue, slice_index, refl, ap, ◌∙◌, arith, ◌&&◌, nat_le}
use Rattle.std.specs.Prelude.{IfSome, IsSomeAnd, slice_index_or}
use Rattle.std.specs.Option.{option_map}
use Rattle.std.proofs.lemmas.List.{length-drop, length-take}
use Rattle.std.proofs.lemmas.Bool.{leb-true, and_parts}
use Rattle.eid_cells.specs.Device.{Device}
use Rattle.eid_record.specs.Plain.{PlainEffect, FullRecord}
use Rattle.eid_record.specs.Valid.{lengths_fit}
use Rattle.eid_record.specs.Files.{total, full_in, files_in}
use Rattle.eid_store.specs.declared.slot.Slot.{Slot}
use Rattle.eid_store.specs.declared.two_slot.TwoSlot.{TwoSlot}
use Rattle.eid_store.specs.Slots.{other_of, is_open, room_of, current}
use Rattle.eid_store.specs.Stands.{record_in_slot, two_slot_stands}
use Rattle.eid_store.specs.Fits.{two_slot_fields, TwoSlotFits, commit_writes}
use Rattle.eid_store.specs.Complete.{IsComplete}
use Rattle.eid_store.proofs.Rooms.{length-room}
use Rattle.eid_store.proofs.Committed.{full_parts, valid_fields, total-fits}
use Rattle.eid_store.proofs.Fitting.{fits_total}

-- each file has its length
sized : (lengths : List (Option ℕ)) (bytes : List ℕ) → total lengths ≤ length bytes → map (option_map (λ (b : List ℕ). length b)) (files_in lengths bytes) ≡ lengths
sized [] bytes long = refl
sized (None ∷ lengths) bytes long = ap (λ (later : List (Option ℕ)). None ∷ later) (sized lengths bytes (omega (arith, long)))
sized (Some n ∷ lengths) bytes long =
    let first : length (take n bytes) ≡ n = omega (arith, length-take n bytes, long) in
    ap (λ (k : ℕ). Some k ∷ map (option_map (λ (b : List ℕ). length b)) (files_in lengths (drop n bytes))) first
    ∙ ap (λ (later : List (Option ℕ)). Some n ∷ later) (sized lengths (drop n bytes) (omega (arith, length-drop n bytes, long)))

-- each length is at most 2,048
small : (sum : ℕ) (lengths : List (Option ℕ)) → IsTrue (lengths_fit sum lengths) → (file : ℕ) → IfSome (slice_index_or lengths file None) (λ n. n ≤ 2048)
small sum [] fits file = tt
small sum (None ∷ lengths) fits zero = tt
small sum (None ∷ lengths) fits (suc file) = small sum lengths fits file
small sum (Some n ∷ lengths) fits zero =
    let both = and_parts (nat_le n 2048 && nat_le (sum + n) 24000) (lengths_fit (sum + n) lengths) fits in
    let each = and_parts (nat_le n 2048) (nat_le (sum + n) 24000) both.0 in
    leb-true n 2048 each.0
small sum (Some n ∷ lengths) fits (suc file) =
    let both = and_parts (nat_le n 2048 && nat_le (sum + n) 24000) (lengths_fit (sum + n) lengths) fits in
    small (sum + n) lengths both.1 file

-- the slot whose record the cells stand for
in_slot : (slot : Option Slot) (cells : List ℕ) (full : FullRecord) → record_in_slot slot cells ≡ Some full → (s : Slot) × (full_in (room_of s cells) ≡ Some full)
in_slot None cells full e = absurd cc
in_slot (Some s) cells full e = (s, e)

guarded : (b : Bool) (o : Option FullRecord) (full : FullRecord) → cond b o None ≡ Some full → o ≡ Some full
guarded true o full e = e
guarded false o full e = absurd cc

stood : (cells : List ℕ) (full : FullRecord) → two_slot_stands cells ≡ Some full → (s : Slot) × (full_in (room_of s cells) ≡ Some full)
unfolding two_slot_stands
stood cells full e = in_slot (current cells) cells full (guarded (eqb (slice_index cells 0) 1) (record_in_slot (current cells) cells) full e)

pub two_slot_complete : (cells : List ℕ) (full : FullRecord) → length cells ≡ 65536 → two_slot_stands cells ≡ Some full → IsComplete full
two_slot_complete cells full long stands =
    let found = stood cells full stands in
    let room = room_of found.0 cells in
    let parts = full_parts room full found.1 in
    let valid = valid_fields found.0 cells full long found.1 in
    let fit : total full.fields.lengths ≤ 24000 = omega (arith, total-fits 0 full.fields.lengths (omega arith) valid.lengths) in
    record {
      valid = valid;
      files = ap (map (option_map (λ (b : List ℕ). length b))) parts.1
          ∙ sized full.fields.lengths (drop 448 room) (omega (arith, fit, length-drop 448 room, length-room found.0 cells long));
      small = small 0 full.fields.lengths valid.lengths;
      fit = fit;
    }

pub two_slot_fitting : (store : TwoSlot) (device : Device) (cells : List ℕ) → TwoSlotFits store device cells
    → IsTrue device.has_power × IsSomeAnd (two_slot_stands cells) (λ full. full.fields ≡ two_slot_fields store)
two_slot_fitting store device cells fits = (fits.power, fits.stands)

pub two_slot_refitting : (store : TwoSlot) (old new : Device) (cells : List ℕ) → TwoSlotFits store old cells → IsTrue new.has_power → TwoSlotFits store new cells
two_slot_refitting store old new cells fits power = record { power = power; stands = fits.stands; slot = fits.slot }

pub two_slot_commit : (store : TwoSlot) (device : Device) (cells : List ℕ) (effect : PlainEffect) → length cells ≡ 65536 → TwoSlotFits store device cells
    → (5 ≤ commit_writes store cells effect) × (commit_writes store cells effect ≤ 384)
two_slot_commit store device cells effect long fits =
    let fit = fits_total store device cells long fits in
    elim (is_open (other_of store.slot) cells) as (λ b. (5 ≤ cond b 1 0 + (448 + total store.kept.lengths + 63) / 64 + 1) × (cond b 1 0 + (448 + total store.kept.lengths + 63) / 64 + 1 ≤ 384)) [
      | true ↦ (omega (arith, fit), omega (arith, fit))
      | false ↦ (omega (arith, fit), omega (arith, fit))
    ]

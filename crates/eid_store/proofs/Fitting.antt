-- A store of two slots and the cells that it fits.
use Rattle.std.proofs.Common.{◌≡◌, ◌≢◌, ℕ, ◌+◌, ◌≤◌, Bool, true, false, cond, eqb, List, ◌++◌, length, take, drop, slice_index, slice_range, Option, Some, None, Result, Ok, Err, IsTrue, refl, sym, ap, subst, ◌∙◌, arith, inl, inr}
use Rattle.std.specs.Prelude.{IsSomeAnd, slice_index_or}
use Rattle.std.specs.Option.{option_map, option_and_then}
use Rattle.std.proofs.lemmas.Bool.{eqb-true, ne_eqb}
use Rattle.std.proofs.lemmas.List.{length-drop}
use Rattle.eid_cells.specs.Device.{Device}
use Rattle.eid_record.specs.declared.fields.Record.{Record}
use Rattle.eid_record.specs.Plain.{PlainRecord, FullRecord, PlainEffect}
use Rattle.eid_record.specs.Reading.{record_in}
use Rattle.eid_record.specs.Valid.{IsValid}
use Rattle.eid_record.specs.Effect.{CanApply, HasRange, committed_fields, committed}
use Rattle.eid_record.specs.Files.{total, full_in, full_read, full_of, files_in, file_range}
use Rattle.eid_record.specs.View.{record_view}
use Rattle.eid_store.specs.declared.slot.Slot.{Slot}
use Rattle.eid_store.specs.declared.slot.Slot.TheVariants.{A, B}
use Rattle.eid_store.specs.declared.next.NewRecord.{NewRecord}
use Rattle.eid_store.specs.declared.two_slot.TwoSlot.{TwoSlot}
use Rattle.eid_store.specs.Slots.{record_of, other_of, is_open, room_of, current}
use Rattle.eid_store.specs.Pages.{change_place, change_bytes}
use Rattle.eid_store.specs.Stands.{record_in_slot, two_slot_stands}
use Rattle.eid_store.specs.Fits.{two_slot_fields, TwoSlotFits}
use Rattle.eid_store.specs.NewRecord.{IsReady}
use Rattle.eid_store.specs.Turn.{SameSlot, IsTurned, WasTurning, Before, Closed, Turned}
use Rattle.eid_store.specs.Durable.{IsAllOrNothing}
use Rattle.eid_store.proofs.Rooms.{length-room, room_part}
use Rattle.eid_store.proofs.FileBytes.{file_range-is, range_inside}
use Rattle.eid_store.proofs.SlotStands.{Holds, stands_where_held, held_alone, held_still}
use Rattle.eid_store.proofs.Committed.{full_parts, valid_fields, total-fits, IsNextOf, after_turn, change-inside, full_written}

-- ---- what stands where

guard_some : {T : Type 0} (b : Bool) (o : Option T) (x : T) → cond b o None ≡ Some x → (b ≡ true) × (o ≡ Some x)
guard_some true o x e = (refl, e)
guard_some false o x e = absurd cc

guard_none : {T : Type 0} (b : Bool) (o : Option T) → o ≡ None → cond b o None ≡ None
guard_none true o e = e
guard_none false o e = refl

some_and : {T : Type 0} (o : Option T) (P : T → Type 0) → IsSomeAnd o P → (x : T) × (o ≡ Some x) × P x
some_and None P h = absurd h
some_and (Some x) P h = (x, refl, h)

and_some : {T : Type 0} (o : Option T) (P : T → Type 0) (x : T) → o ≡ Some x → P x → IsSomeAnd o P
and_some {T} o P x e h = subst (λ (p : Option T). IsSomeAnd p P) (sym e) h

-- the full record of cells that a store fits
pub record Standing (store : TwoSlot) (cells : List ℕ) : Type 0 where
  pub full : FullRecord
  pub holds : Holds store.slot full cells
  pub fields : full.fields ≡ two_slot_fields store

pub fits_stands : (store : TwoSlot) (device : Device) (cells : List ℕ) → TwoSlotFits store device cells → Standing store cells
unfolding two_slot_stands
fits_stands store device cells fits =
    let found = some_and (cond (eqb (slice_index cells 0) 1) (record_in_slot (current cells) cells) None) (λ full. full.fields ≡ two_slot_fields store) fits.stands in
    let guard = guard_some (eqb (slice_index cells 0) 1) (record_in_slot (current cells) cells) found.0 found.1 in
    record {
      full = found.0;
      holds = record {
        layout = eqb-true (slice_index cells 0) 1 guard.0;
        counts = fits.slot;
        record_is = sym (ap (λ (s : Option Slot). record_in_slot s cells) fits.slot) ∙ guard.1;
      };
      fields = found.2;
    }

pub holds_fits : (kept : Record) (slot : Slot) (full : FullRecord) (device : Device) (cells : List ℕ) → IsTrue device.has_power → Holds slot full cells → full.fields ≡ record_view kept
    → TwoSlotFits (record { kept = kept; slot = slot }) device cells
holds_fits kept slot full device cells power holds fields = record {
  power = power;
  stands = and_some (two_slot_stands cells) (λ f. f.fields ≡ record_view kept) full (stands_where_held slot full cells holds) fields;
  slot = holds.counts;
}

-- ---- mounting

pub not_the_layout : (cells : List ℕ) → slice_index cells 0 ≢ 1 → two_slot_stands cells ≡ None
unfolding two_slot_stands
not_the_layout cells other = let no : eqb (slice_index cells 0) 1 ≡ false = ne_eqb (slice_index cells 0) 1 other in rw no refl

pub no_slot : (cells : List ℕ) → current cells ≡ None → two_slot_stands cells ≡ None
unfolding two_slot_stands
no_slot cells none = guard_none (eqb (slice_index cells 0) 1) (record_in_slot (current cells) cells) (ap (λ (s : Option Slot). record_in_slot s cells) none)

pub no_record : (slot : Slot) (cells : List ℕ) (place : ℕ) → current cells ≡ Some slot → record_in (take 448 (room_of slot cells)) ≡ Err place → two_slot_stands cells ≡ None
unfolding two_slot_stands full_in
no_record slot cells place counts bad =
    guard_none (eqb (slice_index cells 0) 1) (record_in_slot (current cells) cells) (
    ap (λ (s : Option Slot). record_in_slot s cells) counts ∙ ap (λ (r : Result PlainRecord ℕ). full_read r (drop 448 (room_of slot cells))) bad)

pub mounted_fits : (kept : Record) (slot : Slot) (device : Device) (cells : List ℕ) → IsTrue device.has_power → slice_index cells 0 ≡ 1 → current cells ≡ Some slot
    → record_in (take 448 (room_of slot cells)) ≡ Ok (record_view kept) → TwoSlotFits (record { kept = kept; slot = slot }) device cells
unfolding full_in
mounted_fits kept slot device cells power layout counts read =
    holds_fits kept slot (full_of (record_view kept) (drop 448 (room_of slot cells))) device cells power
    (record { layout = layout; counts = counts; record_is = ap (λ (r : Result PlainRecord ℕ). full_read r (drop 448 (room_of slot cells))) read }) refl

-- ---- what a fitting store has

pub fits_valid : (store : TwoSlot) (device : Device) (cells : List ℕ) → length cells ≡ 65536 → TwoSlotFits store device cells → IsValid (two_slot_fields store)
fits_valid store device cells long fits =
    let s = fits_stands store device cells fits in
    subst (λ (r : PlainRecord). IsValid r) s.fields (valid_fields store.slot cells s.full long s.holds.record_is)

pub fits_total : (store : TwoSlot) (device : Device) (cells : List ℕ) → length cells ≡ 65536 → TwoSlotFits store device cells → total store.kept.lengths ≤ 24000
fits_total store device cells long fits = omega (arith, total-fits 0 store.kept.lengths (omega arith) (fits_valid store device cells long fits).lengths)

-- ---- reading a file

pub file_read : (store : TwoSlot) (device : Device) (cells : List ℕ) (file offset count : ℕ) → length cells ≡ 65536 → TwoSlotFits store device cells
    → HasRange store.kept.lengths file offset count
    → option_and_then (file_range file offset count) (two_slot_stands cells)
    ≡ Some (slice_range cells (record_of store.slot + 448 + (total (take file store.kept.lengths) + offset)) (record_of store.slot + 448 + (total (take file store.kept.lengths) + offset) + count))
file_read store device cells file offset count long fits has =
    let s = fits_stands store device cells fits in
    let room = room_of store.slot cells in
    let lengths = store.kept.lengths in
    let parts = full_parts room s.full s.holds.record_is in
    let fits_total_is = fits_total store device cells long fits in
    let place = total (take file lengths) + offset in
    let inside = range_inside lengths file offset count has in
    let room_long = length-room store.slot cells long in
    let files : s.full.files ≡ files_in lengths (drop 448 room) = parts.1 ∙ ap (λ (r : PlainRecord). files_in r.lengths (drop 448 room)) s.fields in
    ap (option_and_then (file_range file offset count)) (stands_where_held store.slot s.full cells s.holds)
    ∙ ap (λ (fs : List (Option (List ℕ))). option_map (λ (b : List ℕ). slice_range b offset (offset + count)) (slice_index_or fs file None)) files
    ∙ file_range-is lengths file offset count (drop 448 room) has (omega (arith, fits_total_is, room_long, length-drop 448 room))
    ∙ ap (λ (b : List ℕ). Some b) (sym (room_part store.slot cells place count (omega (arith, inside, fits_total_is))))

-- ---- commits

next_at : (effect : PlainEffect) (next : NewRecord) (a b : PlainRecord) → a ≡ b → IsNextOf effect a next → IsNextOf effect b next
next_at effect next a b same is = subst (λ (r : PlainRecord). IsNextOf effect r next) same is

pub commit_holds : (store : TwoSlot) (effect : PlainEffect) (next : NewRecord) (device : Device) (old new : List ℕ) → length old ≡ 65536 → (fits : TwoSlotFits store device old)
    → IsReady next → IsNextOf effect (two_slot_fields store) next → SameSlot store.slot old new → slice_index new 0 ≡ slice_index old 0 → IsTurned store.slot next old new
    → Holds (other_of store.slot) (committed effect (fits_stands store device old fits).full) new
commit_holds store effect next device old new long fits ready is same layout turned =
    let s = fits_stands store device old fits in
    after_turn store.slot effect s.full next old new long s.holds ready (next_at effect next (two_slot_fields store) s.full.fields (sym s.fields) is) same layout turned

pub commit_done : (store : TwoSlot) (effect : PlainEffect) (next : NewRecord) (device : Device) (old new : List ℕ) → length old ≡ 65536 → TwoSlotFits store device old
    → IsReady next → IsNextOf effect (two_slot_fields store) next → SameSlot store.slot old new → slice_index new 0 ≡ slice_index old 0 → IsTurned store.slot next old new
    → two_slot_stands new ≡ option_map (committed effect) (two_slot_stands old)
commit_done store effect next device old new long fits ready is same layout turned =
    let s = fits_stands store device old fits in
    stands_where_held (other_of store.slot) (committed effect s.full) new (commit_holds store effect next device old new long fits ready is same layout turned)
    ∙ sym (ap (option_map (committed effect)) (stands_where_held store.slot s.full old s.holds))

pub commit_fits : (store : TwoSlot) (effect : PlainEffect) (next : NewRecord) (device : Device) (old new : List ℕ) → length old ≡ 65536 → TwoSlotFits store device old
    → IsReady next → IsNextOf effect (two_slot_fields store) next → SameSlot store.slot old new → slice_index new 0 ≡ slice_index old 0 → IsTurned store.slot next old new
    → (kept : Record) (slot : Slot) (now : Device) → record_view kept ≡ committed_fields effect (two_slot_fields store) → slot ≡ other_of store.slot → IsTrue now.has_power
    → TwoSlotFits (record { kept = kept; slot = slot }) now new
commit_fits store effect next device old new long fits ready is same layout turned kept slot now fields there power =
    let s = fits_stands store device old fits in
    let holds = commit_holds store effect next device old new long fits ready is same layout turned in
    holds_fits kept slot (committed effect s.full) now new power (subst (λ (x : Slot). Holds x (committed effect s.full) new) (sym there) holds)
    (ap (committed_fields effect) s.fields ∙ sym fields)

pub commit_cut : (store : TwoSlot) (effect : PlainEffect) (next : NewRecord) (device : Device) (old new : List ℕ) → length old ≡ 65536 → TwoSlotFits store device old
    → IsReady next → IsNextOf effect (two_slot_fields store) next → SameSlot store.slot old new → slice_index new 0 ≡ slice_index old 0 → WasTurning store.slot next old new
    → IsAllOrNothing effect (two_slot_stands old) (two_slot_stands new)
commit_cut store effect next device old new long fits ready is same layout (Before other) =
    let s = fits_stands store device old fits in
    inl (stands_where_held store.slot s.full new (held_still store.slot s.full old new s.holds layout same other) ∙ sym (stands_where_held store.slot s.full old s.holds))
commit_cut store effect next device old new long fits ready is same layout (Closed closed) =
    let s = fits_stands store device old fits in
    inl (stands_where_held store.slot s.full new (held_alone store.slot s.full old new s.holds layout same closed) ∙ sym (stands_where_held store.slot s.full old s.holds))
commit_cut store effect next device old new long fits ready is same layout (Turned turned) =
    inr (commit_done store effect next device old new long fits ready is same layout turned)

-- what a commit has before it turns to the other slot
pub record Prepared (store : TwoSlot) (effect : PlainEffect) (device : Device) (old : List ℕ) (next : NewRecord) : Type 0 where
  pub long : length old ≡ 65536
  pub fits : TwoSlotFits store device old
  pub ready : IsReady next
  pub is : IsNextOf effect (two_slot_fields store) next

pub prepared : (store : TwoSlot) (effect : PlainEffect) (device : Device) (old : List ℕ) (next : NewRecord) → length old ≡ 65536 → TwoSlotFits store device old
    → CanApply effect (two_slot_fields store) → length next.fixed.now ≡ 448 → record_in next.fixed.now ≡ Ok (committed_fields effect (two_slot_fields store))
    → next.size ≡ total store.kept.lengths → next.change_at ≡ change_place effect store.kept.lengths → next.change.now ≡ change_bytes effect
    → Prepared store effect device old next
prepared store effect device old next long fits can fixed read size place bytes = record {
  long = long;
  fits = fits;
  ready = record {
    fixed = fixed;
    files = omega (arith, size, fits_total store device old long fits);
    inside = omega (arith, size, place, ap length bytes, change-inside effect (two_slot_fields store) can);
  };
  is = record { can = can; fixed = read; size = size; place = place; bytes = bytes };
}

-- ---- cells whose slot A alone is open, as they are personalised

pub first_slot_stands : (cells fixed files more : List ℕ) (fields : PlainRecord) → slice_index cells 0 ≡ 1 → is_open A cells ≡ true → is_open B cells ≡ false
    → room_of A cells ≡ (fixed ++ files) ++ more → length fixed ≡ 448 → record_in fixed ≡ Ok fields → length files ≡ total fields.lengths
    → two_slot_stands cells ≡ Some (full_of fields files)
first_slot_stands cells fixed files more fields layout opened closed room long read size =
    stands_where_held A (full_of fields files) cells (record {
      layout = layout;
      counts = rw (opened, closed) refl;
      record_is = ap full_in room ∙ full_written fixed files more fields long read size;
    })

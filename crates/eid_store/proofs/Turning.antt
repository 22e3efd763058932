-- The steps from one slot to the other.
use Rattle.std.proofs.Common.{◌≡◌, ℕ, ◌+◌, ◌-◌, ◌*◌, ◌≤◌, Bool, true, false, List, length, take, drop, Result, Ok, Err, refl, sym, ap, ◌∙◌, arith}
use Rattle.std.specs.Prelude.{OnErr}
use Rattle.std.proofs.lemmas.List.{take-take}
use Rattle.eid_cells.specs.Cells.{SameOutside, patched}
use Rattle.eid_cells.proofs.Ranges.{range-patched}
use Rattle.eid_store.specs.declared.slot.Slot.{Slot}
use Rattle.eid_store.specs.declared.next.NewRecord.{NewRecord}
use Rattle.eid_store.specs.Slots.{gate_of, record_of, other_of, is_open, room_of}
use Rattle.eid_store.specs.Cost.{page_count}
use Rattle.eid_store.specs.Pages.{filled}
use Rattle.eid_store.specs.NewRecord.{IsReady, next_bytes}
use Rattle.eid_store.specs.Turn.{IsTurned, WasTurning, Before, Closed, Turned}
use Rattle.eid_store.proofs.Rooms.{record_fits, length-room}
use Rattle.eid_store.proofs.Writes.{length-pages}
use Rattle.eid_store.proofs.SlotStands.{gate_apart, gate_stays, room_stays}

-- the gate was cut while it was closed
close_cases : (slot : Slot) (next : NewRecord) (old new : List ℕ) (b : Bool) → is_open (other_of slot) new ≡ b → is_open (other_of slot) old ≡ true
    → SameOutside (gate_of (other_of slot)) 1 old new → WasTurning slot next old new
close_cases slot next old new true is was same = Before (record { gate = is ∙ sym was; room = room_stays (other_of slot) old new same })
close_cases slot next old new false is was same = Closed is

pub cut_in_close : (slot : Slot) (next : NewRecord) (old new : List ℕ) → is_open (other_of slot) old ≡ true
    → SameOutside (gate_of (other_of slot)) 1 old new → WasTurning slot next old new
cut_in_close slot next old new was same = close_cases slot next old new (is_open (other_of slot) new) refl was same

-- the pages were cut behind a closed gate
pub cut_in_pages : (slot : Slot) (next : NewRecord) (old mid new : List ℕ) → is_open (other_of slot) mid ≡ false
    → SameOutside (record_of (other_of slot)) 24448 mid new → WasTurning slot next old new
cut_in_pages slot next old mid new closed same = Closed (gate_stays (other_of slot) mid new same ∙ closed)

-- the pages stand where they were written
pub room_written : (slot : Slot) (pages cells : List ℕ) → length cells ≡ 65536 → length pages ≤ 24448
    → take (length pages) (room_of slot (patched (record_of slot) pages cells)) ≡ pages
unfolding room_of
room_written slot pages cells long fits =
    let w = patched (record_of slot) pages cells in
    let n : (record_of slot + length pages) - record_of slot ≡ length pages = omega arith in
    take-take (length pages) ((record_of slot + 24448) - record_of slot) (drop (record_of slot) w) (omega (arith, fits))
    ∙ sym (ap (λ (k : ℕ). take k (drop (record_of slot) w)) n)
    ∙ range-patched (record_of slot) pages cells (omega (arith, (record_fits slot).1, fits, long))

-- after the pages
pub pages_written : (slot : Slot) (next : NewRecord) (first mid new : List ℕ) → length mid ≡ 65536 → IsReady next
    → SameOutside (gate_of (other_of slot)) 1 first mid
    → new ≡ patched (record_of (other_of slot)) (filled (page_count next.size) (next_bytes next (room_of slot mid))) mid
    → take (64 * page_count next.size) (room_of (other_of slot) new) ≡ filled (page_count next.size) (next_bytes next (room_of slot first))
pages_written slot next first mid new long ready same written =
    let pages = filled (page_count next.size) (next_bytes next (room_of slot mid)) in
    let whole = length-pages next (room_of slot mid) ready (length-room slot mid long) in
    ap (λ (k : ℕ). take k (room_of (other_of slot) new)) (sym whole.0)
    ∙ ap (λ (c : List ℕ). take (length pages) (room_of (other_of slot) c)) written
    ∙ room_written (other_of slot) pages mid long (omega (arith, whole.0, whole.1))
    ∙ ap (λ (r : List ℕ). filled (page_count next.size) (next_bytes next r)) (gate_apart slot first mid same).room

pub turned : (slot : Slot) (next : NewRecord) (first mid last new : List ℕ) → length mid ≡ 65536 → IsReady next
    → SameOutside (gate_of (other_of slot)) 1 first mid
    → last ≡ patched (record_of (other_of slot)) (filled (page_count next.size) (next_bytes next (room_of slot mid))) mid
    → SameOutside (gate_of (other_of slot)) 1 last new → is_open (other_of slot) new ≡ true → IsTurned slot next first new
turned slot next first mid last new long ready close written gate opened = record {
  opened = opened;
  written = ap (take (64 * page_count next.size)) (room_stays (other_of slot) last new gate) ∙ pages_written slot next first mid last long ready close written;
}

open_cases : (slot : Slot) (next : NewRecord) (first mid last new : List ℕ) (b : Bool) → is_open (other_of slot) new ≡ b → length mid ≡ 65536 → IsReady next
    → SameOutside (gate_of (other_of slot)) 1 first mid
    → last ≡ patched (record_of (other_of slot)) (filled (page_count next.size) (next_bytes next (room_of slot mid))) mid
    → SameOutside (gate_of (other_of slot)) 1 last new → WasTurning slot next first new
open_cases slot next first mid last new true is long ready close written gate = Turned (turned slot next first mid last new long ready close written gate is)
open_cases slot next first mid last new false is long ready close written gate = Closed is

-- the gate was cut while it was opened
pub cut_in_open : (slot : Slot) (next : NewRecord) (first mid last new : List ℕ) → length mid ≡ 65536 → IsReady next
    → SameOutside (gate_of (other_of slot)) 1 first mid
    → last ≡ patched (record_of (other_of slot)) (filled (page_count next.size) (next_bytes next (room_of slot mid))) mid
    → SameOutside (gate_of (other_of slot)) 1 last new → WasTurning slot next first new
cut_in_open slot next first mid last new long ready close written gate =
    open_cases slot next first mid last new (is_open (other_of slot) new) refl long ready close written gate

-- what holds anyway holds at an error
pub at_err : {T E P : Type 0} (r : Result T E) → P → OnErr r P
at_err (Ok x) p = tt
at_err (Err e) p = p

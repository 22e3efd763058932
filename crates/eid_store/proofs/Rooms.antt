-- The room of a slot.
use Rattle.std.proofs.Common.{◌≡◌, ℕ, ◌+◌, ◌-◌, ◌≤◌, ◌<◌, List, length, take, drop, get_or, slice_range, sym, ap, ◌∙◌, arith}
use Rattle.std.proofs.lemmas.List.{length-take, length-drop, take-take, drop-drop, drop-take, get_or-take, get_or-drop}
use Rattle.eid_store.specs.declared.slot.Slot.{Slot}
use Rattle.eid_store.specs.declared.slot.Slot.TheVariants.{A, B}
use Rattle.eid_store.specs.Slots.{record_of, room_of}

-- both slots lie inside the cells
pub record_fits : (slot : Slot) → (128 ≤ record_of slot) × (record_of slot + 24448 ≤ 65536)
record_fits A = (omega arith, omega arith)
record_fits B = (omega arith, omega arith)

pub length-room : (slot : Slot) (cells : List ℕ) → length cells ≡ 65536 → length (room_of slot cells) ≡ 24448
unfolding room_of
length-room slot cells long =
    omega (arith, (record_fits slot).1, length-take ((record_of slot + 24448) - record_of slot) (drop (record_of slot) cells), length-drop (record_of slot) cells, long)

pub get_or-room : (slot : Slot) (cells : List ℕ) (n : ℕ) → n < 24448 → get_or (room_of slot cells) n 0 ≡ get_or cells (record_of slot + n) 0
unfolding room_of
get_or-room slot cells n lt =
    get_or-take ((record_of slot + 24448) - record_of slot) (drop (record_of slot) cells) n 0 (omega (arith, lt)) ∙ get_or-drop (record_of slot) cells n 0

-- the front of a room
pub room_front : (slot : Slot) (cells : List ℕ) (n : ℕ) → n ≤ 24448 → slice_range cells (record_of slot) (record_of slot + n) ≡ take n (room_of slot cells)
unfolding room_of
room_front slot cells n le =
    let count : (record_of slot + n) - record_of slot ≡ n = omega arith in
    ap (λ (k : ℕ). take k (drop (record_of slot) cells)) count ∙ sym (take-take n ((record_of slot + 24448) - record_of slot) (drop (record_of slot) cells) (omega (arith, le)))

-- a part of a room behind the fixed bytes
pub room_part : (slot : Slot) (cells : List ℕ) (from count : ℕ) → 448 + from + count ≤ 24448
    → slice_range cells (record_of slot + 448 + from) (record_of slot + 448 + from + count) ≡ slice_range (drop 448 (room_of slot cells)) from (from + count)
unfolding room_of
room_part slot cells from count le =
    let r = record_of slot in
    let y = drop r cells in
    let k = 448 + from in
    let whole = take ((r + 24448) - r) y in
    let split : (r + 24448) - r ≡ k + (24448 - k) = omega (arith, le) in
    let cut : drop k whole ≡ take (24448 - k) (drop k y) = ap (λ (n : ℕ). drop k (take n y)) split ∙ drop-take k (24448 - k) y in
    let right : drop from (drop 448 whole) ≡ take (24448 - k) (drop k y) = drop-drop from 448 whole ∙ cut in
    let place : r + k ≡ r + 448 + from = omega arith in
    let there : drop k y ≡ drop (r + 448 + from) cells = drop-drop k r cells ∙ ap (λ (n : ℕ). drop n cells) place in
    let n1 : (r + 448 + from + count) - (r + 448 + from) ≡ count = omega arith in
    let n2 : (from + count) - from ≡ count = omega arith in
    ap (λ (n : ℕ). take n (drop (r + 448 + from) cells)) n1 ∙ ap (take count) (sym there)
    ∙ sym (take-take count (24448 - k) (drop k y) (omega (arith, le))) ∙ ap (take count) (sym right)
    ∙ ap (λ (n : ℕ). take n (drop from (drop 448 whole))) (sym n2)

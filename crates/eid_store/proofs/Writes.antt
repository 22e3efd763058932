-- What the pages that were written leave.
use Rattle.std.proofs.Common.{◌≡◌, ℕ, ◌+◌, ◌*◌, ◌≤◌, ◌<◌, List, ◌++◌, length, take, drop, refl, sym, ap, subst, ◌∙◌, arith}
use Rattle.std.proofs.lemmas.List.{length-take, length-drop}
use Rattle.std.proofs.Math.Seq.{take-add}
use Rattle.eid_cells.specs.Cells.{SameOutside, patched}
use Rattle.eid_cells.proofs.Ranges.{same_outside-patched, patched-patched, same_outside_trans, same_outside_wider, range_before, range_behind}
use Rattle.eid_store.specs.declared.slot.Slot.{Slot}
use Rattle.eid_store.specs.declared.slot.Slot.TheVariants.{A, B}
use Rattle.eid_store.specs.declared.next.NewRecord.{NewRecord}
use Rattle.eid_store.specs.Slots.{record_of, other_of, room_of}
use Rattle.eid_store.specs.Cost.{page_count}
use Rattle.eid_store.specs.Pages.{filled, page_of}
use Rattle.eid_store.specs.NewRecord.{IsReady, next_bytes}
use Rattle.eid_store.proofs.Rooms.{record_fits}
use Rattle.eid_store.proofs.PageBytes.{length-filled, length-next_bytes}

-- the room of one slot stays where the other's is written
pub room_apart : (slot : Slot) (old new : List ℕ) → SameOutside (record_of (other_of slot)) 24448 old new → room_of slot new ≡ room_of slot old
unfolding room_of
room_apart A old new same = range_before 24640 24448 128 24576 old new (omega arith) same
room_apart B old new same = range_behind 128 24448 24640 49088 old new (omega arith) same

-- a slot that is written up to some place changes its room alone
pub room_alone : (slot : Slot) (bytes first cells : List ℕ) → length first ≡ 65536 → length bytes ≤ 24448 → cells ≡ patched (record_of slot) bytes first
    → SameOutside (record_of slot) 24448 first cells
room_alone slot bytes first cells long fits is =
    let here = same_outside-patched (record_of slot) (length bytes) bytes first refl (omega (arith, (record_fits slot).1, fits, long)) in
    let wider = same_outside_wider (record_of slot) (length bytes) (record_of slot) 24448 first (patched (record_of slot) bytes first) (omega arith) (omega (arith, fits)) here in
    subst (λ (c : List ℕ). SameOutside (record_of slot) 24448 first c) (sym is) wider

pub length-pages : (next : NewRecord) (room : List ℕ) → IsReady next → length room ≡ 24448
    → (length (filled (page_count next.size) (next_bytes next room)) ≡ 64 * page_count next.size) × (64 * page_count next.size ≤ 24448)
length-pages next room ready long =
    let bytes = length-next_bytes next room ready long in
    (length-filled (page_count next.size) (next_bytes next room) (omega (arith, bytes)), omega (arith, ready.files))

-- one more page
pub one_more : (slot : Slot) (w first cells page : List ℕ) (pages index : ℕ) → length first ≡ 65536 → length w ≡ 64 * pages → 64 * pages ≤ 24448 → index < pages
    → page ≡ page_of index w → cells ≡ patched (record_of slot) (take (64 * index) w) first
    → patched (record_of slot + 64 * index) page cells ≡ patched (record_of slot) (take (64 * (index + 1)) w) first
one_more slot w first cells page pages index long w_long fits lt page_is so_far =
    let start = 64 * index in
    let front : length (take start w) ≡ start = omega (arith, length-take start w, w_long, lt) in
    let size : length (take 64 (drop start w)) ≡ 64 = omega (arith, length-take 64 (drop start w), length-drop start w, w_long, lt) in
    let joined : take start w ++ take 64 (drop start w) ≡ take (64 * (index + 1)) w = sym (take-add start 64 w) ∙ ap (λ (n : ℕ). take n w) (omega arith) in
    let both : patched (record_of slot + length (take start w)) (take 64 (drop start w)) (patched (record_of slot) (take start w) first) ≡ patched (record_of slot) (take start w ++ take 64 (drop start w)) first =
    patched-patched (record_of slot) (take start w) (take 64 (drop start w)) first (omega (arith, (record_fits slot).1, long, front, size, fits, lt)) in
    ap (λ (p : List ℕ). patched (record_of slot + start) p cells) page_is
    ∙ ap (λ (c : List ℕ). patched (record_of slot + start) (take 64 (drop start w)) c) so_far
    ∙ ap (λ (n : ℕ). patched (record_of slot + n) (take 64 (drop start w)) (patched (record_of slot) (take start w) first)) (sym front)
    ∙ both ∙ ap (λ (b : List ℕ). patched (record_of slot) b first) joined

-- a page of the room that is cut
pub cut_page : (slot : Slot) (place count : ℕ) (first cells new : List ℕ) → record_of slot ≤ place → place + count ≤ record_of slot + 24448
    → SameOutside (record_of slot) 24448 first cells → SameOutside place count cells new → SameOutside (record_of slot) 24448 first new
cut_page slot place count first cells new low high before here =
    same_outside_trans (record_of slot) 24448 first cells new before (same_outside_wider place count (record_of slot) 24448 cells new low high here)

pub length-page : (w : List ℕ) (pages index : ℕ) → length w ≡ 64 * pages → index < pages → length (page_of index w) ≡ 64
length-page w pages index long lt = omega (arith, length-take 64 (drop (64 * index) w), length-drop (64 * index) w, long, lt)

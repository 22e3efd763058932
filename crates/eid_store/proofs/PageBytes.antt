-- The pages of a new record.
use Rattle.std.proofs.Common.{◌≡◌, ℕ, ◌+◌, ◌-◌, ◌*◌, ◌≤◌, ◌<◌, List, ◌++◌, length, take, drop, get_or, replicate, slice_range, slice_index, refl, sym, ap, ◌∙◌, arith, append_assoc, length-append, inl, inr}
use Rattle.std.proofs.lemmas.List.{length-take, length-drop, length-replicate, get_or-take, get_or-drop, get_or_past, get_or-append_right, get_or_append_left, get_or-replicate, drop-append-le, take-append-le, ext_get_or}
use Rattle.std.proofs.lemmas.Bool.{cases_lt}
use Rattle.eid_record.specs.Layout.{replaced}
use Rattle.eid_store.specs.declared.slot.Slot.{Slot}
use Rattle.eid_store.specs.declared.next.NewRecord.{NewRecord}
use Rattle.eid_store.specs.Slots.{record_of, room_of}
use Rattle.eid_store.specs.Cost.{page_count}
use Rattle.eid_store.specs.Pages.{filled, page_of}
use Rattle.eid_store.specs.NewRecord.{IsReady, next_bytes}
use Rattle.eid_store.proofs.Rooms.{get_or-room}

-- the files as they stand
abbrev pub old_files : NewRecord → List ℕ → List ℕ
old_files next room = slice_range room 448 (448 + next.size)

-- and as they are written
abbrev pub new_files : NewRecord → List ℕ → List ℕ
new_files next room = replaced next.change_at next.change.now (old_files next room)

pub length-old_files : (next : NewRecord) (room : List ℕ) → IsReady next → length room ≡ 24448 → length (old_files next room) ≡ next.size
length-old_files next room ready long =
    omega (arith, length-take ((448 + next.size) - 448) (drop 448 room), length-drop 448 room, long, ready.files)

pub length-new_files : (next : NewRecord) (room : List ℕ) → IsReady next → length room ≡ 24448 → length (new_files next room) ≡ next.size
length-new_files next room ready long =
    let old = length-old_files next room ready long in
    omega (
      arith,
      old,
      ready.inside,
      length-append (take next.change_at (old_files next room)) (next.change.now ++ drop (next.change_at + length next.change.now) (old_files next room)),
      length-append next.change.now (drop (next.change_at + length next.change.now) (old_files next room)),
      length-take next.change_at (old_files next room),
      length-drop (next.change_at + length next.change.now) (old_files next room),
    )

pub length-filled : (pages : ℕ) (bytes : List ℕ) → length bytes ≤ 64 * pages → length (filled pages bytes) ≡ 64 * pages
length-filled pages bytes fits = omega (arith, fits, length-append bytes (replicate (64 * pages - length bytes) 0), length-replicate {A = ℕ} (64 * pages - length bytes) 0)

zeros-at : (m k : ℕ) → slice_index (replicate m 0) k ≡ 0
zeros-at m k = elim (cases_lt k m) [
  | inl lt ↦ get_or-replicate m k 0 0 lt
  | inr le ↦ get_or_past {X = ℕ} (replicate m 0) k 0 (omega (arith, le, length-replicate {A = ℕ} m 0))
]

-- behind the bytes stands 00, which is what is read past the end of a list
get_or-filled : (pages : ℕ) (bytes : List ℕ) (n : ℕ) → slice_index (filled pages bytes) n ≡ slice_index bytes n
get_or-filled pages bytes n =
    elim (cases_lt n (length bytes)) [
      | inl lt ↦ get_or_append_left bytes (replicate (64 * pages - length bytes) 0) 0 n lt
      | inr le ↦
          get_or-append_right bytes (replicate (64 * pages - length bytes) 0) (length bytes) n 0 refl le
          ∙ zeros-at (64 * pages - length bytes) (n - length bytes) ∙ sym (get_or_past bytes n 0 le)
    ]

pub length-next_bytes : (next : NewRecord) (room : List ℕ) → IsReady next → length room ≡ 24448 → length (next_bytes next room) ≡ 448 + next.size
length-next_bytes next room ready long = omega (arith, length-append next.fixed.now (new_files next room), ready.fixed, length-new_files next room ready long)

-- a page of the fixed bytes
pub fixed_page : (next : NewRecord) (room : List ℕ) (pages index : ℕ) → IsReady next → 64 * index < 448
    → slice_range next.fixed.now (64 * index) (64 * index + 64) ≡ page_of index (filled pages (next_bytes next room))
fixed_page next room pages index ready lt =
    let fixed = next.fixed.now in
    let start = 64 * index in
    let rest = new_files next room in
    let zeros : List ℕ = replicate (64 * pages - length (next_bytes next room)) 0 in
    let regroup : filled pages (next_bytes next room) ≡ fixed ++ (rest ++ zeros) = append_assoc fixed rest zeros in
    let dropped : drop start (fixed ++ (rest ++ zeros)) ≡ drop start fixed ++ (rest ++ zeros) = drop-append-le start fixed (rest ++ zeros) (omega (arith, ready.fixed, lt)) in
    let taken : take 64 (drop start fixed ++ (rest ++ zeros)) ≡ take 64 (drop start fixed) = take-append-le 64 (drop start fixed) (rest ++ zeros) (omega (arith, length-drop start fixed, ready.fixed, lt)) in
    let count : (start + 64) - start ≡ 64 = omega arith in
    ap (λ (n : ℕ). take n (drop start fixed)) count ∙ sym taken ∙ ap (take 64) (sym dropped) ∙ ap (λ (w : List ℕ). take 64 (drop start w)) (sym regroup)

-- a page behind the fixed bytes
pub files_page : (next : NewRecord) (room page : List ℕ) (index : ℕ) → IsReady next → length room ≡ 24448 → length page ≡ 64
    → 448 ≤ 64 * index → index < page_count next.size
    → ((k : ℕ) → k < 64 → slice_index page k ≡ slice_index (new_files next room) ((64 * index - 448) + k))
    → page ≡ page_of index (filled (page_count next.size) (next_bytes next room))
files_page next room page index ready long page_long le in_range each =
    let pages = page_count next.size in
    let start = 64 * index in
    let bytes = next_bytes next room in
    let bytes_long = length-next_bytes next room ready long in
    let whole = length-filled pages bytes (omega (arith, bytes_long)) in
    let same_length : length page ≡ length (take 64 (drop start (filled pages bytes))) = omega (arith, page_long, length-take 64 (drop start (filled pages bytes)), length-drop start (filled pages bytes), whole, in_range) in
    ext_get_or 0 page (take 64 (drop start (filled pages bytes))) same_length (λ k lt.
    let small : k < 64 = omega (arith, lt, page_long) in
    each k small
    ∙ ap (λ (n : ℕ). get_or (new_files next room) n 0) (omega (arith, le))
    ∙ sym (get_or-append_right next.fixed.now (new_files next room) 448 (start + k) 0 ready.fixed (omega (arith, le)))
    ∙ sym (get_or-filled pages bytes (start + k))
    ∙ sym (get_or-drop start (filled pages bytes) k 0)
    ∙ sym (get_or-take 64 (drop start (filled pages bytes)) k 0 small))

-- what is read from the cells is what stands of the files
pub read_page : (slot : Slot) (next : NewRecord) (cells : List ℕ) (start : ℕ) → IsReady next → 448 ≤ start
    → (k : ℕ) → k < 64 → (start - 448) + k < next.size
    → slice_index (slice_range cells (record_of slot + start) (record_of slot + start + 64)) k ≡ slice_index (old_files next (room_of slot cells)) ((start - 448) + k)
read_page slot next cells start ready le k small inside =
    let from = record_of slot + start in
    get_or-take ((from + 64) - from) (drop from cells) k 0 (omega (arith, small))
    ∙ get_or-drop from cells k 0
    ∙ ap (λ (n : ℕ). get_or cells n 0) (omega arith)
    ∙ sym (get_or-room slot cells (start + k) (omega (arith, inside, ready.files, le)))
    ∙ ap (λ (n : ℕ). get_or (room_of slot cells) n 0) (omega (arith, le))
    ∙ sym (get_or-drop 448 (room_of slot cells) ((start - 448) + k) 0)
    ∙ sym (get_or-take ((448 + next.size) - 448) (drop 448 (room_of slot cells)) ((start - 448) + k) 0 (omega (arith, inside)))

-- Ranges beside the one that was written.
use Rattle.std.proofs.Common.{◌≡◌, ℕ, ◌+◌, ◌-◌, ◌<◌, ◌≤◌, List, ◌++◌, length, take, drop, get_or, slice_range, slice_index, refl, sym, ◌∙◌, ap, arith, append_assoc, length-append, add-zero, inl, inr}
use Rattle.std.proofs.lemmas.List.{length-take, take-take, take_at, drop-drop, drop_at, drop-take, get_or-take, get_or-drop, take-append-drop, drop_all}
use Rattle.std.proofs.lemmas.Grind.{common_steps}
use Rattle.std.proofs.lemmas.Bool.{cases_lt}
use Rattle.eid_cells.specs.Cells.{patched, SameOutside}

-- a write leaves the number of cells
pub length-patched : (place : ℕ) (bytes cells : List ℕ) → place + length bytes ≤ length cells
    → length (patched place bytes cells) ≡ length cells
length-patched place bytes cells inside = grind (arith, common_steps)

-- what was written is read
pub range-patched : (place : ℕ) (bytes cells : List ℕ) → place + length bytes ≤ length cells
    → slice_range (patched place bytes cells) place (place + length bytes) ≡ bytes
range-patched place bytes cells inside = grind (arith, common_steps)

-- writing what stands there already changes nothing
pub patched-range : (place count : ℕ) (cells : List ℕ) → place + count ≤ length cells
    → patched place (slice_range cells place (place + count)) cells ≡ cells
patched-range place count cells inside =
    let size : length (slice_range cells place (place + count)) ≡ count = grind (arith, common_steps) in
    let less : place + count - place ≡ count = omega arith in
    rw (size, less, append_assoc, ← drop-drop count place cells, take-append-drop, take-append-drop)

-- a write changes its range alone
pub same_outside-patched : (place count : ℕ) (bytes cells : List ℕ) → length bytes ≡ count → place + count ≤ length cells
    → SameOutside place count cells (patched place bytes cells)
same_outside-patched place count bytes cells is_long inside = record {
  before = grind (arith, common_steps);
  behind = grind (arith, common_steps);
}

-- two writes, one behind the other, are one
pub patched-patched : (place : ℕ) (first second cells : List ℕ) → place + length first + length second ≤ length cells
    → patched (place + length first) second (patched place first cells) ≡ patched place (first ++ second) cells
patched-patched place first second cells inside =
    let front_size : length (take place cells ++ first) ≡ place + length first = grind (arith, common_steps) in
    let after = drop (place + length first) cells in
    let whole = take place cells ++ first ++ after in
    let taken : take (place + length first) whole ≡ take place cells ++ first =
    take_at (take place cells ++ first) after (place + length first) front_size in
    let left : drop (place + length first + length second) whole ≡ drop (place + length first + length second) cells =
    sym (drop-drop (length second) (place + length first) whole)
    ∙ ap (drop (length second)) (drop_at (take place cells ++ first) after (place + length first) front_size)
    ∙ drop-drop (length second) (place + length first) cells in
    let both : place + length (first ++ second) ≡ place + length first + length second = omega (arith, length-append first second) in
    rw (taken, left, both, ← append_assoc (take place cells) first second)

-- two lists with one front have each shorter one in common
front : (a b : List ℕ) (long short : ℕ) → short ≤ long → take long a ≡ take long b → take short a ≡ take short b
front a b long short le same = sym (take-take short long a le) ∙ ap (take short) same ∙ take-take short long b le

-- two lists with one end have each shorter one in common
back : (a b : List ℕ) (from later : ℕ) → from ≤ later → drop from a ≡ drop from b → drop later a ≡ drop later b
back a b from later le same =
    let gap : from + (later - from) ≡ later = omega arith in
    let step : drop (from + (later - from)) a ≡ drop (from + (later - from)) b =
    sym (drop-drop (later - from) from a) ∙ ap (drop (later - from)) same ∙ drop-drop (later - from) from b in
    rw gap at step

-- a range is the end of a front
range_is_front : (s : List ℕ) (from to : ℕ) → drop from (take to s) ≡ slice_range s from to
range_is_front s from to = elim (cases_lt to from) [
  | inl empty ↦
      let none : to - from ≡ 0 = omega arith in
      let short : length (take to s) ≤ from = omega (arith, length-take to s) in
      rw none (drop_all from (take to s) short)
  | inr some ↦
      let gap : from + (to - from) ≡ to = omega arith in
      ap (λ end. drop from (take end s)) (sym gap) ∙ drop-take from (to - from) s
]

pub same_outside_refl : (place count : ℕ) (cells : List ℕ) → SameOutside place count cells cells
same_outside_refl place count cells = record { before = refl; behind = refl }

pub same_outside_trans : (place count : ℕ) (a b c : List ℕ) → SameOutside place count a b → SameOutside place count b c
    → SameOutside place count a c
same_outside_trans place count a b c first second = record {
  before = second.before ∙ first.before;
  behind = second.behind ∙ first.behind;
}

-- what is the same outside a range is the same outside a wider one
pub same_outside_wider : (place count wider_place wider_count : ℕ) (old new : List ℕ) → wider_place ≤ place
    → place + count ≤ wider_place + wider_count → SameOutside place count old new → SameOutside wider_place wider_count old new
same_outside_wider place count wider_place wider_count old new before behind same = record {
  before = front new old place wider_place before same.before;
  behind = back new old (place + count) (wider_place + wider_count) behind same.behind;
}

-- a range before the one that was written reads as before
pub range_before : (place count from to : ℕ) (old new : List ℕ) → to ≤ place → SameOutside place count old new
    → slice_range new from to ≡ slice_range old from to
range_before place count from to old new before same =
    sym (range_is_front new from to) ∙ ap (drop from) (front new old place to before same.before) ∙ range_is_front old from to

-- a range behind the one that was written reads as before
pub range_behind : (place count from to : ℕ) (old new : List ℕ) → place + count ≤ from → SameOutside place count old new
    → slice_range new from to ≡ slice_range old from to
range_behind place count from to old new behind same =
    ap (take (to - from)) (back new old (place + count) from behind same.behind)

-- so does a cell before it
pub cell_before : (place count at : ℕ) (old new : List ℕ) → at < place → SameOutside place count old new
    → slice_index new at ≡ slice_index old at
cell_before place count at old new before same =
    sym (get_or-take place new at 0 before) ∙ ap (λ s. get_or s at 0) same.before ∙ get_or-take place old at 0 before

-- and a cell behind it
pub cell_behind : (place count at : ℕ) (old new : List ℕ) → place + count ≤ at → SameOutside place count old new
    → slice_index new at ≡ slice_index old at
cell_behind place count at old new behind same =
    let start : drop at new ≡ drop at old = back new old (place + count) at behind same.behind in
    let first : get_or new (at + 0) 0 ≡ get_or old (at + 0) 0 =
    sym (get_or-drop at new 0 0) ∙ ap (λ s. get_or s 0 0) start ∙ get_or-drop at old 0 0 in
    rw add-zero at first

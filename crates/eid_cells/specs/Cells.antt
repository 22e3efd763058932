-- Cells and ranges of cells (this project's own).
use Rattle.std.specs.Prelude.{◌≡◌, ℕ, ◌+◌, ◌%◌, ◌≤◌, List, ◌++◌, length, take, drop}

-- a write stays inside one page of 64 cells, and writes one cell at least
pub record IsInOnePage (place count : ℕ) : Type 0 where
  pub some : 1 ≤ count
  pub one_page : place % 64 + count ≤ 64
  pub inside : place + count ≤ 65536

-- the cells with these bytes from that place on
abbrev pub patched : ℕ → List ℕ → List ℕ → List ℕ
patched place bytes cells = take place cells ++ bytes ++ drop (place + length bytes) cells

-- no cell outside the range differs
pub record SameOutside (place count : ℕ) (old new : List ℕ) : Type 0 where
  pub before : take place new ≡ take place old
  pub behind : drop (place + count) new ≡ drop (place + count) old

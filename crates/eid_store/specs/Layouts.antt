-- The layouts of cells. Their numbers are this project's own.
use Rattle.std.specs.Prelude.{ℕ, List, slice_index}

-- layout 1: two slots
abbrev pub two_slot_layout : ℕ
two_slot_layout = 1

-- the layout that cells name, in the first of them
abbrev pub layout_of : List ℕ → ℕ
layout_of cells = slice_index cells 0

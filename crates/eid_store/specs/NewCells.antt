-- New cells with a record. This project's own.
use Rattle.std.specs.Prelude.{ℕ, List, [], ◌∷◌, replicate}
use Rattle.eid_cells.specs.Cells.{patched}
use Rattle.eid_store.specs.declared.slot.Slot.TheVariants.{A}
use Rattle.eid_store.specs.Slots.{gate_of, open_gate, record_of}

-- cells with this layout, and slot A open with these bytes of a record
abbrev pub with_record : (layout : ℕ) → (record_bytes : List ℕ) → List ℕ → List ℕ
with_record layout record_bytes cells =
    patched (record_of A) record_bytes (
    patched (gate_of A) (open_gate ∷ []) (
    patched 0 (layout ∷ []) cells))

-- new cells: 00 throughout
unfoldable pub blank : List ℕ
blank = replicate 65536 0

-- new cells with a record: 00 where nothing else stands
unfoldable pub new_cells : (layout : ℕ) → (record_bytes : List ℕ) → List ℕ
new_cells layout record_bytes = with_record layout record_bytes blank

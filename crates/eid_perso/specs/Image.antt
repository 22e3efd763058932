-- The image of a configuration. This project's own.
use Rattle.std.specs.Prelude.{ℕ, List, ◌++◌}
use Rattle.eid_record.specs.Layout.{fixed_bytes}
use Rattle.eid_store.specs.NewCells.{new_cells}
use Rattle.eid_perso.specs.Config.{PlainConfig}

-- new cells with its record
unfoldable pub image : PlainConfig → List ℕ
image c = new_cells c.layout (fixed_bytes c.fields ++ c.files)

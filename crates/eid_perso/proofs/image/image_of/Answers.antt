-- The cells that memory is taken for are new ones.
use Rattle.std.proofs.Common.{ℕ, List, ◌++◌, Some, ap, ◌∙◌, arith}
use Rattle.std.proofs.lemmas.List.{take_at}
use Rattle.eid_record.specs.Files.{full_of}
use Rattle.eid_record.specs.Layout.{fixed_bytes}
use Rattle.eid_record.specs.View.{record_view}
use Rattle.eid_store.specs.NewCells.{blank, new_cells}
use Rattle.eid_store.specs.Stands.{stands}
use Rattle.eid_perso.specs.Image.{image}
use Rattle.eid_perso.proofs.image.image_of.Goals as goal

pub put_new-requires-clause-blank : goal.put_new-requires-clause-blank
unfolding blank
put_new-requires-clause-blank c = c.as_mut_slice.ensures.value ∙ c.in_ok-written.ensures.items_if_clones_equal (λ y h. h)

pub returns-clause-bytes : goal.returns-clause-bytes
unfolding image
returns-clause-bytes c =
    take_at _ _ _ (omega (arith, c.put_new.ensures.size, c.in_ok-written.ensures.len)) ∙ c.put_new.ensures.cells
    ∙ ap (λ (files : List ℕ). new_cells c.args.c.now.layout (fixed_bytes (record_view c.args.c.now.kept) ++ files)) c.as_slice.ensures.value

pub returns-clause-stands : goal.returns-clause-stands
returns-clause-stands c =
    ap stands (take_at _ _ _ (omega (arith, c.put_new.ensures.size, c.in_ok-written.ensures.len))) ∙ c.put_new.ensures.stands
    ∙ ap (λ (files : List ℕ). Some (full_of (record_view c.args.c.now.kept) files)) c.as_slice.ensures.value

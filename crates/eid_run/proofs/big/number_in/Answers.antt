-- The number that the mounted store keeps is that of the record that the cells stand for.
use Rattle.std.proofs.Common.{◌≡◌, ap, ◌∙◌}
use Rattle.eid_cells.specs.Memory.{memory_cells, memory_device}
use Rattle.eid_record.specs.Plain.{PlainRecord}
use Rattle.eid_store.specs.Stands.{stands}
use Rattle.eid_run.proofs.Counting.{fields_are}
use Rattle.eid_run.proofs.big.number_in.Goals as goal

pub returns : goal.returns
returns c = λ full stood.
    let cells = memory_cells c.mount.new.cells in
    let still : stands cells ≡ stands c.args.cells.items = c.mount.ensures.same ∙ ap stands (c.power.ensures.cells ∙ c.new-device.ensures.cells) in
    ap (λ (r : PlainRecord). r.number) (c.kept.ensures ∙ fields_are c.in-Ok.store (memory_device c.mount.new.cells) cells full c.in-Ok.ensures.fits (still ∙ stood))

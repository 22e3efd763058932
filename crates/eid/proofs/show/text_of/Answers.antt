-- The fields that the mounted store keeps are those of the record that the cells stand for.
use Rattle.std.proofs.Common.{◌≡◌, ℕ, Option, Some, Result, Ok, Err, slice_index, ap, ◌∙◌, arith}
use Rattle.std.proofs.lemmas.Grind.{common_steps}
use Rattle.std.specs.Prelude.{IfOk, Vec}
use Rattle.std.specs.declared.alloc.Global.{Global}
use Rattle.eid_base.specs.declared.codes.NoMemory.{NoMemory}
use Rattle.eid_cells.specs.Memory.{memory_cells, memory_device}
use Rattle.eid_record.specs.Plain.{PlainRecord, FullRecord}
use Rattle.eid_record.specs.View.{record_view}
use Rattle.eid_store.specs.Stands.{stands}
use Rattle.eid_run.proofs.Counting.{fields_are}
use Rattle.eid_perso.specs.Show.{shown}
use Rattle.eid.proofs.show.text_of.Goals as goal

shows : (r : Result (Vec ℕ Global) NoMemory) (layout first : ℕ) (fields : PlainRecord) (stood : Option FullRecord) → layout ≡ first → ((full : FullRecord) → stood ≡ Some full → fields ≡ full.fields)
    → IfOk r (λ text. text.items ≡ shown layout fields) → IfOk r (λ text. (full : FullRecord) → stood ≡ Some full → text.items ≡ shown first full.fields)
shows (Ok text) layout first fields stood begins same is = λ full stands_so. is ∙ ap (λ (n : ℕ). shown n fields) begins ∙ ap (shown first) (same full stands_so)
shows (Err error) layout first fields stood begins same is = is

pub returns : goal.returns
returns c =
    let cells = memory_cells c.mount.new.cells in
    let still : stands cells ≡ stands c.args.cells.items = c.mount.ensures.same ∙ ap stands (c.power.ensures.cells ∙ c.new-device.ensures.cells) in
    let begins : c.index-layout.result.now ≡ slice_index c.args.cells.items 0 = grind (arith, common_steps) in
    shows c.show_text.result _ (slice_index c.args.cells.items 0) (record_view c.kept.result.now) (stands c.args.cells.items) begins
    (λ full stood. c.kept.ensures ∙ fields_are c.in-Ok.store (memory_device c.mount.new.cells) cells full c.in-Ok.ensures.fits (still ∙ stood))
    c.show_text.ensures

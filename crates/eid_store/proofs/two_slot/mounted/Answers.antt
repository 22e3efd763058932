use Rattle.std.proofs.Common.{◌≡◌, ℕ, List, take, ap, sym, ◌∙◌, ◌+◌, arith, slice_range}
use Rattle.eid_record.specs.Reading.{record_in}
use Rattle.eid_store.specs.Slots.{record_of, room_of}
use Rattle.eid_store.specs.declared.slot.Slot.{Slot}
use Rattle.eid_store.proofs.Rooms.{room_front}
use Rattle.eid_store.proofs.Fitting.{not_the_layout, no_slot, no_record, mounted_fits}
use Rattle.eid_store.proofs.two_slot.mounted.Goals as goal

-- what is read at the slot's record
fixed_is : (slot : Slot) (place : ℕ) (cells fixed : List ℕ) → place ≡ record_of slot → fixed ≡ slice_range cells place (place + 448) → fixed ≡ take 448 (room_of slot cells)
fixed_is slot place cells fixed there read = read ∙ ap (λ (p : ℕ). slice_range cells p (p + 448)) there ∙ room_front slot cells 448 (omega arith)

pub returns-then-cell-ne-TWO_SLOTS-clause-none : goal.returns-then-cell-ne-TWO_SLOTS-clause-none
returns-then-cell-ne-TWO_SLOTS-clause-none g c =
    not_the_layout (g.E.Eeprom.cells c.args.cells.now) (λ e. c.if-cell-ne-TWO_SLOTS.true (c.cell.ensures ∙ e))

pub returns-in_default-clause-none : goal.returns-in_default-clause-none
returns-in_default-clause-none g c = no_slot (g.E.Eeprom.cells c.args.cells.now) (sym c.current.ensures ∙ c.in_default.is)

pub returns-in-Ok-clause-fits : goal.returns-in-Ok-clause-fits
returns-in-Ok-clause-fits g c =
    let cells = g.E.Eeprom.cells c.args.cells.now in
    let slot = c.in-Some.slot in
    let fixed = fixed_is slot c.record.result cells c.read.new.into c.record.ensures c.read.ensures in
    mounted_fits c.in-Ok.kept slot (g.E.Eeprom.device c.args.cells.now) cells c.requires (sym c.cell.ensures ∙ c.if-cell-ne-TWO_SLOTS.false) (sym c.current.ensures ∙ c.in-Some.is)
    (sym (ap record_in fixed) ∙ c.in-Ok.ensures.exact)

pub returns-in-Err-clause-none : goal.returns-in-Err-clause-none
returns-in-Err-clause-none g c =
    let cells = g.E.Eeprom.cells c.args.cells.now in
    let slot = c.in-Some.slot in
    let fixed = fixed_is slot c.record.result cells c.read.new.into c.record.ensures c.read.ensures in
    no_record slot cells c.in-Err.field-0.place (sym c.current.ensures ∙ c.in-Some.is) (sym (ap record_in fixed) ∙ c.in-Err.ensures.exact)

use Rattle.std.proofs.Common.{◌≡◌, ℕ, List, ap, ◌∙◌}
use Rattle.std.proofs.Common.{Ok, slice_index, IsTrue}
use Rattle.eid_record.specs.declared.fields.Record.{Record}
use Rattle.eid_record.specs.View.{record_view}
use Rattle.eid_store.specs.declared.slot.Slot.{Slot}
use Rattle.eid_store.specs.Slots.{other_of}
use Rattle.eid_store.specs.Durable.{IsAllOrNothing}
use Rattle.eid_store.specs.Fits.{two_slot_fields, TwoSlotFits}
use Rattle.std.specs.Option.{option_map}
use Rattle.eid_cells.specs.Device.{Device}
use Rattle.eid_record.specs.Plain.{PlainRecord, PlainEffect}
use Rattle.eid_record.specs.Effect.{committed, committed_fields}
use Rattle.eid_record.specs.EffectView.{effect_view}
use Rattle.eid_store.specs.declared.next.NewRecord.{NewRecord}
use Rattle.eid_store.specs.declared.two_slot.TwoSlot.{TwoSlot}
use Rattle.eid_store.specs.Stands.{two_slot_stands}
use Rattle.eid_store.specs.Turn.{SameSlot, IsTurned, WasTurning}
use Rattle.eid_store.proofs.Fitting.{fits_valid, fits_total, commit_cut, commit_done, commit_fits, Prepared, prepared}
use Rattle.eid_store.proofs.TwoSlotLaws.{two_slot_commit}
use Rattle.eid_store.proofs.Turning.{at_err}
use Rattle.eid_store.proofs.two_slot.TwoSlotDurable.commit.Goals as goal

pub change_of-change_at-requires-clause-count : goal.change_of-change_at-requires-clause-count
change_of-change_at-requires-clause-count g c =
    (fits_valid c.args.self.now (g.E.Eeprom.device c.args.cells.now) (g.E.Eeprom.cells c.args.cells.now) (g.met.E.Eeprom.count c.args.cells.now) c.requires.fits).files

pub change_of-change_at-requires-clause-fit : goal.change_of-change_at-requires-clause-fit
change_of-change_at-requires-clause-fit g c =
    fits_total c.args.self.now (g.E.Eeprom.device c.args.cells.now) (g.E.Eeprom.cells c.args.cells.now) (g.met.E.Eeprom.count c.args.cells.now) c.requires.fits

pub files_size-size-requires : goal.files_size-size-requires
files_size-size-requires g c =
    fits_total c.args.self.now (g.E.Eeprom.device c.args.cells.now) (g.E.Eeprom.cells c.args.cells.now) (g.met.E.Eeprom.count c.args.cells.now) c.requires.fits

pub advance-requires-clause-valid : goal.advance-requires-clause-valid
advance-requires-clause-valid g c =
    fits_valid c.args.self.now (g.E.Eeprom.device c.args.cells.now) (g.E.Eeprom.cells c.args.cells.now) (g.met.E.Eeprom.count c.args.cells.now) c.requires.fits

done_at : (store : TwoSlot) (effect : PlainEffect) (device : Device) (old new : List ℕ) (next : NewRecord) → IsTurned store.slot next old new → Prepared store effect device old next
    → SameSlot store.slot old new → slice_index new 0 ≡ slice_index old 0 → two_slot_stands new ≡ option_map (committed effect) (two_slot_stands old)
done_at store effect device old new next turned p same layout = commit_done store effect next device old new p.long p.fits p.ready p.is same layout turned

cut_at : (store : TwoSlot) (effect : PlainEffect) (device : Device) (old new : List ℕ) (next : NewRecord) → WasTurning store.slot next old new → Prepared store effect device old next
    → SameSlot store.slot old new → slice_index new 0 ≡ slice_index old 0 → IsAllOrNothing effect (two_slot_stands old) (two_slot_stands new)
cut_at store effect device old new next cut p same layout = commit_cut store effect next device old new p.long p.fits p.ready p.is same layout cut

fits_at : (store : TwoSlot) (effect : PlainEffect) (device : Device) (old new : List ℕ) (next : NewRecord) → IsTurned store.slot next old new → Prepared store effect device old next
    → SameSlot store.slot old new → slice_index new 0 ≡ slice_index old 0 → (kept : Record) (slot : Slot) (now : Device)
    → record_view kept ≡ committed_fields effect (two_slot_fields store) → slot ≡ other_of store.slot → IsTrue now.has_power
    → TwoSlotFits (record { kept = kept; slot = slot }) now new
fits_at store effect device old new next turned p same layout kept slot now fields there power =
    commit_fits store effect next device old new p.long p.fits p.ready p.is same layout turned kept slot now fields there power

pub turn-requires-clause-ready : goal.turn-requires-clause-ready
turn-requires-clause-ready g c =
    (prepared c.args.self.now (effect_view c.args.effect.now) (g.E.Eeprom.device c.args.cells.now) (g.E.Eeprom.cells c.args.cells.now) _
    (g.met.E.Eeprom.count c.args.cells.now) c.requires.fits c.requires.effect c.advance.array_long (c.advance.ensures.bytes ∙ ap (λ (r : PlainRecord). Ok r) c.advance.ensures.fields)
    c.files_size-size.ensures c.change_of-change_at.ensures.place c.change_of-change_at.ensures.bytes).ready

pub returns-in_err-turn-clause-cut : goal.returns-in_err-turn-clause-cut
returns-in_err-turn-clause-cut g c =
    at_err c.from_residual.result (cut_at c.args.self.now (effect_view c.args.effect.now) (g.E.Eeprom.device c.args.cells.now) (g.E.Eeprom.cells c.args.cells.now) (g.E.Eeprom.cells c.turn.new.cells) _
    c.in_err-turn.ensures.cut (prepared c.args.self.now (effect_view c.args.effect.now) (g.E.Eeprom.device c.args.cells.now) (g.E.Eeprom.cells c.args.cells.now) _
    (g.met.E.Eeprom.count c.args.cells.now) c.requires.fits c.requires.effect c.advance.array_long (c.advance.ensures.bytes ∙ ap (λ (r : PlainRecord). Ok r) c.advance.ensures.fields)
    c.files_size-size.ensures c.change_of-change_at.ensures.place c.change_of-change_at.ensures.bytes) c.turn.ensures.same c.turn.ensures.layout)

pub returns-clause-committed : goal.returns-clause-committed
returns-clause-committed g c =
    done_at c.args.self.now (effect_view c.args.effect.now) (g.E.Eeprom.device c.args.cells.now) (g.E.Eeprom.cells c.args.cells.now) (g.E.Eeprom.cells c.turn.new.cells) _
    c.in_ok-turn.ensures.turned (prepared c.args.self.now (effect_view c.args.effect.now) (g.E.Eeprom.device c.args.cells.now) (g.E.Eeprom.cells c.args.cells.now) _
    (g.met.E.Eeprom.count c.args.cells.now) c.requires.fits c.requires.effect c.advance.array_long (c.advance.ensures.bytes ∙ ap (λ (r : PlainRecord). Ok r) c.advance.ensures.fields)
    c.files_size-size.ensures c.change_of-change_at.ensures.place c.change_of-change_at.ensures.bytes) c.turn.ensures.same c.turn.ensures.layout

pub returns-clause-fits : goal.returns-clause-fits
returns-clause-fits g c =
    fits_at c.args.self.now (effect_view c.args.effect.now) (g.E.Eeprom.device c.args.cells.now) (g.E.Eeprom.cells c.args.cells.now) (g.E.Eeprom.cells c.turn.new.cells) _
    c.in_ok-turn.ensures.turned (prepared c.args.self.now (effect_view c.args.effect.now) (g.E.Eeprom.device c.args.cells.now) (g.E.Eeprom.cells c.args.cells.now) _
    (g.met.E.Eeprom.count c.args.cells.now) c.requires.fits c.requires.effect c.advance.array_long (c.advance.ensures.bytes ∙ ap (λ (r : PlainRecord). Ok r) c.advance.ensures.fields)
    c.files_size-size.ensures c.change_of-change_at.ensures.place c.change_of-change_at.ensures.bytes) c.turn.ensures.same c.turn.ensures.layout
    c.advance.new.kept c.other-self.result (g.E.Eeprom.device c.turn.new.cells) c.advance.ensures.fields c.other-self.ensures
    (ap (λ (d : Device). d.has_power) c.in_ok-turn.ensures.cost.steady ∙ c.requires.fits.power)

pub returns-in_err-turn-clause-least : goal.returns-in_err-turn-clause-least
returns-in_err-turn-clause-least g c =
    (two_slot_commit c.args.self.now (g.E.Eeprom.device c.args.cells.now) (g.E.Eeprom.cells c.args.cells.now) (effect_view c.args.effect.now) (g.met.E.Eeprom.count c.args.cells.now) c.requires.fits).0

pub returns-in_err-turn-clause-most : goal.returns-in_err-turn-clause-most
returns-in_err-turn-clause-most g c =
    (two_slot_commit c.args.self.now (g.E.Eeprom.device c.args.cells.now) (g.E.Eeprom.cells c.args.cells.now) (effect_view c.args.effect.now) (g.met.E.Eeprom.count c.args.cells.now) c.requires.fits).1

pub returns-clause-least : goal.returns-clause-least
returns-clause-least g c =
    (two_slot_commit c.args.self.now (g.E.Eeprom.device c.args.cells.now) (g.E.Eeprom.cells c.args.cells.now) (effect_view c.args.effect.now) (g.met.E.Eeprom.count c.args.cells.now) c.requires.fits).0

pub returns-clause-most : goal.returns-clause-most
returns-clause-most g c =
    (two_slot_commit c.args.self.now (g.E.Eeprom.device c.args.cells.now) (g.E.Eeprom.cells c.args.cells.now) (effect_view c.args.effect.now) (g.met.E.Eeprom.count c.args.cells.now) c.requires.fits).1

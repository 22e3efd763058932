-- The record held has the store's lengths, and its files have them.
use Rattle.std.proofs.Common.{ap, sym, ◌∙◌, subst, ℕ, ◌≤◌, Option, None}
use Rattle.std.specs.Prelude.{IfSome, slice_index_or}
use Rattle.eid_record.specs.Plain.{PlainRecord}
use Rattle.eid_chip.proofs.HeldFiles.{held_length}
use Rattle.eid_chip.proofs.files.file_length.Goals as goal

pub returns-clause-length : goal.returns-clause-length
returns-clause-length g c =
    let held = held_length c.args.store.now (g.E.Eeprom.device c.args.cells.now) (g.E.Eeprom.cells c.args.cells.now) c.args.file.0 (g.met.E.Eeprom.count c.args.cells.now) c.requires in
    held.0 ∙ ap (λ (r : PlainRecord). slice_index_or r.lengths c.args.file.0 None) (sym c.kept.ensures) ∙ sym c.kept_length.ensures

pub returns-clause-small : goal.returns-clause-small
returns-clause-small g c =
    let held = held_length c.args.store.now (g.E.Eeprom.device c.args.cells.now) (g.E.Eeprom.cells c.args.cells.now) c.args.file.0 (g.met.E.Eeprom.count c.args.cells.now) c.requires in
    subst (λ (o : Option ℕ). IfSome o (λ n. n ≤ 2048)) (ap (λ (r : PlainRecord). slice_index_or r.lengths c.args.file.0 None) (sym c.kept.ensures) ∙ sym c.kept_length.ensures) held.1

pub returns-clause-entry : goal.returns-clause-entry
returns-clause-entry g c = ap (λ (r : PlainRecord). slice_index_or r.lengths c.args.file.0 None) (sym c.kept.ensures) ∙ sym c.kept_length.ensures

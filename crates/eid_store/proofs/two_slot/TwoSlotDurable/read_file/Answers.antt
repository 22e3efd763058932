use Rattle.std.proofs.Common.{◌≡◌, ℕ, List, Some, length, take, ap, sym, ◌∙◌, ◌+◌, ◌≤◌, arith, slice_range}
use Rattle.eid_record.specs.Files.{total}
use Rattle.eid_store.specs.Slots.{record_of}
use Rattle.eid_store.proofs.Rooms.{record_fits}
use Rattle.eid_store.proofs.FileBytes.{range_known, range_inside}
use Rattle.eid_store.proofs.Fitting.{fits_valid, fits_total, file_read}
use Rattle.eid_store.proofs.two_slot.TwoSlotDurable.read_file.Goals as goal

pub place_of-requires-clause-known : goal.place_of-requires-clause-known
place_of-requires-clause-known g c =
    let valid = fits_valid c.args.self.now (g.E.Eeprom.device c.args.cells.now) (g.E.Eeprom.cells c.args.cells.now) (g.met.E.Eeprom.count c.args.cells.now) c.requires.fits in
    omega (arith, range_known c.args.self.now.kept.lengths c.args.file.0 c.args.offset (length c.args.into.now) c.requires.range, valid.files)

pub place_of-requires-clause-fit : goal.place_of-requires-clause-fit
place_of-requires-clause-fit g c = fits_total c.args.self.now (g.E.Eeprom.device c.args.cells.now) (g.E.Eeprom.cells c.args.cells.now) (g.met.E.Eeprom.count c.args.cells.now) c.requires.fits

-- the range lies inside the files
within : (place offset count all read from : ℕ) → read ≡ place → from ≡ offset → place + offset + count ≤ all → all ≤ 24000 → read + from + count ≤ 24000
within place offset count all read from a b inside fit = omega (arith, a, b, inside, fit)

pub overflow_add-place : goal.overflow_add-place
overflow_add-place g c =
    let lengths = c.args.self.now.kept.lengths in
    let fit = fits_total c.args.self.now (g.E.Eeprom.device c.args.cells.now) (g.E.Eeprom.cells c.args.cells.now) (g.met.E.Eeprom.count c.args.cells.now) c.requires.fits in
    let small = within (total (take c.args.file.0 lengths)) c.args.offset (length c.args.into.now) (total lengths) c.place_of.result c.from.result c.place_of.ensures c.from.ensures
    (range_inside lengths c.args.file.0 c.args.offset (length c.args.into.now) c.requires.range) fit in
    omega (arith, small)

pub overflow_add-record-2 : goal.overflow_add-record-2
overflow_add-record-2 g c =
    let lengths = c.args.self.now.kept.lengths in
    let fit = fits_total c.args.self.now (g.E.Eeprom.device c.args.cells.now) (g.E.Eeprom.cells c.args.cells.now) (g.met.E.Eeprom.count c.args.cells.now) c.requires.fits in
    let small = within (total (take c.args.file.0 lengths)) c.args.offset (length c.args.into.now) (total lengths) c.place_of.result c.from.result c.place_of.ensures c.from.ensures
    (range_inside lengths c.args.file.0 c.args.offset (length c.args.into.now) c.requires.range) fit in
    omega (arith, small, c.record.ensures, (record_fits c.args.self.now.slot).1)

pub read-requires-clause-inside : goal.read-requires-clause-inside
read-requires-clause-inside g c =
    let lengths = c.args.self.now.kept.lengths in
    let fit = fits_total c.args.self.now (g.E.Eeprom.device c.args.cells.now) (g.E.Eeprom.cells c.args.cells.now) (g.met.E.Eeprom.count c.args.cells.now) c.requires.fits in
    let small = within (total (take c.args.file.0 lengths)) c.args.offset (length c.args.into.now) (total lengths) c.place_of.result c.from.result c.place_of.ensures c.from.ensures
    (range_inside lengths c.args.file.0 c.args.offset (length c.args.into.now) c.requires.range) fit in
    omega (arith, small, c.record.ensures, (record_fits c.args.self.now.slot).1)

-- the place that is read is that of the range
same_range : (cells : List ℕ) (count p q : ℕ) → p ≡ q → slice_range cells p (p + count) ≡ slice_range cells q (q + count)
same_range cells count p q same = ap (λ (k : ℕ). slice_range cells k (k + count)) same

pub returns : goal.returns
returns g c =
    let cells = g.E.Eeprom.cells c.args.cells.now in
    let lengths = c.args.self.now.kept.lengths in
    let count = length c.args.into.now in
    let place = record_of c.args.self.now.slot + 448 + (total (take c.args.file.0 lengths) + c.args.offset) in
    let there : c.record.result + 448 + (c.place_of.result + c.from.result) ≡ place = omega (arith, c.record.ensures, c.place_of.ensures, c.from.ensures) in
    file_read c.args.self.now (g.E.Eeprom.device c.args.cells.now) cells c.args.file.0 c.args.offset count (g.met.E.Eeprom.count c.args.cells.now) c.requires.fits c.requires.range
    ∙ ap (λ (b : List ℕ). Some b) (sym (same_range cells count (c.record.result + 448 + (c.place_of.result + c.from.result)) place there) ∙ sym c.read.ensures)

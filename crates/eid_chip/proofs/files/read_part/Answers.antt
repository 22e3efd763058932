-- The range is inside the file, and the store reads it.
use Rattle.eid_store.proofs.Laws.{stood_for}
use Rattle.eid_chip.proofs.HeldFiles.{held_length, has_range, held_part}
use Rattle.eid_chip.proofs.files.read_part.Goals as goal

pub read_file-requires-clause-range : goal.read_file-requires-clause-range
read_file-requires-clause-range g c =
    let held = held_length c.args.store.now (g.E.Eeprom.device c.args.cells.now) (g.E.Eeprom.cells c.args.cells.now) c.args.file.0 (g.met.E.Eeprom.count c.args.cells.now) c.requires.fits in
    has_range _ _ c.args.offset _ held.0 c.requires.there

pub returns : goal.returns
returns g c =
    let stands = stood_for c.args.store.now (g.E.Eeprom.device c.args.cells.now) (g.E.Eeprom.cells c.args.cells.now) c.requires.fits in
    held_part (g.E.Eeprom.cells c.args.cells.now) c.args.file.0 c.args.offset _ _ stands.0 stands.1 c.read_file.ensures

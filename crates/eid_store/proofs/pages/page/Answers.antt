use Rattle.std.proofs.Common.{◌*◌, ◌∙◌}
use Rattle.eid_store.specs.Slots.{room_of}
use Rattle.eid_store.specs.Cost.{page_count}
use Rattle.eid_store.proofs.Rooms.{length-room}
use Rattle.eid_store.proofs.PageBytes.{fixed_page, files_page, read_page, length-old_files, old_files}
use Rattle.eid_store.proofs.pages.page.Goals as goal

pub returns-then-start-lt-FILES_FROM : goal.returns-then-start-lt-FILES_FROM
returns-then-start-lt-FILES_FROM g c =
    c.copy_from_slice.ensures.after
    ∙ fixed_page c.args.next.now (room_of c.args.source (g.E.Eeprom.cells c.args.cells.now)) (page_count c.args.next.now.size) c.args.index c.requires.ready c.if-start-lt-FILES_FROM.true

pub returns : goal.returns
returns g c =
    let cells = g.E.Eeprom.cells c.args.cells.now in
    let room = room_of c.args.source cells in
    let next = c.args.next.now in
    let long = length-room c.args.source cells (g.met.E.Eeprom.count c.args.cells.now) in
    files_page next room c.change_page.new.page c.args.index c.requires.ready long c.change_page.array_long c.if-start-lt-FILES_FROM.false c.requires.index
    (c.change_page.ensures (old_files next room) (length-old_files next room c.requires.ready long) (λ k small inside.
    rw (c.read.ensures, c.record.ensures) (read_page c.args.source next cells (64 * c.args.index) c.requires.ready c.if-start-lt-FILES_FROM.false k small inside)))

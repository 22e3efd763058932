use Rattle.std.proofs.Common.{◌≡◌, ℕ, ◌+◌, ◌*◌, ◌<◌, List, length, take, ap, ◌∙◌, arith}
use Rattle.std.proofs.lemmas.List.{length-take}
use Rattle.eid_cells.specs.Cells.{SameOutside, patched}
use Rattle.eid_store.specs.Slots.{record_of, other_of, room_of}
use Rattle.eid_store.specs.Cost.{page_count}
use Rattle.eid_store.specs.Pages.{filled, page_of}
use Rattle.eid_store.specs.NewRecord.{next_bytes}
use Rattle.eid_store.specs.declared.slot.Slot.{Slot}
use Rattle.eid_store.specs.declared.next.NewRecord.{NewRecord}
use Rattle.eid_store.specs.NewRecord.{IsReady}
use Rattle.eid_store.proofs.Rooms.{length-room}
use Rattle.eid_store.proofs.Costs.{steady_more, spared_more}
use Rattle.eid_store.proofs.Writes.{room_apart, room_alone, length-pages, length-page, one_more, cut_page}
use Rattle.eid_store.proofs.pages.write_pages.Goals as goal

-- a number below the count of pages
count_is : (i count pages : ℕ) → count ≡ pages → i < count → i < pages
count_is i count pages same below = omega (arith, same, below)

-- the pages of the record that is written
abbrev all_pages : Slot → NewRecord → List ℕ → List ℕ
all_pages source next first = filled (page_count next.size) (next_bytes next (room_of source first))

-- so many of them change the other slot's room alone
same_so_far : (source : Slot) (next : NewRecord) (first cells : List ℕ) (count : ℕ) → length first ≡ 65536 → IsReady next
    → cells ≡ patched (record_of (other_of source)) (take (64 * count) (all_pages source next first)) first
    → SameOutside (record_of (other_of source)) 24448 first cells
same_so_far source next first cells count long ready written =
    let whole = length-pages next (room_of source first) ready (length-room source first long) in
    room_alone (other_of source) (take (64 * count) (all_pages source next first)) first cells long
    (omega (arith, length-take (64 * count) (all_pages source next first), whole.0, whole.1)) written

pub returns-in_err-write-clause-same : goal.returns-in_err-write-clause-same
returns-in_err-write-clause-same g c =
    let source = c.args.source in
    let next = c.args.next.now in
    let first = g.E.Eeprom.cells c.args.cells.now in
    let cells = g.E.Eeprom.cells c.loop-index.cells in
    let long = g.met.E.Eeprom.count c.args.cells.now in
    let so_far = same_so_far source next first cells c.loop-index.index long c.requires.ready c.loop-index.invariant.written in
    let whole_now = length-pages next (room_of source cells) c.requires.ready (length-room source cells (g.met.E.Eeprom.count c.loop-index.cells)) in
    let inside = count_is c.loop-index.index c.page_count-pages.result (page_count next.size) c.page_count-pages.ensures c.loop-index-test.true in
    let size : length c.page-page.result ≡ 64 = rw c.page-page.ensures (length-page (all_pages source next cells) (page_count next.size) c.loop-index.index whole_now.0 inside) in
    let place : c.record.result ≡ record_of (other_of source) = c.record.ensures ∙ ap record_of c.other-target.ensures in
    cut_page (other_of source) (c.record.result + 64 * c.loop-index.index) (length c.page-page.result) first cells (g.E.Eeprom.cells c.write.new.self)
    (omega (arith, place)) (omega (arith, place, size, whole_now.1, inside)) so_far c.write.ensures.outside

pub loop-index-preserved : goal.loop-index-preserved
loop-index-preserved g c =
    let source = c.args.source in
    let next = c.args.next.now in
    let first = g.E.Eeprom.cells c.args.cells.now in
    let cells = g.E.Eeprom.cells c.loop-index.cells in
    let i = c.loop-index.index in
    let long = g.met.E.Eeprom.count c.args.cells.now in
    let so_far = same_so_far source next first cells i long c.requires.ready c.loop-index.invariant.written in
    let whole = length-pages next (room_of source first) c.requires.ready (length-room source first long) in
    let room : room_of source cells ≡ room_of source first = room_apart source first cells so_far in
    let inside = count_is i c.page_count-pages.result (page_count next.size) c.page_count-pages.ensures c.loop-index-test.true in
    let page : c.page-page.result ≡ page_of i (all_pages source next first) = c.page-page.ensures ∙ ap (λ (r : List ℕ). page_of i (filled (page_count next.size) (next_bytes next r))) room in
    let place : c.record.result ≡ record_of (other_of source) = c.record.ensures ∙ ap record_of c.other-target.ensures in
    let there : g.E.Eeprom.cells c.write.new.self ≡ patched (record_of (other_of source) + 64 * i) c.page-page.result cells =
    c.in_ok-write.ensures.written ∙ ap (λ (p : ℕ). patched (p + 64 * i) c.page-page.result cells) place in
    record {
      written = there ∙ one_more (other_of source) (all_pages source next first) first cells c.page-page.result (page_count next.size) i long whole.0 whole.1 inside page c.loop-index.invariant.written;
      steady = steady_more i (g.E.Eeprom.device c.args.cells.now) (g.E.Eeprom.device c.loop-index.cells) (g.E.Eeprom.device c.write.new.self) c.loop-index.invariant.steady c.in_ok-write.ensures.steady;
      spared = spared_more i (g.E.Eeprom.device c.args.cells.now) (g.E.Eeprom.device c.loop-index.cells) c.loop-index.invariant.steady c.loop-index.invariant.spared (λ told one. (c.in_ok-write.ensures.as_planned told).1 one);
    }

pub returns-clause-same : goal.returns-clause-same
returns-clause-same g c =
    same_so_far c.args.source c.args.next.now (g.E.Eeprom.cells c.args.cells.now) (g.E.Eeprom.cells c.loop-index.cells) c.loop-index.index (g.met.E.Eeprom.count c.args.cells.now) c.requires.ready c.loop-index.invariant.written

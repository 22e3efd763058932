use Rattle.std.proofs.Common.{◌≡◌, List, ℕ, Bool, false, true, ◌∙◌, subst}
use Rattle.std.proofs.lemmas.Result.{on_ok_weaker}
use Rattle.eid_cells.specs.Cells.{SameOutside}
use Rattle.eid_store.specs.declared.slot.Slot.{Slot}
use Rattle.eid_store.specs.Slots.{gate_of, other_of, is_open}
use Rattle.eid_store.proofs.SlotStands.{gate_apart, pages_apart, same_slot_trans, layout_by_gate, layout_by_pages}
use Rattle.eid_store.proofs.Turning.{cut_in_close, cut_in_pages, cut_in_open, turned, at_err}
use Rattle.eid_store.proofs.turn.turn.Goals as goal

-- a clause on one slot, read at an equal one
gate_at : (s t : Slot) (old new : List ℕ) → s ≡ t → SameOutside (gate_of s) 1 old new → SameOutside (gate_of t) 1 old new
gate_at s t old new same h = subst (λ (x : Slot). SameOutside (gate_of x) 1 old new) same h

open_at : (s t : Slot) (cells : List ℕ) (b : Bool) → s ≡ t → is_open s cells ≡ b → is_open t cells ≡ b
open_at s t cells b same h = subst (λ (x : Slot). is_open x cells ≡ b) same h

pub returns-in_err-close_gate-clause-cut : goal.returns-in_err-close_gate-clause-cut
returns-in_err-close_gate-clause-cut g c =
    at_err c.from_residual.result (cut_in_close c.args.slot c.args.next.now (g.E.Eeprom.cells c.args.cells.now) (g.E.Eeprom.cells c.close_gate.new.cells)
    (open_at _ _ (g.E.Eeprom.cells c.args.cells.now) true c.other-other.ensures c.in_err-close_gate.ensures.was_open) (gate_at _ _ _ _ c.other-other.ensures c.close_gate.ensures.same))

pub returns-in_err-close_gate-clause-same : goal.returns-in_err-close_gate-clause-same
returns-in_err-close_gate-clause-same g c =
    gate_apart c.args.slot (g.E.Eeprom.cells c.args.cells.now) (g.E.Eeprom.cells c.close_gate.new.cells) (gate_at _ _ _ _ c.other-other.ensures c.close_gate.ensures.same)

pub returns-in_err-close_gate-clause-layout : goal.returns-in_err-close_gate-clause-layout
returns-in_err-close_gate-clause-layout g c = layout_by_gate c.other-other.result (g.E.Eeprom.cells c.args.cells.now) (g.E.Eeprom.cells c.close_gate.new.cells) c.close_gate.ensures.same

pub returns-in_err-write_pages-clause-cut : goal.returns-in_err-write_pages-clause-cut
returns-in_err-write_pages-clause-cut g c =
    at_err c.from_residual-in_err-write_pages.result (cut_in_pages c.args.slot c.args.next.now (g.E.Eeprom.cells c.args.cells.now) (g.E.Eeprom.cells c.close_gate.new.cells) (g.E.Eeprom.cells c.write_pages.new.cells)
    (open_at _ _ (g.E.Eeprom.cells c.close_gate.new.cells) false c.other-other.ensures c.in_ok-close_gate.ensures.closed) c.write_pages.ensures.same)

pub returns-in_err-write_pages-clause-same : goal.returns-in_err-write_pages-clause-same
returns-in_err-write_pages-clause-same g c =
    let first = g.E.Eeprom.cells c.args.cells.now in
    let mid = g.E.Eeprom.cells c.close_gate.new.cells in
    let last = g.E.Eeprom.cells c.write_pages.new.cells in
    same_slot_trans c.args.slot first mid last (gate_apart c.args.slot first mid (gate_at _ _ _ _ c.other-other.ensures c.close_gate.ensures.same)) (pages_apart c.args.slot mid last c.write_pages.ensures.same)

pub returns-in_err-write_pages-clause-layout : goal.returns-in_err-write_pages-clause-layout
returns-in_err-write_pages-clause-layout g c =
    let first = g.E.Eeprom.cells c.args.cells.now in
    let mid = g.E.Eeprom.cells c.close_gate.new.cells in
    let last = g.E.Eeprom.cells c.write_pages.new.cells in
    layout_by_pages (other_of c.args.slot) mid last c.write_pages.ensures.same ∙ layout_by_gate c.other-other.result first mid c.close_gate.ensures.same

pub returns-clause-turned : goal.returns-clause-turned
returns-clause-turned g c =
    let first = g.E.Eeprom.cells c.args.cells.now in
    let mid = g.E.Eeprom.cells c.close_gate.new.cells in
    let last = g.E.Eeprom.cells c.write_pages.new.cells in
    let new = g.E.Eeprom.cells c.open_gate.new.cells in
    on_ok_weaker c.open_gate.result (λ opened. turned c.args.slot c.args.next.now first mid last new (g.met.E.Eeprom.count c.close_gate.new.cells) c.requires.ready
    (gate_at _ _ _ _ c.other-other.ensures c.close_gate.ensures.same) c.in_ok-write_pages.ensures.written (gate_at _ _ _ _ c.other-other.ensures c.open_gate.ensures.same)
    (open_at _ _ new true c.other-other.ensures opened)) c.open_gate.ensures.opened

pub returns-clause-cut : goal.returns-clause-cut
returns-clause-cut g c =
    let first = g.E.Eeprom.cells c.args.cells.now in
    let mid = g.E.Eeprom.cells c.close_gate.new.cells in
    let last = g.E.Eeprom.cells c.write_pages.new.cells in
    let new = g.E.Eeprom.cells c.open_gate.new.cells in
    at_err c.open_gate.result (cut_in_open c.args.slot c.args.next.now first mid last new (g.met.E.Eeprom.count c.close_gate.new.cells) c.requires.ready
    (gate_at _ _ _ _ c.other-other.ensures c.close_gate.ensures.same) c.in_ok-write_pages.ensures.written (gate_at _ _ _ _ c.other-other.ensures c.open_gate.ensures.same))

pub returns-clause-same : goal.returns-clause-same
returns-clause-same g c =
    let first = g.E.Eeprom.cells c.args.cells.now in
    let mid = g.E.Eeprom.cells c.close_gate.new.cells in
    let last = g.E.Eeprom.cells c.write_pages.new.cells in
    let new = g.E.Eeprom.cells c.open_gate.new.cells in
    let slot = c.args.slot in
    same_slot_trans slot first last new
    (same_slot_trans slot first mid last (gate_apart slot first mid (gate_at _ _ _ _ c.other-other.ensures c.close_gate.ensures.same)) (pages_apart slot mid last c.write_pages.ensures.same))
    (gate_apart slot last new (gate_at _ _ _ _ c.other-other.ensures c.open_gate.ensures.same))

pub returns-clause-layout : goal.returns-clause-layout
returns-clause-layout g c =
    let first = g.E.Eeprom.cells c.args.cells.now in
    let mid = g.E.Eeprom.cells c.close_gate.new.cells in
    let last = g.E.Eeprom.cells c.write_pages.new.cells in
    let new = g.E.Eeprom.cells c.open_gate.new.cells in
    layout_by_gate c.other-other.result last new c.open_gate.ensures.same ∙ layout_by_pages (other_of c.args.slot) mid last c.write_pages.ensures.same ∙ layout_by_gate c.other-other.result first mid c.close_gate.ensures.same

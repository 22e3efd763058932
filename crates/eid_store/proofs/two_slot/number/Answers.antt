use Rattle.std.proofs.Common.{ℕ, ap, ◌∙◌, ◌+◌, arith, slice_range}
use Rattle.std.specs.Int.{w32, from_be_bytes}
use Rattle.eid_store.proofs.Rooms.{room_front}
use Rattle.eid_store.proofs.two_slot.number.Goals as goal

pub returns : goal.returns
returns g c =
    let cells = g.E.Eeprom.cells c.args.cells.now in
    c.from_be_bytes.ensures ∙ ap (from_be_bytes w32) (
    c.read.ensures ∙ ap (λ (p : ℕ). slice_range cells p (p + 4)) c.record.ensures ∙ room_front c.args.slot cells 4 (omega arith))

-- The chip begins with the store that it mounted, or is off.
use Rattle.std.proofs.Common.{◌≡◌, refl, ap, ◌∙◌, Option, Some, None}
use Rattle.eid_apdu.specs.Chaining.{Collected, OpenChain}
use Rattle.eid_record.specs.Plain.{PlainRecord}
use Rattle.eid_model.specs.Sessions.{State, fresh}
use Rattle.eid_chip.specs.States.{chained, state}
use Rattle.eid_chip.specs.Fits.{scene}
use Rattle.eid_chip.proofs.Chips.{on_follows, cut_follows, new_fits}
use Rattle.eid_chip.proofs.chip.Chip.power_on.Goals as goal

pub returns-in-Ok-clause-follows : goal.returns-in-Ok-clause-follows
returns-in-Ok-clause-follows g c = λ good.
    let closed = ap (λ (x : Collected). x.pending) c.close.ensures in
    let begins : Some (record { store = c.in-Ok.store; state = chained c.close.new.self.pending (state c.new.result None) }) ≡ Some (record { store = c.in-Ok.store; state = fresh }) =
    ap (λ (o : Option OpenChain). Some (record { store = c.in-Ok.store; state = chained o (state c.new.result None) })) closed
    ∙ ap (λ (s : State). Some (record { store = c.in-Ok.store; state = s })) c.new.ensures in
    on_follows (scene c.args.self.now (g.E.Eeprom.device c.args.cells.now) (g.E.Eeprom.cells c.args.cells.now)) _ c.in-Ok.store c.kept.result.now.number
    begins c.in-Ok.ensures.fits (c.mount.ensures.same ∙ rw c.power.ensures.cells refl)
    (ap (λ (r : PlainRecord). r.number) c.kept.ensures)

pub returns-in-Ok-clause-begins : goal.returns-in-Ok-clause-begins
returns-in-Ok-clause-begins g c = λ opening standing.
    let closed = ap (λ (x : Collected). x.pending) c.close.ensures in
    let begins : Some (record { store = c.in-Ok.store; state = chained c.close.new.self.pending (state c.new.result None) }) ≡ Some (record { store = c.in-Ok.store; state = fresh }) =
    ap (λ (o : Option OpenChain). Some (record { store = c.in-Ok.store; state = chained o (state c.new.result None) })) closed
    ∙ ap (λ (s : State). Some (record { store = c.in-Ok.store; state = s })) c.new.ensures in
    let off = scene (record { running = None }) (g.E.Eeprom.device c.args.cells.now) (g.E.Eeprom.cells c.args.cells.now) in
    let follows = on_follows off _ c.in-Ok.store c.kept.result.now.number
    begins c.in-Ok.ensures.fits (c.mount.ensures.same ∙ rw c.power.ensures.cells refl)
    (ap (λ (r : PlainRecord). r.number) c.kept.ensures) in
    (follows opening _ (new_fits off opening refl standing)).1

pub returns-in-Err-clause-follows : goal.returns-in-Err-clause-follows
returns-in-Err-clause-follows g c = λ good. cut_follows _ _ refl (c.mount.ensures.same ∙ rw c.power.ensures.cells refl)

pub returns-in-Ok-clause-bound : goal.returns-in-Ok-clause-bound
returns-in-Ok-clause-bound g c = rw (← c.power.ensures.cells) c.mount.ensures.most

pub returns-in-Err-clause-bound : goal.returns-in-Err-clause-bound
returns-in-Err-clause-bound g c = rw (← c.power.ensures.cells) c.mount.ensures.most

-- A chip without power says nothing; one with power is off where it was lost in a commit.
use Rattle.std.proofs.Common.{◌≡◌, refl, sym, ◌∙◌, ap, subst, Option, Some, None}
use Rattle.std.specs.Prelude.{option_map}
use Rattle.eid_chip.specs.Endings.{left_by, powered}
use Rattle.eid_chip.specs.States.{ChipView, RunningView, running_view}
use Rattle.eid_chip.specs.Fits.{IsSoundRunning}
use Rattle.eid_chip.proofs.Chips.{handles_same, handles_silence}
use Rattle.eid_chip.proofs.chip.Chip.handle_in.Goals as goal

pub returns-in_default-clause-handles : goal.returns-in_default-clause-handles
returns-in_default-clause-handles g c =
    let off : c.args.self.now.running ≡ None =
    ap (λ (v : ChipView). v.running) (sym c.self.view_is) ∙ ap (option_map (running_view c.self.inside.chain.pending)) c.in_default.is in
    let still = ap (option_map (running_view c.self.inside.chain.pending)) c.in_default.is in
    handles_silence c.args.self.now (option_map (running_view c.self.inside.chain.pending) c.self.inside.running) c.args.bytes.now _ _ _ off still

pub handle_on-came-requires-clause-mounted : goal.handle_on-came-requires-clause-mounted
handle_on-came-requires-clause-mounted g c =
    let alive : c.args.self.now.running ≡ Some (running_view c.self.inside.chain.pending c.in-Some.running) =
    ap (λ (v : ChipView). v.running) (sym c.self.view_is) ∙ ap (option_map (running_view c.self.inside.chain.pending)) c.in-Some.is in
    subst (λ (l : Option RunningView). IsSoundRunning l (g.E.Eeprom.device c.args.cells.now) (g.E.Eeprom.cells c.args.cells.now)) alive c.requires.sound

pub returns-then-not-is_loss-clause-handles : goal.returns-then-not-is_loss-clause-handles
returns-then-not-is_loss-clause-handles g c =
    let pending = c.self.inside.chain.pending in
    let alive : c.args.self.now.running ≡ Some (running_view pending c.in-Some.running) =
    ap (λ (v : ChipView). v.running) (sym c.self.view_is) ∙ ap (option_map (running_view pending)) c.in-Some.is in
    let old : powered pending c.in-Some.running ≡ c.args.self.now = ap (λ (o : Option RunningView). record { running = o }) (sym alive) in
    let behind = left_by c.handle_on-came.result c.handle_on-came.new.chain.pending c.handle_on-came.new.running in
    let kept : behind ≡ powered c.handle_on-came.new.chain.pending c.handle_on-came.new.running = rw (sym c.if-not-is_loss.ensures) refl in
    handles_same (g.C.Coprocessor.seen c.args.copro.now) (g.C.Coprocessor.seen c.handle_on-came.new.copro) (powered pending c.in-Some.running) c.args.self.now _ behind (g.E.Eeprom.device c.args.cells.now) (g.E.Eeprom.device c.handle_on-came.new.cells) (g.E.Eeprom.cells c.args.cells.now) (g.E.Eeprom.cells c.handle_on-came.new.cells) c.args.bytes.now _
    old kept c.handle_on-came.ensures.handles

pub returns-clause-handles : goal.returns-clause-handles
returns-clause-handles g c =
    let pending = c.self.inside.chain.pending in
    let alive : c.args.self.now.running ≡ Some (running_view pending c.in-Some.running) =
    ap (λ (v : ChipView). v.running) (sym c.self.view_is) ∙ ap (option_map (running_view pending)) c.in-Some.is in
    let old : powered pending c.in-Some.running ≡ c.args.self.now = ap (λ (o : Option RunningView). record { running = o }) (sym alive) in
    let behind = left_by c.handle_on-came.result c.handle_on-came.new.chain.pending c.handle_on-came.new.running in
    let kept : behind ≡ record { running = None } = rw (sym c.if-not-is_loss.ensures) refl in
    handles_same (g.C.Coprocessor.seen c.args.copro.now) (g.C.Coprocessor.seen c.handle_on-came.new.copro) (powered pending c.in-Some.running) c.args.self.now _ behind (g.E.Eeprom.device c.args.cells.now) (g.E.Eeprom.device c.handle_on-came.new.cells) (g.E.Eeprom.cells c.args.cells.now) (g.E.Eeprom.cells c.handle_on-came.new.cells) c.args.bytes.now _
    old kept c.handle_on-came.ensures.handles

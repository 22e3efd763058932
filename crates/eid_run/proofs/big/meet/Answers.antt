-- The terminal met the chip, over models of the coprocessors.
use Rattle.std.proofs.Common.{ℕ, List, sym, ap, ◌∙◌, subst}
use Rattle.eid_cells.specs.Memory.{memory_cells, memory_device}
use Rattle.eid_copro.specs.ModelSeen.{model_seen}
use Rattle.eid_copro.specs.Told.{Start}
use Rattle.eid_terminal.specs.Plans.{plan_view}
use Rattle.eid_run.specs.Attempts.{Met}
use Rattle.eid_run.specs.Meetings.{Coprocessors, inverted}
use Rattle.eid_run.proofs.Counting.{is_met, met_stands}
use Rattle.eid_run.proofs.big.meet.Goals as goal

pub returns-clause-met : goal.returns-clause-met
returns-clause-met c =
    let copros : Coprocessors = record {
      chip = model_seen c.new-chip_copro.result;
      chip_now = model_seen c.converse-met.new.chip_copro;
      terminal = model_seen c.new-terminal_copro.result;
      terminal_now = model_seen c.converse-met.new.terminal_copro;
    } in
    let plan = plan_view c.args.plan in
    let did = rw (c.new-device.ensures.cells, c.new-device.ensures.device) at c.in-Ok.ensures.did in
    let met = is_met c.args.number plan c.args.cells.items (memory_cells c.converse-met.new.cells) copros (memory_device c.converse-met.new.cells) c.in-Ok.tally
    (c.new-chip_copro.ensures.told ∙ ap (λ (n : ℕ). Start n) c.from-start.ensures) (c.new-terminal_copro.ensures.told ∙ ap (λ (n : ℕ). Start (inverted n)) c.from-start.ensures)
    c.new-chip_copro.ensures.log c.new-terminal_copro.ensures.log c.converse-met.new.chip_copro.answered c.converse-met.new.terminal_copro.answered c.requires.stands did in
    subst (λ (left : List ℕ). Met c.args.number plan c.args.cells.items left c.in-Ok.tally) (sym c.into_cells.ensures) met

pub returns-clause-stands : goal.returns-clause-stands
returns-clause-stands c = met_stands c.args.number (plan_view c.args.plan) c.args.cells.items c.into_cells.result.items c.in-Ok.tally (returns-clause-met c)

use Rattle.std.proofs.Common.{◌≡◌, ◌≤◌, Some, None, false}
use Rattle.std.specs.Prelude.{slice_index}
use Rattle.eid_record.specs.Plain.{FullRecord}
use Rattle.eid_store.specs.Stands.{stands}
use Rattle.eid_chip.specs.Fits.{IsSound, scene}
use Rattle.eid_terminal.specs.Plans.{plan_view}
use Rattle.eid_terminal.specs.Seen.{terminal_view}
use Rattle.eid_terminal.specs.Terminals.{begun}
use Rattle.eid_run.specs.Talk.{standing, stands_at}
use Rattle.eid_run.specs.Tallies.{no_results}
use Rattle.eid_run.proofs.SoFar.{IsTalkSoFar}
use Rattle.eid_run.proofs.session.converse.Given as goal

-- the session so far, which has not ended
abbrev pub invariant-loop : goal.invariant-loop
invariant-loop g l =
    let seen = g.K.Sink.seen in
    let chip_copro = g.C.Coprocessor.seen in
    let terminal_copro = g.D.Coprocessor.seen in
    let device = g.E.Eeprom.device in
    let cells = g.E.Eeprom.cells in
    let plan = plan_view l.fn.plan in
    let start = scene (record { running = None }) (device l.fn.cells) (cells l.fn.cells) in
    record {
      talk : (opening : FullRecord) → stands (cells l.fn.cells) ≡ Some opening → IsTalkSoFar plan opening start
          (standing start (chip_copro l.fn.chip_copro).log (terminal_copro l.fn.terminal_copro) (begun plan) None (seen l.fn.out) no_results)
          (stands_at l.conversation (device l.cells) (cells l.cells) (chip_copro l.chip_copro).log (terminal_copro l.terminal_copro) (seen l.out)) l.counter;
      going : (terminal_view l.conversation.terminal).ended ≡ false;
      requests : l.conversation.requests.items ≡ l.fn.plan.requests.items;
      sound : IsSound (scene l.conversation.stepper.chip (device l.cells) (cells l.cells));
      layout : slice_index (cells l.cells) 0 ≡ slice_index (cells l.fn.cells) 0;
      chip_told : (chip_copro l.chip_copro).told ≡ (chip_copro l.fn.chip_copro).told;
      terminal_told : (terminal_copro l.terminal_copro).told ≡ (terminal_copro l.fn.terminal_copro).told;
      tells : (seen l.out).tells ≡ (seen l.fn.out).tells;
      still : (seen l.out).faults ≡ (seen l.fn.out).faults;
      answered : l.conversation.tally.answered ≤ l.counter;
      refused : l.conversation.tally.refused ≤ l.counter;
    }

use Rattle.std.proofs.Common.{◌≡◌, Some, map, take}
use Rattle.std.specs.Prelude.{slice_index}
use Rattle.eid_record.specs.Plain.{FullRecord}
use Rattle.eid_store.specs.Stands.{stands}
use Rattle.eid_chip.specs.Fits.{IsSound, scene}
use Rattle.eid_script.specs.Scripts.{plain_line}
use Rattle.eid_run.proofs.SoFar.{IsRunSoFar}
use Rattle.eid_run.proofs.run.run_script.Given as goal

-- the lines so far were carried out
abbrev pub invariant-loop-line : goal.invariant-loop-line
invariant-loop-line g l =
    let seen = g.K.Sink.seen in
    let copro = g.C.Coprocessor.seen in
    let device = g.E.Eeprom.device in
    let cells = g.E.Eeprom.cells in
    record {
      run : (opening : FullRecord) → stands (cells l.initial.cells) ≡ Some opening → IsRunSoFar opening (scene l.initial.stepper.chip (device l.initial.cells) (cells l.initial.cells)) (scene l.stepper.chip (device l.cells) (cells l.cells)) (copro l.initial.copro).log (copro l.copro).log (map plain_line (take l.line-index l.lines)) (seen l.initial.out) (seen l.out);
      sound : IsSound (scene l.stepper.chip (device l.cells) (cells l.cells));
      layout : slice_index (cells l.cells) 0 ≡ slice_index (cells l.initial.cells) 0;
      told : (copro l.copro).told ≡ (copro l.initial.copro).told;
      tells : (seen l.out).tells ≡ (seen l.initial.out).tells;
      still : (seen l.out).faults ≡ (seen l.initial.out).faults;
    }

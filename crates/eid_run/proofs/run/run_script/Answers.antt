-- The run grows by what each line made.
use Rattle.std.proofs.Common.{[], ◌+◌, Option, take, drop, map, refl, sym, subst, ap, ◌∙◌, arith, take_all, append-nil}
use Rattle.eid_base.specs.declared.codes.RunError.TheVariants.{SinkFault}
use Rattle.eid_store.specs.Stands.{stands}
use Rattle.eid_chip.specs.Fits.{IsSoundRunning}
use Rattle.eid_chip.specs.States.{RunningView}
use Rattle.eid_script.specs.Scripts.{plain_line}
use Rattle.eid_run.specs.Runs.{outside}
use Rattle.eid_run.proofs.Running.{ran_lines, ran_taken, broke_off, taken_apart, holds_some, some_of}
use Rattle.eid_run.proofs.run.run_script.Goals as goal

pub loop-line-init : goal.loop-line-init
loop-line-init g c = record {
  run = λ opening standing. record {
    happened = [];
    fits = c.new-stepper.ensures.fits _ _ opening standing;
    legal = tt;
    counts = refl;
    exact = λ told. omega arith;
    unplanned = λ told none unplanned. (tt, none);
    strikes = λ told none few. (tt, none);
    same_told = refl;
    dark = λ off is. off;
    carried = refl;
    logged = sym (append-nil _);
    written = λ told. sym (append-nil _);
  };
  sound = subst (λ (l : Option RunningView). IsSoundRunning l (g.E.Eeprom.device c.args.cells.now) (g.E.Eeprom.cells c.args.cells.now)) (sym c.new-stepper.ensures.off) tt;
  layout = refl;
  told = refl;
  tells = refl;
  still = refl;
}

pub step-requires-clause-stands : goal.step-requires-clause-stands
step-requires-clause-stands g c =
    let found = some_of (stands (g.E.Eeprom.cells c.args.cells.now)) c.requires in
    holds_some _ _ _ (c.loop-line.invariant.run found.0 found.1).fits.standing

pub returns-in-Err-clause-broke : goal.returns-in-Err-clause-broke
returns-in-Err-clause-broke g c = λ opening standing.
    let seen = g.K.Sink.seen in
    let copro = g.C.Coprocessor.seen in
    let device = g.E.Eeprom.device in
    let cells = g.E.Eeprom.cells in
    let lines = c.args.lines.now in
    broke_off opening c.new-stepper.result.chip c.loop-line.stepper.chip c.step.new.self.chip
    (outside (device c.args.cells.now) (cells c.args.cells.now) (copro c.args.copro.now) (seen c.args.out.now))
    (outside (device c.loop-line.cells) (cells c.loop-line.cells) (copro c.loop-line.copro) (seen c.loop-line.out))
    (outside (device c.step.new.cells) (cells c.step.new.cells) (copro c.step.new.copro) (seen c.step.new.out))
    (map plain_line (take c.loop-line.line-index lines)) (plain_line c.line-item.result)
    (map plain_line (drop (c.loop-line.line-index + 1) lines)) (map plain_line lines)
    (taken_apart lines c.loop-line.line-index c.line-item.result c.loop-line-test.true c.line-item.is)
    c.loop-line.invariant.tells (c.step.ensures.told ∙ c.loop-line.invariant.told) c.loop-line.invariant.layout
    (c.loop-line.invariant.run opening standing) c.in-Err.ensures.broke c.step.ensures.keeps

pub loop-line-preserved : goal.loop-line-preserved
loop-line-preserved g c =
    let seen = g.K.Sink.seen in
    let lines = c.args.lines.now in
    record {
      run = λ opening standing. ran_taken opening _ _ _ _ _ _ lines c.loop-line.line-index c.line-item.result (seen c.args.out.now) (seen c.loop-line.out) (seen c.step.new.out)
          c.loop-line-test.true c.line-item.is c.loop-line.invariant.tells (c.loop-line.invariant.run opening standing) c.in_default.ensures.did c.step.ensures.keeps;
      sound = c.step.ensures.keeps.sound;
      layout = c.step.ensures.keeps.layout ∙ c.loop-line.invariant.layout;
      told = c.step.ensures.told ∙ c.loop-line.invariant.told;
      tells = c.step.ensures.sink.tells ∙ c.loop-line.invariant.tells;
      still = c.step.ensures.sink.still (c.in_default.not-Err SinkFault) ∙ c.loop-line.invariant.still;
    }

pub returns-clause-did : goal.returns-clause-did
returns-clause-did g c = λ opening standing.
    let seen = g.K.Sink.seen in
    let copro = g.C.Coprocessor.seen in
    let device = g.E.Eeprom.device in
    let cells = g.E.Eeprom.cells in
    let run = c.loop-line.invariant.run opening standing in
    let whole = take_all c.loop-line.line-index c.args.lines.now c.loop-line-test.false in
    record {
      happened = run.happened;
      ran = ran_lines opening c.new-stepper.result.chip c.loop-line.stepper.chip
          (outside (device c.args.cells.now) (cells c.args.cells.now) (copro c.args.copro.now) (seen c.args.out.now))
          (outside (device c.loop-line.cells) (cells c.loop-line.cells) (copro c.loop-line.copro) (seen c.loop-line.out))
          (map plain_line (take c.loop-line.line-index c.args.lines.now)) (seen c.args.out.now) (seen c.loop-line.out) run c.loop-line.invariant.told c.loop-line.invariant.layout;
      carried = run.carried ∙ ap (map plain_line) whole;
      written = run.written;
    }

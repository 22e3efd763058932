-- What each line made is written.
use Rattle.eid_step.proofs.Lines.{line_same, on_ok, on_err, did_line, part_of_line, planned_line}
use Rattle.eid_step.proofs.stepper.Stepper.step.Goals as goal

pub returns-in-On-clause-did : goal.returns-in-On-clause-did
returns-in-On-clause-did g c =
    let log = (g.C.Coprocessor.seen c.args.copro.now).log in
    rw c.in-On.is (on_ok _ (did_line _ _ log log _ _ _ _ (line_same _ _ log _ _ _ c.silent.ensures (c.power_on-found.ensures.made log))) c.tell.ensures.whole)

pub returns-in-On-clause-broke : goal.returns-in-On-clause-broke
returns-in-On-clause-broke g c =
    let log = (g.C.Coprocessor.seen c.args.copro.now).log in
    rw c.in-On.is (on_err _ (part_of_line _ _ log log _ _ _ _ (line_same _ _ log _ _ _ c.silent.ensures (c.power_on-found.ensures.made log))) c.tell.ensures.part)

pub returns-in-Off-clause-did : goal.returns-in-Off-clause-did
returns-in-Off-clause-did g c =
    let log = (g.C.Coprocessor.seen c.args.copro.now).log in
    rw c.in-Off.is (on_ok _ (did_line _ _ log log _ _ _ _ (line_same _ _ log _ _ _ c.silent-in-Off.ensures (c.power_off.ensures.made log))) c.tell-in-Off.ensures.whole)

pub returns-in-Off-clause-broke : goal.returns-in-Off-clause-broke
returns-in-Off-clause-broke g c =
    let log = (g.C.Coprocessor.seen c.args.copro.now).log in
    rw c.in-Off.is (on_err _ (part_of_line _ _ log log _ _ _ _ (line_same _ _ log _ _ _ c.silent-in-Off.ensures (c.power_off.ensures.made log))) c.tell-in-Off.ensures.part)

pub returns-in-Cut-clause-did : goal.returns-in-Cut-clause-did
returns-in-Cut-clause-did g c =
    let log = (g.C.Coprocessor.seen c.args.copro.now).log in
    rw c.in-Cut.is (planned_line _ _ log _ _ _ _ (c.plan.ensures.made log))

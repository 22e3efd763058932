use Rattle.std.proofs.Common.{Some, sym, ◌∙◌, ap}
use Rattle.eid_pace.proofs.Values.{no_template, one_template, bad_template}
use Rattle.eid_pace.proofs.selection.find_template.Goals as goal

pub returns-in-Absent-clause-only : goal.returns-in-Absent-clause-only
returns-in-Absent-clause-only c template has = no_template c.args.body.now template c.in-Absent.ensures has

pub returns-in-Some-clause-only : goal.returns-in-Some-clause-only
returns-in-Some-clause-only c template has =
    let is = one_template c.args.body.now c.in-Once.value template c.in-Once.ensures has in
    ap Some (c.in-Some.ensures.only is.0 is.2 is.3) ∙ sym is.1

pub returns-in-None-clause-only : goal.returns-in-None-clause-only
returns-in-None-clause-only c template has =
    let is = one_template c.args.body.now c.in-Once.value template c.in-Once.ensures has in
    c.in-None.ensures.only is.0 is.2 is.3

pub returns-in_default-clause-only : goal.returns-in_default-clause-only
returns-in_default-clause-only c template has = bad_template c.args.body.now c.find.result template c.in_default.not-Absent c.in_default.not-Once c.find.ensures has

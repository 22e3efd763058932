-- What stands behind the header is the value.
use Rattle.std.proofs.Common.{ap, ◌∙◌, length, sym}
use Rattle.eid_chip.proofs.Bodies.{holds, without_header, without_length}
use Rattle.eid_chip.proofs.authentication.value_in.Goals as goal

pub returns-in_default-clause-none : goal.returns-in_default-clause-none
returns-in_default-clause-none c =
    without_header c.args.tag c.args.size c.args.body.now c.ranges.tag.fits c.requires c.in_default.ensures.cases

pub returns-then-value-from-clause-none : goal.returns-then-value-from-clause-none
returns-then-value-from-clause-none c =
    let rest = c.in-Some.ensures.cases.1 in
    without_length c.args.tag c.args.size c.args.body.now c.ranges.tag.fits c.requires
    (λ long. c.if-value-from.true (ap length rest ∙ long ∙ sym c.from.ensures))

pub returns-clause-found : goal.returns-clause-found
returns-clause-found c =
    let rest = c.in-Some.ensures.cases.1 in
    let long = c.if-value-from.false ∙ c.from.ensures in (
      rest,
      long,
      holds c.args.tag c.args.size c.args.body.now c.ranges.tag.fits c.requires c.in-Some.ensures.cases.0 (ap length (sym rest) ∙ long),
    )

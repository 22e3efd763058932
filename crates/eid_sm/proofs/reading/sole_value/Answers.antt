use Rattle.std.proofs.Common.{[]}
use Rattle.eid_sm.proofs.PartFacts.{one_object, not_empty}
use Rattle.eid_sm.proofs.reading.sole_value.Goals as goal

pub returns-in_default-clause-only : goal.returns-in_default-clause-only
returns-in_default-clause-only c = λ v e.
    absurd (c.in_default.ensures.only c.args.tag v [] (one_object c.args.bytes.now c.args.tag v c.requires.tag c.requires.size e))

pub returns-then-object-tag-clause-only : goal.returns-then-object-tag-clause-only
returns-then-object-tag-clause-only c = λ v e.
    let is = c.in-Ok.ensures.only c.args.tag v [] (one_object c.args.bytes.now c.args.tag v c.requires.tag c.requires.size e) in
    absurd (c.if-object-tag.true is.0)

pub returns-then-is_empty-clause-only : goal.returns-then-is_empty-clause-only
returns-then-is_empty-clause-only c = λ v e.
    let is = c.in-Ok.ensures.only c.args.tag v [] (one_object c.args.bytes.now c.args.tag v c.requires.tag c.requires.size e) in
    is.1

pub returns-else-is_empty-clause-only : goal.returns-else-is_empty-clause-only
returns-else-is_empty-clause-only c = λ v e.
    let is = c.in-Ok.ensures.only c.args.tag v [] (one_object c.args.bytes.now c.args.tag v c.requires.tag c.requires.size e) in
    absurd (not_empty c.in-Ok.rest.now c.if-is_empty.ensures is.2)

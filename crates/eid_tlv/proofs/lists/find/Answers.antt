use Rattle.eid_tlv.proofs.Walks.{not_ok, walked_more, walked_past, walked_no_further, shorter_after}
use Rattle.eid_tlv.proofs.lists.find.Goals as goal

pub returns-in_default : goal.returns-in_default
returns-in_default c =
    walked_no_further c.args.tag c.args.bytes.now c.loop-rest.rest.now c.loop-rest.found c.loop-rest.invariant c.loop-rest-test.ensures
    (λ t v after begins. not_ok _ c.next.result c.in_default.not-Ok (c.next.ensures.only t v after begins))

pub loop-rest-smaller-then-object-tag : goal.loop-rest-smaller-then-object-tag
loop-rest-smaller-then-object-tag c =
    shorter_after c.loop-rest.rest.now c.in-Ok.object.tag c.in-Ok.object.value.now c.in-Ok.after.now c.in-Ok.ensures.found

pub loop-rest-preserved-then-object-tag : goal.loop-rest-preserved-then-object-tag
loop-rest-preserved-then-object-tag c =
    walked_more c.args.tag c.args.bytes.now c.loop-rest.rest.now c.loop-rest.found c.one_more-found.result c.in-Ok.object.tag
    c.in-Ok.object.value.now c.in-Ok.after.now c.loop-rest.invariant c.in-Ok.ensures.found c.if-object-tag.true c.one_more-found.ensures

pub loop-rest-smaller : goal.loop-rest-smaller
loop-rest-smaller c =
    shorter_after c.loop-rest.rest.now c.in-Ok.object.tag c.in-Ok.object.value.now c.in-Ok.after.now c.in-Ok.ensures.found

pub loop-rest-preserved : goal.loop-rest-preserved
loop-rest-preserved c =
    walked_past c.args.tag c.args.bytes.now c.loop-rest.rest.now c.loop-rest.found c.in-Ok.object.tag
    c.in-Ok.object.value.now c.in-Ok.after.now c.loop-rest.invariant c.in-Ok.ensures.found c.if-object-tag.false

use Rattle.std.proofs.Common.{ℕ, sym, subst}
use Rattle.eid_tlv.specs.Reading.{BeginsWith}
use Rattle.eid_cvc.proofs.FrontFacts.{front_none, front_other, front_complete}
use Rattle.eid_cvc.proofs.fronts.front.Goals as goal

pub returns-in_default : goal.returns-in_default
returns-in_default c = sym (front_none c.args.tag c.args.bytes.now (λ value rest begins. c.in_default.ensures.only c.args.tag value rest begins))

pub returns-then-found-tag : goal.returns-then-found-tag
returns-then-found-tag c =
    sym (front_other c.args.tag c.in-Ok.object.tag c.args.bytes.now c.in-Ok.object.value.now c.in-Ok.rest.now c.in-Ok.ensures.found c.if-found-tag.true)

pub returns : goal.returns
returns c =
    sym (front_complete c.args.tag c.args.bytes.now c.in-Ok.object.value.now c.in-Ok.rest.now
    (subst (λ (tag : ℕ). BeginsWith c.args.bytes.now tag c.in-Ok.object.value.now c.in-Ok.rest.now) c.if-found-tag.false c.in-Ok.ensures.found))

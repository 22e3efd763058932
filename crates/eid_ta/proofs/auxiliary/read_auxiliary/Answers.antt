use Rattle.std.proofs.Common.{sym}
use Rattle.eid_cvc.specs.Chains.{aux_view}
use Rattle.eid_cvc.specs.Fronts.{front_view}
use Rattle.eid_ta.specs.View.{entry_view}
use Rattle.eid_ta.proofs.AuxiliaryFacts.{empty_value, walked_none, walked_all, no_room, no_front, no_entry, bad_entry, walked_more}
use Rattle.eid_ta.proofs.auxiliary.read_auxiliary.Goals as goal

pub returns-then-is_empty : goal.returns-then-is_empty
returns-then-is_empty c = empty_value c.args.value.now (sym c.if-is_empty.ensures)

pub loop-rest-init : goal.loop-rest-init
loop-rest-init c = rw c.no_aux-aux.ensures (walked_none c.args.value.now (sym c.if-is_empty.ensures))

pub returns-then-left-eq0 : goal.returns-then-left-eq0
returns-then-left-eq0 c =
    no_room c.args.value.now c.loop-rest.rest.now c.loop-rest.left (aux_view c.loop-rest.aux) c.loop-rest.invariant (sym c.loop-rest-test.ensures)
    c.if-left-eq0.true

pub returns-in_default : goal.returns-in_default
returns-in_default c =
    no_front c.args.value.now c.loop-rest.rest.now c.loop-rest.left (aux_view c.loop-rest.aux) c.loop-rest.invariant (sym c.loop-rest-test.ensures)
    c.if-left-eq0.false c.in_default.ensures

pub returns-in_default-read_entry : goal.returns-in_default-read_entry
returns-in_default-read_entry c =
    no_entry c.args.value.now c.loop-rest.rest.now c.loop-rest.left (aux_view c.loop-rest.aux) (front_view c.in-Some.object) c.loop-rest.invariant
    (sym c.loop-rest-test.ensures) c.if-left-eq0.false c.in-Some.ensures c.in_default-read_entry.ensures

pub returns-in_default-with_entry : goal.returns-in_default-with_entry
returns-in_default-with_entry c =
    bad_entry c.args.value.now c.loop-rest.rest.now c.loop-rest.left (aux_view c.loop-rest.aux) (front_view c.in-Some.object)
    (entry_view c.in-Some-read_entry.entry) c.loop-rest.invariant (sym c.loop-rest-test.ensures) c.if-left-eq0.false c.in-Some.ensures
    c.in-Some-read_entry.ensures c.in_default-with_entry.ensures

pub loop-rest-preserved : goal.loop-rest-preserved
loop-rest-preserved c =
    walked_more c.args.value.now c.loop-rest.rest.now c.loop-rest.left (aux_view c.loop-rest.aux) (aux_view c.in-Some-with_entry.more)
    (front_view c.in-Some.object) (entry_view c.in-Some-read_entry.entry) c.loop-rest.invariant (sym c.loop-rest-test.ensures) c.if-left-eq0.false
    c.in-Some.ensures c.in-Some-read_entry.ensures c.in-Some-with_entry.ensures

pub returns : goal.returns
returns c =
    walked_all c.args.value.now c.loop-rest.rest.now c.loop-rest.left (aux_view c.loop-rest.aux) c.loop-rest.invariant (sym c.loop-rest-test.ensures)

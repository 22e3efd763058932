use Rattle.std.proofs.Common.{arith}
use Rattle.std.proofs.lemmas.Result.{err_from_is_err_and}
use Rattle.eid_tlv.proofs.Beginnings.{begins_with, value_cut_short, from_tag_refusal, from_length_refusal}
use Rattle.eid_tlv.proofs.reading.read_object.Goals as goal

pub returns-in_err-tag-clause-refused : goal.returns-in_err-tag-clause-refused
returns-in_err-tag-clause-refused c =
    let p = err_from_is_err_and c.from_residual.result c.from_residual.ensures.1 in
    rw (p.1, p.2) (from_tag_refusal c.args.bytes.now c.in_err-tag.field-0.0 (omega (arith, c.type_inv.bytes 0)) c.in_err-tag.ensures.refused)

pub returns-in_err-size-clause-refused : goal.returns-in_err-size-clause-refused
returns-in_err-size-clause-refused c =
    let p = err_from_is_err_and c.from_residual-in_err-size.result c.from_residual-in_err-size.ensures.1 in
    let tag = c.in_ok-tag.ensures.found in
    rw (p.1, p.2) (from_length_refusal c.args.bytes.now c.in_ok-tag.after_tag.now c.in_ok-tag.tag c.in_err-size.field-0.0 tag.0 tag.1
    c.in_err-size.ensures.refused)

pub returns-then-after_length-size-clause-refused : goal.returns-then-after_length-size-clause-refused
returns-then-after_length-size-clause-refused c =
    let tag = c.in_ok-tag.ensures.found in
    let size = c.in_ok-size.ensures.found in
    value_cut_short c.args.bytes.now c.in_ok-tag.after_tag.now c.in_ok-size.after_length.now c.in_ok-tag.tag c.in_ok-size.size
    tag.0 tag.1 size.0 size.1 c.if-after_length-size.true

pub returns-clause-found : goal.returns-clause-found
returns-clause-found c =
    let tag = c.in_ok-tag.ensures.found in
    let size = c.in_ok-size.ensures.found in
    rw (c.split_at.ensures.front, c.split_at.ensures.back)
    (begins_with c.args.bytes.now c.in_ok-tag.after_tag.now c.in_ok-size.after_length.now c.in_ok-tag.tag c.in_ok-size.size
    tag.0 tag.1 size.0 size.1 c.if-after_length-size.false)

use Rattle.std.proofs.Common.{◌≡◌, ◌+◌, length, refl, ap, ◌∙◌, arith, length-append}
use Rattle.eid_tlv.specs.Objects.{tag_bytes, length_bytes}
use Rattle.eid_tlv.proofs.Sizes.{object_size}
use Rattle.eid_tlv.proofs.writing.put.Goals as goal

pub returns-then-remaining_capacity-len-clause-full :
    goal.returns-then-remaining_capacity-len-clause-full
returns-then-remaining_capacity-len-clause-full g c =
    let tag = tag_bytes c.args.tag in
    let size = length_bytes (length c.args.value.now) in
    let head : length c.head-head.result.items ≡ length tag + length size = ap length c.head-head.ensures ∙ length-append tag size in
    let whole = object_size c.args.tag c.args.value.now in
    (λ is. omega arith, λ over. refl)

pub returns-clause-full : goal.returns-clause-full
returns-clause-full g c =
    let tag = tag_bytes c.args.tag in
    let size = length_bytes (length c.args.value.now) in
    let head : length c.head-head.result.items ≡ length tag + length size = ap length c.head-head.ensures ∙ length-append tag size in
    let whole = object_size c.args.tag c.args.value.now in
    (λ is. cc, λ over. absurd (omega arith))

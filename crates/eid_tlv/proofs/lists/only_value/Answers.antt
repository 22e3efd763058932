use Rattle.std.proofs.Common.{[], ◌∷◌}
use Rattle.eid_tlv.specs.declared.lists.Found.TheVariants.{Once}
use Rattle.eid_tlv.proofs.Findings.{found_values, not_once}
use Rattle.eid_tlv.proofs.lists.only_value.Goals as goal

pub returns-in-Once-clause-only : goal.returns-in-Once-clause-only
returns-in-Once-clause-only c value has =
    let same = found_values c.args.tag c.args.bytes.now (Once c.in-Once.value) (value ∷ []) c.in-Once.ensures has in cc

pub returns-in_default-clause-only : goal.returns-in_default-clause-only
returns-in_default-clause-only c value has = not_once c.args.tag c.args.bytes.now c.find.result value c.in_default.not-Once c.find.ensures has

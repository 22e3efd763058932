use Rattle.eid_tlv.proofs.Beginnings.{only_from, exactly_short, exactly_bad_tag, exactly_bad_length}
use Rattle.eid_tlv.proofs.reading.next.Goals as goal

pub returns-clause-only : goal.returns-clause-only
returns-clause-only c =
    only_from (λ r. r.0.tag) (λ r. r.0.value.now) (λ r. r.1.now) c.args.bytes.now c.read_object.result
    c.read_object.ensures.found c.read_object.ensures.refused

pub returns-clause-short : goal.returns-clause-short
returns-clause-short c =
    exactly_short (λ r. r.0.tag) (λ r. r.0.value.now) (λ r. r.1.now) c.args.bytes.now c.read_object.result
    c.read_object.ensures.found c.read_object.ensures.refused

pub returns-clause-bad_tag : goal.returns-clause-bad_tag
returns-clause-bad_tag c =
    exactly_bad_tag (λ r. r.0.tag) (λ r. r.0.value.now) (λ r. r.1.now) c.args.bytes.now c.read_object.result
    c.read_object.ensures.found c.read_object.ensures.refused

pub returns-clause-bad_length : goal.returns-clause-bad_length
returns-clause-bad_length c =
    exactly_bad_length (λ r. r.0.tag) (λ r. r.0.value.now) (λ r. r.1.now) c.args.bytes.now c.read_object.result
    c.read_object.ensures.found c.read_object.ensures.refused

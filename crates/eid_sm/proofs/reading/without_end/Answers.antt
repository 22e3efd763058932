use Rattle.eid_sm.proofs.Ends.{stripped, stripped_only}
use Rattle.eid_sm.proofs.reading.without_end.Goals as goal

pub returns-clause-found : goal.returns-clause-found
returns-clause-found c = stripped (λ r. r.now) c.args.bytes.now c.args.end.now c.strip_suffix.result c.strip_suffix.ensures.cases

pub returns-clause-only : goal.returns-clause-only
returns-clause-only c = stripped_only (λ r. r.now) c.args.bytes.now c.args.end.now c.strip_suffix.result c.strip_suffix.ensures.cases

use Rattle.eid_sm.proofs.Lists.{absent}
use Rattle.eid_sm.proofs.reading.has_no_mac.Goals as goal

pub returns-in_default : goal.returns-in_default
returns-in_default c =
    ((λ no. absurd (cc)), λ none. absurd (c.in_default.not-Absent (absent c.args.bytes.now c.find.result c.find.ensures none)))

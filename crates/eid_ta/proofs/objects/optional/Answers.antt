use Rattle.std.proofs.Common.{[], ◌∷◌}
use Rattle.eid_ta.proofs.ObjectFacts.{optional_with, not_optional}
use Rattle.eid_ta.proofs.objects.optional.Goals as goal

pub returns-in-Absent : goal.returns-in-Absent
returns-in-Absent c = optional_with c.args.tag c.args.bytes.now [] c.in-Absent.ensures

pub returns-in-Once : goal.returns-in-Once
returns-in-Once c = optional_with c.args.tag c.args.bytes.now (c.in-Once.value.now ∷ []) c.in-Once.ensures

pub returns-in_default : goal.returns-in_default
returns-in_default c = not_optional c.args.tag c.args.bytes.now c.find.result c.in_default.not-Absent c.in_default.not-Once c.find.ensures

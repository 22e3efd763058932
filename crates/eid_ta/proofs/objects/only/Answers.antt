use Rattle.std.proofs.Common.{[], ◌∷◌}
use Rattle.eid_ta.proofs.ObjectFacts.{only_with, not_only}
use Rattle.eid_ta.proofs.objects.only.Goals as goal

pub returns-in-Once : goal.returns-in-Once
returns-in-Once c = only_with c.args.tag c.args.bytes.now (c.in-Once.value.now ∷ []) c.in-Once.ensures

pub returns-in_default : goal.returns-in_default
returns-in_default c = not_only c.args.tag c.args.bytes.now c.find.result c.in_default.not-Once c.find.ensures

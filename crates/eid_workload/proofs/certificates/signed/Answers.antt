-- The model coprocessor signs as the definition says.
use Rattle.std.proofs.Common.{◌∙◌}
use Rattle.eid_perso.specs.Kit.{kit_view}
use Rattle.eid_workload.proofs.Issued.{bytes_are, is_sendable}
use Rattle.eid_workload.proofs.certificates.signed.Goals as goal

pub returns-clause-is : goal.returns-clause-is
returns-clause-is c = bytes_are c.kit_of.result (kit_view c.args.kit.now) _ _ (c.make_room.ensures.told ∙ c.new-copro.ensures.told) c.kit_of.ensures

pub returns-clause-sends : goal.returns-clause-sends
returns-clause-sends c = is_sendable c.kit_of.result (kit_view c.args.kit.now) _ _ c.kit_of.ensures

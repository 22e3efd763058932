-- A secret was agreed.
use Rattle.std.proofs.Common.{ap}
use Rattle.std.specs.Prelude.{option_map}
use Rattle.eid_copro.proofs.Asking.{asked_once}
use Rattle.eid_ri.specs.View.{key_view}
use Rattle.eid_chip.proofs.SectorSteps.{agreed_with}
use Rattle.eid_chip.proofs.restricted_identification.identify.Goals as goal

pub returns-in-Ok-Some : goal.returns-in-Ok-Some
returns-in-Ok-Some g c =
    agreed_with _ _ c.args.secret.now (key_view c.in-Some.key) c.in-Ok-Some.shared c.identifier.result (option_map key_view c.args.key.now)
    (ap (option_map key_view) c.in-Some.is) (asked_once (rw c.in-Ok-Some.field-0-is at (rw c.in-Ok-Some.is at c.agree.ensures))) c.identifier.ensures

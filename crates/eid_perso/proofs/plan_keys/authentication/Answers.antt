use Rattle.toml.specs.View.{table_view}
use Rattle.eid_perso.proofs.FitPlans.{certificates-sendable}
use Rattle.eid_perso.proofs.plan_keys.authentication.Goals as goal

pub returns-clause-certificates : goal.returns-clause-certificates
returns-clause-certificates c = certificates-sendable (table_view c.args.table.now) _ c.in_ok-certificates.ensures

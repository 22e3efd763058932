use Rattle.toml.specs.View.{table_view}
use Rattle.eid_perso.proofs.FitPlans.{requests-asked}
use Rattle.eid_perso.proofs.plan_keys.requests.Goals as goal

pub returns-clause-requests : goal.returns-clause-requests
returns-clause-requests c = requests-asked c.in_ok-sector.sector (table_view c.args.table.now) _ (rw c.is_some.ensures at c.in_ok-requests.ensures)

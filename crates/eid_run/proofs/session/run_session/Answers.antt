-- The results that were counted are let go.
use Rattle.eid_run.proofs.session.run_session.Goals as goal

pub returns-in-Ok-clause-did : goal.returns-in-Ok-clause-did
returns-in-Ok-clause-did g c = λ opening stood. (c.in-Ok.ensures.did opening stood).did

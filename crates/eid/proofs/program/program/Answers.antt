-- The words are of one command, and its call never ends in Usage.
use Rattle.eid.proofs.Refusals.{meets_for, never_usage}
use Rattle.eid.proofs.Spoken.{one_command}
use Rattle.eid.proofs.program.program.Goals as goal

pub returns-in-Ok-Some-clause-usage : goal.returns-in-Ok-Some-clause-usage
returns-in-Ok-Some-clause-usage g c = λ usage. absurd (never_usage _ _ _ _ _ _ usage c.carry_out.ensures.meets)

pub returns-in-Ok-Some-clause-meets : goal.returns-in-Ok-Some-clause-meets
returns-in-Ok-Some-clause-meets g c = λ d says.
    meets_for _ d _ _ _ _ _ (one_command _ _ d (rw c.in-Ok-Some.field-0-is at c.in-Ok-Some.ensures.found) says) c.carry_out.ensures.meets

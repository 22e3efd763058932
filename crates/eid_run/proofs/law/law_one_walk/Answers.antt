-- What a session talks is the walk of the terminal's definition.
use Rattle.std.proofs.Common.{refl}
use Rattle.eid_terminal.specs.Terminals.{course}
use Rattle.eid_run.proofs.Conversing.{reached_of}
use Rattle.eid_run.proofs.law.law_one_walk.Goals as goal

pub returns-clause-reached : goal.returns-clause-reached
returns-clause-reached c plan asks exchanges told at talks = reached_of (course plan) at asks exchanges told talks

pub returns-clause-next : goal.returns-clause-next
returns-clause-next c plan asks exchanges told at talks = record { at = at; reached = reached_of (course plan) at asks exchanges told talks; is = refl }

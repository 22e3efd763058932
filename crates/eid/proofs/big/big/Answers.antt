-- Each end of the command, by what the sessions promise.
use Rattle.std.proofs.Common.{ap, Err}
use Rattle.eid.proofs.EndsOfBig.{big_broke_off, big_done}
use Rattle.eid.proofs.big.big.Goals as goal

pub returns-in-Ok-clause-meets : goal.returns-in-Ok-clause-meets
returns-in-Ok-clause-meets g c = λ folder. big_done c.args.sessions folder _ _ c.in-Ok.ensures.did c.big_workload.ensures.sink.tells

pub returns-in-Err-clause-meets : goal.returns-in-Err-clause-meets
returns-in-Err-clause-meets g c = λ folder.
    let rose = rw c.in-Err.is at c.big_workload.ensures.sink.fault in
    rw c.of_run.ensures (big_broke_off c.args.sessions folder _ _ c.in-Err.error c.in-Err.ensures.broke c.big_workload.ensures.sink.tells (λ e. rose (ap Err e)))

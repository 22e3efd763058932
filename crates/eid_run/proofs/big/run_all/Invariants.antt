use Rattle.std.proofs.Common.{◌*◌, ◌≤◌, ◌^◌}
use Rattle.eid_run.specs.Attempts.{counts_view}
use Rattle.eid_run.specs.Big.{AreSessions}
use Rattle.eid_run.proofs.big.run_all.Given as goal

-- the sessions so far
abbrev pub invariant-loop-done : goal.invariant-loop-done
invariant-loop-done l = record {
  ran : AreSessions l.done (counts_view l.counts);
  answered : l.counts.answered ≤ 270 * l.done;
  refused : l.counts.refused ≤ 270 * l.done;
  commits : l.counts.commits ≤ 2 ^ 32 * l.done;
}

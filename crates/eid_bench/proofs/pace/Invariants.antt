use Rattle.std.proofs.Common.{◌≡◌}
use Rattle.eid_bench.specs.Paces.{paces}
use Rattle.eid_bench.proofs.pace.Given as goal

abbrev pub invariant-loop : goal.invariant-loop
invariant-loop l = l.seed ≡ paces l.counter

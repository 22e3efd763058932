use Rattle.std.specs.Io.KnownBytes.{Keeps}
use Rattle.eid_base.proofs.transfer.read_some.Given as goal

-- the interrupted calls gave nothing
abbrev pub invariant-loop : goal.invariant-loop
invariant-loop g l = Keeps (g.R.Read.remaining l.initial.from) (g.R.Read.remaining l.from)

use Rattle.std.specs.Io.KnownBytes.{Keeps}
use Rattle.eid_base.proofs.transfer.write_some.Given as goal

-- the interrupted calls took nothing
abbrev pub invariant-loop : goal.invariant-loop
invariant-loop g l = Keeps (g.W.Write.contents l.initial.to) (g.W.Write.contents l.to)

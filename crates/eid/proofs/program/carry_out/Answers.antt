-- A command that is given no sink, or no folder, is one for that which is there.
use Rattle.eid.proofs.program.carry_out.Goals as goal

pub returns-in-Make-clause-meets : goal.returns-in-Make-clause-meets
returns-in-Make-clause-meets g c = rw c.in-Make.is (c.make.ensures.meets (g.K.Sink.seen c.args.out.now))

pub returns-in-Big-clause-meets : goal.returns-in-Big-clause-meets
returns-in-Big-clause-meets g c = rw c.in-Big.is (c.big.ensures.meets (g.F.Folder.seen c.args.folder.now))

pub returns-in-Kit-clause-meets : goal.returns-in-Kit-clause-meets
returns-in-Kit-clause-meets g c = rw c.in-Kit.is (c.kit.ensures.meets (g.K.Sink.seen c.args.out.now))

-- A plain command from its header and its body.
use Rattle.std.specs.Prelude.{ℕ, List}
use Rattle.eid_apdu.specs.Command.{PlainCommand}
use Rattle.eid_sm.specs.declared.channel.Header.{Header}

abbrev pub plain_of : Header → List ℕ → PlainCommand
plain_of h body = record { cla = h.cla; ins = h.ins; p1 = h.p1; p2 = h.p2; body = body; ne = h.ne }

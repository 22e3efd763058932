use Rattle.std.proofs.Common.{[]}
use Rattle.eid_cmac.proofs.mac.cmac.Goals as goal

pub returns : goal.returns
returns g c =
    let first = c.absorb.ensures [] (c.new-message.ensures c.args.key.now) in
    let second = c.absorb-2.ensures _ first in
    let third = c.absorb-3.ensures _ second in
    c.finish.ensures _ third

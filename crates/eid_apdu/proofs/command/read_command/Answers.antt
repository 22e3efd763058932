-- Whatever the bytes spell has its tail behind the header, and there is at most one.
use Rattle.eid_apdu.proofs.OneCommand.{only_command, rest_is_tail}
use Rattle.eid_apdu.proofs.command.read_command.Goals as goal

pub returns-in_default-read_tail-clause-only : goal.returns-in_default-read_tail-clause-only
returns-in_default-read_tail-clause-only c = λ d s. c.in_default-read_tail.ensures.refused d.body d.ne (rest_is_tail _ d s)

pub returns-clause-only : goal.returns-clause-only
returns-clause-only c = λ d s. only_command c.args.bytes.now c.in-Ok.body.now c.in-Ok.ne d c.in-len4-up.len_at_least c.in-Ok.ensures.found s

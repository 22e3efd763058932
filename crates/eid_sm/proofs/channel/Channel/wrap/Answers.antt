use Rattle.std.proofs.Common.{◌≡◌, rules}
use Rattle.eid_apdu.specs.Command.{plain_command}
use Rattle.eid_apdu.specs.Writing.{written}
use Rattle.eid_sm.specs.Keys.{next_counter}
use Rattle.eid_sm.specs.Commands.{written_command}
use Rattle.eid_sm.proofs.ProtectedFacts.{written_is_protected}
use Rattle.eid_sm.proofs.channel.Channel.wrap.Goals as goal

pub returns-clause-readable : goal.returns-clause-readable
returns-clause-readable c =
    let state = c.args.self.now in
    let e : c.write_sent.new.out.items ≡ written (written_command state.keys (next_counter state.counter) (plain_command c.args.c.now)) = search rules in
    written_is_protected state.keys (next_counter state.counter) c.write_sent.new.out.items (plain_command c.args.c.now) e c.requires.body c.requires.expected c.requires.class
    c.write_objects.ensures.octets

-- A command with its header fits.
use Rattle.std.proofs.Common.{arith, ap, length}
use Rattle.eid_apdu.specs.Command.{plain_command}
use Rattle.eid_sm.proofs.Lengths.{size_written}
use Rattle.eid_terminal.proofs.line.write_message.Goals as goal

pub unwrap-requires : goal.unwrap-requires
unwrap-requires c = c.write_command.ensures.fits.1 (omega (arith, size_written (plain_command c.args.command.now), ap length c.clear.ensures))

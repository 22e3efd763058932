-- Inside: cited by private contracts alone.
-- The words of the code as a command.
use Rattle.eid.specs.declared.words.Words.{Words}
use Rattle.eid.specs.declared.words.Words.TheVariants as variants
use Rattle.eid.specs.Commands.{Command, Run, Replay, Session, Big, Make, Kit, Show}

abbrev pub command : Words → Command
command (variants.Run image script start) = Run image.now script.now start
command (variants.Replay image script answers) = Replay image.now script.now answers.now
command (variants.Session image terminal start) = Session image.now terminal.now start
command (variants.Big sessions) = Big sessions
command (variants.Make config image) = Make config.now image.now
command (variants.Kit config file) = Kit config.now file.now
command (variants.Show image) = Show image.now

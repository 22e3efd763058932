-- The statuses of exits, and the exits of what failed. This project's own.
use Rattle.std.specs.Prelude.{ℕ}
use Rattle.eid_base.specs.declared.codes.RunError.{RunError}
use Rattle.eid_base.specs.declared.codes.RunError.TheVariants as run
use Rattle.eid_base.specs.declared.outside.IoError.{IoError}
use Rattle.eid_base.specs.declared.outside.IoError.TheVariants as io
use Rattle.eid_perso.specs.declared.config.ConfigError.{ConfigError}
use Rattle.eid_perso.specs.declared.config.ConfigError.TheVariants as config
use Rattle.eid_inputs.specs.declared.exit.Exit.{Exit}
use Rattle.eid_inputs.specs.declared.exit.Exit.TheVariants.{Done, Usage, FileFault, NoMemory, BadImage, BadScript, BadConfig, SinkFault, BadAnswers}

abbrev pub exit_status : Exit → ℕ
exit_status Done = 0
exit_status Usage = 1
exit_status FileFault = 2
exit_status NoMemory = 3
exit_status BadImage = 4
exit_status (BadScript line) = 5
exit_status (BadConfig key) = 6
exit_status SinkFault = 7
exit_status (BadAnswers line) = 8

-- the exits of a run that broke off, of a text that was not printed, and of a configuration that is refused
abbrev pub exit_broken : RunError → Exit
exit_broken run.SinkFault = SinkFault
exit_broken run.NoMemory = NoMemory

abbrev pub exit_not_printed : IoError → Exit
exit_not_printed io.NoMemory = NoMemory
exit_not_printed io.Absent = SinkFault
exit_not_printed io.Fault = SinkFault

abbrev pub exit_refused : ConfigError → Exit
exit_refused (config.Bad key) = BadConfig key
exit_refused config.NoMemory = NoMemory

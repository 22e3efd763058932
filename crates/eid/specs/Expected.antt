-- What a command ends in by its inputs. This project's own.
use Rattle.std.specs.Prelude.{ℕ, List, Option, Result, Ok, Err}
use Rattle.eid_inputs.specs.declared.exit.Exit.{Exit}
use Rattle.eid_inputs.specs.declared.exit.Exit.TheVariants.{Done}
use Rattle.eid_inputs.specs.Inputs.{image_in, script_in, answers_in, config_in, kit_in, plan_in}
use Rattle.eid.specs.Commands.{Command, Run, Replay, Session, Big, Make, Kit, Show}

-- the first refusal, or what comes later
abbrev pub unless_refused : {A : Type 0} → Result A Exit → Exit → Exit
unless_refused (Err exit) later = exit
unless_refused (Ok value) later = later

-- what a command ends in where nothing fails and memory is found: the inputs are read and checked in
-- the order of the words
unfoldable pub expected : Command → (List ℕ → Option (List ℕ)) → Exit
expected (Run image script start) files = unless_refused (image_in (files image)) (unless_refused (script_in (files script)) Done)
expected (Replay image script answers) files = unless_refused (image_in (files image)) (unless_refused (script_in (files script)) (unless_refused
    (answers_in (files answers)) Done))
expected (Session image terminal start) files = unless_refused (image_in (files image)) (unless_refused (plan_in (files terminal)) Done)
expected (Big sessions) files = Done
expected (Make config image) files = unless_refused (config_in (files config)) Done
expected (Kit config file) files = unless_refused (kit_in (files config)) Done
expected (Show image) files = unless_refused (image_in (files image)) Done

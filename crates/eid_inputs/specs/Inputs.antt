-- What the input files give, and what a command ends in by them. This project's own.
use Rattle.std.specs.Prelude.{ℕ, List, Option, Some, None, Result, Ok, Err}
use Rattle.eid_record.specs.Plain.{FullRecord}
use Rattle.eid_script.specs.Scripts.{ScriptLine, script_of}
use Rattle.eid_copro.specs.declared.ask.Answer.{Answer}
use Rattle.eid_copro.specs.Lines.{answers_of}
use Rattle.eid_perso.specs.Config.{PlainConfig}
use Rattle.eid_perso.specs.Kit.{PlainKit}
use Rattle.eid_terminal.specs.Plans.{PlainPlan}
use Rattle.eid_inputs.specs.declared.exit.Exit.{Exit}
use Rattle.eid_inputs.specs.declared.exit.Exit.TheVariants.{FileFault, BadImage, BadScript, BadConfig, BadAnswers}
use Rattle.eid_perso.specs.Reading.{config_of, kit_of_text, plan_of_text}
use Rattle.eid_inputs.specs.Images.{record_of}

-- what an input says, or the exit that refuses it
abbrev pub or_refused : {A : Type 0} → Option A → Exit → Result A Exit
or_refused None exit = Err exit
or_refused (Some value) exit = Ok value

abbrev pub or_bad : {A : Type 0} → (ℕ → Exit) → Result A ℕ → Result A Exit
or_bad bad (Ok value) = Ok value
or_bad bad (Err place) = Err (bad place)

-- what a file gives, by what its bytes say
abbrev pub in_file : {A : Type 0} → (List ℕ → Result A Exit) → Option (List ℕ) → Result A Exit
in_file said None = Err FileFault
in_file said (Some bytes) = said bytes

abbrev pub image_in : Option (List ℕ) → Result FullRecord Exit
image_in file = in_file (λ bytes. or_refused (record_of bytes) BadImage) file

abbrev pub script_in : Option (List ℕ) → Result (List ScriptLine) Exit
script_in file = in_file (λ text. or_bad BadScript (script_of text)) file

abbrev pub answers_in : Option (List ℕ) → Result (List Answer) Exit
answers_in file = in_file (λ text. or_bad BadAnswers (answers_of text)) file

abbrev pub config_in : Option (List ℕ) → Result PlainConfig Exit
config_in file = in_file (λ text. or_bad BadConfig (config_of text)) file

abbrev pub kit_in : Option (List ℕ) → Result PlainKit Exit
kit_in file = in_file (λ text. or_bad BadConfig (kit_of_text text)) file

abbrev pub plan_in : Option (List ℕ) → Result PlainPlan Exit
plan_in file = in_file (λ text. or_bad BadConfig (plan_of_text text)) file

-- What the scripted coprocessor answers. This project's own.
use Rattle.std.specs.Prelude.{List, length, Option, Some, None, slice_get, if◌then◌else◌}
use Rattle.eid_copro.specs.Asks.{fits}
use Rattle.eid_copro.specs.declared.ask.Ask.{Ask}
use Rattle.eid_copro.specs.declared.ask.Question.{Question}
use Rattle.eid_copro.specs.declared.ask.Answer.{Answer}
use Rattle.eid_copro.specs.declared.ask.Answer.TheVariants as answers

-- an answer that fits, and a fault where it is missing or does not fit
abbrev pub fitting : Question → Option Answer → Answer
fitting question None = answers.Fault
fitting question (Some answer) = if fits question answer then answer else answers.Fault

-- the answer at the place of the question
abbrev pub script_answer : List Answer → List Ask → Question → Answer
script_answer list before question = fitting question (slice_get list (length before))

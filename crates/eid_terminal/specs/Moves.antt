-- What a terminal does next. This project's own.
use Rattle.std.specs.Prelude.{ℕ, List}
use Rattle.eid_apdu.specs.Answer.{PlainReply}
use Rattle.eid_copro.specs.declared.ask.Question.{Question}
use Rattle.eid_terminal.specs.declared.action.Step.{Step}
use Rattle.eid_terminal.specs.Courses.{Course, sent}
use Rattle.eid_terminal.specs.Courses as courses

-- as the nodes of a course, with the bytes of a command as they are sent
pub data Move : Type 0 where
  Asks : Question → Move
  Sends : (bytes : List ℕ) → Move
  Passes : Step → Move
  Gives : (request : ℕ) → PlainReply → Move
  Stops : Step → (status : ℕ) → Move
  Faults : Step → Move
  Ends : Move

-- what is next where one stands there
abbrev pub move_of : Course → Move
move_of (courses.Asks question later) = Asks question
move_of (courses.Sends channel command later) = Sends (sent channel command)
move_of (courses.Passes step later) = Passes step
move_of (courses.Gives request reply later) = Gives request reply
move_of (courses.Stops step status) = Stops step status
move_of (courses.Faults step) = Faults step
move_of courses.Ends = Ends

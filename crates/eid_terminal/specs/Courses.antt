-- What a terminal does, as a course, and what comes next on it. This project's own.
use Rattle.std.specs.Prelude.{◌≡◌, ℕ, zero, suc, List, [], ◌∷◌, Option, Some, None}
use Rattle.eid_apdu.specs.Command.{PlainCommand}
use Rattle.eid_apdu.specs.Answer.{PlainReply, IsReply, spelled}
use Rattle.eid_apdu.specs.Writing.{written}
use Rattle.eid_copro.specs.declared.ask.Ask.{Ask}
use Rattle.eid_copro.specs.declared.ask.Question.{Question}
use Rattle.eid_copro.specs.declared.ask.Answer.{Answer}
use Rattle.eid_sm.specs.Commands.{written_command}
use Rattle.eid_sm.specs.Keys.{ChannelState, next_counter}
use Rattle.eid_sm.specs.Parts.{AreBytes}
use Rattle.eid_sm.specs.Replies.{IsSealed}
use Rattle.eid_terminal.specs.declared.action.Step.{Step}

-- A course: what comes next, and how it goes on by what is answered.
pub data Course : Type 0 where
  -- a question to the coprocessor
  Asks : Question → (Answer → Course) → Course
  -- a command, without a channel or in one, whose counter is then the command's; its reply, or none that can be read
  Sends : Option ChannelState → PlainCommand → (Option PlainReply → Course) → Course
  -- a step succeeded
  Passes : Step → Course → Course
  -- the reply to the request at this place, from 0
  Gives : ℕ → PlainReply → Course → Course
  -- a step did not succeed, by a reply of this status
  Stops : Step → ℕ → Course
  -- the coprocessor failed
  Faults : Step → Course
  -- all is done
  Ends : Course

-- the bytes of a command, without a channel or in one
abbrev pub sent : Option ChannelState → PlainCommand → List ℕ
sent None command = written command
sent (Some channel) command = written (written_command channel.keys channel.counter command)

-- the body of the command that comes at a course, if one does, consists of bytes
abbrev pub SendsBytes : Course → Type 0
SendsBytes (Asks question later) = Unit {0}
SendsBytes (Sends channel command later) = AreBytes command.body
SendsBytes (Passes step later) = Unit {0}
SendsBytes (Gives request reply later) = Unit {0}
SendsBytes (Stops step status) = Unit {0}
SendsBytes (Faults step) = Unit {0}
SendsBytes Ends = Unit {0}

-- the bytes are the reply to the last command, without a channel or in one
abbrev pub IsReplyIn : Option ChannelState → List ℕ → PlainReply → Type 0
IsReplyIn None bytes reply = IsReply reply × (bytes ≡ spelled reply)
IsReplyIn (Some channel) bytes reply = IsSealed channel.keys (next_counter channel.counter) bytes reply

-- what the bytes read as: that reply, or none
abbrev pub IsReading : Option ChannelState → List ℕ → Option PlainReply → Type 0
IsReading channel bytes (Some reply) = IsReplyIn channel bytes reply
IsReading channel bytes None = (reply : PlainReply) → IsReplyIn channel bytes reply → ⊥

-- one stands at the course itself: nothing was asked, answered or given
abbrev pub IsHere : Course → List Ask → List (List ℕ) → ℕ → Course → Type 0
IsHere course asks replies given at = (asks ≡ []) × (replies ≡ []) × (given ≡ 0) × (at ≡ course)

-- With these asks, these replies, and so many passed steps and results given, one has come along the course to that one.
abbrev pub Reached : Course → List Ask → List (List ℕ) → ℕ → Course → Type 0
Reached (Asks question later) [] replies given at = IsHere (Asks question later) [] replies given at
Reached (Asks question later) (ask ∷ asks) replies given at =
    (ask.question ≡ question) × Reached (later ask.answer) asks replies given at
Reached (Sends channel command later) asks [] given at = IsHere (Sends channel command later) asks [] given at
Reached (Sends channel command later) asks (bytes ∷ replies) given at =
    (reading : Option PlainReply) × (IsReading channel bytes reading × Reached (later reading) asks replies given at)
Reached (Passes step later) asks replies zero at = IsHere (Passes step later) asks replies zero at
Reached (Passes step later) asks replies (suc given) at = Reached later asks replies given at
Reached (Gives request reply later) asks replies zero at = IsHere (Gives request reply later) asks replies zero at
Reached (Gives request reply later) asks replies (suc given) at = Reached later asks replies given at
Reached (Stops step status) asks replies given at = IsHere (Stops step status) asks replies given at
Reached (Faults step) asks replies given at = IsHere (Faults step) asks replies given at
Reached Ends asks replies given at = IsHere Ends asks replies given at

-- What passes between a terminal and a chip, along the terminal's course. This project's own.
use Rattle.std.specs.Prelude.{◌≡◌, ℕ, List, [], ◌∷◌, Option}
use Rattle.eid_apdu.specs.Answer.{PlainReply}
use Rattle.eid_copro.specs.declared.ask.Ask.{Ask}
use Rattle.eid_terminal.specs.declared.action.Step.{Step}
use Rattle.eid_apdu.specs.Command.{PlainCommand}
use Rattle.eid_sm.specs.Keys.{ChannelState}
use Rattle.eid_sm.specs.Parts.{AreBytes}
use Rattle.eid_terminal.specs.Courses.{Course, Asks, Sends, Passes, Gives, Stops, Faults, Ends, IsReading, sent}

-- A command as it is sent, and what comes back.
pub record Exchange : Type 0 where
  pub command : List ℕ
  pub reply : List ℕ

-- What a terminal tells: that a step succeeded, or the reply to the request at this place.
pub data Told : Type 0 where
  Passed : Step → Told
  Result : ℕ → PlainReply → Told

-- the bytes are the command as it is sent, whose body consists of bytes
pub record IsWritten (channel : Option ChannelState) (command : PlainCommand) (bytes : List ℕ) : Type 0 where
  pub written : bytes ≡ sent channel command
  pub octets : AreBytes command.body

-- one stands at the course itself: nothing passed
abbrev pub IsAt : Course → List Ask → List Exchange → List Told → Course → Type 0
IsAt course asks exchanges told at = (asks ≡ []) × (exchanges ≡ []) × (told ≡ []) × (at ≡ course)

-- With these asks and exchanges, and these things told, each in its order, one comes along the course to that one: the
-- coprocessor was asked what the course asks, and the commands are those that it sends.
abbrev pub Talks : Course → List Ask → List Exchange → List Told → Course → Type 0
Talks (Asks question later) [] exchanges told at = IsAt (Asks question later) [] exchanges told at
Talks (Asks question later) (ask ∷ asks) exchanges told at =
    (ask.question ≡ question) × Talks (later ask.answer) asks exchanges told at
Talks (Sends channel command later) asks [] told at = IsAt (Sends channel command later) asks [] told at
Talks (Sends channel command later) asks (e ∷ exchanges) told at =
    IsWritten channel command e.command × ((reading : Option PlainReply) × (IsReading channel e.reply reading × Talks (later reading) asks exchanges told at))
Talks (Passes step later) asks exchanges [] at = IsAt (Passes step later) asks exchanges [] at
Talks (Passes step later) asks exchanges (t ∷ told) at = (t ≡ Passed step) × Talks later asks exchanges told at
Talks (Gives request reply later) asks exchanges [] at = IsAt (Gives request reply later) asks exchanges [] at
Talks (Gives request reply later) asks exchanges (t ∷ told) at = (t ≡ Result request reply) × Talks later asks exchanges told at
Talks (Stops step status) asks exchanges told at = IsAt (Stops step status) asks exchanges told at
Talks (Faults step) asks exchanges told at = IsAt (Faults step) asks exchanges told at
Talks Ends asks exchanges told at = IsAt Ends asks exchanges told at

abbrev pub command_of : Exchange → List ℕ
command_of e = e.command

abbrev pub reply_of : Exchange → List ℕ
reply_of e = e.reply

-- nothing is left of the course: all was done, a step did not succeed, or the coprocessor failed
abbrev pub IsEnd : Course → Type 0
IsEnd (Asks question later) = ⊥
IsEnd (Sends channel command later) = ⊥
IsEnd (Passes step later) = ⊥
IsEnd (Gives request reply later) = ⊥
IsEnd (Stops step status) = Unit {0}
IsEnd (Faults step) = Unit {0}
IsEnd Ends = Unit {0}

-- these bytes were sent, and their reply is due
abbrev pub IsDue : Course → List ℕ → Type 0
IsDue (Asks question later) bytes = ⊥
IsDue (Sends channel command later) bytes = IsWritten channel command bytes
IsDue (Passes step later) bytes = ⊥
IsDue (Gives request reply later) bytes = ⊥
IsDue (Stops step status) bytes = ⊥
IsDue (Faults step) bytes = ⊥
IsDue Ends bytes = ⊥

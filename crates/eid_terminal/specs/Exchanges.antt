-- How a course goes on: by replies, and by the coprocessor's answers. This project's own.
use Rattle.std.specs.Prelude.{ℕ, List, Option, Some, None, option_map, if◌then◌else◌}
use Rattle.eid_apdu.specs.Command.{PlainCommand}
use Rattle.eid_apdu.specs.Answer.{PlainReply}
use Rattle.eid_copro.specs.declared.ask.Answer.{Answer}
use Rattle.eid_copro.specs.declared.ask.Answer.TheVariants as answers
use Rattle.eid_sm.specs.Keys.{ChannelState, advanced}
use Rattle.eid_terminal.specs.declared.action.Step.{Step}
use Rattle.eid_terminal.specs.Courses.{Course, Sends, Stops, Faults}
use Rattle.eid_terminal.specs.Replies.{is_done}

-- a channel, where there is one, after one message more
abbrev pub counted : Option ChannelState → Option ChannelState
counted channel = option_map advanced channel

-- it goes on by a reply that can be read, and stops by one that cannot
abbrev pub by_reading : Step → (PlainReply → Course) → Option PlainReply → Course
by_reading step later None = Stops step 0x0000
by_reading step later (Some reply) = later reply

-- a command that was counted waits for its reply
abbrev pub awaiting : Step → PlainCommand → (Option ChannelState → PlainReply → Course) → Option ChannelState → Course
awaiting step command later channel = Sends channel command (by_reading step (later (counted channel)))

-- a command and its reply, in a channel or without one
unfoldable pub exchange : Step → PlainCommand → (Option ChannelState → PlainReply → Course) → Option ChannelState → Course
exchange step command later channel = awaiting step command later (counted channel)

-- a reply of success without data is expected, and any other one stops
unfoldable pub expecting : Step → (Option ChannelState → Course) → Option ChannelState → PlainReply → Course
expecting step later channel reply = if is_done reply then later channel else Stops step reply.status

-- it goes on with what a reply of this status holds, or stops
abbrev pub or_stop : {A : Type 0} → Step → ℕ → (A → Course) → Option A → Course
or_stop step status later None = Stops step status
or_stop step status later (Some found) = later found

-- it goes on by an answer of the kind of the question; where no point can come, that stops with the status of the last
-- reply; a fault, and what cannot come, is a fault
abbrev pub by_pair : Step → ((secret public : List ℕ) → Course) → Answer → Course
by_pair step later (answers.Pair secret public) = later secret public
by_pair step later answer = Faults step

abbrev pub by_mapped : Step → (status : ℕ) → (List ℕ → Course) → Answer → Course
by_mapped step status later (answers.Mapped base) = later base
by_mapped step status later answers.NoPoint = Stops step status
by_mapped step status later answer = Faults step

abbrev pub by_shared : Step → (status : ℕ) → (List ℕ → Course) → Answer → Course
by_shared step status later (answers.Shared shared) = later shared
by_shared step status later answers.NoPoint = Stops step status
by_shared step status later answer = Faults step

abbrev pub by_signed : Step → (List ℕ → Course) → Answer → Course
by_signed step later (answers.Signed signature) = later signature
by_signed step later answer = Faults step

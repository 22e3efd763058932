-- The requests of a terminal, one after the other (BSI TR-03110-2 and TR-03110-4). Any status is a result.
use Rattle.std.specs.Prelude.{ℕ, ◌+◌, ◌==◌, ◌&&◌, Bool, List, [], ◌∷◌, Option, is_none, unwrap_or, if◌then◌else◌}
use Rattle.eid_apdu.specs.Command.{PlainCommand}
use Rattle.eid_apdu.specs.Answer.{PlainReply}
use Rattle.eid_bits.specs.declared.identifier.Known.TheVariants as known
use Rattle.eid_sm.specs.Keys.{ChannelState}
use Rattle.eid_terminal.specs.declared.action.Step.{Step}
use Rattle.eid_terminal.specs.declared.action.Step.TheVariants as steps
use Rattle.eid_terminal.specs.declared.plan.Request.{Request}
use Rattle.eid_terminal.specs.declared.plan.Request.TheVariants.{File, Age, Validity, Community, Ri}
use Rattle.eid_terminal.specs.Commands.{identify, read, select_restricted_identification, verify}
use Rattle.eid_terminal.specs.Courses.{Course, Gives, Stops, Ends}
use Rattle.eid_terminal.specs.Exchanges.{exchange}
use Rattle.eid_terminal.specs.Plans.{PlainPlan}
use Rattle.eid_terminal.specs.Replies.{success, value_in}

-- the last step begun before the requests, which begin none
abbrev pub last_step_by : List (List ℕ) → Step
last_step_by [] = steps.Pace
last_step_by (certificate ∷ later) = steps.Select

-- the sector key, where there is one
abbrev pub sector_of : PlainPlan → List ℕ
sector_of plan = unwrap_or plan.sector []

abbrev pub last_step : PlainPlan → Step
last_step plan = last_step_by plan.certificates

-- the first command of a request
abbrev pub command_for : Request → PlainCommand
command_for (File number) = read number
command_for Age = verify known.Birth
command_for Validity = verify known.Expiry
command_for Community = verify known.Community
command_for Ri = select_restricted_identification

-- the reply is the result of the request at this place
unfoldable pub giving : ℕ → (Option ChannelState → Course) → Option ChannelState → PlainReply → Course
giving place later channel reply = Gives place reply (later channel)

-- a success without an identifier
abbrev pub lacks_identifier : PlainReply → Bool
lacks_identifier reply = reply.status == success && is_none (value_in 0x81 32 reply)

-- a success has to hold the identifier in the sector
unfoldable pub after_identification : Step → ℕ → (Option ChannelState → Course) → Option ChannelState → PlainReply → Course
after_identification step place later channel reply =
    if lacks_identifier reply then Stops step reply.status else Gives place reply (later channel)

-- the sector key is sent where the protocol could be chosen
unfoldable pub after_protocol : Step → (sector : List ℕ) → ℕ → (Option ChannelState → Course) → Option ChannelState → PlainReply → Course
after_protocol step sector place later channel reply =
    if reply.status == success
    then exchange step (identify sector) (after_identification step place later) channel
    else Gives place reply (later channel)

-- how a request goes on behind its first command
abbrev pub after_command : Step → (sector : List ℕ) → ℕ → Request → (Option ChannelState → Course) → Option ChannelState → PlainReply → Course
after_command step sector place (File number) later = giving place later
after_command step sector place Age later = giving place later
after_command step sector place Validity later = giving place later
after_command step sector place Community later = giving place later
after_command step sector place Ri later = after_protocol step sector place later

-- the requests from a place on
unfoldable pub requests : PlainPlan → ℕ → List Request → Option ChannelState → Course
requests plan place [] channel = Ends
requests plan place (request ∷ later) channel =
    exchange (last_step plan) (command_for request)
    (after_command (last_step plan) (sector_of plan) place request (requests plan (place + 1) later)) channel

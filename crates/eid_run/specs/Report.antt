-- The report of a session: what the terminal told, a line each, and where it stopped. This project's own.
use Rattle.std.specs.Prelude.{ℕ, ◌==◌, List, [], ◌∷◌, ◌++◌, Option, Some, None, if◌then◌else◌, codes, decimal}
use Rattle.std.specs.List.{flat_map, slice_get}
use Rattle.hex.specs.Hex.{encode_lower}
use Rattle.eid_apdu.specs.Answer.{PlainReply, status_bytes}
use Rattle.eid_terminal.specs.declared.action.Step.{Step}
use Rattle.eid_terminal.specs.declared.action.Step.TheVariants as steps
use Rattle.eid_terminal.specs.declared.plan.Request.{Request}
use Rattle.eid_terminal.specs.declared.plan.Request.TheVariants as requests
use Rattle.eid_terminal.specs.Courses.{Course, Asks, Sends, Passes, Gives, Stops, Faults, Ends}
use Rattle.eid_terminal.specs.Replies.{success, value_in}
use Rattle.eid_terminal.specs.Plans.{PlainPlan}
use Rattle.eid_run.specs.Conversations.{Told, Passed, Result}

-- a line is its words and LF
abbrev pub line : List ℕ → List ℕ
line words = words ++ 10 ∷ []

abbrev pub step_name : Step → List ℕ
step_name steps.Pace = codes "pace"
step_name steps.Ta = codes "ta"
step_name steps.Ca = codes "ca"
step_name steps.Select = codes "select"

abbrev pub request_name : Request → List ℕ
request_name (requests.File number) = codes "dg" ++ decimal number
request_name requests.Age = codes "age"
request_name requests.Validity = codes "validity"
request_name requests.Community = codes "community"
request_name requests.Ri = codes "ri"

-- four hexadecimal digits
abbrev pub status_text : ℕ → List ℕ
status_text status = encode_lower (status_bytes status)

abbrev pub or_none : Option (List ℕ) → List ℕ
or_none None = []
or_none (Some value) = value

-- of restricted identification that succeeded the identifier, which was read from the reply, and else the data
abbrev pub data_of : Request → PlainReply → List ℕ
data_of (requests.File number) reply = reply.content
data_of requests.Age reply = reply.content
data_of requests.Validity reply = reply.content
data_of requests.Community reply = reply.content
data_of requests.Ri reply = if reply.status == success then or_none (value_in 0x81 32 reply) else reply.content

-- a space and the data, where there are some
abbrev pub data_text : List ℕ → List ℕ
data_text [] = []
data_text (first ∷ rest) = codes " " ++ encode_lower (first ∷ rest)

unfoldable pub request_line : Request → PlainReply → List ℕ
request_line request reply =
    line (request_name request ++ codes " " ++ status_text reply.status ++ data_text (data_of request reply))

-- of a request that the plan has
abbrev pub asked_line : Option Request → PlainReply → List ℕ
asked_line None reply = []
asked_line (Some request) reply = request_line request reply

-- the line of a step that succeeded, of one that did not, and of one in which the coprocessor failed
abbrev pub passed_line : Step → List ℕ
passed_line step = line (step_name step ++ codes " 9000")

abbrev pub stopped_line : Step → ℕ → List ℕ
stopped_line step status = line (codes "stopped " ++ step_name step ++ codes " " ++ status_text status)

abbrev pub fault_line : Step → List ℕ
fault_line step = line (codes "stopped " ++ step_name step ++ codes " fault")

abbrev pub told_line : PlainPlan → Told → List ℕ
told_line plan (Passed step) = passed_line step
told_line plan (Result place reply) = asked_line (slice_get plan.requests place) reply

-- the last line, where a step did not succeed or the coprocessor failed
abbrev pub stop_line : Course → List ℕ
stop_line (Asks question later) = []
stop_line (Sends channel command later) = []
stop_line (Passes step later) = []
stop_line (Gives request reply later) = []
stop_line (Stops step status) = stopped_line step status
stop_line (Faults step) = fault_line step
stop_line Ends = []

-- what was told so far
abbrev pub told_lines : PlainPlan → List Told → List ℕ
told_lines plan told = flat_map (told_line plan) told

-- and the whole report
abbrev pub report : PlainPlan → List Told → Course → List ℕ
report plan told at = told_lines plan told ++ stop_line at

-- Inside: the states of the code as courses, and what one turn of the terminal promises. Only private functions cite
-- these, and what contracts see of a terminal.
use Rattle.std.specs.Prelude.{◌≡◌, ℕ, ◌+◌, ◌<◌, true, false, List, [], length, drop, slice_index_or, Option, option_map}
use Rattle.eid_base.specs.Faults.{Rose}
use Rattle.eid_apdu.specs.Answer.{PlainReply}
use Rattle.eid_apdu.specs.Command.{PlainCommand}
use Rattle.eid_bits.specs.Template.{template_bytes}
use Rattle.eid_copro.specs.Asking.{WereAsked}
use Rattle.eid_copro.specs.Seen.{CoproSeen}
use Rattle.eid_copro.specs.declared.ask.Ask.{Ask}
use Rattle.eid_cvc.specs.PublicKeys.{x_half}
use Rattle.eid_sm.specs.Keys.{ChannelState}
use Rattle.eid_terminal.specs.declared.action.Step.{Step}
use Rattle.eid_terminal.specs.declared.action.Step.TheVariants as steps
use Rattle.eid_terminal.specs.declared.state.Awaited.{Awaited}
use Rattle.eid_terminal.specs.declared.state.Awaited.TheVariants as awaited
use Rattle.eid_terminal.specs.declared.state.PaceCommand.{PaceCommand}
use Rattle.eid_terminal.specs.declared.state.PaceCommand.TheVariants as pace_commands
use Rattle.eid_terminal.specs.declared.state.TerminalCommand.{TerminalCommand}
use Rattle.eid_terminal.specs.declared.state.TerminalCommand.TheVariants as terminal_commands
use Rattle.eid_terminal.specs.declared.state.ChipCommand.{ChipCommand}
use Rattle.eid_terminal.specs.declared.state.ChipCommand.TheVariants as chip_commands
use Rattle.eid_terminal.specs.declared.state.RequestCommand.{RequestCommand}
use Rattle.eid_terminal.specs.declared.state.RequestCommand.TheVariants as request_commands
use Rattle.eid_terminal.specs.declared.state.Ending.{Ending}
use Rattle.eid_terminal.specs.declared.state.Ending.TheVariants as endings
use Rattle.eid_terminal.specs.declared.state.Round.{Round}
use Rattle.eid_terminal.specs.declared.state.Round.TheVariants as rounds
use Rattle.eid_terminal.specs.declared.state.Standing.{Standing}
use Rattle.eid_terminal.specs.declared.state.Standing.TheVariants as standing
use Rattle.eid_terminal.specs.declared.state.State.{State}
use Rattle.eid_terminal.specs.declared.state.State.TheVariants as states
use Rattle.eid_terminal.specs.declared.state.Terms.{Terms}
use Rattle.eid_terminal.specs.declared.state.Turn.{Turn}
use Rattle.eid_terminal.specs.Authentication.{after_challenge, after_proof, authenticate_chip, imports, issuer_of, last_holder, select}
use Rattle.eid_terminal.specs.Commands.{PlainTerms, agree, announce, authenticate, auxiliary, external_authenticate, get_challenge, get_nonce, identify, import_certificate, map_nonce, prove, select_application, select_chip_authentication, select_key, select_pace}
use Rattle.eid_terminal.specs.Courses.{Course, IsReading, Reached, Passes, Stops, Faults, Ends, SendsBytes}
use Rattle.eid_terminal.specs.Exchanges.{awaiting, by_reading, counted, exchange, expecting}
use Rattle.eid_terminal.specs.Moves.{Move, move_of}
use Rattle.eid_terminal.specs.Pace.{Opened, after_agreement, after_mapping, after_nonce, after_selection, after_token, token_for}
use Rattle.eid_terminal.specs.Plans.{PlainPlan, CanBeAsked}
use Rattle.eid_terminal.specs.Requests.{after_command, after_identification, command_for, last_step, requests, sector_of}
use Rattle.eid_terminal.specs.Terminals.{TerminalView, behind_pace, course, left_at, move_made, tells_fault, with_password}

abbrev pub terms_view : Terms → PlainTerms
terms_view t = record { password = t.password; digits = t.digits.items; template = option_map template_bytes t.template }

-- ---- the command whose reply is due

-- how it goes on behind a PACE
abbrev pub opened_after : PlainPlan → Round → Opened
opened_after plan rounds.Can channel identity = with_password plan channel
opened_after plan rounds.Password channel identity = behind_pace plan channel identity

-- the certificate at a place
abbrev pub certificate_at : PlainPlan → ℕ → List ℕ
certificate_at plan place = slice_index_or plan.certificates place []

-- what is left behind the certificate, or the request, at a place
abbrev pub imports_behind : PlainPlan → (identity : List ℕ) → ℕ → Option ChannelState → Course
imports_behind plan identity place = imports plan identity (drop (place + 1) plan.certificates)

abbrev pub requests_from : PlainPlan → ℕ → Option ChannelState → Course
requests_from plan place = requests plan place (drop place plan.requests)

abbrev pub step_of : PlainPlan → Awaited → Step
step_of plan (awaited.Pace command) = steps.Pace
step_of plan (awaited.Terminal command) = steps.Ta
step_of plan (awaited.Chip (chip_commands.Selection pair)) = steps.Ca
step_of plan (awaited.Chip (chip_commands.Proof pair)) = steps.Ca
step_of plan (awaited.Chip chip_commands.Application) = steps.Select
step_of plan (awaited.Request command) = last_step plan

-- the command itself
abbrev pub pace_command : PaceCommand → PlainCommand
pace_command (pace_commands.Selection round terms) = select_pace (terms_view terms)
pace_command (pace_commands.Nonce round digits) = get_nonce
pace_command (pace_commands.Mapping round nonce pair) = map_nonce pair.point
pace_command (pace_commands.Agreement round pair) = agree pair.point
pace_command (pace_commands.Token round shared point peer) = authenticate (token_for shared peer)

abbrev pub terminal_command : PlainPlan → TerminalCommand → PlainCommand
terminal_command plan (terminal_commands.KeySelection identity place) = select_key (issuer_of (certificate_at plan place))
terminal_command plan (terminal_commands.Certificate identity place) = import_certificate (certificate_at plan place)
terminal_command plan (terminal_commands.Announcement identity pair) =
    announce (last_holder plan.certificates) (x_half pair.point) (auxiliary plan)
terminal_command plan (terminal_commands.Challenge identity pair) = get_challenge
terminal_command plan (terminal_commands.Signature pair signature) = external_authenticate signature

abbrev pub chip_command : ChipCommand → PlainCommand
chip_command (chip_commands.Selection pair) = select_chip_authentication
chip_command (chip_commands.Proof pair) = prove pair.point
chip_command chip_commands.Application = select_application

abbrev pub request_command : PlainPlan → RequestCommand → PlainCommand
request_command plan (request_commands.First request place) = command_for request
request_command plan (request_commands.Sector place) = identify (sector_of plan)

abbrev pub command_of : PlainPlan → Awaited → PlainCommand
command_of plan (awaited.Pace command) = pace_command command
command_of plan (awaited.Terminal command) = terminal_command plan command
command_of plan (awaited.Chip command) = chip_command command
command_of plan (awaited.Request command) = request_command plan command

-- how it goes on by the reply
abbrev pub after_pace : PlainPlan → PaceCommand → Option ChannelState → PlainReply → Course
after_pace plan (pace_commands.Selection round terms) = after_selection terms.digits.items (opened_after plan round)
after_pace plan (pace_commands.Nonce round digits) = after_nonce digits.items (opened_after plan round)
after_pace plan (pace_commands.Mapping round nonce pair) = after_mapping nonce pair.secret pair.point (opened_after plan round)
after_pace plan (pace_commands.Agreement round pair) = after_agreement pair.secret pair.point (opened_after plan round)
after_pace plan (pace_commands.Token round shared point peer) = after_token shared point peer (opened_after plan round)

abbrev pub after_terminal : PlainPlan → TerminalCommand → Option ChannelState → PlainReply → Course
after_terminal plan (terminal_commands.KeySelection identity place) =
    expecting steps.Ta (exchange steps.Ta (import_certificate (certificate_at plan place)) (expecting steps.Ta (imports_behind plan identity place)))
after_terminal plan (terminal_commands.Certificate identity place) = expecting steps.Ta (imports_behind plan identity place)
after_terminal plan (terminal_commands.Announcement identity pair) =
    expecting steps.Ta (exchange steps.Ta get_challenge (after_challenge plan identity pair.secret pair.point))
after_terminal plan (terminal_commands.Challenge identity pair) = after_challenge plan identity pair.secret pair.point
after_terminal plan (terminal_commands.Signature pair signature) =
    expecting steps.Ta (λ channel. Passes steps.Ta (authenticate_chip plan pair.secret pair.point channel))

abbrev pub after_chip : PlainPlan → ChipCommand → Option ChannelState → PlainReply → Course
after_chip plan (chip_commands.Selection pair) =
    expecting steps.Ca (exchange steps.Ca (prove pair.point) (after_proof plan pair.secret pair.point))
after_chip plan (chip_commands.Proof pair) = after_proof plan pair.secret pair.point
after_chip plan chip_commands.Application =
    expecting steps.Select (λ channel. Passes steps.Select (requests plan 0 plan.requests channel))

abbrev pub after_request : PlainPlan → RequestCommand → Option ChannelState → PlainReply → Course
after_request plan (request_commands.First request place) =
    after_command (last_step plan) (sector_of plan) place request (requests_from plan (place + 1))
after_request plan (request_commands.Sector place) = after_identification (last_step plan) place (requests_from plan (place + 1))

abbrev pub later_of : PlainPlan → Awaited → Option ChannelState → PlainReply → Course
later_of plan (awaited.Pace command) = after_pace plan command
later_of plan (awaited.Terminal command) = after_terminal plan command
later_of plan (awaited.Chip command) = after_chip plan command
later_of plan (awaited.Request command) = after_request plan command

-- ---- the state

abbrev pub waiting_course : PlainPlan → Awaited → Option ChannelState → Course
waiting_course plan awaited channel = awaiting (step_of plan awaited) (command_of plan awaited) (later_of plan awaited) channel

abbrev pub ready_course : PlainPlan → Standing → Option ChannelState → Course
ready_course plan standing.Start channel = course plan
ready_course plan standing.OpenedByCan channel = with_password plan channel
ready_course plan (standing.Opened identity) channel = behind_pace plan channel identity
ready_course plan (standing.TerminalProven pair) channel = authenticate_chip plan pair.secret pair.point channel
ready_course plan standing.ChipProven channel = select plan channel
ready_course plan (standing.Requests place) channel = requests_from plan place channel

abbrev pub ended_course : Ending → Course
ended_course endings.Done = Ends
ended_course (endings.Stopped step status) = Stops step status.0
ended_course (endings.Fault step) = Faults step

abbrev pub state_view : PlainPlan → Option ChannelState → State → TerminalView
state_view plan channel (states.Waiting awaited) = record { course = waiting_course plan awaited channel; waits = true; ended = false }
state_view plan channel (states.Ready standing) = record { course = ready_course plan standing channel; waits = false; ended = false }
state_view plan channel (states.Ended ending) = record { course = ended_course ending; waits = false; ended = true }

-- the place of a certificate that there is
abbrev pub HasCertificate : PlainPlan → TerminalCommand → Type 0
HasCertificate plan (terminal_commands.KeySelection identity place) = place < length plan.certificates
HasCertificate plan (terminal_commands.Certificate identity place) = place < length plan.certificates
HasCertificate plan (terminal_commands.Announcement identity pair) = Unit {0}
HasCertificate plan (terminal_commands.Challenge identity pair) = Unit {0}
HasCertificate plan (terminal_commands.Signature pair signature) = Unit {0}

-- the place of a request that there is, and one that can be asked
abbrev pub HasRequest : PlainPlan → RequestCommand → Type 0
HasRequest plan (request_commands.First request place) = (place < length plan.requests) × CanBeAsked plan.sector request
HasRequest plan (request_commands.Sector place) = place < length plan.requests

abbrev pub HasPlace : PlainPlan → Awaited → Type 0
HasPlace plan (awaited.Pace command) = Unit {0}
HasPlace plan (awaited.Terminal command) = HasCertificate plan command
HasPlace plan (awaited.Chip command) = Unit {0}
HasPlace plan (awaited.Request command) = HasRequest plan command

abbrev pub IsSound : PlainPlan → State → Type 0
IsSound plan (states.Waiting awaited) = HasPlace plan awaited
IsSound plan (states.Ready standing) = Unit {0}
IsSound plan (states.Ended ending) = Unit {0}

-- ---- a turn

pub record TurnSeen : Type 0 where
  pub state : State
  pub channel : Option ChannelState
  pub move : Move

abbrev pub seen : Turn → Option ChannelState → (message : List ℕ) → (heard : PlainReply) → TurnSeen
seen turn channel message heard = record { state = turn.state; channel = channel; move = move_made turn.deed message heard }

-- the terminal did what comes at a course, and stands behind it
pub record Did (plan : PlainPlan) (turn : TurnSeen) (at : Course) : Type 0 where
  pub left : state_view plan turn.channel turn.state ≡ left_at at
  pub move : turn.move ≡ move_of at
  pub octets : SendsBytes at
  pub sound : IsSound plan turn.state

-- it put questions on the way from one course to another, and did what comes there
pub record Comes (before after : CoproSeen) (plan : PlainPlan) (turn : TurnSeen) (from : Course) : Type 0 where
  pub asks : List Ask
  pub were_asked : WereAsked before after asks
  pub at : Course
  pub reached : Reached from asks [] 0 at
  pub did : Did plan turn at
  pub fault : tells_fault turn.move ≡ true → Rose before.faults after.faults

-- the bytes were read as a reply or as none, and the terminal went on by that
pub record Heard (before after : CoproSeen) (plan : PlainPlan) (awaited : Awaited) (channel : Option ChannelState) (bytes : List ℕ) (turn : TurnSeen) : Type 0 where
  pub reading : Option PlainReply
  pub reads : IsReading channel bytes reading
  pub comes : Comes before after plan turn (by_reading (step_of plan awaited) (later_of plan awaited (counted channel)) reading)

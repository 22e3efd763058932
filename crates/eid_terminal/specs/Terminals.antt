-- A terminal: the course of its plan, where it stands on it, and what is next. This project's own.
use Rattle.std.specs.Prelude.{◌≡◌, ℕ, ◌+◌, Bool, true, false, List, [], ◌∷◌, ◌++◌, Option, Some, None}
use Rattle.std.specs.Option.{option_to_list}
use Rattle.eid_base.specs.Faults.{Rose}
use Rattle.eid_apdu.specs.Answer.{PlainReply, plain_reply}
use Rattle.eid_copro.specs.Asking.{WereAsked}
use Rattle.eid_copro.specs.Seen.{CoproSeen}
use Rattle.eid_copro.specs.declared.ask.Ask.{Ask}
use Rattle.eid_record.specs.declared.fields.Password.TheVariants.{Can}
use Rattle.eid_sm.specs.Keys.{ChannelState}
use Rattle.eid_terminal.specs.declared.action.Action.{Action}
use Rattle.eid_terminal.specs.declared.action.Action.TheVariants as actions
use Rattle.eid_terminal.specs.declared.action.Deed.{Deed}
use Rattle.eid_terminal.specs.declared.action.Deed.TheVariants as deeds
use Rattle.eid_terminal.specs.Authentication.{imports}
use Rattle.eid_terminal.specs.Commands.{PlainTerms}
use Rattle.eid_terminal.specs.Courses.{Course, Reached, SendsBytes, Asks, Sends, Passes, Gives, Stops, Faults, Ends}
use Rattle.eid_terminal.specs.Moves.{Move, move_of}
use Rattle.eid_terminal.specs.Moves as moves
use Rattle.eid_terminal.specs.Pace.{pace}
use Rattle.eid_terminal.specs.Plans.{PlainPlan}
use Rattle.eid_terminal.specs.Requests.{requests}

-- ---- the course of a plan

-- behind PACE: the authentications where there are certificates, and else the requests
abbrev pub certified : PlainPlan → (identity : List ℕ) → (certificates : List (List ℕ)) → Option ChannelState → Course
certified plan identity [] channel = requests plan 0 plan.requests channel
certified plan identity (certificate ∷ later) channel = imports plan identity (certificate ∷ later) channel

unfoldable pub behind_pace : PlainPlan → Option ChannelState → (identity : List ℕ) → Course
behind_pace plan channel identity = certified plan identity plan.certificates channel

abbrev pub terms_of : PlainPlan → PlainTerms
terms_of plan = record { password = plan.password; digits = plan.value; template = plan.template }

abbrev pub can_terms : (digits : List ℕ) → PlainTerms
can_terms digits = record { password = Can; digits = digits; template = None }

-- PACE with the password
unfoldable pub with_password : PlainPlan → Option ChannelState → Course
with_password plan channel = pace (terms_of plan) (behind_pace plan) channel

-- PACE with the card access number before that, where there is one
abbrev pub with_can : PlainPlan → Option (List ℕ) → Course
with_can plan None = with_password plan None
with_can plan (Some digits) = pace (can_terms digits) (λ channel identity. with_password plan channel) None

unfoldable pub course : PlainPlan → Course
course plan = with_can plan plan.can_first

-- ---- where a terminal stands

-- the course that is left; whether a command of it was sent whose reply is due; and whether nothing comes any more
pub record TerminalView : Type 0 where
  pub course : Course
  pub waits : Bool
  pub ended : Bool

-- before the first command
abbrev pub begun : PlainPlan → TerminalView
begun plan = record { course = course plan; waits = false; ended = false }

-- the terminal stands where one comes to with these asks, these replies, and so many passed steps and results given
abbrev pub Stands : TerminalView → PlainPlan → List Ask → List (List ℕ) → ℕ → Type 0
Stands terminal plan asks replies given = Reached (course plan) asks replies given terminal.course

-- what is next with these asks, these replies, and so many passed steps and results given
pub record IsNext (plan : PlainPlan) (asks : List Ask) (replies : List (List ℕ)) (given : ℕ) (move : Move) : Type 0 where
  pub at : Course
  pub reached : Reached (course plan) asks replies given at
  pub is : move ≡ move_of at

-- where a terminal stands once it has done what comes at a course
abbrev pub left_at : Course → TerminalView
left_at (Asks question later) = record { course = Asks question later; waits = false; ended = false }
left_at (Sends channel command later) = record { course = Sends channel command later; waits = true; ended = false }
left_at (Passes step later) = record { course = later; waits = false; ended = false }
left_at (Gives request reply later) = record { course = later; waits = false; ended = false }
left_at (Stops step status) = record { course = Stops step status; waits = false; ended = true }
left_at (Faults step) = record { course = Faults step; waits = false; ended = true }
left_at Ends = record { course = Ends; waits = false; ended = true }

-- ---- what a terminal does

-- the deed as a move, with the command that was written and the reply that was heard
abbrev pub move_made : Deed → (message : List ℕ) → (heard : PlainReply) → Move
move_made deeds.Send message heard = moves.Sends message
move_made (deeds.Result request) message heard = moves.Gives request heard
move_made (deeds.Passed step) message heard = moves.Passes step
move_made deeds.Done message heard = moves.Ends
move_made (deeds.Stopped step status) message heard = moves.Stops step status.0
move_made (deeds.Fault step) message heard = moves.Faults step

-- the action as a move
abbrev pub move_seen : Action → Move
move_seen (actions.Send message) = moves.Sends message.items
move_seen (actions.Result request reply) = moves.Gives request (plain_reply reply)
move_seen (actions.Passed step) = moves.Passes step
move_seen actions.Done = moves.Ends
move_seen (actions.Stopped step status) = moves.Stops step status.0
move_seen (actions.Fault step) = moves.Faults step

-- a reply is due after it
abbrev pub is_sent : Move → Bool
is_sent (moves.Asks question) = false
is_sent (moves.Sends bytes) = true
is_sent (moves.Passes step) = false
is_sent (moves.Gives request reply) = false
is_sent (moves.Stops step status) = false
is_sent (moves.Faults step) = false
is_sent moves.Ends = false

-- nothing comes after it
abbrev pub is_end : Move → Bool
is_end (moves.Asks question) = false
is_end (moves.Sends bytes) = false
is_end (moves.Passes step) = false
is_end (moves.Gives request reply) = false
is_end (moves.Stops step status) = true
is_end (moves.Faults step) = true
is_end moves.Ends = true

abbrev pub tells_fault : Move → Bool
tells_fault (moves.Asks question) = false
tells_fault (moves.Sends bytes) = false
tells_fault (moves.Passes step) = false
tells_fault (moves.Gives request reply) = false
tells_fault (moves.Stops step status) = false
tells_fault (moves.Faults step) = true
tells_fault moves.Ends = false

-- a passed step or a result counts from then on
abbrev pub count_of : Move → ℕ
count_of (moves.Asks question) = 0
count_of (moves.Sends bytes) = 0
count_of (moves.Passes step) = 1
count_of (moves.Gives request reply) = 1
count_of (moves.Stops step status) = 0
count_of (moves.Faults step) = 0
count_of moves.Ends = 0

-- from one to the other with these asks and these replies more: wherever the first stands, the move is what is next, and
-- the second stands behind it
abbrev pub GoesOn : TerminalView → TerminalView → List Ask → List (List ℕ) → Move → Type 0
GoesOn old new asks replies move = (plan : PlainPlan) (past : List Ask) (heard : List (List ℕ)) (given : ℕ) → Stands old plan past heard given
    → IsNext plan (past ++ asks) (heard ++ replies) given move × Stands new plan (past ++ asks) (heard ++ replies) (given + count_of move)

-- A terminal went on, by a reply where one was due: it came along its course with these asks, by which the coprocessor's log
-- grew, to where the move is, and stands behind it. So with whatever was before, the move is what is next. A reply is due
-- exactly after a command, nothing comes exactly after an end, and the coprocessor's faults rose where the move is a fault.
pub record Goes (before after : CoproSeen) (old new : TerminalView) (reply : Option (List ℕ)) (move : Move) : Type 0 where
  pub asks : List Ask
  pub were_asked : WereAsked before after asks
  pub at : Course
  pub reached : Reached old.course asks (option_to_list reply) 0 at
  pub is : move ≡ move_of at
  pub octets : SendsBytes at
  pub left : new ≡ left_at at
  pub goes_on : GoesOn old new asks (option_to_list reply) move
  pub waits : new.waits ≡ is_sent move
  pub ended : new.ended ≡ is_end move
  pub fault : tells_fault move ≡ true → Rose before.faults after.faults

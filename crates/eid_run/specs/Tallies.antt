-- How many requests of a session were answered with 9000, and how many with another status. This project's own.
use Rattle.std.specs.Prelude.{◌≡◌, ◌+◌, ◌==◌, Bool, false, not, List, if◌then◌else◌}
use Rattle.std.specs.List.{count_by}
use Rattle.eid_apdu.specs.Answer.{PlainReply}
use Rattle.eid_copro.specs.Seen.{CoproSeen}
use Rattle.eid_record.specs.Plain.{FullRecord}
use Rattle.eid_terminal.specs.Moves.{Move}
use Rattle.eid_terminal.specs.Moves as moves
use Rattle.eid_terminal.specs.Plans.{PlainPlan}
use Rattle.eid_terminal.specs.Replies.{success}
use Rattle.eid_run.specs.Conversations.{Told, Passed, Result}
use Rattle.eid_run.specs.Runs.{Outside}
use Rattle.eid_run.specs.Sessions.{DidSession}
use Rattle.eid_run.specs.declared.tally.Tally.{Tally}

-- what was told is the reply to a request, with the status 9000, or with another one
abbrev pub is_answered : Told → Bool
is_answered (Passed step) = false
is_answered (Result request reply) = reply.status == success

abbrev pub is_refused : Told → Bool
is_refused (Passed step) = false
is_refused (Result request reply) = not (reply.status == success)

-- so many of them were told
pub record IsTallyOf (told : List Told) (tally : Tally) : Type 0 where
  pub answered : tally.answered ≡ count_by is_answered told
  pub refused : tally.refused ≡ count_by is_refused told

abbrev pub no_results : Tally
no_results = record { answered = 0; refused = 0 }

-- and after what comes next
abbrev pub tally_reply : Tally → PlainReply → Tally
tally_reply tally reply =
    if reply.status == success then record tally { answered = tally.answered + 1 } else record tally { refused = tally.refused + 1 }

abbrev pub tally_more : Tally → Move → Tally
tally_more tally (moves.Asks question) = tally
tally_more tally (moves.Sends bytes) = tally
tally_more tally (moves.Passes step) = tally
tally_more tally (moves.Gives request reply) = tally_reply tally reply
tally_more tally (moves.Stops step status) = tally
tally_more tally (moves.Faults step) = tally
tally_more tally moves.Ends = tally

-- the session went to its end, its report was written, and its results were counted
pub record CountedSession (plan : PlainPlan) (opening : FullRecord) (old new : Outside) (terminal terminal_now : CoproSeen) (tally : Tally) : Type 0 where
  pub did : DidSession plan opening old new terminal terminal_now
  pub counted : IsTallyOf did.told tally

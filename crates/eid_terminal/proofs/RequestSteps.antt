-- What comes in the requests, by the reply.
use Rattle.std.proofs.Common.{◌≡◌, ℕ, ◌+◌, ◌<◌, ◌≤◌, suc, zero, true, false, List, [], ◌∷◌, length, drop, Option, Some, None, refl, ap, ◌∙◌, subst, arith, add-one, rules}
use Rattle.std.proofs.Math.Seq.{drop-cons, drop-nil}
use Rattle.std.proofs.lemmas.Option.{get_or_from_slice_get, slice_get-get_or, slice_get_within}
use Rattle.std.specs.Borrow.{Bor}
use Rattle.std.specs.Option.{option_copied}
use Rattle.std.specs.Prelude.{◌==◌, slice_get, slice_index_or, IsSome}
use Rattle.eid_apdu.specs.Answer.{PlainReply}
use Rattle.eid_sm.specs.Keys.{ChannelState}
use Rattle.eid_terminal.specs.declared.action.Step.{Step}
use Rattle.eid_terminal.specs.declared.plan.Request.{Request}
use Rattle.eid_terminal.specs.declared.plan.Request.TheVariants.{File, Age, Validity, Community, Ri}
use Rattle.eid_terminal.specs.declared.state.Awaited.TheVariants as awaited
use Rattle.eid_terminal.specs.declared.state.RequestCommand.TheVariants as request_commands
use Rattle.eid_terminal.specs.declared.state.TerminalCommand.TheVariants as terminal_commands
use Rattle.eid_terminal.specs.Authentication.{imports}
use Rattle.eid_terminal.specs.View.{certificate_at, requests_from, waiting_course}
use Rattle.eid_terminal.proofs.AuthenticationSteps.{import_comes}
use Rattle.eid_terminal.specs.Commands.{identify}
use Rattle.eid_terminal.specs.Courses.{Course, Gives, Stops, Ends}
use Rattle.eid_terminal.specs.Exchanges.{awaiting, counted, exchange}
use Rattle.eid_terminal.specs.Plans.{PlainPlan, AreSendable, CanBeAsked, CanAllBeAsked, IsFit}
use Rattle.eid_terminal.specs.Replies.{success}
use Rattle.eid_terminal.specs.Requests.{after_command, after_identification, after_protocol, command_for, giving, lacks_identifier, last_step, requests, sector_of}

-- what is left from a place on
pub from_place : {T : Type 0} (list : List T) (place : ℕ) (found : T) → slice_get list place ≡ Some found → drop place list ≡ found ∷ drop (place + 1) list
from_place [] place found h = cc
from_place (first ∷ rest) zero found h = let e : first ≡ found = cc in rw e refl
from_place (first ∷ rest) (suc place) found h = let e : suc place + 1 ≡ suc (place + 1) = omega arith in rw e (from_place rest place found h)

pub from_behind : {T : Type 0} (list : List T) (place : ℕ) → slice_get list place ≡ None → drop place list ≡ []
from_behind [] place h = drop-nil place
from_behind (first ∷ rest) zero h = cc
from_behind (first ∷ rest) (suc place) h = from_behind rest place h

pub can_be_asked : (sector : Option (List ℕ)) (list : List Request) (place : ℕ) (found : Request) → slice_get list place ≡ Some found → CanAllBeAsked sector list
    → CanBeAsked sector found
can_be_asked sector [] place found h all = cc
can_be_asked sector (first ∷ rest) zero found h all = let e : first ≡ found = cc in subst (CanBeAsked sector) e all.0
can_be_asked sector (first ∷ rest) (suc place) found h all = can_be_asked sector rest place found h all.1

pub is_short : (list : List (List ℕ)) (place : ℕ) (found : List ℕ) → slice_get list place ≡ Some found → AreSendable list → length found ≤ 2048
is_short [] place found h all = cc
is_short (first ∷ rest) zero found h all = let e : first ≡ found = cc in rw (← e) all.0.short
is_short (first ∷ rest) (suc place) found h all = is_short rest place found h all.1

module _ (plan : PlainPlan) (place : ℕ) (channel : Option ChannelState) where
  pub none_left : requests plan place [] channel ≡ Ends
  unfolding requests
  none_left = refl

  pub request_comes : (request : Request) (later : List Request)
      → requests plan place (request ∷ later) channel
      ≡ awaiting (last_step plan) (command_for request)
      (after_command (last_step plan) (sector_of plan) place request (requests plan (place + 1) later)) (counted channel)
  unfolding requests exchange
  request_comes request later = refl

module _ (place : ℕ) (later : Option ChannelState → Course) (channel : Option ChannelState) (reply : PlainReply) where
  pub gives : giving place later channel reply ≡ Gives place reply (later channel)
  unfolding giving
  gives = refl

  pub identified : (step : Step) → lacks_identifier reply ≡ false → after_identification step place later channel reply ≡ Gives place reply (later channel)
  unfolding after_identification
  identified step h = rw h refl

  pub not_identified : (step : Step) → lacks_identifier reply ≡ true → after_identification step place later channel reply ≡ Stops step reply.status
  unfolding after_identification
  not_identified step h = rw h refl

  pub protocol_refused : (step : Step) (sector : List ℕ) → (reply.status == success) ≡ false
      → after_protocol step sector place later channel reply ≡ Gives place reply (later channel)
  unfolding after_protocol
  protocol_refused step sector h = rw h refl

  pub protocol_selected : (step : Step) (sector : List ℕ) → (reply.status == success) ≡ true
      → after_protocol step sector place later channel reply ≡ awaiting step (identify sector) (after_identification step place later) (counted channel)
  unfolding after_protocol exchange
  protocol_selected step sector h = rw h refl

-- ---- where the terminal waits

pub left_at_place : {T : Type 0} (list : List T) (place : ℕ) (default : T) → place < length list → drop place list ≡ slice_index_or list place default ∷ drop (place + 1) list
left_at_place list place default within = rw add-one (drop-cons list place default within)

-- a certificate at a place
pub import_waits : (plan : PlainPlan) (identity : List ℕ) (place : ℕ) (channel : Option ChannelState) → place < length plan.certificates
    → imports plan identity (drop place plan.certificates) channel ≡ waiting_course plan (awaited.Terminal (terminal_commands.KeySelection identity place)) (counted channel)
import_waits plan identity place channel within =
    ap (λ (certificates : List (List ℕ)). imports plan identity certificates channel) (left_at_place plan.certificates place [] within)
    ∙ import_comes plan identity (certificate_at plan place) (drop (place + 1) plan.certificates) channel

-- a request at a place
pub request_waits : (plan : PlainPlan) (place : ℕ) (request : Request) (channel : Option ChannelState) → slice_get plan.requests place ≡ Some request
    → requests_from plan place channel ≡ waiting_course plan (awaited.Request (request_commands.First request place)) (counted channel)
request_waits plan place request channel found =
    ap (λ (list : List Request). requests plan place list channel) (from_place plan.requests place request found)
    ∙ request_comes plan place channel request (drop (place + 1) plan.requests)

pub is_there : (plan : PlainPlan) (place : ℕ) (request : Request) → IsFit plan → slice_get plan.requests place ≡ Some request
    → (place < length plan.requests) × CanBeAsked plan.sector request
is_there plan place request fit found = (slice_get_within plan.requests place request found, can_be_asked plan.sector plan.requests place request found fit.requests)

-- the number of a data group
pub low_number : (sector : Option (List ℕ)) (request : Request) (number : ℕ) → request ≡ File number → CanBeAsked sector request → number ≤ 21
low_number sector request number is can = let there : CanBeAsked sector (File number) = subst (CanBeAsked sector) is can in there.1

-- a reply to another request than one of restricted identification
pub other_answer : (step : Step) (sector : List ℕ) (place : ℕ) (request : Request) (later : Option ChannelState → Course) (channel : Option ChannelState) (reply : PlainReply)
    → (request ≡ Ri → ⊥) → after_command step sector place request later channel reply ≡ Gives place reply (later channel)
other_answer step sector place (File number) later channel reply other = gives place later channel reply
other_answer step sector place Age later channel reply other = gives place later channel reply
other_answer step sector place Validity later channel reply other = gives place later channel reply
other_answer step sector place Community later channel reply other = gives place later channel reply
other_answer step sector place Ri later channel reply other = absurd (other refl)

-- a certificate that is read is one of the plan's
pub found_at : (list : List (List ℕ)) (place : ℕ) (found : List ℕ) → slice_get list place ≡ Some found → slice_index_or list place [] ≡ found
found_at list place found h = get_or_from_slice_get list place found [] h

pub some_within : (list : List (List ℕ)) (place : ℕ) (found : Option (Bor (List ℕ))) → option_copied found ≡ slice_get list place → place < length list → IsSome found
some_within list place None h within = let past = slice_get-get_or list place [] within in cc
some_within list place (Some found) h within = search rules

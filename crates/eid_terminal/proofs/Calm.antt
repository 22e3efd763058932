-- Where no question is put, no fault comes.
use Rattle.std.proofs.Common.{◌≡◌, ℕ, ◌+◌, Bool, true, false, List, [], ◌∷◌, Option, Some, None, refl}
use Rattle.std.specs.Prelude.{◌==◌, if◌then◌else◌}
use Rattle.std.specs.Str.{bytes_eq}
use Rattle.eid_apdu.specs.Command.{PlainCommand}
use Rattle.eid_apdu.specs.Answer.{PlainReply}
use Rattle.eid_copro.specs.Seen.{CoproSeen}
use Rattle.eid_pace.specs.Keys.{enc_key, identity_of, mac_key}
use Rattle.eid_sm.specs.Keys.{ChannelState}
use Rattle.eid_terminal.specs.declared.action.Step.{Step}
use Rattle.eid_terminal.specs.declared.action.Step.TheVariants as steps
use Rattle.eid_terminal.specs.declared.plan.Request.{Request}
use Rattle.eid_terminal.specs.declared.plan.Request.TheVariants.{File, Age, Validity, Community, Ri}
use Rattle.eid_terminal.specs.declared.state.RequestCommand.{RequestCommand}
use Rattle.eid_terminal.specs.declared.state.RequestCommand.TheVariants as request_commands
use Rattle.eid_terminal.specs.Commands.{PlainTerms, get_nonce, identify}
use Rattle.eid_terminal.specs.Courses.{Course, Passes, Stops, Gives}
use Rattle.eid_terminal.specs.Exchanges.{exchange, expecting, or_stop}
use Rattle.eid_terminal.specs.Pace.{Opened, after_nonce, after_selection, after_token, channel_under, pace, token_for}
use Rattle.eid_terminal.specs.Plans.{PlainPlan}
use Rattle.eid_terminal.specs.Replies.{is_done, is_pace_selected, success, token_in}
use Rattle.eid_terminal.specs.Requests.{after_command, after_identification, after_protocol, giving, lacks_identifier, last_step, requests, sector_of}
use Rattle.eid_terminal.specs.View.{Comes, Did, TurnSeen, after_request, requests_from}
use Rattle.eid_terminal.proofs.Coming.{came_now, fails}

pub came_calm : (copro : CoproSeen) (plan : PlainPlan) (turn : TurnSeen) (at : Course) → fails at ≡ false → Did plan turn at → Comes copro copro plan turn at
came_calm copro plan turn at calm did = came_now copro plan turn at at refl calm did

pub calm_exchange : (step : Step) (command : PlainCommand) (later : Option ChannelState → PlainReply → Course) (channel : Option ChannelState)
    → fails (exchange step command later channel) ≡ false
unfolding exchange
calm_exchange step command later channel = refl

pub calm_expecting : (step : Step) (later : Option ChannelState → Course) (channel : Option ChannelState) (reply : PlainReply)
    → ((c : Option ChannelState) → fails (later c) ≡ false) → fails (expecting step later channel reply) ≡ false
unfolding expecting
calm_expecting step later channel reply calm = by (is_done reply) where
  by : (b : Bool) → fails (if b then later channel else Stops step reply.status) ≡ false
  by true = calm channel
  by false = refl

pub calm_pace : (terms : PlainTerms) (later : Opened) (channel : Option ChannelState) → fails (pace terms later channel) ≡ false
unfolding pace exchange
calm_pace terms later channel = refl

pub calm_selection : (digits : List ℕ) (later : Opened) (channel : Option ChannelState) (reply : PlainReply) → fails (after_selection digits later channel reply) ≡ false
unfolding after_selection
calm_selection digits later channel reply = by (is_pace_selected reply) where
  by : (b : Bool) → fails (if b then exchange steps.Pace get_nonce (after_nonce digits later) channel else Stops steps.Pace reply.status) ≡ false
  by true = calm_exchange steps.Pace get_nonce (after_nonce digits later) channel
  by false = refl

pub calm_token : (shared point peer : List ℕ) (later : Opened) (channel : Option ChannelState) (reply : PlainReply)
    → fails (after_token shared point peer later channel reply) ≡ false
unfolding after_token
calm_token shared point peer later channel reply = by (token_in reply) where
  right_or_not : (b : Bool) → fails (if b then Passes steps.Pace (later (channel_under (enc_key shared) (mac_key shared)) (identity_of peer)) else Stops steps.Pace reply.status) ≡ false
  right_or_not true = refl
  right_or_not false = refl

  by : (found : Option (List ℕ)) → fails (or_stop steps.Pace reply.status (λ token.
      if bytes_eq token (token_for shared point) then Passes steps.Pace (later (channel_under (enc_key shared) (mac_key shared)) (identity_of peer)) else Stops steps.Pace reply.status) found) ≡ false
  by None = refl
  by (Some found) = right_or_not (bytes_eq found (token_for shared point))

module _ (step : Step) (place : ℕ) (later : Option ChannelState → Course) (channel : Option ChannelState) (reply : PlainReply) where
  pub calm_identification : fails (after_identification step place later channel reply) ≡ false
  unfolding after_identification
  calm_identification = by (lacks_identifier reply) where
    by : (b : Bool) → fails (if b then Stops step reply.status else Gives place reply (later channel)) ≡ false
    by true = refl
    by false = refl

  pub calm_giving : fails (giving place later channel reply) ≡ false
  unfolding giving
  calm_giving = refl

  pub calm_protocol : (sector : List ℕ) → fails (after_protocol step sector place later channel reply) ≡ false
  unfolding after_protocol
  calm_protocol sector = by (reply.status == success) where
    by : (b : Bool) → fails (if b then exchange step (identify sector) (after_identification step place later) channel else Gives place reply (later channel)) ≡ false
    by true = calm_exchange step (identify sector) (after_identification step place later) channel
    by false = refl

  pub calm_command : (sector : List ℕ) (request : Request) → fails (after_command step sector place request later channel reply) ≡ false
  calm_command sector (File number) = calm_giving
  calm_command sector Age = calm_giving
  calm_command sector Validity = calm_giving
  calm_command sector Community = calm_giving
  calm_command sector Ri = calm_protocol sector

pub calm_requests : (plan : PlainPlan) (place : ℕ) (list : List Request) (channel : Option ChannelState) → fails (requests plan place list channel) ≡ false
unfolding requests exchange
calm_requests plan place [] channel = refl
calm_requests plan place (request ∷ later) channel = refl

pub calm_after_request : (plan : PlainPlan) (command : RequestCommand) (channel : Option ChannelState) (reply : PlainReply) → fails (after_request plan command channel reply) ≡ false
calm_after_request plan (request_commands.First request place) channel reply =
    calm_command (last_step plan) place (requests_from plan (place + 1)) channel reply (sector_of plan) request
calm_after_request plan (request_commands.Sector place) channel reply = calm_identification (last_step plan) place (requests_from plan (place + 1)) channel reply

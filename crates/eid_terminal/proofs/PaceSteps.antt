-- What comes in PACE, by the reply.
use Rattle.std.proofs.Common.{◌≡◌, ℕ, true, false, List, Option, Some, None, refl}
use Rattle.std.specs.Str.{bytes_eq}
use Rattle.eid_apdu.specs.Command.{PlainCommand}
use Rattle.eid_apdu.specs.Answer.{PlainReply}
use Rattle.eid_copro.specs.declared.ask.Question.TheVariants as questions
use Rattle.eid_pace.specs.Keys.{enc_key, identity_of, mac_key}
use Rattle.eid_sm.specs.Keys.{ChannelState}
use Rattle.eid_terminal.specs.declared.action.Step.{Step}
use Rattle.eid_terminal.specs.declared.action.Step.TheVariants as steps
use Rattle.eid_terminal.specs.Commands.{PlainTerms, agree, authenticate, get_nonce, map_nonce, select_pace}
use Rattle.eid_terminal.specs.Courses.{Course, Asks, Passes, Stops}
use Rattle.eid_terminal.specs.Exchanges.{awaiting, by_mapped, by_pair, by_shared, counted, exchange}
use Rattle.eid_terminal.specs.Pace.{Opened, after_agreement, after_mapping, after_nonce, after_selection, after_token, channel_under, decrypted_nonce, pace, token_for, with_base, with_nonce}
use Rattle.eid_terminal.specs.Replies.{is_pace_selected, point_in, token_in, value_in}

pub exchanged : (step : Step) (command : PlainCommand) (later : Option ChannelState → PlainReply → Course) (channel : Option ChannelState)
    → exchange step command later channel ≡ awaiting step command later (counted channel)
unfolding exchange
exchanged step command later channel = refl

pub begins : (terms : PlainTerms) (later : Opened) (channel : Option ChannelState)
    → pace terms later channel ≡ awaiting steps.Pace (select_pace terms) (after_selection terms.digits later) (counted channel)
unfolding pace exchange
begins terms later channel = refl

module _ (later : Opened) (channel : Option ChannelState) (reply : PlainReply) where
  pub not_selected : (digits : List ℕ) → is_pace_selected reply ≡ false → after_selection digits later channel reply ≡ Stops steps.Pace reply.status
  unfolding after_selection
  not_selected digits h = rw h refl

  pub selected : (digits : List ℕ) → is_pace_selected reply ≡ true
      → after_selection digits later channel reply ≡ awaiting steps.Pace get_nonce (after_nonce digits later) (counted channel)
  unfolding after_selection exchange
  selected digits h = rw h refl

  pub no_nonce : (digits : List ℕ) → value_in 0x80 16 reply ≡ None → after_nonce digits later channel reply ≡ Stops steps.Pace reply.status
  unfolding after_nonce
  no_nonce digits h = rw h refl

  pub nonce_came : (digits encrypted : List ℕ) → value_in 0x80 16 reply ≡ Some encrypted
      → after_nonce digits later channel reply ≡ with_nonce (decrypted_nonce digits encrypted) later channel
  unfolding after_nonce
  nonce_came digits encrypted h = rw h refl

  pub no_mapping : (nonce secret point : List ℕ) → point_in 0x82 reply ≡ None
      → after_mapping nonce secret point later channel reply ≡ Stops steps.Pace reply.status
  unfolding after_mapping
  no_mapping nonce secret point h = rw h refl

  pub own_mapping : (nonce secret point peer : List ℕ) → point_in 0x82 reply ≡ Some peer → bytes_eq peer point ≡ true
      → after_mapping nonce secret point later channel reply ≡ Stops steps.Pace reply.status
  unfolding after_mapping
  own_mapping nonce secret point peer h same = rw (h, same) refl

  pub mapping_came : (nonce secret point peer : List ℕ) → point_in 0x82 reply ≡ Some peer → bytes_eq peer point ≡ false
      → after_mapping nonce secret point later channel reply
      ≡ Asks (questions.Map nonce secret peer) (by_mapped steps.Pace reply.status (λ base. with_base base later channel))
  unfolding after_mapping
  mapping_came nonce secret point peer h other = rw (h, other) refl

  pub no_ephemeral : (secret point : List ℕ) → point_in 0x84 reply ≡ None
      → after_agreement secret point later channel reply ≡ Stops steps.Pace reply.status
  unfolding after_agreement
  no_ephemeral secret point h = rw h refl

  pub own_ephemeral : (secret point peer : List ℕ) → point_in 0x84 reply ≡ Some peer → bytes_eq peer point ≡ true
      → after_agreement secret point later channel reply ≡ Stops steps.Pace reply.status
  unfolding after_agreement
  own_ephemeral secret point peer h same = rw (h, same) refl

  pub ephemeral_came : (secret point peer : List ℕ) → point_in 0x84 reply ≡ Some peer → bytes_eq peer point ≡ false
      → after_agreement secret point later channel reply
      ≡ Asks (questions.Agree secret peer) (by_shared steps.Pace reply.status (λ shared.
      exchange steps.Pace (authenticate (token_for shared peer)) (after_token shared point peer later) channel))
  unfolding after_agreement
  ephemeral_came secret point peer h other = rw (h, other) refl

  pub no_token : (shared point peer : List ℕ) → token_in reply ≡ None → after_token shared point peer later channel reply ≡ Stops steps.Pace reply.status
  unfolding after_token
  no_token shared point peer h = rw h refl

  pub other_token : (shared point peer found : List ℕ) → token_in reply ≡ Some found → bytes_eq found (token_for shared point) ≡ false
      → after_token shared point peer later channel reply ≡ Stops steps.Pace reply.status
  unfolding after_token
  other_token shared point peer found h other = rw (h, other) refl

  pub right_token : (shared point peer found : List ℕ) → token_in reply ≡ Some found → bytes_eq found (token_for shared point) ≡ true
      → after_token shared point peer later channel reply ≡ Passes steps.Pace (later (channel_under (enc_key shared) (mac_key shared)) (identity_of peer))
  unfolding after_token
  right_token shared point peer found h same = rw (h, same) refl

pub map_drawn : (nonce : List ℕ) (later : Opened) (channel : Option ChannelState)
    → with_nonce nonce later channel ≡ Asks (questions.Pair None) (by_pair steps.Pace (λ secret point.
    exchange steps.Pace (map_nonce point) (after_mapping nonce secret point later) channel))
unfolding with_nonce
map_drawn nonce later channel = refl

pub base_drawn : (base : List ℕ) (later : Opened) (channel : Option ChannelState)
    → with_base base later channel ≡ Asks (questions.Pair (Some base)) (by_pair steps.Pace (λ secret point.
    exchange steps.Pace (agree point) (after_agreement secret point later) channel))
unfolding with_base
base_drawn base later channel = refl

-- PACE as a terminal does it (BSI TR-03110-2 and TR-03110-3, generic mapping).
use Rattle.std.specs.Prelude.{ℕ, List, Option, Some, None, replicate, if◌then◌else◌}
use Rattle.std.specs.Str.{bytes_eq}
use Rattle.eid_aes.specs.Cbc.{cbc_decrypted}
use Rattle.eid_apdu.specs.Answer.{PlainReply}
use Rattle.eid_bits.specs.Identifiers.{known_bytes}
use Rattle.eid_bits.specs.declared.identifier.Known.TheVariants.{PaceAes128}
use Rattle.eid_copro.specs.declared.ask.Question.TheVariants as questions
use Rattle.eid_pace.specs.Keys.{enc_key, identity_of, mac_key, password_key, token}
use Rattle.eid_sm.specs.Keys.{ChannelState}
use Rattle.eid_terminal.specs.declared.action.Step.TheVariants as steps
use Rattle.eid_terminal.specs.Commands.{PlainTerms, agree, authenticate, get_nonce, map_nonce, select_pace}
use Rattle.eid_terminal.specs.Courses.{Course, Asks, Passes, Stops}
use Rattle.eid_terminal.specs.Exchanges.{by_mapped, by_pair, by_shared, exchange, or_stop}
use Rattle.eid_terminal.specs.Replies.{is_pace_selected, point_in, token_in, value_in}

-- how it goes on behind a PACE: in its channel, with the identity of the chip
abbrev pub Opened : Type 0
Opened = Option ChannelState → (identity : List ℕ) → Course

-- a channel under new keys, whose counter is 0
abbrev pub channel_under : (enc mac : List ℕ) → Option ChannelState
channel_under enc mac = Some (record { keys = record { enc = enc; mac = mac }; counter = 0 })

-- the nonce that was sent encrypted
abbrev pub decrypted_nonce : (digits encrypted : List ℕ) → List ℕ
decrypted_nonce digits encrypted = cbc_decrypted (password_key digits) (replicate 16 0) encrypted

-- the token for a point
abbrev pub token_for : (shared point : List ℕ) → List ℕ
token_for shared point = token (mac_key shared) (known_bytes PaceAes128) point

-- the chip's token has to be the one for the terminal's point
unfoldable pub after_token : (shared point peer : List ℕ) → Opened → Option ChannelState → PlainReply → Course
after_token shared point peer later channel reply =
    or_stop steps.Pace reply.status (λ found.
    if bytes_eq found (token_for shared point)
    then Passes steps.Pace (later (channel_under (enc_key shared) (mac_key shared)) (identity_of peer))
    else Stops steps.Pace reply.status) (token_in reply)

-- the ephemeral points have to differ; they give a secret, and the terminal sends the token for the chip's
unfoldable pub after_agreement : (secret point : List ℕ) → Opened → Option ChannelState → PlainReply → Course
after_agreement secret point later channel reply =
    or_stop steps.Pace reply.status (λ peer.
    if bytes_eq peer point then Stops steps.Pace reply.status
    else Asks (questions.Agree secret peer) (by_shared steps.Pace reply.status (λ shared.
    exchange steps.Pace (authenticate (token_for shared peer)) (after_token shared point peer later) channel))) (point_in 0x84 reply)

-- an ephemeral pair over the base, whose point is sent
unfoldable pub with_base : (base : List ℕ) → Opened → Option ChannelState → Course
with_base base later channel =
    Asks (questions.Pair (Some base)) (by_pair steps.Pace (λ secret point.
    exchange steps.Pace (agree point) (after_agreement secret point later) channel))

-- the points have to differ; they give a base
unfoldable pub after_mapping : (nonce secret point : List ℕ) → Opened → Option ChannelState → PlainReply → Course
after_mapping nonce secret point later channel reply =
    or_stop steps.Pace reply.status (λ peer.
    if bytes_eq peer point then Stops steps.Pace reply.status
    else Asks (questions.Map nonce secret peer) (by_mapped steps.Pace reply.status (λ base.
    with_base base later channel))) (point_in 0x82 reply)

-- a pair over the generator, whose point is sent
unfoldable pub with_nonce : (nonce : List ℕ) → Opened → Option ChannelState → Course
with_nonce nonce later channel =
    Asks (questions.Pair None) (by_pair steps.Pace (λ secret point.
    exchange steps.Pace (map_nonce point) (after_mapping nonce secret point later) channel))

-- the encrypted nonce
unfoldable pub after_nonce : (digits : List ℕ) → Opened → Option ChannelState → PlainReply → Course
after_nonce digits later channel reply =
    or_stop steps.Pace reply.status (λ encrypted.
    with_nonce (decrypted_nonce digits encrypted) later channel) (value_in 0x80 16 reply)

-- the password was chosen
unfoldable pub after_selection : (digits : List ℕ) → Opened → Option ChannelState → PlainReply → Course
after_selection digits later channel reply =
    if is_pace_selected reply then exchange steps.Pace get_nonce (after_nonce digits later) channel else Stops steps.Pace reply.status

unfoldable pub pace : PlainTerms → Opened → Option ChannelState → Course
pace terms later channel = exchange steps.Pace (select_pace terms) (after_selection terms.digits later) channel

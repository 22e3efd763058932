-- What comes in the authentications, by the reply.
use Rattle.std.proofs.Common.{◌≡◌, ℕ, true, false, List, [], ◌∷◌, Option, Some, None, refl}
use Rattle.std.specs.Prelude.{if◌then◌else◌}
use Rattle.std.specs.Str.{bytes_eq}
use Rattle.sha2.specs.Sha256.{sha256}
use Rattle.eid_apdu.specs.Answer.{PlainReply}
use Rattle.eid_ca.specs.Keys.{enc_key, mac_key}
use Rattle.eid_copro.specs.declared.ask.Question.TheVariants as questions
use Rattle.eid_cvc.specs.PublicKeys.{x_half}
use Rattle.eid_sm.specs.Keys.{ChannelState}
use Rattle.eid_terminal.specs.declared.action.Step.{Step}
use Rattle.eid_terminal.specs.declared.action.Step.TheVariants as steps
use Rattle.eid_terminal.specs.Authentication.{after_challenge, after_proof, authenticate_chip, authenticate_terminal, chip_token, imports, issuer_of, last_holder, select, to_sign}
use Rattle.eid_terminal.specs.Commands.{announce, auxiliary, external_authenticate, get_challenge, import_certificate, prove, select_application, select_chip_authentication, select_key}
use Rattle.eid_terminal.specs.Courses.{Course, Asks, Passes, Stops}
use Rattle.eid_terminal.specs.Exchanges.{awaiting, by_pair, by_shared, by_signed, counted, exchange, expecting}
use Rattle.eid_terminal.specs.Pace.{channel_under}
use Rattle.eid_terminal.specs.Plans.{PlainPlan}
use Rattle.eid_terminal.specs.Replies.{PlainProof, challenge_in, is_done, proof_in}
use Rattle.eid_terminal.specs.Requests.{requests}

pub expected : (step : Step) (later : Option ChannelState → Course) (channel : Option ChannelState) (reply : PlainReply)
    → is_done reply ≡ true → expecting step later channel reply ≡ later channel
unfolding expecting
expected step later channel reply h = rw h refl

pub unexpected : (step : Step) (later : Option ChannelState → Course) (channel : Option ChannelState) (reply : PlainReply)
    → is_done reply ≡ false → expecting step later channel reply ≡ Stops step reply.status
unfolding expecting
unexpected step later channel reply h = rw h refl

module _ (plan : PlainPlan) where
  pub all_imported : (identity : List ℕ) (channel : Option ChannelState) → imports plan identity [] channel ≡ authenticate_terminal plan identity channel
  unfolding imports
  all_imported identity channel = refl

  pub import_comes : (identity certificate : List ℕ) (later : List (List ℕ)) (channel : Option ChannelState)
      → imports plan identity (certificate ∷ later) channel
      ≡ awaiting steps.Ta (select_key (issuer_of certificate))
      (expecting steps.Ta (exchange steps.Ta (import_certificate certificate) (expecting steps.Ta (imports plan identity later)))) (counted channel)
  unfolding imports exchange
  import_comes identity certificate later channel = refl

  pub announcement_drawn : (identity : List ℕ) (channel : Option ChannelState)
      → authenticate_terminal plan identity channel
      ≡ Asks (questions.Pair None) (by_pair steps.Ta (λ secret point.
      exchange steps.Ta (announce (last_holder plan.certificates) (x_half point) (auxiliary plan))
      (expecting steps.Ta (exchange steps.Ta get_challenge (after_challenge plan identity secret point))) channel))
  unfolding authenticate_terminal
  announcement_drawn identity channel = refl

  pub chip_selection_comes : (secret point : List ℕ) (channel : Option ChannelState)
      → authenticate_chip plan secret point channel
      ≡ awaiting steps.Ca select_chip_authentication (expecting steps.Ca (exchange steps.Ca (prove point) (after_proof plan secret point))) (counted channel)
  unfolding authenticate_chip exchange
  chip_selection_comes secret point channel = refl

  pub application_comes : (channel : Option ChannelState)
      → select plan channel
      ≡ awaiting steps.Select select_application (expecting steps.Select (λ selected. Passes steps.Select (requests plan 0 plan.requests selected))) (counted channel)
  unfolding select exchange
  application_comes channel = refl

  module _ (channel : Option ChannelState) (reply : PlainReply) where
    pub no_challenge : (identity secret point : List ℕ) → challenge_in reply ≡ None
        → after_challenge plan identity secret point channel reply ≡ Stops steps.Ta reply.status
    unfolding after_challenge
    no_challenge identity secret point h = rw h refl

    pub challenge_came : (identity secret point challenge : List ℕ) → challenge_in reply ≡ Some challenge
        → after_challenge plan identity secret point channel reply
        ≡ Asks (questions.Sign plan.terminal_secret (sha256 (to_sign identity challenge point (auxiliary plan)))) (by_signed steps.Ta (λ signature.
        exchange steps.Ta (external_authenticate signature)
        (expecting steps.Ta (λ known. Passes steps.Ta (authenticate_chip plan secret point known))) channel))
    unfolding after_challenge
    challenge_came identity secret point challenge h = rw h refl

    pub no_proof : (secret point : List ℕ) → proof_in reply ≡ None → after_proof plan secret point channel reply ≡ Stops steps.Ca reply.status
    unfolding after_proof
    no_proof secret point h = rw h refl

    pub proof_came : (secret point : List ℕ) (proof : PlainProof) → proof_in reply ≡ Some proof
        → after_proof plan secret point channel reply
        ≡ Asks (questions.Agree secret plan.chip_key) (by_shared steps.Ca reply.status (λ shared.
        if bytes_eq proof.token (chip_token shared proof.nonce point)
        then Passes steps.Ca (select plan (channel_under (enc_key shared proof.nonce) (mac_key shared proof.nonce)))
        else Stops steps.Ca reply.status))
    unfolding after_proof
    proof_came secret point proof h = rw h refl

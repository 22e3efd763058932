-- The authentications of a terminal (BSI TR-03110-2 and TR-03110-3): its certificates, its own, that of the chip; and
-- the selection of the application.
use Rattle.std.specs.Prelude.{ℕ, ◌-◌, List, [], ◌∷◌, ◌++◌, length, slice_index_or, Option, Some, None, if◌then◌else◌}
use Rattle.std.specs.Str.{bytes_eq}
use Rattle.sha2.specs.Sha256.{sha256}
use Rattle.eid_apdu.specs.Answer.{PlainReply}
use Rattle.eid_bits.specs.Identifiers.{known_bytes}
use Rattle.eid_bits.specs.declared.identifier.Known.TheVariants.{CaAes128}
use Rattle.eid_ca.specs.Keys.{enc_key, mac_key, token}
use Rattle.eid_copro.specs.declared.ask.Question.TheVariants as questions
use Rattle.eid_cvc.specs.CertificateIn.{certificate_in}
use Rattle.eid_cvc.specs.Certificates.{PlainCertificate}
use Rattle.eid_cvc.specs.PublicKeys.{x_half}
use Rattle.eid_sm.specs.Keys.{ChannelState}
use Rattle.eid_terminal.specs.declared.action.Step.TheVariants as steps
use Rattle.eid_terminal.specs.Commands.{announce, auxiliary, external_authenticate, get_challenge, import_certificate, prove, select_application, select_chip_authentication, select_key}
use Rattle.eid_terminal.specs.Courses.{Course, Asks, Passes, Stops}
use Rattle.eid_terminal.specs.Exchanges.{by_pair, by_shared, by_signed, exchange, expecting, or_stop}
use Rattle.eid_terminal.specs.Pace.{channel_under}
use Rattle.eid_terminal.specs.Plans.{PlainPlan}
use Rattle.eid_terminal.specs.Replies.{challenge_in, proof_in}
use Rattle.eid_terminal.specs.Requests.{requests}

-- ---- names in certificates

abbrev pub issuer_if_any : Option PlainCertificate → List ℕ
issuer_if_any None = []
issuer_if_any (Some certificate) = certificate.body.issuer

abbrev pub holder_if_any : Option PlainCertificate → List ℕ
holder_if_any None = []
holder_if_any (Some certificate) = certificate.body.holder

abbrev pub issuer_of : (certificate : List ℕ) → List ℕ
issuer_of certificate = issuer_if_any (certificate_in certificate)

abbrev pub holder_of : (certificate : List ℕ) → List ℕ
holder_of certificate = holder_if_any (certificate_in certificate)

-- the terminal's name: the holder of the last certificate
abbrev pub last_holder : (certificates : List (List ℕ)) → List ℕ
last_holder certificates = holder_of (slice_index_or certificates (length certificates - 1) [])

-- ---- the application, where the requests begin

unfoldable pub select : PlainPlan → Option ChannelState → Course
select plan channel =
    exchange steps.Select select_application (expecting steps.Select (λ selected. Passes steps.Select (requests plan 0 plan.requests selected))) channel

-- ---- chip authentication

abbrev pub chip_token : (shared nonce point : List ℕ) → List ℕ
chip_token shared nonce point = token (mac_key shared nonce) (known_bytes CaAes128) point

-- the secret is agreed with the chip's static key; its token has to be the one for the terminal's point
unfoldable pub after_proof : PlainPlan → (secret point : List ℕ) → Option ChannelState → PlainReply → Course
after_proof plan secret point channel reply =
    or_stop steps.Ca reply.status (λ proof.
    Asks (questions.Agree secret plan.chip_key) (by_shared steps.Ca reply.status (λ shared.
    if bytes_eq proof.token (chip_token shared proof.nonce point)
    then Passes steps.Ca (select plan (channel_under (enc_key shared proof.nonce) (mac_key shared proof.nonce)))
    else Stops steps.Ca reply.status))) (proof_in reply)

unfoldable pub authenticate_chip : PlainPlan → (secret point : List ℕ) → Option ChannelState → Course
authenticate_chip plan secret point channel =
    exchange steps.Ca select_chip_authentication (expecting steps.Ca (exchange steps.Ca (prove point) (after_proof plan secret point))) channel

-- ---- terminal authentication

-- what the terminal signs: the chip's identity, the challenge, the X half of its ephemeral key, and the object 67 whole
-- or nothing
abbrev pub to_sign : (identity challenge point auxiliary : List ℕ) → List ℕ
to_sign identity challenge point auxiliary = identity ++ challenge ++ x_half point ++ auxiliary

unfoldable pub after_challenge : PlainPlan → (identity secret point : List ℕ) → Option ChannelState → PlainReply → Course
after_challenge plan identity secret point channel reply =
    or_stop steps.Ta reply.status (λ challenge.
    Asks (questions.Sign plan.terminal_secret (sha256 (to_sign identity challenge point (auxiliary plan)))) (by_signed steps.Ta (λ signature.
    exchange steps.Ta (external_authenticate signature)
    (expecting steps.Ta (λ known. Passes steps.Ta (authenticate_chip plan secret point known))) channel))) (challenge_in reply)

unfoldable pub authenticate_terminal : PlainPlan → (identity : List ℕ) → Option ChannelState → Course
authenticate_terminal plan identity channel =
    Asks (questions.Pair None) (by_pair steps.Ta (λ secret point.
    exchange steps.Ta (announce (last_holder plan.certificates) (x_half point) (auxiliary plan))
    (expecting steps.Ta (exchange steps.Ta get_challenge (after_challenge plan identity secret point))) channel))

-- the certificates that are left: for each the name of the key that verifies it, and the certificate
unfoldable pub imports : PlainPlan → (identity : List ℕ) → (certificates : List (List ℕ)) → Option ChannelState → Course
imports plan identity [] channel = authenticate_terminal plan identity channel
imports plan identity (certificate ∷ later) channel =
    exchange steps.Ta (select_key (issuer_of certificate))
    (expecting steps.Ta (exchange steps.Ta (import_certificate certificate) (expecting steps.Ta (imports plan identity later)))) channel

-- With the same asks, replies and number given, one comes to one place alone: a reply reads in one way.
use Rattle.std.proofs.Common.{◌≡◌, ℕ, ◌+◌, zero, suc, Bool, true, false, List, [], ◌∷◌, Option, Some, None, refl, sym, ap, ◌∙◌, subst}
use Rattle.std.specs.Prelude.{if◌then◌else◌}
use Rattle.std.specs.Str.{bytes_eq}
use Rattle.eid_apdu.specs.Command.{PlainCommand}
use Rattle.eid_apdu.specs.Answer.{PlainReply}
use Rattle.eid_apdu.proofs.OneReply.{one_reply}
use Rattle.eid_copro.specs.declared.ask.Ask.{Ask}
use Rattle.eid_copro.specs.declared.ask.Answer.{Answer}
use Rattle.eid_copro.specs.declared.ask.Answer.TheVariants as answers
use Rattle.eid_sm.specs.Keys.{ChannelState, next_counter}
use Rattle.eid_sm.specs.Parts.{AreBytes}
use Rattle.eid_sm.proofs.OneProtected.{one_sealed}
use Rattle.eid_terminal.specs.declared.action.Step.{Step}
use Rattle.eid_terminal.specs.declared.action.Step.TheVariants as steps
use Rattle.eid_terminal.specs.declared.plan.Request.{Request}
use Rattle.eid_terminal.specs.declared.plan.Request.TheVariants.{File, Age, Validity, Community, Ri}
use Rattle.eid_terminal.specs.Authentication.{after_challenge, after_proof, authenticate_chip, authenticate_terminal, chip_token, imports, issuer_of, select}
use Rattle.eid_terminal.specs.Commands.{PlainTerms, agree, authenticate, external_authenticate, get_challenge, get_nonce, identify, import_certificate, map_nonce, prove, select_application, select_chip_authentication, select_key, select_pace}
use Rattle.eid_terminal.specs.Courses.{Course, IsReading, Reached, Asks, Sends, Passes, Gives, Stops, Faults, Ends}
use Rattle.eid_terminal.specs.Exchanges.{by_mapped, by_pair, by_shared, by_signed, by_reading, counted, exchange, expecting, or_stop}
use Rattle.eid_terminal.specs.Moves.{Move, move_of}
use Rattle.eid_terminal.specs.Pace.{Opened, after_agreement, after_mapping, after_nonce, after_selection, after_token, decrypted_nonce, pace, token_for, with_base, with_nonce}
use Rattle.eid_terminal.specs.Plans.{PlainPlan}
use Rattle.eid_terminal.specs.Replies.{challenge_in, is_done, is_pace_selected, point_in, proof_in, token_in, value_in, success}
use Rattle.eid_terminal.specs.Requests.{after_command, after_identification, after_protocol, command_for, giving, lacks_identifier, last_step, requests, sector_of}
use Rattle.eid_terminal.specs.Terminals.{IsNext, behind_pace, can_terms, certified, course, terms_of, with_can, with_password}
use Rattle.eid_terminal.proofs.KeyBytes.{derived_bytes}
use Rattle.std.specs.Prelude.{◌==◌}

-- the key of encryption is a list of bytes
abbrev pub HasKey : Option ChannelState → Type 0
HasKey None = Unit {0}
HasKey (Some channel) = AreBytes channel.keys.enc

-- so it is in each channel of the course
abbrev pub HasKeys : Course → Type 0
HasKeys (Asks question later) = (answer : Answer) → HasKeys (later answer)
HasKeys (Sends channel command later) = HasKey channel × ((reading : Option PlainReply) → HasKeys (later reading))
HasKeys (Passes step later) = HasKeys later
HasKeys (Gives request reply later) = HasKeys later
HasKeys (Stops step status) = Unit {0}
HasKeys (Faults step) = Unit {0}
HasKeys Ends = Unit {0}

-- ---- one reading, one way

same_reading : (channel : Option ChannelState) (bytes : List ℕ) (one other : Option PlainReply) → HasKey channel → IsReading channel bytes one → IsReading channel bytes other → one ≡ other
same_reading None bytes (Some r) (Some s) key p q = ap (λ (x : PlainReply). Some x) (one_reply r s (sym p.1 ∙ q.1) p.0 q.0)
same_reading (Some channel) bytes (Some r) (Some s) key p q = ap (λ (x : PlainReply). Some x) (one_sealed channel.keys (next_counter channel.counter) bytes r s key p q)
same_reading None bytes (Some r) None key p q = absurd (q r p)
same_reading (Some channel) bytes (Some r) None key p q = absurd (q r p)
same_reading None bytes None (Some s) key p q = absurd (p s q)
same_reading (Some channel) bytes None (Some s) key p q = absurd (p s q)
same_reading channel bytes None None key p q = refl

one_way : (c : Course) (asks : List Ask) (replies : List (List ℕ)) (given : ℕ) (one other : Course) → HasKeys c → Reached c asks replies given one → Reached c asks replies given other → one ≡ other
one_way (Asks question later) [] replies given one other keys p q = p.3 ∙ sym q.3
one_way (Asks question later) (ask ∷ asks) replies given one other keys p q = one_way (later ask.answer) asks replies given one other (keys ask.answer) p.1 q.1
one_way (Sends channel command later) asks [] given one other keys p q = p.3 ∙ sym q.3
one_way (Sends channel command later) asks (bytes ∷ replies) given one other keys p q =
    let same = same_reading channel bytes p.0 q.0 keys.0 p.1.0 q.1.0 in
    one_way (later p.0) asks replies given one other (keys.1 p.0) p.1.1 (subst (λ (r : Option PlainReply). Reached (later r) asks replies given other) (sym same) q.1.1)
one_way (Passes step later) asks replies zero one other keys p q = p.3 ∙ sym q.3
one_way (Passes step later) asks replies (suc given) one other keys p q = one_way later asks replies given one other keys p q
one_way (Gives request reply later) asks replies zero one other keys p q = p.3 ∙ sym q.3
one_way (Gives request reply later) asks replies (suc given) one other keys p q = one_way later asks replies given one other keys p q
one_way (Stops step status) asks replies given one other keys p q = p.3 ∙ sym q.3
one_way (Faults step) asks replies given one other keys p q = p.3 ∙ sym q.3
one_way Ends asks replies given one other keys p q = p.3 ∙ sym q.3

-- ---- the keys of the parts

key_counted : (channel : Option ChannelState) → HasKey channel → HasKey (counted channel)
key_counted None key = key
key_counted (Some channel) key = key

-- what goes on in each channel with such a key
abbrev Goes : (Option ChannelState → Course) → Type 0
Goes later = (channel : Option ChannelState) → HasKey channel → HasKeys (later channel)

abbrev GoesBy : (Option ChannelState → PlainReply → Course) → Type 0
GoesBy later = (channel : Option ChannelState) (reply : PlainReply) → HasKey channel → HasKeys (later channel reply)

abbrev GoesWith : Opened → Type 0
GoesWith later = (channel : Option ChannelState) (identity : List ℕ) → HasKey channel → HasKeys (later channel identity)

keys_exchange : (step : Step) (command : PlainCommand) (later : Option ChannelState → PlainReply → Course) → GoesBy later → Goes (exchange step command later)
unfolding exchange
keys_exchange step command later goes channel key = (key_counted channel key, by) where
  by : (reading : Option PlainReply) → HasKeys (by_reading step (later (counted (counted channel))) reading)
  by None = tt
  by (Some reply) = goes (counted (counted channel)) reply (key_counted (counted channel) (key_counted channel key))

keys_expecting : (step : Step) (later : Option ChannelState → Course) → Goes later → GoesBy (expecting step later)
unfolding expecting
keys_expecting step later goes channel reply key = by (is_done reply) where
  by : (b : Bool) → HasKeys (if b then later channel else Stops step reply.status)
  by true = goes channel key
  by false = tt

keys_or_stop : {A : Type 0} (step : Step) (status : ℕ) (later : A → Course) (found : Option A) → ((a : A) → HasKeys (later a)) → HasKeys (or_stop step status later found)
keys_or_stop step status later None goes = tt
keys_or_stop step status later (Some a) goes = goes a

keys_if : (b : Bool) (one other : Course) → HasKeys one → HasKeys other → HasKeys (if b then one else other)
keys_if true one other p q = p
keys_if false one other p q = q

keys_by_pair : (step : Step) (later : (secret public : List ℕ) → Course) → ((secret public : List ℕ) → HasKeys (later secret public)) → (answer : Answer) → HasKeys (by_pair step later answer)
keys_by_pair step later goes (answers.Pair secret public) = goes secret public
keys_by_pair step later goes (answers.Nonce nonce) = tt
keys_by_pair step later goes (answers.Challenge challenge) = tt
keys_by_pair step later goes (answers.Mapped base) = tt
keys_by_pair step later goes (answers.Shared shared) = tt
keys_by_pair step later goes answers.NoPoint = tt
keys_by_pair step later goes (answers.Verdict good) = tt
keys_by_pair step later goes (answers.Signed signature) = tt
keys_by_pair step later goes answers.Fault = tt

keys_by_mapped : (step : Step) (status : ℕ) (later : List ℕ → Course) → ((base : List ℕ) → HasKeys (later base)) → (answer : Answer) → HasKeys (by_mapped step status later answer)
keys_by_mapped step status later goes (answers.Mapped base) = goes base
keys_by_mapped step status later goes (answers.Pair secret public) = tt
keys_by_mapped step status later goes (answers.Nonce nonce) = tt
keys_by_mapped step status later goes (answers.Challenge challenge) = tt
keys_by_mapped step status later goes (answers.Shared shared) = tt
keys_by_mapped step status later goes answers.NoPoint = tt
keys_by_mapped step status later goes (answers.Verdict good) = tt
keys_by_mapped step status later goes (answers.Signed signature) = tt
keys_by_mapped step status later goes answers.Fault = tt

keys_by_shared : (step : Step) (status : ℕ) (later : List ℕ → Course) → ((shared : List ℕ) → HasKeys (later shared)) → (answer : Answer) → HasKeys (by_shared step status later answer)
keys_by_shared step status later goes (answers.Shared shared) = goes shared
keys_by_shared step status later goes (answers.Pair secret public) = tt
keys_by_shared step status later goes (answers.Nonce nonce) = tt
keys_by_shared step status later goes (answers.Challenge challenge) = tt
keys_by_shared step status later goes (answers.Mapped base) = tt
keys_by_shared step status later goes answers.NoPoint = tt
keys_by_shared step status later goes (answers.Verdict good) = tt
keys_by_shared step status later goes (answers.Signed signature) = tt
keys_by_shared step status later goes answers.Fault = tt

keys_by_signed : (step : Step) (later : List ℕ → Course) → ((signature : List ℕ) → HasKeys (later signature)) → (answer : Answer) → HasKeys (by_signed step later answer)
keys_by_signed step later goes (answers.Signed signature) = goes signature
keys_by_signed step later goes (answers.Pair secret public) = tt
keys_by_signed step later goes (answers.Nonce nonce) = tt
keys_by_signed step later goes (answers.Challenge challenge) = tt
keys_by_signed step later goes (answers.Mapped base) = tt
keys_by_signed step later goes (answers.Shared shared) = tt
keys_by_signed step later goes answers.NoPoint = tt
keys_by_signed step later goes (answers.Verdict good) = tt
keys_by_signed step later goes answers.Fault = tt

-- ---- PACE

module _ (later : Opened) (goes : GoesWith later) where
  keys_token : (shared point peer : List ℕ) → GoesBy (after_token shared point peer later)
  unfolding after_token
  keys_token shared point peer channel reply key = keys_or_stop steps.Pace reply.status _ (token_in reply) (λ found.
      keys_if (bytes_eq found (token_for shared point)) _ _ (goes _ _ (derived_bytes shared [] 1)) tt)

  keys_agreement : (secret point : List ℕ) → GoesBy (after_agreement secret point later)
  unfolding after_agreement
  keys_agreement secret point channel reply key = keys_or_stop steps.Pace reply.status _ (point_in 0x84 reply) (λ peer.
      keys_if (bytes_eq peer point) _ _ tt (keys_by_shared steps.Pace reply.status _ (λ shared.
      keys_exchange steps.Pace (authenticate (token_for shared peer)) (after_token shared point peer later) (keys_token shared point peer) channel key)))

  keys_base : (base : List ℕ) → Goes (with_base base later)
  unfolding with_base
  keys_base base channel key = keys_by_pair steps.Pace _ (λ secret point.
      keys_exchange steps.Pace (agree point) (after_agreement secret point later) (keys_agreement secret point) channel key)

  keys_mapping : (nonce secret point : List ℕ) → GoesBy (after_mapping nonce secret point later)
  unfolding after_mapping
  keys_mapping nonce secret point channel reply key = keys_or_stop steps.Pace reply.status _ (point_in 0x82 reply) (λ peer.
      keys_if (bytes_eq peer point) _ _ tt (keys_by_mapped steps.Pace reply.status _ (λ base. keys_base base channel key)))

  keys_with_nonce : (nonce : List ℕ) → Goes (with_nonce nonce later)
  unfolding with_nonce
  keys_with_nonce nonce channel key = keys_by_pair steps.Pace _ (λ secret point.
      keys_exchange steps.Pace (map_nonce point) (after_mapping nonce secret point later) (keys_mapping nonce secret point) channel key)

  keys_nonce : (digits : List ℕ) → GoesBy (after_nonce digits later)
  unfolding after_nonce
  keys_nonce digits channel reply key = keys_or_stop steps.Pace reply.status _ (value_in 0x80 16 reply) (λ encrypted.
      keys_with_nonce (decrypted_nonce digits encrypted) channel key)

  keys_selection : (digits : List ℕ) → GoesBy (after_selection digits later)
  unfolding after_selection
  keys_selection digits channel reply key =
      keys_if (is_pace_selected reply) _ _ (keys_exchange steps.Pace get_nonce (after_nonce digits later) (keys_nonce digits) channel key) tt

  keys_pace : (terms : PlainTerms) → Goes (pace terms later)
  unfolding pace
  keys_pace terms channel key = keys_exchange steps.Pace (select_pace terms) (after_selection terms.digits later) (keys_selection terms.digits) channel key

-- ---- requests

module _ (step : Step) (place : ℕ) (later : Option ChannelState → Course) (goes : Goes later) where
  keys_giving : GoesBy (giving place later)
  unfolding giving
  keys_giving channel reply key = goes channel key

  keys_identification : GoesBy (after_identification step place later)
  unfolding after_identification
  keys_identification channel reply key = keys_if (lacks_identifier reply) _ _ tt (goes channel key)

  keys_protocol : (sector : List ℕ) → GoesBy (after_protocol step sector place later)
  unfolding after_protocol
  keys_protocol sector channel reply key =
      keys_if (reply.status == success) _ _ (keys_exchange step (identify sector) (after_identification step place later) keys_identification channel key) (goes channel key)

  keys_command : (sector : List ℕ) (request : Request) → GoesBy (after_command step sector place request later)
  keys_command sector (File number) = keys_giving
  keys_command sector Age = keys_giving
  keys_command sector Validity = keys_giving
  keys_command sector Community = keys_giving
  keys_command sector Ri = keys_protocol sector

keys_requests : (plan : PlainPlan) (place : ℕ) (list : List Request) → Goes (requests plan place list)
unfolding requests
keys_requests plan place [] channel key = tt
keys_requests plan place (request ∷ later) channel key =
    keys_exchange (last_step plan) (command_for request) (after_command (last_step plan) (sector_of plan) place request (requests plan (place + 1) later))
    (keys_command (last_step plan) place (requests plan (place + 1) later) (keys_requests plan (place + 1) later) (sector_of plan) request) channel key

-- ---- the authentications

module _ (plan : PlainPlan) where
  keys_select : Goes (select plan)
  unfolding select
  keys_select channel key = keys_exchange steps.Select select_application _ (keys_expecting steps.Select _ (λ c k. keys_requests plan 0 plan.requests c k)) channel key

  keys_proof : (secret point : List ℕ) → GoesBy (after_proof plan secret point)
  unfolding after_proof
  keys_proof secret point channel reply key = keys_or_stop steps.Ca reply.status _ (proof_in reply) (λ proof.
      keys_by_shared steps.Ca reply.status _ (λ shared.
      keys_if (bytes_eq proof.token (chip_token shared proof.nonce point)) _ _ (keys_select _ (derived_bytes shared proof.nonce 1)) tt))

  keys_chip : (secret point : List ℕ) → Goes (authenticate_chip plan secret point)
  unfolding authenticate_chip
  keys_chip secret point channel key = keys_exchange steps.Ca select_chip_authentication _
      (keys_expecting steps.Ca _ (keys_exchange steps.Ca (prove point) (after_proof plan secret point) (keys_proof secret point))) channel key

  keys_challenge : (identity secret point : List ℕ) → GoesBy (after_challenge plan identity secret point)
  unfolding after_challenge
  keys_challenge identity secret point channel reply key = keys_or_stop steps.Ta reply.status _ (challenge_in reply) (λ challenge.
      keys_by_signed steps.Ta _ (λ signature. keys_exchange steps.Ta (external_authenticate signature) _
      (keys_expecting steps.Ta _ (λ c k. keys_chip secret point c k)) channel key))

  keys_terminal : (identity : List ℕ) → Goes (authenticate_terminal plan identity)
  unfolding authenticate_terminal
  keys_terminal identity channel key = keys_by_pair steps.Ta _ (λ secret point.
      keys_exchange steps.Ta _ _ (keys_expecting steps.Ta _ (keys_exchange steps.Ta get_challenge (after_challenge plan identity secret point) (keys_challenge identity secret point))) channel key)

  keys_imports : (identity : List ℕ) (certificates : List (List ℕ)) → Goes (imports plan identity certificates)
  unfolding imports
  keys_imports identity [] channel key = keys_terminal identity channel key
  keys_imports identity (certificate ∷ later) channel key = keys_exchange steps.Ta (select_key (issuer_of certificate)) _
      (keys_expecting steps.Ta _ (keys_exchange steps.Ta (import_certificate certificate) _ (keys_expecting steps.Ta _ (keys_imports identity later)))) channel key

  -- ---- the whole course

  keys_behind_pace : GoesWith (behind_pace plan)
  unfolding behind_pace
  keys_behind_pace channel identity key = by plan.certificates where
    by : (certificates : List (List ℕ)) → HasKeys (certified plan identity certificates channel)
    by [] = keys_requests plan 0 plan.requests channel key
    by (certificate ∷ later) = keys_imports identity (certificate ∷ later) channel key

  keys_password : Goes (with_password plan)
  unfolding with_password
  keys_password channel key = keys_pace (behind_pace plan) keys_behind_pace (terms_of plan) channel key

  keys_course : HasKeys (course plan)
  unfolding course
  keys_course = by plan.can_first where
    by : (can : Option (List ℕ)) → HasKeys (with_can plan can)
    by None = keys_password None tt
    by (Some digits) = keys_pace (λ channel identity. with_password plan channel) (λ channel identity key. keys_password channel key) (can_terms digits) None tt

pub one_next : (plan : PlainPlan) (asks : List Ask) (replies : List (List ℕ)) (given : ℕ) (one other : Move) → IsNext plan asks replies given one → IsNext plan asks replies given other → one ≡ other
one_next plan asks replies given one other p q =
    p.is ∙ ap move_of (one_way (course plan) asks replies given p.at q.at (keys_course plan) p.reached q.reached) ∙ sym q.is

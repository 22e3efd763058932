-- How many commands, passed steps and results there are at most along a course.
use Rattle.std.proofs.Common.{◌≡◌, ℕ, zero, suc, ◌+◌, ◌*◌, ◌≤◌, Bool, true, false, List, [], ◌∷◌, length, Option, Some, None, ap, arith}
use Rattle.std.specs.Prelude.{◌==◌, if◌then◌else◌}
use Rattle.std.specs.Str.{bytes_eq}
use Rattle.eid_apdu.specs.Command.{PlainCommand}
use Rattle.eid_apdu.specs.Answer.{PlainReply}
use Rattle.eid_copro.specs.declared.ask.Ask.{Ask}
use Rattle.eid_copro.specs.declared.ask.Answer.{Answer}
use Rattle.eid_copro.specs.declared.ask.Answer.TheVariants as answers
use Rattle.eid_sm.specs.Keys.{ChannelState}
use Rattle.eid_terminal.specs.declared.action.Step.{Step}
use Rattle.eid_terminal.specs.declared.action.Step.TheVariants as steps
use Rattle.eid_terminal.specs.declared.plan.Request.{Request}
use Rattle.eid_terminal.specs.declared.plan.Request.TheVariants.{File, Age, Validity, Community, Ri}
use Rattle.eid_terminal.specs.Authentication.{after_challenge, after_proof, authenticate_chip, authenticate_terminal, chip_token, imports, issuer_of, select}
use Rattle.eid_terminal.specs.Commands.{PlainTerms, agree, authenticate, external_authenticate, get_challenge, get_nonce, identify, import_certificate, map_nonce, prove, select_application, select_chip_authentication, select_key, select_pace}
use Rattle.eid_terminal.specs.Courses.{Course, IsHere, Reached, Asks, Sends, Passes, Gives, Stops, Faults, Ends}
use Rattle.eid_terminal.specs.Exchanges.{by_mapped, by_pair, by_shared, by_signed, by_reading, counted, exchange, expecting, or_stop}
use Rattle.eid_terminal.specs.Pace.{Opened, after_agreement, after_mapping, after_nonce, after_selection, after_token, decrypted_nonce, pace, token_for, with_base, with_nonce}
use Rattle.eid_terminal.specs.Plans.{PlainPlan, IsFit}
use Rattle.eid_terminal.specs.Replies.{challenge_in, is_done, is_pace_selected, point_in, proof_in, success, token_in, value_in}
use Rattle.eid_terminal.specs.Requests.{after_command, after_identification, after_protocol, command_for, giving, lacks_identifier, last_step, requests, sector_of}
use Rattle.eid_terminal.specs.Terminals.{behind_pace, can_terms, certified, course, terms_of, with_can, with_password}

-- at most so many of them come
abbrev IsWithin : Course → ℕ → Type 0
IsWithin (Asks question later) n = (answer : Answer) → IsWithin (later answer) n
IsWithin (Sends channel command later) zero = ⊥
IsWithin (Sends channel command later) (suc n) = (reading : Option PlainReply) → IsWithin (later reading) n
IsWithin (Passes step later) zero = ⊥
IsWithin (Passes step later) (suc n) = IsWithin later n
IsWithin (Gives request reply later) zero = ⊥
IsWithin (Gives request reply later) (suc n) = IsWithin later n
IsWithin (Stops step status) n = Unit {0}
IsWithin (Faults step) n = Unit {0}
IsWithin Ends n = Unit {0}

wider : (c : Course) (n m : ℕ) → n ≤ m → IsWithin c n → IsWithin c m
wider (Asks question later) n m more h = λ answer. wider (later answer) n m more (h answer)
wider (Sends channel command later) zero m more h = absurd h
wider (Sends channel command later) (suc n) zero more h = absurd (omega arith)
wider (Sends channel command later) (suc n) (suc m) more h = let less : n ≤ m = omega arith in λ reading. wider (later reading) n m less (h reading)
wider (Passes step later) zero m more h = absurd h
wider (Passes step later) (suc n) zero more h = absurd (omega arith)
wider (Passes step later) (suc n) (suc m) more h = let less : n ≤ m = omega arith in wider later n m less h
wider (Gives request reply later) zero m more h = absurd h
wider (Gives request reply later) (suc n) zero more h = absurd (omega arith)
wider (Gives request reply later) (suc n) (suc m) more h = let less : n ≤ m = omega arith in wider later n m less h
wider (Stops step status) n m more h = tt
wider (Faults step) n m more h = tt
wider Ends n m more h = tt

none_yet : (c at : Course) (asks : List Ask) (replies : List (List ℕ)) (given n : ℕ) → IsHere c asks replies given at → length replies + given ≤ n
none_yet c at asks replies given n h = let none : length replies ≡ 0 = ap length h.1 in let zero_given : given ≡ 0 = h.2 in omega arith

so_many : (c : Course) (n : ℕ) (asks : List Ask) (replies : List (List ℕ)) (given : ℕ) (at : Course) → IsWithin c n → Reached c asks replies given at → length replies + given ≤ n
so_many (Asks question later) n [] replies given at within h = none_yet (Asks question later) at [] replies given n h
so_many (Asks question later) n (ask ∷ asks) replies given at within h = so_many (later ask.answer) n asks replies given at (within ask.answer) h.1
so_many (Sends channel command later) n asks [] given at within h = none_yet (Sends channel command later) at asks [] given n h
so_many (Sends channel command later) zero asks (bytes ∷ replies) given at within h = absurd within
so_many (Sends channel command later) (suc n) asks (bytes ∷ replies) given at within h =
    let rest = so_many (later h.0) n asks replies given at (within h.0) h.1.1 in omega arith
so_many (Passes step later) n asks replies zero at within h = none_yet (Passes step later) at asks replies zero n h
so_many (Passes step later) zero asks replies (suc given) at within h = absurd within
so_many (Passes step later) (suc n) asks replies (suc given) at within h = let rest = so_many later n asks replies given at within h in omega arith
so_many (Gives request reply later) n asks replies zero at within h = none_yet (Gives request reply later) at asks replies zero n h
so_many (Gives request reply later) zero asks replies (suc given) at within h = absurd within
so_many (Gives request reply later) (suc n) asks replies (suc given) at within h = let rest = so_many later n asks replies given at within h in omega arith
so_many (Stops step status) n asks replies given at within h = none_yet (Stops step status) at asks replies given n h
so_many (Faults step) n asks replies given at within h = none_yet (Faults step) at asks replies given n h
so_many Ends n asks replies given at within h = none_yet Ends at asks replies given n h

-- ---- the parts

abbrev Within : (Option ChannelState → Course) → ℕ → Type 0
Within later n = (channel : Option ChannelState) → IsWithin (later channel) n

abbrev WithinBy : (Option ChannelState → PlainReply → Course) → ℕ → Type 0
WithinBy later n = (channel : Option ChannelState) (reply : PlainReply) → IsWithin (later channel reply) n

abbrev WithinOpened : Opened → ℕ → Type 0
WithinOpened later n = (channel : Option ChannelState) (identity : List ℕ) → IsWithin (later channel identity) n

within_exchange : (n : ℕ) (step : Step) (command : PlainCommand) (later : Option ChannelState → PlainReply → Course) → WithinBy later n → Within (exchange step command later) (suc n)
unfolding exchange
within_exchange n step command later within channel = by where
  by : (reading : Option PlainReply) → IsWithin (by_reading step (later (counted (counted channel))) reading) n
  by None = tt
  by (Some reply) = within (counted (counted channel)) reply

within_if : (n : ℕ) (b : Bool) (one other : Course) → IsWithin one n → IsWithin other n → IsWithin (if b then one else other) n
within_if n true one other p q = p
within_if n false one other p q = q

within_expecting : (n : ℕ) (step : Step) (later : Option ChannelState → Course) → Within later n → WithinBy (expecting step later) n
unfolding expecting
within_expecting n step later within channel reply = within_if n (is_done reply) (later channel) (Stops step reply.status) (within channel) tt

within_or_stop : {A : Type 0} (n : ℕ) (step : Step) (status : ℕ) (later : A → Course) (found : Option A) → ((a : A) → IsWithin (later a) n) → IsWithin (or_stop step status later found) n
within_or_stop n step status later None within = tt
within_or_stop n step status later (Some a) within = within a

within_by_pair : (n : ℕ) (step : Step) (later : (secret public : List ℕ) → Course) → ((secret public : List ℕ) → IsWithin (later secret public) n) → (answer : Answer) → IsWithin (by_pair step later answer) n
within_by_pair n step later within (answers.Pair secret public) = within secret public
within_by_pair n step later within (answers.Nonce nonce) = tt
within_by_pair n step later within (answers.Challenge challenge) = tt
within_by_pair n step later within (answers.Mapped base) = tt
within_by_pair n step later within (answers.Shared shared) = tt
within_by_pair n step later within answers.NoPoint = tt
within_by_pair n step later within (answers.Verdict good) = tt
within_by_pair n step later within (answers.Signed signature) = tt
within_by_pair n step later within answers.Fault = tt

within_by_mapped : (n : ℕ) (step : Step) (status : ℕ) (later : List ℕ → Course) → ((base : List ℕ) → IsWithin (later base) n) → (answer : Answer) → IsWithin (by_mapped step status later answer) n
within_by_mapped n step status later within (answers.Mapped base) = within base
within_by_mapped n step status later within (answers.Pair secret public) = tt
within_by_mapped n step status later within (answers.Nonce nonce) = tt
within_by_mapped n step status later within (answers.Challenge challenge) = tt
within_by_mapped n step status later within (answers.Shared shared) = tt
within_by_mapped n step status later within answers.NoPoint = tt
within_by_mapped n step status later within (answers.Verdict good) = tt
within_by_mapped n step status later within (answers.Signed signature) = tt
within_by_mapped n step status later within answers.Fault = tt

within_by_shared : (n : ℕ) (step : Step) (status : ℕ) (later : List ℕ → Course) → ((shared : List ℕ) → IsWithin (later shared) n) → (answer : Answer) → IsWithin (by_shared step status later answer) n
within_by_shared n step status later within (answers.Shared shared) = within shared
within_by_shared n step status later within (answers.Pair secret public) = tt
within_by_shared n step status later within (answers.Nonce nonce) = tt
within_by_shared n step status later within (answers.Challenge challenge) = tt
within_by_shared n step status later within (answers.Mapped base) = tt
within_by_shared n step status later within answers.NoPoint = tt
within_by_shared n step status later within (answers.Verdict good) = tt
within_by_shared n step status later within (answers.Signed signature) = tt
within_by_shared n step status later within answers.Fault = tt

within_by_signed : (n : ℕ) (step : Step) (later : List ℕ → Course) → ((signature : List ℕ) → IsWithin (later signature) n) → (answer : Answer) → IsWithin (by_signed step later answer) n
within_by_signed n step later within (answers.Signed signature) = within signature
within_by_signed n step later within (answers.Pair secret public) = tt
within_by_signed n step later within (answers.Nonce nonce) = tt
within_by_signed n step later within (answers.Challenge challenge) = tt
within_by_signed n step later within (answers.Mapped base) = tt
within_by_signed n step later within (answers.Shared shared) = tt
within_by_signed n step later within answers.NoPoint = tt
within_by_signed n step later within (answers.Verdict good) = tt
within_by_signed n step later within answers.Fault = tt

-- ---- PACE: five commands, and the step passes

module _ (n : ℕ) (later : Opened) (within : WithinOpened later n) where
  within_token : (shared point peer : List ℕ) → WithinBy (after_token shared point peer later) (suc n)
  unfolding after_token
  within_token shared point peer channel reply = within_or_stop (suc n) steps.Pace reply.status _ (token_in reply) (λ found.
      within_if (suc n) (bytes_eq found (token_for shared point)) _ _ (within _ _) tt)

  within_agreement : (secret point : List ℕ) → WithinBy (after_agreement secret point later) (suc (suc n))
  unfolding after_agreement
  within_agreement secret point channel reply = within_or_stop (suc (suc n)) steps.Pace reply.status _ (point_in 0x84 reply) (λ peer.
      within_if (suc (suc n)) (bytes_eq peer point) _ _ tt (within_by_shared (suc (suc n)) steps.Pace reply.status _ (λ shared.
      within_exchange (suc n) steps.Pace (authenticate (token_for shared peer)) (after_token shared point peer later) (within_token shared point peer) channel)))

  within_base : (base : List ℕ) → Within (with_base base later) (suc (suc (suc n)))
  unfolding with_base
  within_base base channel = within_by_pair (suc (suc (suc n))) steps.Pace _ (λ secret point.
      within_exchange (suc (suc n)) steps.Pace (agree point) (after_agreement secret point later) (within_agreement secret point) channel)

  within_mapping : (nonce secret point : List ℕ) → WithinBy (after_mapping nonce secret point later) (suc (suc (suc n)))
  unfolding after_mapping
  within_mapping nonce secret point channel reply = within_or_stop (suc (suc (suc n))) steps.Pace reply.status _ (point_in 0x82 reply) (λ peer.
      within_if (suc (suc (suc n))) (bytes_eq peer point) _ _ tt (within_by_mapped (suc (suc (suc n))) steps.Pace reply.status _ (λ base. within_base base channel)))

  within_with_nonce : (nonce : List ℕ) → Within (with_nonce nonce later) (suc (suc (suc (suc n))))
  unfolding with_nonce
  within_with_nonce nonce channel = within_by_pair (suc (suc (suc (suc n)))) steps.Pace _ (λ secret point.
      within_exchange (suc (suc (suc n))) steps.Pace (map_nonce point) (after_mapping nonce secret point later) (within_mapping nonce secret point) channel)

  within_nonce : (digits : List ℕ) → WithinBy (after_nonce digits later) (suc (suc (suc (suc n))))
  unfolding after_nonce
  within_nonce digits channel reply = within_or_stop (suc (suc (suc (suc n)))) steps.Pace reply.status _ (value_in 0x80 16 reply) (λ encrypted.
      within_with_nonce (decrypted_nonce digits encrypted) channel)

  within_selection : (digits : List ℕ) → WithinBy (after_selection digits later) (suc (suc (suc (suc (suc n)))))
  unfolding after_selection
  within_selection digits channel reply =
      within_if (suc (suc (suc (suc (suc n))))) (is_pace_selected reply) _ _
      (within_exchange (suc (suc (suc (suc n)))) steps.Pace get_nonce (after_nonce digits later) (within_nonce digits) channel) tt

  within_pace : (terms : PlainTerms) → Within (pace terms later) (suc (suc (suc (suc (suc (suc n))))))
  unfolding pace
  within_pace terms channel =
      within_exchange (suc (suc (suc (suc (suc n))))) steps.Pace (select_pace terms) (after_selection terms.digits later) (within_selection terms.digits) channel

-- ---- requests: two commands at most, and a result

module _ (n : ℕ) (step : Step) (place : ℕ) (later : Option ChannelState → Course) (within : Within later n) where
  within_giving : WithinBy (giving place later) (suc (suc n))
  unfolding giving
  within_giving channel reply = let more : n ≤ suc n = omega arith in wider (later channel) n (suc n) more (within channel)

  within_identification : WithinBy (after_identification step place later) (suc n)
  unfolding after_identification
  within_identification channel reply = within_if (suc n) (lacks_identifier reply) _ _ tt (within channel)

  within_protocol : (sector : List ℕ) → WithinBy (after_protocol step sector place later) (suc (suc n))
  unfolding after_protocol
  within_protocol sector channel reply =
      let more : n ≤ suc n = omega arith in
      within_if (suc (suc n)) (reply.status == success) _ _ (within_exchange (suc n) step (identify sector) (after_identification step place later) within_identification channel)
      (wider (later channel) n (suc n) more (within channel))

  within_command : (sector : List ℕ) (request : Request) → WithinBy (after_command step sector place request later) (suc (suc n))
  within_command sector (File number) = within_giving
  within_command sector Age = within_giving
  within_command sector Validity = within_giving
  within_command sector Community = within_giving
  within_command sector Ri = within_protocol sector

turns_for : List Request → ℕ
turns_for [] = 0
turns_for (request ∷ later) = suc (suc (suc (turns_for later)))

three_each : (list : List Request) → turns_for list ≤ 3 * length list
unfolding turns_for
three_each [] = omega arith
three_each (request ∷ later) = let rest = three_each later in omega arith

within_requests : (plan : PlainPlan) (place : ℕ) (list : List Request) → Within (requests plan place list) (turns_for list)
unfolding requests turns_for
within_requests plan place [] channel = tt
within_requests plan place (request ∷ later) channel =
    within_exchange (suc (suc (turns_for later))) (last_step plan) (command_for request) (after_command (last_step plan) (sector_of plan) place request (requests plan (place + 1) later))
    (within_command (turns_for later) (last_step plan) place (requests plan (place + 1) later) (within_requests plan (place + 1) later) (sector_of plan) request) channel

-- ---- the authentications: two commands for each certificate, three and a pass, two and a pass, one and a pass

turns_in : ℕ → List (List ℕ) → ℕ
turns_in n [] = n
turns_in n (certificate ∷ later) = suc (suc (turns_in n later))

two_each : (n : ℕ) (list : List (List ℕ)) → turns_in n list ≤ 2 * length list + n
unfolding turns_in
two_each n [] = omega arith
two_each n (certificate ∷ later) = let rest = two_each n later in omega arith

module _ (plan : PlainPlan) where
  last_turns : ℕ
  last_turns = turns_for plan.requests

  within_select : Within (select plan) (suc (suc last_turns))
  unfolding select last_turns
  within_select channel = within_exchange (suc last_turns) steps.Select select_application _
      (within_expecting (suc last_turns) steps.Select _ (λ c. within_requests plan 0 plan.requests c)) channel

  within_proof : (secret point : List ℕ) → WithinBy (after_proof plan secret point) (suc (suc (suc last_turns)))
  unfolding after_proof
  within_proof secret point channel reply = within_or_stop (suc (suc (suc last_turns))) steps.Ca reply.status _ (proof_in reply) (λ proof.
      within_by_shared (suc (suc (suc last_turns))) steps.Ca reply.status _ (λ shared.
      within_if (suc (suc (suc last_turns))) (bytes_eq proof.token (chip_token shared proof.nonce point)) _ _ (within_select _) tt))

  within_chip : (secret point : List ℕ) → Within (authenticate_chip plan secret point) (suc (suc (suc (suc (suc last_turns)))))
  unfolding authenticate_chip
  within_chip secret point channel = within_exchange (suc (suc (suc (suc last_turns)))) steps.Ca select_chip_authentication _
      (within_expecting (suc (suc (suc (suc last_turns)))) steps.Ca _
      (within_exchange (suc (suc (suc last_turns))) steps.Ca (prove point) (after_proof plan secret point) (within_proof secret point))) channel

  within_challenge : (identity secret point : List ℕ) → WithinBy (after_challenge plan identity secret point) (suc (suc (suc (suc (suc (suc (suc last_turns)))))))
  unfolding after_challenge
  within_challenge identity secret point channel reply = within_or_stop (suc (suc (suc (suc (suc (suc (suc last_turns))))))) steps.Ta reply.status _ (challenge_in reply) (λ challenge.
      within_by_signed (suc (suc (suc (suc (suc (suc (suc last_turns))))))) steps.Ta _ (λ signature.
      within_exchange (suc (suc (suc (suc (suc (suc last_turns)))))) steps.Ta (external_authenticate signature) _
      (within_expecting (suc (suc (suc (suc (suc (suc last_turns)))))) steps.Ta _ (λ c. within_chip secret point c)) channel))

  within_terminal : (identity : List ℕ) → Within (authenticate_terminal plan identity) (suc (suc (suc (suc (suc (suc (suc (suc (suc last_turns)))))))))
  unfolding authenticate_terminal
  within_terminal identity channel = within_by_pair (suc (suc (suc (suc (suc (suc (suc (suc (suc last_turns))))))))) steps.Ta _ (λ secret point.
      within_exchange (suc (suc (suc (suc (suc (suc (suc (suc last_turns)))))))) steps.Ta _ _
      (within_expecting (suc (suc (suc (suc (suc (suc (suc (suc last_turns)))))))) steps.Ta _
      (within_exchange (suc (suc (suc (suc (suc (suc (suc last_turns))))))) steps.Ta get_challenge (after_challenge plan identity secret point) (within_challenge identity secret point))) channel)

  behind_certificates : ℕ
  behind_certificates = suc (suc (suc (suc (suc (suc (suc (suc (suc last_turns))))))))

  within_imports : (identity : List ℕ) (certificates : List (List ℕ)) → Within (imports plan identity certificates) (turns_in behind_certificates certificates)
  unfolding imports turns_in behind_certificates
  within_imports identity [] channel = within_terminal identity channel
  within_imports identity (certificate ∷ later) channel =
      within_exchange (suc (turns_in behind_certificates later)) steps.Ta (select_key (issuer_of certificate)) _
      (within_expecting (suc (turns_in behind_certificates later)) steps.Ta _
      (within_exchange (turns_in behind_certificates later) steps.Ta (import_certificate certificate) _
      (within_expecting (turns_in behind_certificates later) steps.Ta _ (within_imports identity later)))) channel

  -- ---- the whole course

  all_turns : ℕ
  all_turns = turns_in behind_certificates plan.certificates

  within_behind_pace : WithinOpened (behind_pace plan) all_turns
  unfolding behind_pace all_turns turns_in behind_certificates last_turns
  within_behind_pace channel identity = by plan.certificates where
    by : (certificates : List (List ℕ)) → IsWithin (certified plan identity certificates channel) (turns_in behind_certificates certificates)
    by [] = let more : turns_for plan.requests ≤ suc (suc (suc (suc (suc (suc (suc (suc (suc (turns_for plan.requests))))))))) = omega arith in
        wider _ (turns_for plan.requests) _ more (within_requests plan 0 plan.requests channel)
    by (certificate ∷ later) = within_imports identity (certificate ∷ later) channel

  within_password : Within (with_password plan) (suc (suc (suc (suc (suc (suc all_turns))))))
  unfolding with_password
  within_password channel = within_pace all_turns (behind_pace plan) within_behind_pace (terms_of plan) channel

  within_course : IsWithin (course plan) (suc (suc (suc (suc (suc (suc (suc (suc (suc (suc (suc (suc all_turns))))))))))))
  unfolding course
  within_course = by plan.can_first where
    by : (can : Option (List ℕ)) → IsWithin (with_can plan can) (suc (suc (suc (suc (suc (suc (suc (suc (suc (suc (suc (suc all_turns))))))))))))
    by None = let more : suc (suc (suc (suc (suc (suc all_turns))))) ≤ suc (suc (suc (suc (suc (suc (suc (suc (suc (suc (suc (suc all_turns))))))))))) = omega arith in
        wider (with_password plan None) _ _ more (within_password None)
    by (Some digits) =
        within_pace (suc (suc (suc (suc (suc (suc all_turns)))))) (λ channel identity. with_password plan channel) (λ channel identity. within_password channel) (can_terms digits) None

  few_turns : IsFit plan → suc (suc (suc (suc (suc (suc (suc (suc (suc (suc (suc (suc all_turns))))))))))) ≤ 133
  unfolding all_turns behind_certificates last_turns
  few_turns fit =
      let certificates = two_each (suc (suc (suc (suc (suc (suc (suc (suc (suc (turns_for plan.requests)))))))))) plan.certificates in
      let last = three_each plan.requests in
      let eight : length plan.certificates ≤ 8 = fit.few in
      let thirty_two : length plan.requests ≤ 32 = fit.short in omega arith

pub at_most : (plan : PlainPlan) (asks : List Ask) (replies : List (List ℕ)) (given : ℕ) (at : Course) → IsFit plan → Reached (course plan) asks replies given at → length replies + given ≤ 133
at_most plan asks replies given at fit reached =
    let many = so_many (course plan) _ asks replies given at (within_course plan) reached in let few = few_turns plan fit in omega arith

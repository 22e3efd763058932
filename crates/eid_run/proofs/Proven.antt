-- Chip authentication between a terminal that has the chip's key and a chip that knows the terminal, and the selection of the
-- application: both succeed.
use Rattle.std.proofs.Common.{◌≡◌, ℕ, ◌≤◌, Bool, true, false, List, [], ◌∷◌, ◌++◌, length, Option, Some, None, refl, sym, ap, ◌∙◌, subst, arith, length-append}
use Rattle.std.specs.Prelude.{if◌then◌else◌, is_some}
use Rattle.std.specs.Str.{bytes_eq}
use Rattle.std.proofs.lemmas.List.{append-nil}
use Rattle.std.proofs.lemmas.Slice.Eq.{bytes_eq-Decides}
use Rattle.eid_apdu.specs.Command.{PlainCommand}
use Rattle.eid_bits.specs.Identifiers.{known_bytes}
use Rattle.eid_bits.specs.declared.identifier.Known.{Known}
use Rattle.eid_bits.specs.declared.identifier.Known.TheVariants.{CaAes128}
use Rattle.eid_ca.specs.Keys.{enc_key, mac_key}
use Rattle.eid_ca.specs.Selections.{chosen_in, named_in}
use Rattle.eid_ca.specs.States.{PlainCaChosen, proven_by}
use Rattle.eid_ca.specs.declared.protocol.Protocol.TheVariants.{EcdhAes128}
use Rattle.eid_ca.proofs.Named.{named-exact}
use Rattle.eid_copro.specs.Numbers.{generator, point_number, point_of, public_of, scalar, secret_of, times, x_half}
use Rattle.eid_copro.specs.declared.ask.Ask.{Ask}
use Rattle.eid_copro.specs.declared.ask.Answer.{Answer}
use Rattle.eid_copro.specs.declared.ask.Answer.TheVariants as answers
use Rattle.eid_copro.specs.declared.ask.Question.TheVariants as questions
use Rattle.eid_cvc.specs.Chains.{PlainChain, PlainTerminalKnown}
use Rattle.eid_cvc.specs.Fronts.{PlainFront, ◌>>=◌, front_in}
use Rattle.eid_cvc.proofs.FrontFacts.{front_of_object}
use Rattle.eid_record.specs.Plain.{FullRecord}
use Rattle.eid_sm.specs.Keys.{ChannelState}
use Rattle.eid_sm.proofs.Lengths.{length-mac8}
use Rattle.eid_tlv.specs.Lists.{IsListOf}
use Rattle.eid_tlv.specs.Objects.{object}
use Rattle.eid_model.specs.declared.kind.Kind.TheVariants.{AuthenticateChip, SelectApplication, SelectChipAuthentication}
use Rattle.eid_model.specs.Answers.{data_alone, outcome_by, question_by, status_alone}
use Rattle.eid_model.specs.Bodies as bodies
use Rattle.eid_model.specs.Legal.{AreAsked}
use Rattle.eid_model.specs.Rules.{kind_rules}
use Rattle.eid_model.specs.Runs.{ChoseProtocol, Idle, answers_of, claimed, entered}
use Rattle.eid_model.specs.Sessions.{PaceMemory, State, channel_after, unchained}
use Rattle.eid_chip.specs.Steps.{known}
use Rattle.eid_chip.specs.Transitions.{state_carried_out, state_later, without_run}
use Rattle.eid_chip.proofs.Bodies.{object_fits}
use Rattle.eid_chip.proofs.ChipSteps.{selection_leaves, selection_passes}
use Rattle.eid_chip.proofs.PaceSteps.{moved}
use Rattle.eid_terminal.specs.Authentication.{after_proof, authenticate_chip, chip_token, select}
use Rattle.eid_terminal.specs.Commands.{protocol_selection, prove, select_application, select_chip_authentication, select_protocol}
use Rattle.eid_terminal.specs.Courses.{Asks, Course, Passes, Stops}
use Rattle.eid_terminal.specs.Exchanges.{by_shared, counted, exchange, expecting, or_stop}
use Rattle.eid_terminal.specs.Pace.{channel_under}
use Rattle.eid_terminal.specs.Plans.{PlainPlan}
use Rattle.eid_terminal.specs.Replies.{PlainProof, data_objects_in, proof_in, sized, whole_object}
use Rattle.eid_terminal.specs.Requests.{requests}
use Rattle.eid_terminal.specs.declared.action.Step.TheVariants as steps
use Rattle.eid_terminal.proofs.Sizes.{short_identifier}
use Rattle.eid_run.specs.Conversations.{Passed, Told}
use Rattle.eid_run.proofs.Agreeing.{agree_given, point_again, times_scalar, times_small, times_swapped}
use Rattle.eid_run.proofs.Along.{AtCourse, IsKnown, IsProven, Way, answered_so, carried_out, carried_with, handled_so, passed_so}
use Rattle.eid_run.proofs.Given.{ask_is, challenge_given, first_ask, point_size}
use Rattle.eid_run.proofs.Hearing.{held_found, sized_so, whole_found}
use Rattle.eid_run.proofs.Paced.{Holds, holds_it, point_short}
use Rattle.eid_run.proofs.Stepping.{HasSize, none_asked}
use Rattle.eid_run.proofs.Turns.{IsOfKind, due_then, outcome_at}

-- ---- the selection

-- a selection of a protocol alone is a list of one object
pub selection_list : (protocol : Known) → IsListOf (record { tag = 0x80; value = known_bytes protocol } ∷ []) (protocol_selection protocol)
unfolding protocol_selection
selection_list protocol = record {
  fit = (record { tagged = refl; sized = omega (arith, short_identifier protocol) }, _);
  spelled = sym (append-nil (object 0x80 (known_bytes protocol)));
}

-- the chip reads the protocol that the terminal selects
pub selection_named : (protocol : Known) → named_in (protocol_selection protocol) ≡ Some (known_bytes protocol)
selection_named protocol = (named-exact (protocol_selection protocol) (known_bytes protocol)).1 (record { list = _; is_list = selection_list protocol; those = refl })

pub selection_size : (protocol : Known) → HasSize (select_protocol protocol)
unfolding protocol_selection
selection_size protocol = record {
  short = omega (arith, object_fits 0x80 (known_bytes protocol), short_identifier protocol);
  most = omega arith;
  class = refl;
}

protocol_named : chosen_in (protocol_selection CaAes128) ≡ Some EcdhAes128
protocol_named = rw (selection_named CaAes128) refl

abbrev chosen_for : PlainTerminalKnown → PlainCaChosen
chosen_for terminal = record { protocol = EcdhAes128; key_x = terminal.key_x }

abbrev pub chosen_state : State → PlainTerminalKnown → State
chosen_state s terminal = moved (Some AuthenticateChip) Idle (ChoseProtocol (chosen_for terminal)) s

select_kind : (s : State) → IsOfKind (unchained s) select_chip_authentication SelectChipAuthentication
select_kind s = record { unchained = refl; named = rw protocol_named refl; passes = λ full given. refl }

-- what the session has found of PACE and of the terminal
record Knows (s : State) (terminal : PlainTerminalKnown) : Type 0 where
  paced : is_some s.pace ≡ true
  there : s.terminal ≡ Some terminal
  chip : s.chip_proven ≡ false

knows : (s : State) (memory : PaceMemory) (chain : PlainChain) (terminal : PlainTerminalKnown) → IsKnown s memory chain terminal → Knows s terminal
knows s memory chain terminal is = record { paced = ap is_some is.pace; there = is.terminal; chip = is.chip }

-- the protocol is chosen
protocol_chosen : (w : Way) (full : FullRecord) (s : State) (terminal : PlainTerminalKnown) (behind : Option ChannelState → Course) (told : List Told) → Knows s terminal
    → AtCourse w full (unchained s) (exchange steps.Ca select_chip_authentication (expecting steps.Ca behind) s.channel) told
    → AtCourse w full (chosen_state (unchained s) terminal) (behind (chosen_state (unchained s) terminal).channel) told
unfolding expecting
protocol_chosen w full s terminal behind told is at =
    let c = select_chip_authentication in
    let did = handled_so w full s SelectChipAuthentication steps.Ca c (expecting steps.Ca behind) told (select_kind s) (selection_size CaAes128) at in
    let named : is_some (chosen_in c.body) ≡ true = ap is_some protocol_named in
    let there : is_some s.terminal ≡ true = ap is_some is.there in
    let passes = selection_passes full (unchained s) c named is.paced there is.chip in
    let nothing = none_asked (λ (given : List Answer). question_by kind_rules (known SelectChipAuthentication full (unchained s) c given)) [] did.asks did.asked (rw (named, is.paced, there, is.chip) refl) in
    carried_with w full s (chosen_state (unchained s) terminal) SelectChipAuthentication c (expecting steps.Ca behind) told (status_alone 0x9000) [] [] did nothing
    (ap (λ (f : _). outcome_by f (known SelectChipAuthentication full (unchained s) c [])) passes)
    (rw (named, is.paced, there, is.chip) refl)
    (sym (selection_leaves full (unchained s) c terminal (chosen_for terminal) is.there (rw protocol_named refl))) refl

-- ---- the proof

-- where the chip has proven its key
abbrev pub proven_state : State → (shared nonce : List ℕ) → State
proven_state s shared nonce = record (without_run s) { chip_proven = true; channel = Some (channel_after 0 (record { enc = enc_key shared nonce; mac = mac_key shared nonce })) }

-- the chip's token over a point
abbrev pub token_of : (point nonce shared : List ℕ) → List ℕ
token_of point nonce shared = (proven_by EcdhAes128 point nonce shared).token

abbrev pub proof_data : (nonce token : List ℕ) → List ℕ
proof_data nonce token = object 0x7C (object 0x81 nonce ++ object 0x82 token)

prove_kind : (s : State) (point : List ℕ) → s.next ≡ Some AuthenticateChip → IsOfKind (unchained s) (prove point) AuthenticateChip
prove_kind s point next = record { unchained = refl; named = rw next refl; passes = λ full given. refl }

-- the terminal's point is the one that it announced
record IsAnnouncedPoint (s : State) (chosen : PlainCaChosen) (c : PlainCommand) (point : List ℕ) : Type 0 where
  begun : s.authentication ≡ ChoseProtocol chosen
  holds : Holds 0x80 point c.body
  same : bytes_eq (bodies.data_in c.body) point ≡ true
  half : bytes_eq (x_half (bodies.data_in c.body)) chosen.key_x ≡ true

prove_next : (full : FullRecord) (s : State) (chosen : PlainCaChosen) (c : PlainCommand) (point : List ℕ) → IsAnnouncedPoint s chosen c point
    → question_by kind_rules (known AuthenticateChip full (unchained s) c []) ≡ Some questions.Challenge
prove_next full s chosen c point is = rw (is.holds.formed, is.begun, is.half) refl

prove_then : (full : FullRecord) (s : State) (chosen : PlainCaChosen) (c : PlainCommand) (point nonce : List ℕ) → IsAnnouncedPoint s chosen c point
    → question_by kind_rules (known AuthenticateChip full (unchained s) c (answers.Challenge nonce ∷ [])) ≡ Some (questions.Agree full.fields.ca_secret point)
prove_then full s chosen c point nonce is = rw (is.holds.formed, is.begun, is.half) (ap (λ (p : List ℕ). Some (questions.Agree full.fields.ca_secret p)) is.holds.held)

prove_done : (full : FullRecord) (s : State) (chosen : PlainCaChosen) (c : PlainCommand) (point nonce shared : List ℕ) → IsAnnouncedPoint s chosen c point
    → question_by kind_rules (known AuthenticateChip full (unchained s) c (answers.Challenge nonce ∷ answers.Shared shared ∷ [])) ≡ None
prove_done full s chosen c point nonce shared is = rw (is.holds.formed, is.begun, is.half) refl

abbrev prove_asks : (secret point nonce shared : List ℕ) → List Ask
prove_asks secret point nonce shared =
    record { question = questions.Challenge; answer = answers.Challenge nonce } ∷ record { question = questions.Agree secret point; answer = answers.Shared shared } ∷ []

prove_outcome : (full : FullRecord) (s : State) (terminal : PlainTerminalKnown) (c : PlainCommand) (point nonce shared : List ℕ) → IsAnnouncedPoint s (chosen_for terminal) c point
    → outcome_at AuthenticateChip full (unchained s) c (prove_asks full.fields.ca_secret point nonce shared) ≡ record { rule = 0; reply = data_alone (proof_data nonce (token_of point nonce shared)) }
prove_outcome full s terminal c point nonce shared is =
    rw (is.holds.formed, is.begun, is.half) (ap (λ (p : List ℕ). record { rule = 0; reply = data_alone (proof_data nonce (token_of p nonce shared)) }) is.holds.held)

prove_due : (full : FullRecord) (s : State) (chosen : PlainCaChosen) (c : PlainCommand) (point nonce shared : List ℕ) → IsAnnouncedPoint s chosen c point
    → due_then AuthenticateChip full (unchained s) c (prove_asks full.fields.ca_secret point nonce shared) ≡ []
prove_due full s chosen c point nonce shared is = rw (is.holds.formed, is.begun, is.half) refl

prove_left : (full : FullRecord) (s : State) (c : PlainCommand) (nonce shared : List ℕ)
    → state_carried_out full.fields AuthenticateChip c (answers.Challenge nonce ∷ answers.Shared shared ∷ []) (unchained s) ≡ proven_state (unchained s) shared nonce
unfolding entered claimed
prove_left full s c nonce shared = refl

-- ---- what the terminal finds

proof_bound : (nonce token : List ℕ) → proof_in (data_alone (proof_data nonce token))
    ≡ (data_objects_in (data_alone (proof_data nonce token)) >>= (λ (h : List ℕ). front_in 0x81 h >>= (λ (first : PlainFront). sized 8 first.value
    >>= (λ (n : List ℕ). whole_object 0x82 first.rest >>= (λ (v : List ℕ). sized 8 v >>= (λ (t : List ℕ). Some (record { nonce = n; token = t })))))))
unfolding proof_in
proof_bound nonce token = refl

proof_found : (nonce token : List ℕ) → length nonce ≡ 8 → length token ≡ 8 → proof_in (data_alone (proof_data nonce token)) ≡ Some (record { nonce = nonce; token = token })
proof_found nonce token size other =
    let held = object 0x81 nonce ++ object 0x82 token in
    let short : length held ≤ 65535 = omega (arith, length-append (object 0x81 nonce) (object 0x82 token), object_fits 0x81 nonce, object_fits 0x82 token, size, other) in
    let fourth : List ℕ → List ℕ → Option PlainProof = λ n t. Some (record { nonce = n; token = t }) in
    let third : List ℕ → List ℕ → Option PlainProof = λ n v. sized 8 v >>= fourth n in
    let second : PlainFront → List ℕ → Option PlainProof = λ first n. whole_object 0x82 first.rest >>= third n in
    let first : PlainFront → Option PlainProof = λ f. sized 8 f.value >>= second f in
    let front : PlainFront = record { value = nonce; rest = object 0x82 token } in
    proof_bound nonce token
    ∙ ap (λ (h : Option (List ℕ)). h >>= (λ (x : List ℕ). front_in 0x81 x >>= first)) (held_found held short)
    ∙ ap (λ (f : Option PlainFront). f >>= first) (front_of_object 0x81 nonce (object 0x82 token) refl (omega (arith, size)))
    ∙ ap (λ (n : Option (List ℕ)). n >>= second front) (sized_so 8 nonce size)
    ∙ ap (λ (v : Option (List ℕ)). v >>= third nonce) (whole_found 0x82 token refl (omega (arith, other)))
    ∙ ap (λ (t : Option (List ℕ)). t >>= fourth nonce) (sized_so 8 token other)

-- both sides come to one secret: the chip by its own, and the terminal by the chip's key
one_chip_secret : (secret : List ℕ) (n : ℕ)
    → x_half (point_of (times (scalar (secret_of n)) (point_number (public_of secret)))) ≡ x_half (point_of (times (scalar secret) (point_number (point_of (times n generator)))))
one_chip_secret secret n =
    ap (λ (k : ℕ). x_half (point_of k))
    (times_scalar n (point_number (public_of secret))
    ∙ ap (times n) (point_again (times (scalar secret) generator) (times_small (scalar secret) generator))
    ∙ times_swapped n (scalar secret) generator
    ∙ ap (times (scalar secret)) (sym (point_again (times n generator) (times_small n generator))))

-- the terminal finds the chip's token right
proof_heard : (w : Way) (full : FullRecord) (new : State) (plan : PlainPlan) (n : ℕ) (nonce shared : List ℕ) (ch : Option ChannelState) (told : List Told)
    → length nonce ≡ 8 → plan.chip_key ≡ public_of full.fields.ca_secret → shared ≡ x_half (point_of (times (scalar full.fields.ca_secret) (point_number (point_of (times n generator)))))
    → AtCourse w full new (after_proof plan (secret_of n) (point_of (times n generator)) ch (data_alone (proof_data nonce (token_of (point_of (times n generator)) nonce shared)))) told
    → AtCourse w full new (Passes steps.Ca (select plan (channel_under (enc_key shared nonce) (mac_key shared nonce)))) told
unfolding after_proof
proof_heard w full new plan n nonce shared ch told size key is at =
    let point = point_of (times n generator) in
    let token = token_of point nonce shared in
    let by = λ (proof : PlainProof) (x : List ℕ). if bytes_eq proof.token (chip_token x proof.nonce point)
    then Passes steps.Ca (select plan (channel_under (enc_key x proof.nonce) (mac_key x proof.nonce))) else Stops steps.Ca 0x9000 in
    let on = λ (proof : PlainProof). Asks (questions.Agree (secret_of n) plan.chip_key) (by_shared steps.Ca 0x9000 (by proof)) in
    let proof : PlainProof = record { nonce = nonce; token = token } in
    let asks : AtCourse w full new (on proof) told = subst (λ (o : Option PlainProof). AtCourse w full new (or_stop steps.Ca 0x9000 on o) told) (proof_found nonce token size (length-mac8 _ _)) at in
    let was = answered_so w full new (questions.Agree (secret_of n) plan.chip_key) (by_shared steps.Ca 0x9000 (by proof)) told asks in
    let found = agree_given was.ask (secret_of n) plan.chip_key was.given was.same in
    let same : x_half (point_of (times (scalar (secret_of n)) (point_number plan.chip_key))) ≡ shared =
    ap (λ (k : List ℕ). x_half (point_of (times (scalar (secret_of n)) (point_number k)))) key ∙ one_chip_secret full.fields.ca_secret n ∙ sym is in
    let goes : AtCourse w full new (by proof shared) told = subst (λ (x : List ℕ). AtCourse w full new (by proof x) told) same
    (subst (λ (x : Answer). AtCourse w full new (by_shared steps.Ca 0x9000 (by proof) x) told) found was.goes) in
    subst (λ (b : Bool). AtCourse w full new (if b then Passes steps.Ca (select plan (channel_under (enc_key shared nonce) (mac_key shared nonce))) else Stops steps.Ca 0x9000) told)
    ((bytes_eq-Decides token (chip_token shared nonce point)).1 refl) goes

-- ---- the application

-- where it is selected
abbrev pub selected_state : State → State
selected_state s = record (without_run (state_later s)) { selected = true; current = None }

application_selected : (w : Way) (full : FullRecord) (s : State) (behind : Option ChannelState → Course) (told : List Told)
    → AtCourse w full (unchained s) (exchange steps.Select select_application (expecting steps.Select behind) s.channel) told
    → AtCourse w full (selected_state (unchained s)) (behind (selected_state (unchained s)).channel) told
unfolding expecting entered claimed
application_selected w full s behind told at =
    let c = select_application in
    let did = handled_so w full s SelectApplication steps.Select c (expecting steps.Select behind) told (record { unchained = refl; named = refl; passes = λ kept given. refl })
    (record { short = omega arith; most = omega arith; class = refl }) at in
    let nothing = none_asked (λ (given : List Answer). question_by kind_rules (known SelectApplication full (unchained s) c given)) [] did.asks did.asked refl in
    carried_with w full s (selected_state (unchained s)) SelectApplication c (expecting steps.Select behind) told (status_alone 0x9000) [] [] did nothing refl refl refl refl

-- ---- the whole

-- The chip has authenticated itself, and the application is selected.
pub record IsProvenThen (w : Way) (full : FullRecord) (plan : PlainPlan) (memory : PaceMemory) (chain : PlainChain) (terminal : PlainTerminalKnown) (told : List Told) : Type 0 where
  pub state : State
  pub is : IsProven state memory chain terminal
  pub rest : List Told
  pub passed : told ≡ Passed steps.Ca ∷ Passed steps.Select ∷ rest
  pub goes : AtCourse w full (unchained state) (requests plan 0 plan.requests state.channel) rest

-- behind the proof of the chip
selected_then : (w : Way) (full : FullRecord) (s : State) (plan : PlainPlan) (memory : PaceMemory) (chain : PlainChain) (terminal : PlainTerminalKnown) (told : List Told)
    → s.pace ≡ Some memory → s.certificates ≡ chain → s.terminal ≡ Some terminal → s.chip_proven ≡ true
    → AtCourse w full (unchained s) (Passes steps.Ca (select plan s.channel)) told → IsProvenThen w full plan memory chain terminal told
unfolding select
selected_then w full s plan memory chain terminal told pace certificates there chip at =
    let first = passed_so w full (unchained s) steps.Ca (select plan s.channel) told at in
    let behind = λ (ch : Option ChannelState). Passes steps.Select (requests plan 0 plan.requests ch) in
    let new = selected_state (unchained s) in
    let second = passed_so w full new steps.Select (requests plan 0 plan.requests new.channel) first.rest (application_selected w full s behind first.rest first.goes) in
    record {
      state = new;
      is = record { pace = pace; certificates = certificates; terminal = there; chip = chip; selected = refl };
      rest = second.rest;
      passed = first.same ∙ ap (λ (l : List Told). Passed steps.Ca ∷ l) second.same;
      goes = second.goes;
    }

-- the command with the terminal's point is handled
chip_proves : (w : Way) (full : FullRecord) (s : State) (plan : PlainPlan) (memory : PaceMemory) (chain : PlainChain) (terminal : PlainTerminalKnown) (n : ℕ) (told : List Told)
    → s.next ≡ Some AuthenticateChip → s.authentication ≡ ChoseProtocol (chosen_for terminal) → IsKnown s memory chain terminal → terminal.key_x ≡ x_half (point_of (times n generator)) → plan.chip_key ≡ public_of full.fields.ca_secret
    → AtCourse w full (unchained s) (exchange steps.Ca (prove (point_of (times n generator))) (after_proof plan (secret_of n) (point_of (times n generator))) s.channel) told
    → IsProvenThen w full plan memory chain terminal told
chip_proves w full s plan memory chain terminal n told next begun is half key at =
    let point = point_of (times n generator) in
    let c = prove point in
    let later = after_proof plan (secret_of n) point in
    let holds : Holds 0x80 point c.body = holds_it 0x80 (times n generator) (omega arith) in
    let fits : IsAnnouncedPoint s (chosen_for terminal) c point = record {
      begun = begun;
      holds = holds;
      same = (bytes_eq-Decides (bodies.data_in c.body) point).1 holds.held;
      half = (bytes_eq-Decides (x_half (bodies.data_in c.body)) terminal.key_x).1 (ap (λ (p : List ℕ). x_half p) holds.held ∙ sym half);
    } in
    let did = handled_so w full s AuthenticateChip steps.Ca c later told (prove_kind s point next)
    (record { short = point_short 0x80 point (omega (arith, point_size (times n generator))); most = omega arith; class = refl }) at in
    let puts = λ (given : List Answer). question_by kind_rules (known AuthenticateChip full (unchained s) c given) in
    let first = first_ask puts [] did.asks questions.Challenge did.asked (prove_next full s (chosen_for terminal) c point fits) did.given in
    let drawn = challenge_given first.ask first.by first.same in
    let nonce = drawn.challenge in
    let second = first_ask puts (answers.Challenge nonce ∷ []) first.later (questions.Agree full.fields.ca_secret point)
    (subst (λ (x : Answer). AreAsked puts (x ∷ []) first.later) drawn.is first.asked) (prove_then full s (chosen_for terminal) c point nonce fits) first.further in
    let found = agree_given second.ask full.fields.ca_secret point second.by second.same in
    let shared = x_half (point_of (times (scalar full.fields.ca_secret) (point_number point))) in
    let nothing = none_asked puts (answers.Challenge nonce ∷ answers.Shared shared ∷ []) second.later
    (subst (λ (x : Answer). AreAsked puts (answers.Challenge nonce ∷ x ∷ []) second.later) found second.asked) (prove_done full s (chosen_for terminal) c point nonce shared fits) in
    let asks = prove_asks full.fields.ca_secret point nonce shared in
    let those : did.asks ≡ asks =
    first.is ∙ ap (λ (x : Ask). x ∷ first.later) (ask_is first.ask questions.Challenge (answers.Challenge nonce) first.same drawn.is)
    ∙ ap (λ (l : List Ask). record { question = questions.Challenge; answer = answers.Challenge nonce } ∷ l)
    (second.is ∙ ap (λ (l : List Ask). second.ask ∷ l) nothing ∙ ap (λ (x : Ask). x ∷ []) (ask_is second.ask _ _ second.same found)) in
    let new = proven_state (unchained s) shared nonce in
    let goes = carried_out w full s new AuthenticateChip c later told (data_alone (proof_data nonce (token_of point nonce shared))) [] did
    (ap (outcome_at AuthenticateChip full (unchained s) c) those ∙ prove_outcome full s terminal c point nonce shared fits)
    (ap (due_then AuthenticateChip full (unchained s) c) those ∙ prove_due full s (chosen_for terminal) c point nonce shared fits)
    (ap (λ (l : List Ask). state_carried_out full.fields AuthenticateChip c (answers_of l) (unchained s)) those ∙ prove_left full s c nonce shared) in
    selected_then w full new plan memory chain terminal told is.pace is.certificates is.terminal refl
    (proof_heard w full new plan n nonce shared (counted (counted s.channel)) told drawn.size key refl goes)

-- Behind a terminal authentication with this pair: chip authentication with the chip's key, and the selection of the
-- application, succeed.
pub proven : (w : Way) (full : FullRecord) (s : State) (plan : PlainPlan) (memory : PaceMemory) (chain : PlainChain) (terminal : PlainTerminalKnown) (n : ℕ) (told : List Told)
    → IsKnown s memory chain terminal → terminal.key_x ≡ x_half (point_of (times n generator)) → plan.chip_key ≡ public_of full.fields.ca_secret
    → AtCourse w full (unchained s) (authenticate_chip plan (secret_of n) (point_of (times n generator)) s.channel) told → IsProvenThen w full plan memory chain terminal told
unfolding authenticate_chip
proven w full s plan memory chain terminal n told is half key at =
    let behind = exchange steps.Ca (prove (point_of (times n generator))) (after_proof plan (secret_of n) (point_of (times n generator))) in
    let chosen = chosen_state (unchained s) terminal in
    let goes = protocol_chosen w full s terminal behind told (knows s memory chain terminal is) at in
    chip_proves w full chosen plan memory chain terminal n told refl refl (record { pace = is.pace; certificates = is.certificates; terminal = is.terminal; chip = is.chip }) half key goes

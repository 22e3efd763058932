-- From the response to a command to the journal with its moment.
use Rattle.std.proofs.Common.{◌≡◌, ℕ, ◌<◌, ◌+◌, ◌*◌, ◌%◌, ◌^◌, length, take, drop, Bool, true, false, ◌==◌, not, List, [], ◌∷◌, Option, Some, None, refl, sym, ap, ◌∙◌, subst, arith}
use Rattle.std.specs.Prelude.{if◌then◌else◌, is_some, option_map, unwrap_or}
use Rattle.std.specs.Option.{option_or}
use Rattle.eid_apdu.specs.Command.{PlainCommand}
use Rattle.eid_apdu.specs.Chaining.{OpenChain, chain_after, is_fragment, request}
use Rattle.eid_apdu.specs.declared.chain.Fed.TheVariants.{More}
use Rattle.eid_copro.specs.declared.ask.Ask.{Ask}
use Rattle.eid_copro.specs.declared.ask.Answer.{Answer}
use Rattle.eid_record.specs.Plain.{FullRecord, PlainRecord, PlainEffect}
use Rattle.eid_bits.specs.Rights.{role_of}
use Rattle.eid_bits.specs.declared.template.Role.{Role}
use Rattle.eid_bits.specs.declared.template.Role.TheVariants.{Cvca, Domestic, Foreign, Terminal}
use Rattle.eid_cvc.specs.Certificates.{PlainBody}
use Rattle.eid_cvc.specs.Chains.{PlainChain, PlainTerminalKnown}
use Rattle.eid_trust.specs.Trust.{chain_with}
use Rattle.eid_store.specs.Stands.{stands}
use Rattle.eid_pace.specs.States.{PlainDone}
use Rattle.eid_sm.specs.Keys.{Keys, ChannelState, next_counter}
use Rattle.eid_model.specs.declared.kind.Kind.{Kind}
use Rattle.eid_model.specs.declared.kind.Kind.TheVariants.{SelectApplication, SelectMasterFile, SelectFile, ReadBinary, UpdateBinary, SelectPace, SelectPublicKey, VerifyCertificate, AnnounceTerminal, GetChallenge, ExternalAuthenticate, SelectChipAuthentication, SelectRestrictedIdentification, EncryptedNonce, MapNonce, PerformKeyAgreement, MutualAuthentication, AuthenticateChip, PerformRestrictedIdentification, VerifyAuxiliary, ChangePin, UnblockPin, ChangeCan, ActivatePin, DeactivatePin, NoProtocol, NoStep}
use Rattle.eid_model.specs.Kinds.{kind_in_table, step_after}
use Rattle.eid_model.specs.Chains.{chain_of, chaining, more_pieces, pieces, request_of}
use Rattle.eid_model.specs.Moments.{PlainMoment, on, live, ends_session_by}
use Rattle.eid_model.specs.Runs.{Step, Phase, is_piece_of_next, continued, next, phase, entered, run, answers_of, claimed, Authentication, authentication}
use Rattle.eid_model.specs.Sessions.{State, PaceMemory, context_of, terminal_behind, makes_known, made_known, chip_proof, chip_proven, keys_by, keys_with, Accepted, accepts, accepted_by, accepted_behind, chain_left, kind_of_moment, pace_completed, state_in, selection, naming, selected, current, pace, pace_done, pace_by, memory_of, channel_keys, commands_since_opening, channel_after, channel}
use Rattle.eid_model.specs.Rules.{Incoming, NoCommand, MissingObjects, WrongObjects, OfCommand, Situation}
use Rattle.eid_model.specs.Answers.{Outcome, outcome, question, due, situation, kind_incoming, command_of, no_command}
use Rattle.eid_model.specs.Legal.{IsReadAs, AreAsked, IsHandled, answered, lost_in, situation_after}
use Rattle.eid_model.specs.Ledger.{account, accepted, terminal, kept, pending, state_of, first_of, all_committed, MayHold}
use Rattle.eid_model.proofs.Ledgers.{AreEntered}
use Rattle.eid_model.proofs.Books.{due_entered, due_incoming, stood_answered, stood_lost}
use Rattle.eid_chip.specs.Transitions.{chain_behind, context_in, without_run, state_answered, state_carried_out, state_later, state_piece, state_refused, two_messages_later}
use Rattle.eid_apdu.specs.Answer.{PlainReply}
use Rattle.eid_chip.specs.Endings.{Answered, Lost, Reacted}
use Rattle.eid_chip.specs.Held.{held}
use Rattle.eid_chip.specs.States.{chained}
use Rattle.eid_chip.specs.Worlds.{World}
use Rattle.eid_chip.specs.Steps.{IsEndedByRules, outcome_seen, state_left, state_due}

-- ---- the channel

-- one command more, with its reply
later_after : (n : ℕ) (keys : Keys) → channel_after (n + 1) keys ≡ two_messages_later (channel_after n keys)
later_after n keys =
    let count : 2 * (n + 1) % 2 ^ 128 ≡ next_counter (next_counter (2 * n % 2 ^ 128)) = omega arith in
    ap (λ (k : ℕ). record { keys = keys; counter = k }) count

later_channel : (n : ℕ) (last : Option Keys) → option_map (channel_after (n + 1)) last ≡ option_map two_messages_later (option_map (channel_after n) last)
later_channel n None = refl
later_channel n (Some keys) = ap (λ (c : ChannelState). Some c) (later_after n keys)

-- keys that are new open another
channel_more : (n : ℕ) (found last : Option Keys) → option_map (channel_after (if is_some found then 0 else n + 1)) (option_or found last)
    ≡ option_or (option_map (channel_after 0) found) (option_map two_messages_later (option_map (channel_after n) last))
channel_more n None last = later_channel n last
channel_more n (Some keys) last = refl

pace_more : (found last : Option PlainDone) → option_map memory_of (option_or found last) ≡ option_or (option_map memory_of found) (option_map memory_of last)
pace_more None last = refl
pace_more (Some done) last = refl

-- the identity is one of those things that are asked of the last PACE later
identity_kept : (last : Option PlainDone) → option_map (λ d. d.identity) last ≡ option_map (λ pace. pace.identity) (option_map memory_of last)
identity_kept None = refl
identity_kept (Some done) = refl

-- ---- the run

run_next : (kind : Kind) (c : PlainCommand) (answers : List Answer) (steps : List Step) → next (continued (Some kind) (Some c) answers steps) ≡ step_after kind
run_next SelectApplication c answers steps = refl
run_next SelectMasterFile c answers steps = refl
run_next SelectFile c answers steps = refl
run_next ReadBinary c answers steps = refl
run_next UpdateBinary c answers steps = refl
run_next SelectPace c answers steps = refl
run_next SelectPublicKey c answers steps = refl
run_next VerifyCertificate c answers steps = refl
run_next AnnounceTerminal c answers steps = refl
run_next GetChallenge c answers steps = refl
run_next ExternalAuthenticate c answers steps = refl
run_next SelectChipAuthentication c answers steps = refl
run_next SelectRestrictedIdentification c answers steps = refl
run_next AuthenticateChip c answers steps = refl
run_next PerformRestrictedIdentification c answers steps = refl
run_next NoProtocol c answers steps = refl
run_next EncryptedNonce c answers steps = refl
run_next MapNonce c answers steps = refl
run_next PerformKeyAgreement c answers steps = refl
run_next MutualAuthentication c answers steps = refl
run_next VerifyAuxiliary c answers steps = refl
run_next ChangePin c answers steps = refl
run_next UnblockPin c answers steps = refl
run_next ChangeCan c answers steps = refl
run_next ActivatePin c answers steps = refl
run_next DeactivatePin c answers steps = refl
run_next NoStep c answers steps = refl

run_phase : (kind : Kind) (c : PlainCommand) (answers : List Answer) (steps : List Step) → phase (continued (Some kind) (Some c) answers steps) ≡ entered kind c answers (phase steps)
unfolding entered claimed
run_phase SelectApplication c answers steps = refl
run_phase SelectMasterFile c answers steps = refl
run_phase SelectFile c answers steps = refl
run_phase ReadBinary c answers steps = refl
run_phase UpdateBinary c answers steps = refl
run_phase SelectPace c answers steps = refl
run_phase SelectPublicKey c answers steps = refl
run_phase VerifyCertificate c answers steps = refl
run_phase AnnounceTerminal c answers steps = refl
run_phase GetChallenge c answers steps = refl
run_phase ExternalAuthenticate c answers steps = refl
run_phase SelectChipAuthentication c answers steps = refl
run_phase SelectRestrictedIdentification c answers steps = refl
run_phase AuthenticateChip c answers steps = refl
run_phase PerformRestrictedIdentification c answers steps = refl
run_phase NoProtocol c answers steps = refl
run_phase EncryptedNonce c answers steps = refl
run_phase MapNonce c answers steps = refl
run_phase PerformKeyAgreement c answers steps = refl
run_phase MutualAuthentication c answers steps = refl
run_phase VerifyAuxiliary c answers steps = refl
run_phase ChangePin c answers steps = refl
run_phase UnblockPin c answers steps = refl
run_phase ChangeCan c answers steps = refl
run_phase ActivatePin c answers steps = refl
run_phase DeactivatePin c answers steps = refl
run_phase NoStep c answers steps = refl

-- ---- the certificates

chain_with_role : (role : Role) (kept : PlainRecord) (c : PlainBody) (before : List Accepted) → role_of c.template ≡ role
    → chain_left (record { kept = kept; certificate = c } ∷ before) ≡ chain_with role kept (chain_left before) c
chain_with_role Cvca kept c before is = rw is refl
chain_with_role Domestic kept c before is = rw is (rw is refl)
chain_with_role Foreign kept c before is = rw is (rw is refl)
chain_with_role Terminal kept c before is = rw is (rw is refl)

-- the chain after a command, which may have completed a PACE, or accepted a certificate
chain_more : (kept : PlainRecord) (done : Option PlainDone) (certificate : Option PlainBody) (before : List Accepted)
    → chain_left (accepted_behind kept done certificate before) ≡ chain_behind kept done certificate (chain_left before)
chain_more kept None None before = refl
chain_more kept None (Some c) before = chain_with_role (role_of c.template) kept c before refl
chain_more kept (Some done) certificate before = refl

-- what a kind finds is what it leaves, where it is one whose step looks at it
run_claim : (kind : Kind) (kept : PlainRecord) (c : PlainCommand) (answers : List Answer) (last : Option PlainDone) (before : List Accepted) (terminal : Option PlainTerminalKnown) (p : Phase) (steps : List Step)
    → authentication (context_of (option_or (pace_done kind p) last) (accepted_behind kept (pace_done kind p) (accepts kind c) before) (terminal_behind (pace_done kind p) (makes_known kind (authentication (context_of last before terminal) steps)) terminal)) (continued (Some kind) (Some c) answers steps)
    ≡ claimed kind c answers (context_of last before terminal) (authentication (context_of last before terminal) steps)
unfolding claimed
run_claim SelectApplication kept c answers last before terminal p steps = refl
run_claim SelectMasterFile kept c answers last before terminal p steps = refl
run_claim SelectFile kept c answers last before terminal p steps = refl
run_claim ReadBinary kept c answers last before terminal p steps = refl
run_claim UpdateBinary kept c answers last before terminal p steps = refl
run_claim SelectPace kept c answers last before terminal p steps = refl
run_claim SelectPublicKey kept c answers last before terminal p steps = refl
run_claim VerifyCertificate kept c answers last before terminal p steps = refl
run_claim AnnounceTerminal kept c answers last before terminal p steps = refl
run_claim GetChallenge kept c answers last before terminal p steps = refl
run_claim ExternalAuthenticate kept c answers last before terminal p steps = refl
run_claim SelectChipAuthentication kept c answers last before terminal p steps = refl
run_claim SelectRestrictedIdentification kept c answers last before terminal p steps = refl
run_claim EncryptedNonce kept c answers last before terminal p steps = refl
run_claim MapNonce kept c answers last before terminal p steps = refl
run_claim PerformKeyAgreement kept c answers last before terminal p steps = refl
run_claim MutualAuthentication kept c answers last before terminal p steps = refl
run_claim AuthenticateChip kept c answers last before terminal p steps = refl
run_claim PerformRestrictedIdentification kept c answers last before terminal p steps = refl
run_claim VerifyAuxiliary kept c answers last before terminal p steps = refl
run_claim ChangePin kept c answers last before terminal p steps = refl
run_claim UnblockPin kept c answers last before terminal p steps = refl
run_claim ChangeCan kept c answers last before terminal p steps = refl
run_claim ActivatePin kept c answers last before terminal p steps = refl
run_claim DeactivatePin kept c answers last before terminal p steps = refl
run_claim NoProtocol kept c answers last before terminal p steps = refl
run_claim NoStep kept c answers last before terminal p steps = refl

-- ---- one moment more

-- the channel after a command that opened one with these keys, or none
abbrev channel_with : ℕ → Option Keys → Option Keys → Option ChannelState
channel_with n found last = option_map (channel_after (if is_some found then 0 else n + 1)) (option_or found last)

-- the run after a request of this kind was carried out, this fragment taken, or neither
abbrev run_more : Option Kind → Option PlainCommand → List Answer → Option PlainCommand → List Step → List Step
run_more kind whole answers piece steps = if is_piece_of_next (next steps) piece then steps else continued kind whole answers steps

-- the certificates that count then
abbrev accepted_now : PlainRecord → Option Kind → Option PlainCommand → List PlainMoment → List Accepted → List Accepted
accepted_now kept kind whole session before = accepted_behind kept (pace_by kind (phase (run session))) (accepted_by kind whole) before

-- the terminal known then
abbrev terminal_now : Option Kind → List PlainMoment → List Accepted → Option PlainTerminalKnown → Option PlainTerminalKnown
terminal_now kind session before terminal =
    terminal_behind (pace_by kind (phase (run session))) (made_known kind (authentication (context_of (pace session) before terminal) (run session))) terminal

-- what a session's moments leave, with one moment more that carried out a request of this kind, took this fragment, or neither
abbrev more : PlainRecord → List Accepted → Option PlainTerminalKnown → Option Kind → Option PlainCommand → List Answer → Option PlainCommand → List PlainMoment → State
more kept before terminal kind whole answers piece session = record {
  next = next (run_more kind whole answers piece (run session));
  phase = phase (run_more kind whole answers piece (run session));
  authentication = authentication
      (context_of (option_or (pace_by kind (phase (run session))) (pace session)) (accepted_now kept kind whole session before) (terminal_now kind session before terminal))
      (run_more kind whole answers piece (run session));
  selected = unwrap_or (selection kind) (selected session);
  current = if is_some (selection kind) then None else option_or (naming kind whole) (current session);
  pace = option_map memory_of (option_or (pace_by kind (phase (run session))) (pace session));
  certificates = chain_left (accepted_now kept kind whole session before);
  terminal = terminal_now kind session before terminal;
  chip_proven = unwrap_or (chip_proof kind) (chip_proven session);
  channel = channel_with (commands_since_opening session) (keys_with kind answers (phase (run session))) (channel_keys session);
  chaining = chain_of (more_pieces piece (pieces session));
}

-- the state after a command without a kind, with its run or without one
abbrev unkinded : Bool → State → State
unkinded stays old = if stays then state_later old else state_refused old

-- with these fragments
abbrev left_with : List PlainCommand → State → State
left_with fragments s = chained (chain_of fragments) s

more_none : (stays : Bool) (kept : PlainRecord) (before : List Accepted) (terminal : Option PlainTerminalKnown) (whole : Option PlainCommand) (answers : List Answer) (piece : Option PlainCommand) (session : List PlainMoment)
    → is_piece_of_next (next (run session)) piece ≡ stays
    → more kept before terminal None whole answers piece session ≡ left_with (more_pieces piece (pieces session)) (unkinded stays (state_in before terminal session))
more_none true kept before terminal whole answers piece session is =
    rw is (ap (λ (c : Option ChannelState). record (state_in before terminal session) { channel = c; chaining = chain_of (more_pieces piece (pieces session)) }) (later_channel (commands_since_opening session) (channel_keys session)))
more_none false kept before terminal whole answers piece session is =
    rw is (ap (λ (c : Option ChannelState). record (without_run (state_in before terminal session)) { channel = c; chaining = chain_of (more_pieces piece (pieces session)) }) (later_channel (commands_since_opening session) (channel_keys session)))

abbrev made : State → Option Kind → Phase → Authentication → Option PaceMemory → PlainChain → Option ChannelState → State
made s a b n e p f = record s { next = a; phase = b; authentication = n; pace = e; certificates = p; channel = f; chaining = None }

no_piece : (kind : Option Kind) → is_piece_of_next kind None ≡ false
no_piece None = refl
no_piece (Some kind) = refl

run_some : (kind : Kind) (c : PlainCommand) (answers : List Answer) (steps : List Step) → run_more (Some kind) (Some c) answers None steps ≡ continued (Some kind) (Some c) answers steps
run_some kind c answers steps = rw (no_piece (next steps)) refl

more_some : (kept : PlainRecord) (before : List Accepted) (terminal : Option PlainTerminalKnown) (kind : Kind) (c : PlainCommand) (answers : List Answer) (session : List PlainMoment)
    → more kept before terminal (Some kind) (Some c) answers None session ≡ state_carried_out kept kind c answers (state_in before terminal session)
more_some kept before terminal kind c answers session =
    let found = pace_done kind (phase (run session)) in
    let new = continued (Some kind) (Some c) answers (run session) in
    let all : State = more kept before terminal (Some kind) (Some c) answers None session in
    let old : State = state_in before terminal session in
    let context = context_of (option_or found (pace session)) (accepted_now kept (Some kind) (Some c) session before) (terminal_now (Some kind) session before terminal) in
    let claim = claimed kind c answers (context_in old) old.authentication in
    let step = entered kind c answers (phase (run session)) in
    let p = option_map memory_of (option_or found (pace session)) in
    let chain = chain_left (accepted_now kept (Some kind) (Some c) session before) in
    let chain_is = chain_behind kept found (accepts kind c) (chain_left before) in
    let keys = keys_by kind answers (phase (run session)) in
    let ch = channel_with (commands_since_opening session) keys (channel_keys session) in
    let now = option_or (option_map memory_of found) (option_map memory_of (pace session)) in
    ap (λ (l : List Step). made all (next l) (phase l) (authentication context l) p chain ch) (run_some kind c answers (run session))
    ∙ ap (λ x. made all x (phase new) (authentication context new) p chain ch) (run_next kind c answers (run session))
    ∙ ap (λ x. made all (step_after kind) x (authentication context new) p chain ch) (run_phase kind c answers (run session))
    ∙ ap (λ x. made all (step_after kind) step x p chain ch)
    (run_claim kind kept c answers (pace session) before terminal (phase (run session)) (run session) ∙ ap (λ (i : Option (List ℕ)). claimed kind c answers (record (context_in old) { identity = i }) old.authentication) (identity_kept (pace session)))
    ∙ ap (λ x. made all (step_after kind) step claim x chain ch) (pace_more found (pace session))
    ∙ ap (λ x. made all (step_after kind) step claim now x ch) (chain_more kept found (accepts kind c) before)
    ∙ ap (λ x. made all (step_after kind) step claim now chain_is x) (channel_more (commands_since_opening session) keys (channel_keys session))

-- a fragment more in a chain
fragments_more : (c : PlainCommand) (fragments : List PlainCommand) → chain_of (c ∷ fragments) ≡ chain_after (chain_of fragments) c More
fragments_more c [] = refl
fragments_more c (last ∷ before) = refl

-- what a command leaves, by whether it was answered without a refusal, whether it is a fragment, and its kind
more_at : (kept : PlainRecord) (before : List Accepted) (terminal : Option PlainTerminalKnown) (carried is_piece : Bool) (kind : Option Kind) (rule : ℕ) (c : PlainCommand) (answers : List Answer) (session : List PlainMoment)
    → (rule == 0) ≡ carried → is_fragment c ≡ is_piece
    → more kept before terminal (if carried then (if is_piece then None else kind) else None) (Some (request (chaining session) c)) answers
    (if carried then (if is_piece then Some c else None) else None) session ≡ state_answered kept rule (if is_piece then None else kind) c answers (state_in before terminal session)
more_at kept before terminal true true kind rule c answers session done piece =
    more_none (is_piece_of_next (next (run session)) (Some c)) kept before terminal (Some (request (chaining session) c)) answers (Some c) session refl
    ∙ ap (λ (o : Option OpenChain). chained o (state_piece c (state_in before terminal session))) (fragments_more c (pieces session)) ∙ rw (done, piece) refl
more_at kept before terminal true false None rule c answers session done piece =
    more_none false kept before terminal (Some (request (chaining session) c)) answers None session (no_piece (next (run session))) ∙ rw (done, piece) refl
more_at kept before terminal true false (Some kind) rule c answers session done piece =
    more_some kept before terminal kind (request (chaining session) c) answers session ∙ rw done refl
more_at kept before terminal false true kind rule c answers session done piece =
    more_none false kept before terminal (Some (request (chaining session) c)) answers None session (no_piece (next (run session))) ∙ rw done refl
more_at kept before terminal false false None rule c answers session done piece =
    more_none false kept before terminal (Some (request (chaining session) c)) answers None session (no_piece (next (run session))) ∙ rw done refl
more_at kept before terminal false false (Some kind) rule c answers session done piece =
    more_none false kept before terminal (Some (request (chaining session) c)) answers None session (no_piece (next (run session))) ∙ rw done refl

-- no command leaves no fragments
unread : (kept : PlainRecord) (before : List Accepted) (terminal : Option PlainTerminalKnown) (carried : Bool) (rule : ℕ) (answers : List Answer) (session : List PlainMoment) → (rule == 0) ≡ carried
    → more kept before terminal (if carried then None else None) None answers (if carried then None else None) session ≡ state_answered kept rule None no_command answers (state_in before terminal session)
unread kept before terminal true rule answers session is = more_none false kept before terminal None answers None session (no_piece (next (run session))) ∙ rw is refl
unread kept before terminal false rule answers session is = more_none false kept before terminal None answers None session (no_piece (next (run session))) ∙ rw is refl

-- the certificates that count after a moment of a session that goes on
abbrev accepted_then : PlainRecord → PlainMoment → List PlainMoment → List Accepted → List Accepted
accepted_then kept m session before = accepted_behind kept (pace_completed m session) (accepted_by (kind_of_moment m session) (request_of m session)) before

-- and the terminal known
abbrev terminal_then : PlainMoment → List PlainMoment → List Accepted → Option PlainTerminalKnown → Option PlainTerminalKnown
terminal_then m session before terminal =
    terminal_behind (pace_completed m session) (made_known (kind_of_moment m session) (authentication (context_of (pace session) before terminal) (run session))) terminal

-- the state of a session with one more moment
abbrev state_then : PlainRecord → PlainMoment → List PlainMoment → List Accepted → Option PlainTerminalKnown → State
state_then kept m session before terminal = state_in (accepted_then kept m session before) (terminal_then m session before terminal) (m ∷ session)

pub state_more : (kept : PlainRecord) (before : List Accepted) (terminal : Option PlainTerminalKnown) (ch : Option ChannelState) (bytes : List ℕ) (incoming : Incoming) (asks : List Ask) (finished : ℕ) (o : Outcome) (session : List PlainMoment)
    → state_then kept (answered ch bytes incoming asks finished o) session before terminal
    ≡ state_answered kept o.rule (kind_incoming (state_in before terminal session) incoming) (command_of incoming) (answers_of asks) (state_in before terminal session)
state_more kept before terminal ch bytes NoCommand asks finished o session = unread kept before terminal (o.rule == 0) o.rule (answers_of asks) session refl
state_more kept before terminal ch bytes MissingObjects asks finished o session = unread kept before terminal (o.rule == 0) o.rule (answers_of asks) session refl
state_more kept before terminal ch bytes WrongObjects asks finished o session = unread kept before terminal (o.rule == 0) o.rule (answers_of asks) session refl
state_more kept before terminal ch bytes (OfCommand c) asks finished o session =
    more_at kept before terminal (o.rule == 0) (is_fragment c) (kind_in_table (next (run session)) (request (chaining session) c)) o.rule c (answers_of asks) session refl refl

-- the state of a journal with one more moment that was answered
live_more : (ends : Bool) (rule : ℕ) (m : PlainMoment) (before : List PlainMoment) (then_accepted : List Accepted) (then_known : Option PlainTerminalKnown) (new : State) → ends_session_by rule ≡ ends
    → state_in then_accepted then_known (m ∷ live before) ≡ new
    → state_due rule new
    ≡ state_in (if not (not (ends_session_by rule)) then [] else then_accepted) (if not (not (ends_session_by rule)) then None else then_known) (if not (not (ends_session_by rule)) then [] else m ∷ live before)
live_more true rule m before then_accepted then_known new is states = rw is refl
live_more false rule m before then_accepted then_known new is states = rw is (sym states)

pub left_more : (opening : FullRecord) (before : List PlainMoment) (ch : Option ChannelState) (bytes : List ℕ) (incoming : Incoming) (asks : List Ask) (finished : ℕ) (o : Outcome) (new : State)
    → state_then (kept opening before).fields (answered ch bytes incoming asks finished o) (live before) (accepted opening before) (terminal opening before) ≡ new
    → state_due o.rule new ≡ state_of opening (answered ch bytes incoming asks finished o ∷ before)
unfolding account
left_more opening before ch bytes incoming asks finished o new states =
    let m : PlainMoment = answered ch bytes incoming asks finished o in
    live_more (ends_session_by o.rule) o.rule m before (accepted_then (kept opening before).fields m (live before) (accepted opening before)) (terminal_then m (live before) (accepted opening before) (terminal opening before)) new refl states

-- cells hold what the books of these moments say
abbrev pub Holds : FullRecord → List PlainMoment → List ℕ → Type 0
Holds opening moments cells = MayHold (pending opening moments) (kept opening moments) (stands cells)

-- what the rules say in the situation that the chip sees, and in the one that the moments leave
same_situation : {A : Type 0} (f : Situation → A) (seen full : FullRecord) (old left : State) (incoming : Incoming) (answers : List Answer) → seen ≡ full → old ≡ left → f (situation seen old incoming answers) ≡ f (situation full left incoming answers)
same_situation f seen full old left incoming answers same state =
    ap (λ (k : FullRecord). f (situation k old incoming answers)) same ∙ ap (λ (s : State). f (situation full s incoming answers)) state

-- A chip with power whose command was answered makes a legal moment, after which the chip is on, its state is what the
-- moments leave, and the cells hold the record kept.
pub responded : (old : State) (opening : FullRecord) (before : List PlainMoment) (bytes : List ℕ) (incoming : Incoming) (asks : List Ask) (r : Reacted) (finished : ℕ) (reply : PlainReply) (left : Option OpenChain) (was now : World)
    → on before ≡ true → old ≡ state_of opening before → held was.cells ≡ kept opening before → IsReadAs old.channel bytes incoming → IsEndedByRules old incoming asks (Answered r finished) reply left was now
    → IsHandled opening before bytes (answered old.channel bytes incoming asks finished (outcome_seen r reply))
    × (on (answered old.channel bytes incoming asks finished (outcome_seen r reply) ∷ before) ≡ true)
    × (chained left (state_left r old.channel) ≡ state_of opening (answered old.channel bytes incoming asks finished (outcome_seen r reply) ∷ before))
    × Holds opening (answered old.channel bytes incoming asks finished (outcome_seen r reply) ∷ before) now.cells
responded old opening before bytes incoming asks r finished reply left was now power is same reads ended =
    let full = kept opening before in
    let m : PlainMoment = answered old.channel bytes incoming asks finished (outcome_seen r reply) in
    let same_channel : old.channel ≡ channel (live before) = ap (λ (s : State). s.channel) is in
    let effects : List PlainEffect = due (situation (held was.cells) old incoming (answers_of asks)) in
    let due_is : effects ≡ due (situation_after opening before incoming (answers_of asks)) =
    same_situation due (held was.cells) full old (state_of opening before) incoming (answers_of asks) same is in
    let ends : outcome_seen r reply ≡ outcome (situation_after opening before incoming (answers_of asks)) =
    sym ended.ended.1 ∙ same_situation outcome (held was.cells) full old (state_of opening before) incoming (answers_of asks) same is in
    let next_state : state_then full.fields m (live before) (accepted opening before) (terminal opening before) ≡ state_answered (held was.cells).fields r.rule (kind_incoming old incoming) (command_of incoming) (answers_of asks) old =
    state_more full.fields (accepted opening before) (terminal opening before) old.channel bytes incoming asks finished (outcome_seen r reply) (live before)
    ∙ ap (λ (s : State). state_answered full.fields r.rule (kind_incoming s incoming) (command_of incoming) (answers_of asks) s) (sym is)
    ∙ ap (λ (k : FullRecord). state_answered k.fields r.rule (kind_incoming old incoming) (command_of incoming) (answers_of asks) old) (sym same) in
    let made : m ≡ answered (channel (live before)) bytes incoming asks (length (due (situation_after opening before incoming (answers_of asks)))) (outcome (situation_after opening before incoming (answers_of asks))) =
    ap (λ (n : ℕ). answered old.channel bytes incoming asks n (outcome_seen r reply)) (ended.ended.0 ∙ ap length due_is)
    ∙ ap (λ (o : Outcome). answered old.channel bytes incoming asks (length (due (situation_after opening before incoming (answers_of asks)))) o) ends
    ∙ ap (λ (c : Option ChannelState). answered c bytes incoming asks (length (due (situation_after opening before incoming (answers_of asks)))) (outcome (situation_after opening before incoming (answers_of asks)))) same_channel in (
      record {
        powered = λ on_is. record {
          incoming = incoming;
          reads = subst (λ (c : Option ChannelState). IsReadAs c bytes incoming) same_channel reads;
          asked = subst (λ (s : State). AreAsked (λ given. question (situation full s incoming given)) [] asks) is
              (subst (λ (k : FullRecord). AreAsked (λ given. question (situation k old incoming given)) [] asks) same ended.asked);
          moment = made;
        };
        unpowered = λ off_is. absurd (cc);
      },
      power,
      ended.next ∙ left_more opening before old.channel bytes incoming asks finished (outcome_seen r reply) _ next_state,
      stood_answered opening before m bytes reply effects (stands now.cells) refl refl power (due_incoming full (state_of opening before) incoming m refl ∙ sym due_is) ended.ended.0
          (subst (λ (k : FullRecord). AreEntered k effects) same (due_entered (situation (held was.cells) old incoming (answers_of asks))))
          (ended.leaves.1 ∙ ap (λ (k : FullRecord). Some (all_committed effects k)) same),
    )

-- A chip with power that was lost in a commit makes a legal moment, after which there is no power, and the cells hold the
-- record kept, or the one with the effect that is pending.
pub was_lost : (old : State) (opening : FullRecord) (before : List PlainMoment) (bytes : List ℕ) (incoming : Incoming) (asks : List Ask) (finished : ℕ) (reply : PlainReply) (left : Option OpenChain) (was now : World)
    → on before ≡ true → old ≡ state_of opening before → held was.cells ≡ kept opening before → IsReadAs old.channel bytes incoming → IsEndedByRules old incoming asks (Lost finished) reply left was now
    → IsHandled opening before bytes (lost_in bytes incoming asks finished) × Holds opening (lost_in bytes incoming asks finished ∷ before) now.cells
was_lost old opening before bytes incoming asks finished reply left was now power is same reads ended =
    let full = kept opening before in
    let m : PlainMoment = lost_in bytes incoming asks finished in
    let same_channel : old.channel ≡ channel (live before) = ap (λ (s : State). s.channel) is in
    let effects : List PlainEffect = due (situation (held was.cells) old incoming (answers_of asks)) in
    let due_is : effects ≡ due (situation_after opening before incoming (answers_of asks)) =
    same_situation due (held was.cells) full old (state_of opening before) incoming (answers_of asks) same is in (
      record {
        powered = λ on_is. record {
          incoming = incoming;
          reads = subst (λ (c : Option ChannelState). IsReadAs c bytes incoming) same_channel reads;
          asked = subst (λ (s : State). AreAsked (λ given. question (situation full s incoming given)) [] asks) is
              (subst (λ (k : FullRecord). AreAsked (λ given. question (situation k old incoming given)) [] asks) same ended.asked);
          moment = (refl, subst (λ (l : List PlainEffect). finished < length l) due_is ended.ended);
        };
        unpowered = λ off_is. absurd (cc);
      },
      stood_lost opening before m bytes effects (stands now.cells) refl refl power (due_incoming full (state_of opening before) incoming m refl ∙ sym due_is)
          (subst (λ (k : FullRecord). AreEntered k effects) same (due_entered (situation (held was.cells) old incoming (answers_of asks))))
          (subst (λ (k : FullRecord). MayHold (first_of (drop finished effects)) (all_committed (take finished effects) k) (stands now.cells)) same ended.leaves.0),
    )

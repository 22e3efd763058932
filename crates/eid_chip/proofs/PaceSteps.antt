-- What each step of PACE promises, from what it did.
use Rattle.std.proofs.Common.{◌≡◌, ℕ, Bool, true, false, List, [], ◌∷◌, ◌++◌, Option, Some, None, Result, Ok, Err, not, ◌||◌, refl, sym, ap, ◌∙◌}
use Rattle.std.specs.Prelude.{is_some, ◌==◌, if◌then◌else◌}
use Rattle.std.specs.Result.{result_ok}
use Rattle.std.specs.Str.{bytes_eq}
use Rattle.eid_base.specs.Rules.{active_rule, try_rule, resumed_rule}
use Rattle.eid_apdu.specs.Command.{PlainCommand}
use Rattle.eid_apdu.specs.Answer.{PlainReply}
use Rattle.eid_copro.specs.declared.ask.Answer.{Answer}
use Rattle.eid_copro.specs.declared.ask.Answer.TheVariants as answers
use Rattle.eid_record.specs.Plain.{PlainRecord}
use Rattle.eid_record.specs.declared.fields.Password.{Password}
use Rattle.eid_record.specs.declared.fields.Password.TheVariants.{Can, Pin, Puk}
use Rattle.eid_copro.specs.Asking.{nonce_ask}
use Rattle.eid_password.specs.Passwords.{digits_of, is_can, is_pin, has_try, is_resumed, start_refusal, select_status}
use Rattle.eid_pace.specs.States.{PlainChoice, PlainNonceSent, PlainMapped, PlainAgreed, PlainDone}
use Rattle.eid_pace.specs.Selections.{PlainSelection, chosen_by, chosen_with, password_named}
use Rattle.eid_pace.specs.Rules.{token_rule}
use Rattle.eid_pace.specs.SelectionIn.{selection_in}
use Rattle.eid_pace.specs.Keys.{encrypted_nonce}
use Rattle.eid_pace.specs.Check.{check_given, done_by, terminal_token, chip_token}
use Rattle.eid_tlv.specs.Objects.{object}
use Rattle.eid_cvc.specs.Chains.{no_chain}
use Rattle.eid_pace.specs.MapEnds.{MapEnd, NoPair, NoMapping, NoBase, Based, map_asks, map_given}
use Rattle.eid_pace.specs.AgreeEnds as agree
use Rattle.eid_pace.specs.AgreeEnds.{AgreeEnd, agree_asks, agree_given}
use Rattle.eid_pace.specs.NonceEnds.{NonceEnd, NotStarted, NoNonce, Drawn, nonce_asks, nonce_given}
use Rattle.eid_record.specs.Plain.{FullRecord}
use Rattle.eid_sm.specs.Keys.{ChannelState}
use Rattle.eid_model.specs.declared.kind.Kind.{Kind}
use Rattle.eid_model.specs.declared.kind.Kind.TheVariants.{SelectPace, EncryptedNonce, MapNonce, PerformKeyAgreement, MutualAuthentication}
use Rattle.eid_model.specs.Answers.{status_alone, data_alone, previous_name, select_reply}
use Rattle.eid_model.specs.Bodies.{no_data, authentication_data, data_in, holds_point, holds_value}
use Rattle.eid_model.specs.Rules.{names_password, was_with}
use Rattle.eid_model.specs.Runs.{Phase, Chose, SentNonce, HasBase, HasSecret, entered, as_chosen, with_nonce, with_base, with_secret, claimed, Authentication, NotBegun}
use Rattle.eid_model.specs.Sessions.{State, memory_of, keys_of, channel_after}
use Rattle.eid_chip.specs.Transitions.{state_by_kind, state_carried_out, state_later, state_refused, without_run}
use Rattle.eid_chip.specs.Endings.{Reacted}
use Rattle.eid_chip.specs.declared.session.Session.{Session}
use Rattle.eid_chip.specs.States.{state}
use Rattle.eid_chip.specs.Steps.{IsAnsweredByKind, state_left, state_due, outcome_seen, PlainRefusal, start_refused}

-- the state where the run has come to another step, one command later
abbrev pub moved : Option Kind → Phase → Authentication → State → State
moved next phase authentication old = record (state_later old) { next = next; phase = phase; authentication = authentication }

-- a reaction that carried the command out, and opened no channel
pub record WentOn (reaction : Reacted) (said : PlainReply) (old : State) (next : Option Kind) (phase : Phase) (authentication : Authentication) (reply : PlainReply)
    : Type 0 where
  pub rule : reaction.rule ≡ 0
  pub answered : said ≡ reply
  pub state : state_left reaction old.channel ≡ moved next phase authentication old

pub went_on : (reaction : Reacted) (said : PlainReply) (old : Session) (channel : Option ChannelState) (new : Session) (reply : PlainReply) → reaction.rule ≡ 0 → said ≡ reply → reaction.opened ≡ None → reaction.session ≡ new → old.memory ≡ new.memory
    → WentOn reaction said (state old channel) (state new channel).next (state new channel).phase (state new channel).authentication reply
went_on reaction said old channel new reply rule answer opened session memory = record {
  rule = rule;
  answered = answer;
  state = rw (rule, opened, session, memory) refl;
}

pub outcome_is : (rule : ℕ) (reply : PlainReply) (reaction : Reacted) (said : PlainReply) → reaction.rule ≡ rule → said ≡ reply → record { rule = rule; reply = reply } ≡ outcome_seen reaction said
outcome_is rule reply reaction said e f = cc

pub due : (kept : PlainRecord) (rule : ℕ) (kind : Kind) (c : PlainCommand) (given : List Answer) (old : State) → rule ≡ 0 → state_carried_out kept kind c given old ≡ state_due rule (state_by_kind kept rule kind c given old)
due kept rule kind c given old e = rw e refl

-- a body that has not the form of its step
pub record WasUnformed (reaction : Reacted) (said : PlainReply) (old : State) : Type 0 where
  pub rule : reaction.rule ≡ 10
  pub answered : said ≡ status_alone 0x6A80
  pub state : state_left reaction old.channel ≡ state_due 10 (state_refused old)

pub not_due : (kept : PlainRecord) (rule : ℕ) (kind : Kind) (c : PlainCommand) (given : List Answer) (old : State) → rule ≡ 10 → state_due 10 (state_refused old) ≡ state_due rule (state_by_kind kept rule kind c given old)
not_due kept rule kind c given old e = rw e refl

pub no_empty_body : (kept : FullRecord) (old : State) (c : PlainCommand) (reaction : Reacted) (said : PlainReply) → bytes_eq c.body no_data ≡ false → WasUnformed reaction said old → IsAnsweredByKind EncryptedNonce kept old c [] reaction said
no_empty_body kept old c reaction said body h = record {
  asked = rw body refl;
  ended = rw body (outcome_is 10 _ reaction said h.rule h.answered);
  left = h.state ∙ not_due kept.fields reaction.rule EncryptedNonce c [] old h.rule;
}

pub no_point_to_map : (kept : FullRecord) (old : State) (c : PlainCommand) (reaction : Reacted) (said : PlainReply) → holds_point 0x81 c.body ≡ false → WasUnformed reaction said old → IsAnsweredByKind MapNonce kept old c [] reaction said
no_point_to_map kept old c reaction said body h = record {
  asked = rw body refl;
  ended = rw body (outcome_is 10 _ reaction said h.rule h.answered);
  left = h.state ∙ not_due kept.fields reaction.rule MapNonce c [] old h.rule;
}

pub no_point_to_agree : (kept : FullRecord) (old : State) (c : PlainCommand) (reaction : Reacted) (said : PlainReply) → holds_point 0x83 c.body ≡ false → WasUnformed reaction said old → IsAnsweredByKind PerformKeyAgreement kept old c [] reaction said
no_point_to_agree kept old c reaction said body h = record {
  asked = rw body refl;
  ended = rw body (outcome_is 10 _ reaction said h.rule h.answered);
  left = h.state ∙ not_due kept.fields reaction.rule PerformKeyAgreement c [] old h.rule;
}

-- a selection that is chosen names a password
chosen_parts : (o : Option PlainSelection) (choice : PlainChoice) → Ok choice ≡ chosen_by o → (is_some o ≡ true) × (names_password o ≡ true)
chosen_parts None choice e = absurd cc
chosen_parts (Some s) choice e = (refl, at (password_named s.reference) e)
  where
    at : (o : Option Password) → Ok choice ≡ chosen_with s o → is_some o ≡ true
    at None e = absurd cc
    at (Some password) e = refl

pub selected : (kept : FullRecord) (old : State) (c : PlainCommand) (choice : PlainChoice) (reaction : Reacted) (said : PlainReply) → Ok choice ≡ chosen_by (selection_in c.body) → WentOn reaction said old (Some EncryptedNonce) (Chose choice) NotBegun (status_alone (select_status kept.fields choice.password)) → IsAnsweredByKind SelectPace kept old c [] reaction said
unfolding entered claimed
selected kept old c choice reaction said e h =
    let parts = chosen_parts (selection_in c.body) choice e in
    let phase : Chose choice ≡ as_chosen (result_ok (chosen_by (selection_in c.body))) = ap (λ (r : Result PlainChoice ℕ). as_chosen (result_ok r)) e in
    record {
      asked = rw (parts.0, parts.1) refl;
      ended = rw (parts.0, parts.1) (ap (λ (r : Result PlainChoice ℕ). record { rule = 0; reply = select_reply kept.fields (result_ok r) }) (sym e)
          ∙ outcome_is 0 (status_alone (select_status kept.fields choice.password)) reaction said h.rule h.answered);
      left = h.state ∙ ap (λ (p : Phase). moved (Some EncryptedNonce) p NotBegun old) phase ∙ due kept.fields reaction.rule SelectPace c [] old h.rule;
    }

pub both : {A B E : Type 0} (x a : A) (y b : B) → ◌≡◌ {A = Result (A × B) E} (Ok (x, y)) (Ok (a, b)) → (x ≡ a) × (y ≡ b)
both {A = A} {B = B} x a y b e =
    let pair : ◌≡◌ {A = A × B} (x, y) (a, b) = cc in
    (ap (λ (p : A × B). p.0) pair, ap (λ (p : A × B). p.1) pair)

-- ---- the start with the PIN

-- the rules on the start of PACE hold
StartsWell : Password → PlainRecord → Bool → Type 0
StartsWell password kept by_can =
    ((not (is_pin password) || kept.active) ≡ true) × ((not (is_pin password) || has_try kept) ≡ true) × ((not (is_pin password) || is_resumed kept by_can) ≡ true)

pub three_hold : (a b c : Bool) → (if not a then Some active_rule else if not b then Some try_rule else if not c then Some resumed_rule else None) ≡ None → (a ≡ true) × (b ≡ true) × (c ≡ true)
three_hold false b c e = absurd (cc)
three_hold true false c e = absurd (cc)
three_hold true true false e = absurd (cc)
three_hold true true true e = (refl, refl, refl)

starts_well : (password : Password) (kept : PlainRecord) (by_can : Bool) → start_refusal kept password by_can ≡ None → StartsWell password kept by_can
unfolding StartsWell
starts_well Can kept by_can e = (refl, refl, refl)
starts_well Pin kept by_can e = three_hold kept.active (has_try kept) (is_resumed kept by_can) e
starts_well Puk kept by_can e = (refl, refl, refl)

-- a reaction that refused the command
pub record WasRefused (reaction : Reacted) (said : PlainReply) (old : State) (refused : PlainRefusal) : Type 0 where
  pub rule : reaction.rule ≡ refused.rule
  pub answered : said ≡ status_alone refused.status
  pub state : state_left reaction old.channel ≡ state_due refused.rule (state_refused old)

-- a refusal does not tell where the run stood
pub idle_refused : (rule n : ℕ) (s idle : Session) (channel : Option ChannelState) → rule ≡ n → idle.memory ≡ s.memory → state_due rule (state_refused (state idle channel)) ≡ state_due n (state_refused (state s channel))
idle_refused rule n s idle channel e same = rw (e, same) refl

pub not_due_by : (kept : PlainRecord) (rule n : ℕ) (kind : Kind) (c : PlainCommand) (given : List Answer) (old : State) → rule ≡ n → (n == 0) ≡ false → state_due n (state_refused old) ≡ state_due rule (state_by_kind kept rule kind c given old)
not_due_by kept rule n kind c given old e is_one = rw (e, is_one) refl

-- the start is refused by one of the rules on it
start_failed : (a b c : Bool) (n : ℕ) (kept : FullRecord) (old : State) (command : PlainCommand) (choice : PlainChoice) (reaction : Reacted) (said : PlainReply)
    → (if not a then Some active_rule else if not b then Some try_rule else if not c then Some resumed_rule else None) ≡ Some n
    → kept.fields.active ≡ a → has_try kept.fields ≡ b → is_resumed kept.fields (was_with is_can old.pace) ≡ c → choice.password ≡ Pin
    → old.phase ≡ Chose choice → bytes_eq command.body no_data ≡ true → WasRefused reaction said old (start_refused n) → IsAnsweredByKind EncryptedNonce kept old command [] reaction said
start_failed false b c n kept old command choice reaction said e a_is b_is c_is pin at body h =
    let same : n ≡ active_rule = cc in
    let was : WasRefused reaction said old (start_refused active_rule) = rw same at h in
    record {
      asked = rw (body, at, pin, a_is) refl;
      ended = rw (body, at, pin, a_is) (outcome_is active_rule _ reaction said was.rule was.answered);
      left = was.state ∙ not_due_by kept.fields reaction.rule active_rule EncryptedNonce command [] old was.rule refl;
    }
start_failed true false c n kept old command choice reaction said e a_is b_is c_is pin at body h =
    let same : n ≡ try_rule = cc in
    let was : WasRefused reaction said old (start_refused try_rule) = rw same at h in
    record {
      asked = rw (body, at, pin, a_is, b_is) refl;
      ended = rw (body, at, pin, a_is, b_is) (outcome_is try_rule _ reaction said was.rule was.answered);
      left = was.state ∙ not_due_by kept.fields reaction.rule try_rule EncryptedNonce command [] old was.rule refl;
    }
start_failed true true false n kept old command choice reaction said e a_is b_is c_is pin at body h =
    let same : n ≡ resumed_rule = cc in
    let was : WasRefused reaction said old (start_refused resumed_rule) = rw same at h in
    record {
      asked = rw (body, at, pin, a_is, b_is, c_is) refl;
      ended = rw (body, at, pin, a_is, b_is, c_is) (outcome_is resumed_rule _ reaction said was.rule was.answered);
      left = was.state ∙ not_due_by kept.fields reaction.rule resumed_rule EncryptedNonce command [] old was.rule refl;
    }
start_failed true true true n kept old command choice reaction said e a_is b_is c_is pin at body h = absurd (cc)

start_refused_by : (password : Password) (n : ℕ) (kept : FullRecord) (old : State) (command : PlainCommand) (choice : PlainChoice) (reaction : Reacted) (said : PlainReply)
    → start_refusal kept.fields password (was_with is_can old.pace) ≡ Some n → choice.password ≡ password
    → old.phase ≡ Chose choice → bytes_eq command.body no_data ≡ true → WasRefused reaction said old (start_refused n) → IsAnsweredByKind EncryptedNonce kept old command [] reaction said
start_refused_by Can n kept old command choice reaction said e is at body h = absurd (cc)
start_refused_by Pin n kept old command choice reaction said e is at body h =
    start_failed kept.fields.active (has_try kept.fields) (is_resumed kept.fields (was_with is_can old.pace)) n kept old command choice reaction said e refl refl refl is at body h
start_refused_by Puk n kept old command choice reaction said e is at body h = absurd (cc)

-- the nonce met a fault
fault_drawn : (kept : FullRecord) (old : State) (c : PlainCommand) (choice : PlainChoice) (reaction : Reacted) (said : PlainReply) → old.phase ≡ Chose choice → bytes_eq c.body no_data ≡ true → StartsWell choice.password kept.fields (was_with is_can old.pace)
    → WasRefused reaction said old (start_refused 50) → IsAnsweredByKind EncryptedNonce kept old c (nonce_ask answers.Fault ∷ []) reaction said
unfolding StartsWell
fault_drawn kept old c choice reaction said at body well was = record {
  asked = (rw (body, at, well.0, well.1, well.2) refl, refl, rw (body, at, well.0, well.1, well.2) refl);
  ended = rw (body, at, well.0, well.1, well.2) (outcome_is 50 _ reaction said was.rule was.answered);
  left = was.state ∙ not_due_by kept.fields reaction.rule 50 EncryptedNonce c (answers.Fault ∷ []) old was.rule refl;
}

-- it may not start, or the nonce met a fault
pub nonce_refused : (kept : FullRecord) (old : State) (c : PlainCommand) (choice : PlainChoice) (digits : List ℕ) (refusal : Option ℕ) (end : NonceEnd refusal) (rule : ℕ) (reaction : Reacted) (said : PlainReply)
    → old.phase ≡ Chose choice → bytes_eq c.body no_data ≡ true → refusal ≡ start_refusal kept.fields choice.password (was_with is_can old.pace)
    → ◌≡◌ {A = Result (PlainNonceSent × List ℕ) ℕ} (Err rule) (nonce_given choice digits refusal end) → WasRefused reaction said old (start_refused rule) → IsAnsweredByKind EncryptedNonce kept old c (nonce_asks refusal end) reaction said
nonce_refused kept old c choice digits refusal (NotStarted n is) rule reaction said at body by e h =
    let same : rule ≡ n = cc in
    start_refused_by choice.password n kept old c choice reaction said (sym by ∙ is) refl at body (rw same at h)
nonce_refused kept old c choice digits refusal (NoNonce may) rule reaction said at body by e h =
    let same : rule ≡ 50 = cc in
    let was : WasRefused reaction said old (start_refused 50) = rw same at h in
    let well = starts_well choice.password kept.fields (was_with is_can old.pace) (sym by ∙ may) in
    fault_drawn kept old c choice reaction said at body well was
nonce_refused kept old c choice digits refusal (Drawn nonce may) rule reaction said at body by e h = absurd (cc)

-- a nonce was drawn, and sent
pub nonce_sent : (kept : FullRecord) (old : State) (c : PlainCommand) (choice : PlainChoice) (refusal : Option ℕ) (end : NonceEnd refusal) (sent : PlainNonceSent) (bytes : List ℕ) (reaction : Reacted) (said : PlainReply)
    → old.phase ≡ Chose choice → bytes_eq c.body no_data ≡ true → refusal ≡ start_refusal kept.fields choice.password (was_with is_can old.pace)
    → Ok (sent, bytes) ≡ nonce_given choice (digits_of kept.fields choice.password) refusal end → WentOn reaction said old (Some MapNonce) (SentNonce sent) NotBegun (data_alone (authentication_data 0x80 bytes))
    → IsAnsweredByKind EncryptedNonce kept old c (nonce_asks refusal end) reaction said
unfolding entered claimed StartsWell
nonce_sent kept old c choice refusal (NotStarted n is) sent bytes reaction said at body by e h = absurd cc
nonce_sent kept old c choice refusal (NoNonce may) sent bytes reaction said at body by e h = absurd cc
nonce_sent kept old c choice refusal (Drawn nonce may) sent bytes reaction said at body by e h =
    let parts = both sent (record { choice = choice; nonce = nonce }) bytes (encrypted_nonce (digits_of kept.fields choice.password) nonce) e in
    let well = starts_well choice.password kept.fields (was_with is_can old.pace) (sym by ∙ may) in
    let phase : SentNonce sent ≡ with_nonce (answers.Nonce nonce ∷ []) old.phase = rw (at, parts.0) refl in
    record {
      asked = (rw (body, at, well.0, well.1, well.2) refl, refl, rw (body, at, well.0, well.1, well.2) refl);
      ended = rw (body, at, well.0, well.1, well.2) (outcome_is 0 _ reaction said h.rule (h.answered ∙ ap (λ (b : List ℕ). data_alone (authentication_data 0x80 b)) parts.1));
      left = h.state ∙ ap (λ (p : Phase). moved (Some MapNonce) p NotBegun old) phase ∙ due kept.fields reaction.rule EncryptedNonce c (answers.Nonce nonce ∷ []) old h.rule;
    }

-- a pair was drawn, and the nonce mapped to a base
pub mapped_to : (kept : FullRecord) (old : State) (c : PlainCommand) (sent : PlainNonceSent) (peer : List ℕ) (end : MapEnd) (mapped : PlainMapped) (public : List ℕ) (reaction : Reacted) (said : PlainReply) → old.phase ≡ SentNonce sent → peer ≡ data_in c.body → holds_point 0x81 c.body ≡ true → Ok (mapped, public) ≡ map_given sent end → WentOn reaction said old (Some PerformKeyAgreement) (HasBase mapped) NotBegun (data_alone (authentication_data 0x82 public)) → IsAnsweredByKind MapNonce kept old c (map_asks sent peer end) reaction said
unfolding entered claimed
mapped_to kept old c sent peer NoPair mapped public reaction said at is body e h = absurd cc
mapped_to kept old c sent peer (NoMapping secret own) mapped public reaction said at is body e h = absurd cc
mapped_to kept old c sent peer (NoBase secret own) mapped public reaction said at is body e h = absurd cc
mapped_to kept old c sent peer (Based secret own base) mapped public reaction said at is body e h =
    let parts = both mapped (record { choice = sent.choice; base = base }) public own e in
    let given : List Answer = answers.Pair secret own ∷ answers.Mapped base ∷ [] in
    let phase : HasBase mapped ≡ with_base given old.phase = rw (at, parts.0) refl in
    record {
      asked = (rw (body, at) refl, refl, (rw (body, at, is) refl, refl, rw (body, at) refl));
      ended = rw body (outcome_is 0 _ reaction said h.rule (h.answered ∙ ap (λ (b : List ℕ). data_alone (authentication_data 0x82 b)) parts.1));
      left = h.state ∙ ap (λ (p : Phase). moved (Some PerformKeyAgreement) p NotBegun old) phase ∙ due kept.fields reaction.rule MapNonce c given old h.rule;
    }

-- a pair was drawn over the base, and a secret agreed
pub agreed_on : (kept : FullRecord) (old : State) (c : PlainCommand) (mapped : PlainMapped) (peer : List ℕ) (end : AgreeEnd peer) (agreed : PlainAgreed) (public : List ℕ) (reaction : Reacted) (said : PlainReply) → old.phase ≡ HasBase mapped → peer ≡ data_in c.body → holds_point 0x83 c.body ≡ true → Ok (agreed, public) ≡ agree_given mapped peer end → WentOn reaction said old (Some MutualAuthentication) (HasSecret agreed) NotBegun (data_alone (authentication_data 0x84 public)) → IsAnsweredByKind PerformKeyAgreement kept old c (agree_asks mapped peer end) reaction said
unfolding entered claimed
agreed_on kept old c mapped peer agree.NoPair agreed public reaction said at is body e h = absurd cc
agreed_on kept old c mapped peer (agree.SamePoint secret own same) agreed public reaction said at is body e h = absurd cc
agreed_on kept old c mapped peer (agree.NoAgreement secret own other) agreed public reaction said at is body e h = absurd cc
agreed_on kept old c mapped peer (agree.NoSecret secret own other) agreed public reaction said at is body e h = absurd cc
agreed_on kept old c mapped peer (agree.Shared secret own shared other) agreed public reaction said at is body e h =
    let parts = both agreed (record { choice = mapped.choice; chip_point = own; terminal_point = peer; shared = shared }) public own e in
    let given : List Answer = answers.Pair secret own ∷ answers.Shared shared ∷ [] in
    let phase : HasSecret agreed ≡ with_secret (data_in c.body) given old.phase = rw (at, parts.0, is) refl in
    record {
      asked = (rw (body, at) refl, refl, (rw (body, at, ← is, other) refl, refl, rw (body, at, ← is, other) refl));
      ended = rw (body, ← is, other) (outcome_is 0 _ reaction said h.rule (h.answered ∙ ap (λ (b : List ℕ). data_alone (authentication_data 0x84 b)) parts.1));
      left = h.state ∙ ap (λ (p : Phase). moved (Some MutualAuthentication) p NotBegun old) phase ∙ due kept.fields reaction.rule PerformKeyAgreement c given old h.rule;
    }

pub token_parts : (b : Bool) (done given : PlainDone) (own sent : List ℕ) (rule : ℕ) → ◌≡◌ {A = Result (PlainDone × List ℕ) ℕ} (Ok (done, own)) (if b then Ok (given, sent) else Err rule) → (b ≡ true) × (done ≡ given) × (own ≡ sent)
token_parts true done given own sent rule e = let parts = both done given own sent e in (refl, parts.0, parts.1)
token_parts false done given own sent rule e = absurd cc

-- what the last reply holds
abbrev pub last_data : FullRecord → List ℕ → List ℕ
last_data kept own = object 0x7C (object 0x86 own ++ object 0x87 kept.fields.current.name ++ previous_name kept.fields.previous)

-- the terminal's token was right, and a channel was opened
pub authenticated : (kept : FullRecord) (old : State) (c : PlainCommand) (agreed : PlainAgreed) (sent : List ℕ) (done : PlainDone) (own : List ℕ) (reaction : Reacted) (said : PlainReply) → old.phase ≡ HasSecret agreed → sent ≡ data_in c.body → holds_value 0x85 8 c.body ≡ true → Ok (done, own) ≡ check_given agreed sent → reaction.rule ≡ 0 → said ≡ data_alone (last_data kept own)
    → is_pin agreed.choice.password ≡ false
    → state_left reaction old.channel ≡ record (without_run old) { pace = Some (memory_of done); certificates = no_chain; terminal = None; chip_proven = false; channel = Some (channel_after 0 (keys_of done)) }
    → IsAnsweredByKind MutualAuthentication kept old c [] reaction said
unfolding entered claimed
authenticated kept old c agreed sent done own reaction said at is body e rule answer other left =
    let parts = token_parts (bytes_eq sent (terminal_token agreed)) done (done_by agreed) own (chip_token agreed) token_rule e in
    let right : bytes_eq (data_in c.body) (terminal_token agreed) ≡ true = rw (← is) parts.0 in
    record {
      asked = rw body refl;
      ended = rw (body, at, right, other) (outcome_is 0 _ reaction said rule (answer ∙ ap (λ (o : List ℕ). data_alone (last_data kept o)) parts.2));
      left = left ∙ rw (rule, at, parts.1) refl;
    }

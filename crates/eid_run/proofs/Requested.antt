-- The requests of a session that goes to its end, one after the other: each is answered as promised.
use Rattle.std.proofs.Common.{◌≡◌, ℕ, ◌+◌, ◌-◌, ◌*◌, ◌≤◌, Bool, true, false, ◌==◌, ◌&&◌, not, List, [], ◌∷◌, ◌++◌, length, drop, Option, Some, None, refl, sym, ap, ◌∙◌, subst, arith, length-append}
use Rattle.std.specs.Prelude.{if◌then◌else◌, is_some, nat_le, nat_lt, option_map, slice_index_or, unwrap_or, IfSome, IsSome}
use Rattle.std.proofs.lemmas.Bool.{eqb-true}
use Rattle.std.proofs.lemmas.Bool.Decides.{nat_tests}
use Rattle.std.proofs.lemmas.List.{append-nil}
use Rattle.std.specs.List.{All}
use Rattle.eid_bits.specs.Identifiers.{known_bytes}
use Rattle.eid_bits.specs.declared.identifier.Known.{Known}
use Rattle.eid_bits.specs.declared.identifier.Known.TheVariants as known
use Rattle.eid_copro.specs.Model.{agreement}
use Rattle.eid_copro.specs.declared.ask.Answer.TheVariants as answers
use Rattle.eid_copro.specs.declared.ask.Question.TheVariants as questions
use Rattle.eid_cvc.specs.PublicKeys.{no_domain, parameters, public_key, token_object}
use Rattle.eid_ri.specs.Identifiers.{identifier}
use Rattle.eid_ri.specs.SectorKeys.{AreSectorKeys, IsSectorKey, PlainSectorKey, PlainSectorKeys}
use Rattle.eid_ri.specs.SectorKeysIn.{sector_keys_in}
use Rattle.eid_ri.proofs.SectorKeyFacts.{sector_keys_in-exact}
use Rattle.eid_tlv.specs.Objects.{length_bytes, object, tag_bytes}
use Rattle.eid_model.specs.Auxiliary.{compared_sent, compared_to, comparison_in, reference_file, sent_in_aux}
use Rattle.eid_model.specs.Bodies as bodies
use Rattle.eid_model.specs.Legal.{AreAsked}
use Rattle.eid_model.specs.Sectors.{are_its_sectors}
use Rattle.eid_model.specs.declared.comparison.Comparison.{Comparison}
use Rattle.eid_model.specs.declared.comparison.Comparison.TheVariants as comparisons
use Rattle.eid_chip.proofs.Bodies.{object_fits}
use Rattle.eid_terminal.proofs.Sizes.{short_identifier}
use Rattle.eid_terminal.specs.Exchanges.{exchange}
use Rattle.eid_terminal.specs.Replies as replies
use Rattle.eid_terminal.specs.Requests.{after_command, after_identification, after_protocol, command_for, giving, lacks_identifier, last_step, requests, sector_of}
use Rattle.eid_terminal.specs.declared.action.Step.{Step}
use Rattle.eid_terminal.specs.declared.plan.Request.{Request}
use Rattle.eid_terminal.specs.declared.plan.Request.TheVariants.{Age, Community, File, Ri, Validity}
use Rattle.sha2.proofs.Facts256.{length-sha256}
use Rattle.eid_run.proofs.Given.{first_ask, shared_given}
use Rattle.eid_run.proofs.Going.{IsGiven}
use Rattle.eid_run.proofs.Hearing.{value_found}
use Rattle.eid_apdu.specs.Answer.{PlainReply}
use Rattle.eid_apdu.specs.Command.{PlainCommand}
use Rattle.eid_copro.specs.declared.ask.Ask.{Ask}
use Rattle.eid_copro.specs.declared.ask.Answer.{Answer}
use Rattle.eid_copro.specs.declared.ask.Question.{Question}
use Rattle.eid_cvc.specs.Chains.{PlainAux, PlainChain, PlainTerminalKnown, no_chain}
use Rattle.eid_record.specs.Plain.{FullRecord}
use Rattle.eid_record.specs.declared.fields.Password.{Password}
use Rattle.eid_sm.specs.Keys.{ChannelState}
use Rattle.eid_model.proofs.Books.{nothing_due_by}
use Rattle.eid_model.specs.Answers.{Outcome, data_alone, outcome_by, outcome_of, question_by, question_of, read_reply, status_alone, success}
use Rattle.eid_model.specs.Kinds.{is_by_short, step_after}
use Rattle.eid_model.specs.Moments.{ends_session_by}
use Rattle.eid_model.specs.Rules.{AGE_VERIFICATION, COMMUNITY_VERIFICATION, RESTRICTED_IDENTIFICATION, RuleRow, Situation, answer_rules, bytes_of_file, commit_rules, concerns, file_meant, first_failed, group_of, is_by_holder, is_granted, kind_rules, may_compare, proof_rules, reading, to_commit}
use Rattle.eid_model.specs.Runs.{answers_of}
use Rattle.eid_model.specs.Sessions.{PaceMemory, State, unchained}
use Rattle.eid_model.specs.declared.kind.Kind.{Kind}
use Rattle.eid_model.specs.declared.kind.Kind.TheVariants.{PerformRestrictedIdentification, ReadBinary, SelectRestrictedIdentification, VerifyAuxiliary}
use Rattle.eid_chip.specs.Steps.{known}
use Rattle.eid_chip.specs.Transitions.{state_carried_out, state_refused, two_messages_later}
use Rattle.eid_terminal.specs.Commands.{authentication_data, identify, read, select_restricted_identification, verification, verify}
use Rattle.eid_terminal.specs.Courses.{Course, Ends, Gives}
use Rattle.eid_terminal.specs.Plans.{CanAllBeAsked, CanBeAsked, IsUncompressed, PlainPlan}
use Rattle.eid_run.specs.Conversations.{Result, Told}
use Rattle.eid_run.specs.Promised.{asked_outcome, asked_rules, asked_with, asking, aux_of, pace_of, promised_reply, promised_results, terminal_of}
use Rattle.eid_run.proofs.Along.{AtCourse, IsHandledSo, Way, carried_on, ended_so, given_so, handled_so, refused_on}
use Rattle.eid_run.proofs.Proven.{selection_named, selection_size}
use Rattle.eid_run.proofs.Stepping.{HasSize, none_asked}
use Rattle.eid_run.proofs.Turns.{IsOfKind, due_then, outcome_at}

-- ---- who asks

-- both are none, or both are terminals that sent the same data to be compared
abbrev pub SameAux : Option PlainTerminalKnown → Option PlainTerminalKnown → Type 0
SameAux None None = Unit {0}
SameAux None (Some other) = ⊥
SameAux (Some terminal) None = ⊥
SameAux (Some terminal) (Some other) = terminal.aux ≡ other.aux

-- the session agrees with the one of whom the requests are promised, in what the rules on requests look at
pub record IsAsking (plan : PlainPlan) (chain : Option PlainChain) (s : State) : Type 0 where
  pub memory : PaceMemory
  pub pace : s.pace ≡ Some memory
  pub password : memory.password ≡ plan.password
  pub template : memory.template ≡ plan.template
  pub certificates : s.certificates ≡ (asking plan chain).certificates
  pub terminal : SameAux s.terminal (asking plan chain).terminal
  pub chip_proven : s.chip_proven ≡ (asking plan chain).chip_proven
  pub selected : s.selected ≡ (asking plan chain).selected

-- such a session, with what agrees written out
abbrev standing : PlainPlan → Option PlainChain → (identity : List ℕ) → PlainTerminalKnown → State → State
standing plan None identity known s = record (unchained s) {
  pace = Some (record (pace_of plan) { identity = identity });
  certificates = no_chain;
  terminal = None;
  chip_proven = false;
  selected = false;
}
standing plan (Some chain) identity known s = record (unchained s) {
  pace = Some (record (pace_of plan) { identity = identity });
  certificates = chain;
  terminal = Some (record known { aux = aux_of plan });
  chip_proven = true;
  selected = true;
}

-- a session that is written out so
record StandsSo (plan : PlainPlan) (chain : Option PlainChain) (s : State) : Type 0 where
  identity : List ℕ
  known : PlainTerminalKnown
  is : unchained s ≡ standing plan chain identity known s

-- where no terminal is expected there is none
no_terminal : (terminal : Option PlainTerminalKnown) → SameAux terminal None → terminal ≡ None
no_terminal None same = refl
no_terminal (Some terminal) same = absurd same

-- a terminal that sent the same data to be compared as another one
record IsLike (terminal : Option PlainTerminalKnown) (other : PlainTerminalKnown) : Type 0 where
  known : PlainTerminalKnown
  is : terminal ≡ Some (record known { aux = other.aux })

-- where a terminal is expected there is one, with the same data
like_terminal : (terminal : Option PlainTerminalKnown) (other : PlainTerminalKnown) → SameAux terminal (Some other) → IsLike terminal other
like_terminal None other same = absurd same
like_terminal (Some terminal) other same = record {
  known = terminal;
  is = ap (λ (a : PlainAux). Some (record terminal { aux = a })) same;
}

-- the last PACE, by the plan
paced_so : (plan : PlainPlan) (chain : Option PlainChain) (s : State) → (is : IsAsking plan chain s) → s.pace ≡ Some (record (pace_of plan) { identity = is.memory.identity })
paced_so plan chain s is =
    is.pace
    ∙ ap (λ (p : Password). Some (record is.memory { password = p })) is.password
    ∙ ap (λ (t : Option (List ℕ)). Some (record is.memory { password = plan.password; template = t })) is.template

-- what requests look at can be written out
all_written : (s : State) (pace : Option PaceMemory) (certificates : PlainChain) (terminal : Option PlainTerminalKnown) (chip selected : Bool)
    → s.pace ≡ pace → s.certificates ≡ certificates → s.terminal ≡ terminal → s.chip_proven ≡ chip → s.selected ≡ selected
    → unchained s ≡ record (unchained s) { pace = pace; certificates = certificates; terminal = terminal; chip_proven = chip; selected = selected }
all_written s pace certificates terminal chip selected p c t h a =
    ap (λ (x : Option PaceMemory). record (unchained s) { pace = x }) p
    ∙ ap (λ (x : PlainChain). record (unchained s) { pace = pace; certificates = x }) c
    ∙ ap (λ (x : Option PlainTerminalKnown). record (unchained s) { pace = pace; certificates = certificates; terminal = x }) t
    ∙ ap (λ (x : Bool). record (unchained s) { pace = pace; certificates = certificates; terminal = terminal; chip_proven = x }) h
    ∙ ap (λ (x : Bool). record (unchained s) { pace = pace; certificates = certificates; terminal = terminal; chip_proven = chip; selected = x }) a

-- a session that agrees can be written out
stands_so : (plan : PlainPlan) (chain : Option PlainChain) (s : State) → IsAsking plan chain s → StandsSo plan chain s
stands_so plan None s is = record {
  identity = is.memory.identity;
  known = terminal_of plan;
  is = all_written s _ _ _ _ _ (paced_so plan None s is) is.certificates (no_terminal s.terminal is.terminal) is.chip_proven is.selected;
}
stands_so plan (Some chain) s is =
    let like = like_terminal s.terminal (terminal_of plan) is.terminal in
    record {
      identity = is.memory.identity;
      known = like.known;
      is = all_written s _ _ _ _ _ (paced_so plan (Some chain) s is) is.certificates like.is is.chip_proven is.selected;
    }

-- the rights are those of the one of whom the requests are promised
holder_alike : (plan : PlainPlan) (chain : PlainChain) (identity : List ℕ) (terminal : PlainTerminalKnown) (s : State) → is_by_holder (standing plan (Some chain) identity terminal s) ≡ is_by_holder (asking plan (Some chain))
unfolding is_by_holder is_granted
holder_alike plan chain identity terminal s = refl

-- each right is granted, or it is not, to both
granted_alike : (plan : PlainPlan) (chain : PlainChain) (identity : List ℕ) (terminal : PlainTerminalKnown) (s : State) (bit : ℕ) → is_granted (standing plan (Some chain) identity terminal s) bit ≡ is_granted (asking plan (Some chain)) bit
unfolding is_granted
granted_alike plan chain identity terminal s bit = refl

-- and so each comparison
may_compare_alike : (plan : PlainPlan) (chain : PlainChain) (identity : List ℕ) (terminal : PlainTerminalKnown) (s : State) (comparison : Comparison) → may_compare (standing plan (Some chain) identity terminal s) (Some comparison) ≡ may_compare (asking plan (Some chain)) (Some comparison)
may_compare_alike plan chain identity terminal s comparisons.Age = granted_alike plan chain identity terminal s AGE_VERIFICATION
may_compare_alike plan chain identity terminal s comparisons.Validity = refl
may_compare_alike plan chain identity terminal s comparisons.Community = granted_alike plan chain identity terminal s COMMUNITY_VERIFICATION

-- ---- a command of a request

-- a choice between the same
if_same : {A : Type 0} (b : Bool) (x : A) → (if b then x else x) ≡ x
if_same true x = refl
if_same false x = refl

-- a kind without questions asks none
unasked : (rows : List RuleRow) (s : Situation) → question_of s.kind s ≡ None → question_by rows s ≡ None
unasked rows s none = rw none (if_same _ None)

-- so the chip put no question
not_asked : (w : Way) (full : FullRecord) (s : State) (kind : Kind) (c : PlainCommand) (later : Option ChannelState → PlainReply → Course) (told : List Told) → (did : IsHandledSo w full s kind c later told)
    → question_of (Some kind) (known kind full (unchained s) c []) ≡ None → did.asks ≡ []
not_asked w full s kind c later told did none =
    none_asked (λ given. question_by kind_rules (known kind full (unchained s) c given)) [] did.asks did.asked (unasked kind_rules (known kind full (unchained s) c []) none)

-- how a situation is answered by these rules, the first failed one foremost
abbrev answer_by : List RuleRow → Situation → Outcome
answer_by [] s = record { rule = 0; reply = success s.kind s }
answer_by (row ∷ rows) s =
    if concerns row.kinds s.kind && not (row.holds s) then record { rule = row.number; reply = status_alone (row.status s) } else answer_by rows s

-- one rule more
answered_at : (b : Bool) (row : RuleRow) (rows : List RuleRow) (s : Situation) → outcome_by (first_failed rows s) s ≡ answer_by rows s
    → outcome_by (if b then Some row else first_failed rows s) s ≡ (if b then record { rule = row.number; reply = status_alone (row.status s) } else answer_by rows s)
answered_at true row rows s later = refl
answered_at false row rows s later = later

-- the outcome is that of the first rule that fails
answered_by : (rows : List RuleRow) (s : Situation) → outcome_by (first_failed rows s) s ≡ answer_by rows s
answered_by [] s = refl
answered_by (row ∷ rows) s = answered_at (concerns row.kinds s.kind && not (row.holds s)) row rows s (answered_by rows s)

-- the rules on a command whose kind is known
abbrev all_rules : List RuleRow
all_rules = kind_rules ++ answer_rules ++ commit_rules ++ proof_rules

-- two situations that are answered alike by these rules have one outcome
one_outcome : (kind : Kind) (full kept : FullRecord) (s t : State) (c : PlainCommand) (given : List Answer)
    → answer_by all_rules (known kind full s c given) ≡ answer_by asked_rules (asked_with kind kept t c given) → outcome_of kind_rules (known kind full s c given) ≡ asked_outcome kind kept t c given
one_outcome kind full kept s t c given alike =
    answered_by all_rules (known kind full s c given) ∙ alike ∙ sym (answered_by asked_rules (asked_with kind kept t c given))

-- none of the rules on requests ends a session
AreStaying : List RuleRow → Type 0
AreStaying [] = Unit {0}
AreStaying (row ∷ rows) = (ends_session_by row.number ≡ false) × AreStaying rows

-- one rule more ends no session either
stays_at : (b : Bool) (row : RuleRow) (rows : List RuleRow) (s : Situation) → ends_session_by row.number ≡ false → ends_session_by (outcome_by (first_failed rows s) s).rule ≡ false
    → ends_session_by (outcome_by (if b then Some row else first_failed rows s) s).rule ≡ false
stays_at true row rows s here later = here
stays_at false row rows s here later = later

-- rules that end no session are answered so
staying : (rows : List RuleRow) (s : Situation) → AreStaying rows → ends_session_by (outcome_by (first_failed rows s) s).rule ≡ false
unfolding AreStaying
staying [] s are = refl
staying (row ∷ rows) s are = stays_at (concerns row.kinds s.kind && not (row.holds s)) row rows s are.0 (staying rows s are.1)

-- no command of a request ends the session
stays : (kind : Kind) (kept : FullRecord) (s : State) (c : PlainCommand) (answers : List Answer) → ends_session_by (asked_outcome kind kept s c answers).rule ≡ false
unfolding AreStaying
stays kind kept s c answers = staying asked_rules (asked_with kind kept s c answers) (refl, (refl, (refl, (refl, (refl, (refl, (refl, (refl, (refl, (refl, (refl, _)))))))))))

-- A command of this kind had this outcome: the session goes on with its reply, and still agrees; where it was carried out, the
-- next step is this.
pub record IsAnsweredOn (w : Way) (full : FullRecord) (plan : PlainPlan) (chain : Option PlainChain) (kind : Kind) (o : Outcome) (later : Option ChannelState → PlainReply → Course) (told : List Told) : Type 0 where
  pub new : State
  pub agrees : IsAsking plan chain new
  pub next : (o.rule == 0) ≡ true → new.next ≡ step_after kind
  pub goes : AtCourse w full (unchained new) (later new.channel o.reply) told

-- a refused command changes nothing that requests look at
refused_agrees : (plan : PlainPlan) (chain : Option PlainChain) (s : State) → IsAsking plan chain s → IsAsking plan chain (state_refused (unchained s))
refused_agrees plan chain s is = record {
  memory = is.memory;
  pace = is.pace;
  password = is.password;
  template = is.template;
  certificates = is.certificates;
  terminal = is.terminal;
  chip_proven = is.chip_proven;
  selected = is.selected;
}

-- a kind commits nothing, opens no channel, and changes nothing that requests look at
record IsCalm (kind : Kind) : Type 0 where
  commits : (s : Situation) → to_commit (Some kind) s ≡ []
  channel : (full : FullRecord) (c : PlainCommand) (answers : List Answer) (s : State) → (state_carried_out full.fields kind c answers (unchained s)).channel ≡ option_map two_messages_later s.channel
  agrees : (plan : PlainPlan) (chain : Option PlainChain) (full : FullRecord) (c : PlainCommand) (answers : List Answer) (s : State) → IsAsking plan chain s → IsAsking plan chain (state_carried_out full.fields kind c answers (unchained s))

-- such a command was handled: the session goes on
answered_on : (w : Way) (full : FullRecord) (s : State) (plan : PlainPlan) (chain : Option PlainChain) (kind : Kind) (c : PlainCommand) (later : Option ChannelState → PlainReply → Course) (told : List Told) (o : Outcome)
    → (did : IsHandledSo w full s kind c later told) → IsAsking plan chain s → IsCalm kind → outcome_at kind full (unchained s) c did.asks ≡ o → ends_session_by o.rule ≡ false
    → IsAnsweredOn w full plan chain kind o later told
answered_on w full s plan chain kind c later told o did is calm outcome_is stays = by (o.rule == 0) refl where
  none_due : due_then kind full (unchained s) c did.asks ≡ []
  none_due = nothing_due_by kind_rules (known kind full (unchained s) c (answers_of did.asks)) (calm.commits (known kind full (unchained s) c (answers_of did.asks)))

  by : (b : Bool) → (o.rule == 0) ≡ b → IsAnsweredOn w full plan chain kind o later told
  by true e = record {
    new = state_carried_out full.fields kind c (answers_of did.asks) (unchained s);
    agrees = calm.agrees plan chain full c (answers_of did.asks) s is;
    next = λ done. refl;
    goes = carried_on w full s (state_carried_out full.fields kind c (answers_of did.asks) (unchained s)) kind c later told o.reply [] did
        (outcome_is ∙ ap (λ (n : ℕ). record { rule = n; reply = o.reply }) (eqb-true o.rule 0 e)) none_due refl (calm.channel full c (answers_of did.asks) s);
  }
  by false e = record {
    new = state_refused (unchained s);
    agrees = refused_agrees plan chain s is;
    next = λ done. absurd (cc);
    goes = refused_on w full s kind c later told o.rule o.reply did outcome_is none_due e stays;
  }

-- ---- READ BINARY of a data group

-- the command is one by short identifier
by_short : (number : ℕ) → nat_le 0x80 (0x80 + number) ≡ true
by_short number = grind (arith, nat_tests)

-- its parameters are those of READ BINARY
parameters_below : (number : ℕ) → number ≤ 21 → nat_lt (256 * (0x80 + number) + 0x00) 0xA000 ≡ true
parameters_below number most = grind (arith, nat_tests)

-- the chip takes the command for a READ BINARY
read_is_of_kind : (s : State) (number : ℕ) → number ≤ 21 → IsOfKind (unchained s) (read number) ReadBinary
read_is_of_kind s number most = record {
  unchained = refl;
  named = rw (parameters_below number most) refl;
  passes = λ full answers. rw (parameters_below number most) refl;
}

-- it can be sent
read_has_size : (number : ℕ) → HasSize (read number)
read_has_size number = record { short = omega arith; most = omega arith; class = refl }

-- a READ BINARY changes the current file alone
read_is_calm : IsCalm ReadBinary
read_is_calm = record {
  commits = λ s. refl;
  channel = λ full c answers s. refl;
  agrees = λ plan chain full c answers s is. record {
    memory = is.memory;
    pace = is.pace;
    password = is.password;
    template = is.template;
    certificates = is.certificates;
    terminal = is.terminal;
    chip_proven = is.chip_proven;
    selected = is.selected;
  };
}

-- the short identifier of a data group is its number
short_back : (number : ℕ) → 0x80 + number - 0x80 ≡ number
short_back number = omega arith

-- the file of a data group is one of those
is_group : (number : ℕ) → 1 ≤ number → nat_lt 1 (number + 1) ≡ true
is_group number least = grind (arith, nat_tests)

-- and is not EF.CardAccess
is_no_card_access : (number : ℕ) → (number + 1 == 0) ≡ false
is_no_card_access number = grind (arith, nat_tests)

-- the file meant is that of the data group
group_meant : (kept : FullRecord) (s : State) (number : ℕ) → 1 ≤ number → number ≤ 21 → file_meant (known ReadBinary kept s (read number) []) ≡ Some (number + 1)
unfolding file_meant
group_meant kept s number least most =
    let access : (number == 0x1C) ≡ false = grind (arith, nat_tests) in
    let security : (number == 0x1D) ≡ false = grind (arith, nat_tests) in
    let first : nat_le 1 number ≡ true = grind (arith, nat_tests) in
    let last : nat_le number 21 ≡ true = grind (arith, nat_tests) in
    rw (by_short number, short_back number, access, security, first, last) refl

-- a READ BINARY that means the file of a data group, by its short identifier
record ReadsGroup (c : PlainCommand) (file : ℕ) : Type 0 where
  empty : (length c.body == 0) ≡ true
  short : is_by_short c ≡ true
  meant : (kept : FullRecord) (s : State) → file_meant (known ReadBinary kept s c []) ≡ Some file
  group : nat_lt 1 file ≡ true
  other : (file == 0) ≡ false

-- the terminal's command is such a one
reads_group : (number : ℕ) → 1 ≤ number → number ≤ 21 → ReadsGroup (read number) (number + 1)
reads_group number least most = record {
  empty = refl;
  short = by_short number;
  meant = λ kept s. group_meant kept s number least most;
  group = is_group number least;
  other = is_no_card_access number;
}

-- a refusal
abbrev refused : ℕ → ℕ → Outcome
refused rule status = record { rule = rule; reply = status_alone status }

-- how it is answered, by the file
abbrev read_file : PlainCommand → Option (List ℕ) → Outcome
read_file c bytes =
    if not (is_some bytes) then refused 37 0x6A82
    else if not (nat_le c.p2 (length (unwrap_or bytes []))) then refused 38 0x6B00
    else record { rule = 0; reply = read_reply (drop c.p2 (unwrap_or bytes [])) c.ne }

-- and by the rights
abbrev read_by : (holder selected granted : Bool) → Outcome → Outcome
read_by holder selected granted served =
    if not holder then refused 31 0x6982 else if not selected then refused 32 0x6985 else if not granted then refused 33 0x6982 else served

module _ (kept : FullRecord) (s : State) (c : PlainCommand) (file : ℕ) (m : ReadsGroup c file) where
  -- the rules beside those on requests hold
  read_so : is_some s.pace ≡ true → answer_by all_rules (known ReadBinary kept s c [])
      ≡ (if not (is_some s.terminal) then refused 26 0x6982 else if not s.chip_proven then refused 28 0x6982
      else read_by (is_by_holder s) s.selected (is_granted s (reading (group_of file))) (read_file c (bytes_of_file kept (Some file))))
  read_so pace = rw (m.empty, m.short, m.meant kept s, m.group, m.other, pace) refl

  -- what is promised says the same
  read_promised : answer_by asked_rules (asked_with ReadBinary kept s c [])
      ≡ (if not (is_some s.terminal) then refused 26 0x6982
      else read_by (is_by_holder s) s.selected (is_granted s (reading (group_of file))) (read_file c (bytes_of_file kept (Some file))))
  read_promised = rw (m.short, m.meant kept s, m.group) refl

-- the rules beside those on requests hold, and those see what agrees alone
read_alike : (plan : PlainPlan) (chain : Option PlainChain) (full kept : FullRecord) (s : State) (identity : List ℕ) (terminal : PlainTerminalKnown) (c : PlainCommand) (file : ℕ) → ReadsGroup c file → full.files ≡ kept.files
    → answer_by all_rules (known ReadBinary full (standing plan chain identity terminal s) c []) ≡ answer_by asked_rules (asked_with ReadBinary kept (asking plan chain) c [])
read_alike plan None full kept s identity terminal c file m files =
    read_so full (standing plan None identity terminal s) c file m refl ∙ sym (read_promised kept (asking plan None) c file m)
read_alike plan (Some chain) full kept s identity terminal c file m files =
    read_so full (standing plan (Some chain) identity terminal s) c file m refl
    ∙ ap (λ (l : List (Option (List ℕ))). read_by (is_by_holder (standing plan (Some chain) identity terminal s)) true (is_granted (standing plan (Some chain) identity terminal s) (reading (group_of file))) (read_file c (slice_index_or l file None))) files
    ∙ ap (λ (holder : Bool). read_by holder true (is_granted (standing plan (Some chain) identity terminal s) (reading (group_of file))) (read_file c (bytes_of_file kept (Some file)))) (holder_alike plan chain identity terminal s)
    ∙ ap (λ (granted : Bool). read_by (is_by_holder (asking plan (Some chain))) true granted (read_file c (bytes_of_file kept (Some file)))) (granted_alike plan chain identity terminal s (reading (group_of file)))
    ∙ sym (read_promised kept (asking plan (Some chain)) c file m)

-- a READ BINARY of a data group is answered as promised
pub read_answered : (w : Way) (full kept : FullRecord) (s : State) (plan : PlainPlan) (chain : Option PlainChain) (number : ℕ) (later : Option ChannelState → PlainReply → Course) (told : List Told)
    → 1 ≤ number → number ≤ 21 → full.files ≡ kept.files → IsAsking plan chain s → IsHandledSo w full s ReadBinary (read number) later told
    → IsAnsweredOn w full plan chain ReadBinary (asked_outcome ReadBinary kept (asking plan chain) (read number) []) later told
read_answered w full kept s plan chain number later told least most files is did =
    let so = stands_so plan chain s is in
    let none = not_asked w full s ReadBinary (read number) later told did refl in
    answered_on w full s plan chain ReadBinary (read number) later told _ did is read_is_calm
    (ap (λ (asks : List Ask). outcome_at ReadBinary full (unchained s) (read number) asks) none
    ∙ ap (λ (t : State). outcome_of kind_rules (known ReadBinary full t (read number) [])) so.is
    ∙ one_outcome ReadBinary full kept _ (asking plan chain) (read number) [] (read_alike plan chain full kept s so.identity so.known (read number) (number + 1) (reads_group number least most) files))
    (stays ReadBinary kept (asking plan chain) (read number) [])

-- ---- VERIFY of auxiliary data

-- the chip reads which comparison is asked for: of the date of birth
age_named : comparison_in (verification known.Birth) ≡ Some comparisons.Age
unfolding comparison_in verification object tag_bytes length_bytes
age_named = refl

-- of the date of expiry
validity_named : comparison_in (verification known.Expiry) ≡ Some comparisons.Validity
unfolding comparison_in verification object tag_bytes length_bytes
validity_named = refl

-- of the community
community_named : comparison_in (verification known.Community) ≡ Some comparisons.Community
unfolding comparison_in verification object tag_bytes length_bytes
community_named = refl

-- the chip takes the command for a VERIFY
verify_is_of_kind : (s : State) (identifier : Known) → IsOfKind (unchained s) (verify identifier) VerifyAuxiliary
verify_is_of_kind s identifier = record { unchained = refl; named = refl; passes = λ full answers. refl }

-- it can be sent
verify_has_size : (identifier : Known) → HasSize (verify identifier)
unfolding verification
verify_has_size identifier = record {
  short = omega (arith, object_fits 0x06 (known_bytes identifier), short_identifier identifier);
  most = omega arith;
  class = refl;
}

-- a VERIFY changes nothing
verify_is_calm : IsCalm VerifyAuxiliary
verify_is_calm = record {
  commits = λ s. refl;
  channel = λ full c answers s. refl;
  agrees = λ plan chain full c answers s is. record {
    memory = is.memory;
    pace = is.pace;
    password = is.password;
    template = is.template;
    certificates = is.certificates;
    terminal = is.terminal;
    chip_proven = is.chip_proven;
    selected = is.selected;
  };
}

-- what is compared stands in the files
compared_alike : (full kept : FullRecord) (comparison : Comparison) (sent : Option (List ℕ)) → full.files ≡ kept.files → compared_sent full comparison sent ≡ compared_sent kept comparison sent
compared_alike full kept comparison None files = refl
compared_alike full kept comparison (Some sent) files = ap (λ (l : List (Option (List ℕ))). compared_to comparison (slice_index_or l (reference_file comparison) None) sent) files

-- the rules beside those on requests hold, and those see what agrees alone
verify_alike : (plan : PlainPlan) (chain : Option PlainChain) (full kept : FullRecord) (s : State) (identity : List ℕ) (terminal : PlainTerminalKnown) (c : PlainCommand) (comparison : Comparison) → comparison_in c.body ≡ Some comparison → full.files ≡ kept.files
    → answer_by all_rules (known VerifyAuxiliary full (standing plan chain identity terminal s) c []) ≡ answer_by asked_rules (asked_with VerifyAuxiliary kept (asking plan chain) c [])
verify_alike plan None full kept s identity terminal c comparison named files = rw named refl
verify_alike plan (Some chain) full kept s identity terminal c comparison named files =
    rw (named, holder_alike plan chain identity terminal s, may_compare_alike plan chain identity terminal s comparison, compared_alike full kept comparison (sent_in_aux comparison (aux_of plan)) files) refl

-- a VERIFY of auxiliary data is answered as promised
verify_answered : (w : Way) (full kept : FullRecord) (s : State) (plan : PlainPlan) (chain : Option PlainChain) (c : PlainCommand) (comparison : Comparison) (later : Option ChannelState → PlainReply → Course) (told : List Told)
    → comparison_in c.body ≡ Some comparison → full.files ≡ kept.files → IsAsking plan chain s → IsHandledSo w full s VerifyAuxiliary c later told
    → IsAnsweredOn w full plan chain VerifyAuxiliary (asked_outcome VerifyAuxiliary kept (asking plan chain) c []) later told
verify_answered w full kept s plan chain c comparison later told named files is did =
    let so = stands_so plan chain s is in
    let none = not_asked w full s VerifyAuxiliary c later told did refl in
    answered_on w full s plan chain VerifyAuxiliary c later told _ did is verify_is_calm
    (ap (λ (asks : List Ask). outcome_at VerifyAuxiliary full (unchained s) c asks) none
    ∙ ap (λ (t : State). outcome_of kind_rules (known VerifyAuxiliary full t c [])) so.is
    ∙ one_outcome VerifyAuxiliary full kept _ (asking plan chain) c [] (verify_alike plan chain full kept s so.identity so.known c comparison named files))
    (stays VerifyAuxiliary kept (asking plan chain) c [])

-- ---- restricted identification: the selection

-- the chip takes the command for a selection of restricted identification
choose_is_of_kind : (s : State) → IsOfKind (unchained s) select_restricted_identification SelectRestrictedIdentification
choose_is_of_kind s = record { unchained = refl; named = rw (selection_named known.RiSha256) refl; passes = λ full answers. refl }

-- the selection changes the run alone
choose_is_calm : IsCalm SelectRestrictedIdentification
choose_is_calm = record {
  commits = λ s. refl;
  channel = λ full c answers s. refl;
  agrees = λ plan chain full c answers s is. record {
    memory = is.memory;
    pace = is.pace;
    password = is.password;
    template = is.template;
    certificates = is.certificates;
    terminal = is.terminal;
    chip_proven = is.chip_proven;
    selected = is.selected;
  };
}

-- the rules beside those on requests hold, and those see what agrees alone
choose_alike : (plan : PlainPlan) (chain : Option PlainChain) (full kept : FullRecord) (s : State) (identity : List ℕ) (terminal : PlainTerminalKnown)
    → answer_by all_rules (known SelectRestrictedIdentification full (standing plan chain identity terminal s) select_restricted_identification [])
    ≡ answer_by asked_rules (asked_with SelectRestrictedIdentification kept (asking plan chain) select_restricted_identification [])
choose_alike plan None full kept s identity terminal = rw (selection_named known.RiSha256) refl
choose_alike plan (Some chain) full kept s identity terminal =
    rw ((selection_named known.RiSha256), holder_alike plan chain identity terminal s, granted_alike plan chain identity terminal s RESTRICTED_IDENTIFICATION) refl

-- the selection of restricted identification is answered as promised
choose_answered : (w : Way) (full kept : FullRecord) (s : State) (plan : PlainPlan) (chain : Option PlainChain) (later : Option ChannelState → PlainReply → Course) (told : List Told)
    → IsAsking plan chain s → IsHandledSo w full s SelectRestrictedIdentification select_restricted_identification later told
    → IsAnsweredOn w full plan chain SelectRestrictedIdentification (asked_outcome SelectRestrictedIdentification kept (asking plan chain) select_restricted_identification []) later told
choose_answered w full kept s plan chain later told is did =
    let so = stands_so plan chain s is in
    let none = not_asked w full s SelectRestrictedIdentification select_restricted_identification later told did refl in
    answered_on w full s plan chain SelectRestrictedIdentification select_restricted_identification later told _ did is choose_is_calm
    (ap (λ (asks : List Ask). outcome_at SelectRestrictedIdentification full (unchained s) select_restricted_identification asks) none
    ∙ ap (λ (t : State). outcome_of kind_rules (known SelectRestrictedIdentification full t select_restricted_identification [])) so.is
    ∙ one_outcome SelectRestrictedIdentification full kept _ (asking plan chain) select_restricted_identification [] (choose_alike plan chain full kept s so.identity so.known))
    (stays SelectRestrictedIdentification kept (asking plan chain) select_restricted_identification [])

-- how the selection is answered
abbrev choice : FullRecord → PlainPlan → Option PlainChain → Outcome
choice kept plan chain = asked_outcome SelectRestrictedIdentification kept (asking plan chain) select_restricted_identification []

-- it was carried out, or answered with no success
data Chosen (o : Outcome) : Type 0 where
  Taken : o ≡ record { rule = 0; reply = status_alone 0x9000 } → Chosen o
  Refused : (o.rule == 0) ≡ false → (o.reply.status == replies.success) ≡ false → Chosen o

-- one or the other it is
chosen_or_not : (kept : FullRecord) (plan : PlainPlan) (chain : Option PlainChain) → Chosen (choice kept plan chain)
chosen_or_not kept plan None = Refused refl refl
chosen_or_not kept plan (Some chain) = by (is_by_holder (asking plan (Some chain))) (is_granted (asking plan (Some chain)) RESTRICTED_IDENTIFICATION) refl refl where
  by : (holder granted : Bool) → is_by_holder (asking plan (Some chain)) ≡ holder → is_granted (asking plan (Some chain)) RESTRICTED_IDENTIFICATION ≡ granted
      → Chosen (choice kept plan (Some chain))
  by false granted holds may = Refused (rw holds refl) (rw holds refl)
  by true false holds may = Refused (rw (holds, may) refl) (rw (holds, may) refl)
  by true true holds may = Taken (rw (holds, may) refl)

-- ---- restricted identification: the sector key

-- the key of the first sector, as the chip reads it
abbrev sector_key : List ℕ → PlainSectorKey
sector_key sector = record { object = token_object (known_bytes known.RiSha256) sector; point = sector }

-- and no other one
abbrev sector_keys : List ℕ → PlainSectorKeys
sector_keys sector = record { first = Some (sector_key sector); second = None }

-- its object is that of a public key without parameters
key_spelled : (sector : List ℕ) → object 0x06 (known_bytes known.RiSha256) ++ object 0x86 sector ≡ public_key known.RiSha256 no_domain sector
unfolding public_key parameters
key_spelled sector = simp append-nil

-- it is short
key_value_size : (sector : List ℕ) → length sector ≡ 65 → length (object 0x06 (known_bytes known.RiSha256) ++ object 0x86 sector) ≤ 200
key_value_size sector size =
    omega (arith, size, length-append (object 0x06 (known_bytes known.RiSha256)) (object 0x86 sector), object_fits 0x06 (known_bytes known.RiSha256), object_fits 0x86 sector)

-- and whole it is short too
key_size : (sector : List ℕ) → length sector ≡ 65 → length (token_object (known_bytes known.RiSha256) sector) ≤ 300
unfolding token_object
key_size sector size = omega (arith, key_value_size sector size, object_fits 0x7F49 (object 0x06 (known_bytes known.RiSha256) ++ object 0x86 sector))

-- it is a sector key
is_sector_key : (sector : List ℕ) → length sector ≡ 65 → IsUncompressed sector → IsSectorKey (sector_key sector)
unfolding token_object
is_sector_key sector size form = record {
  value = object 0x06 (known_bytes known.RiSha256) ++ object 0x86 sector;
  whole = refl;
  is_key = record {
    domain = no_domain;
    writable = record { prime = _; first_coefficient = _; second_coefficient = _; base_point = _; order = _; cofactor = _ };
    form = record { size = size; form = form };
    spelled = key_spelled sector;
  };
  short = omega (arith, key_size sector size);
}

-- the body that the terminal sends has this key alone
are_sector_keys : (sector : List ℕ) → length sector ≡ 65 → IsUncompressed sector → AreSectorKeys (identify sector).body (sector_keys sector)
unfolding authentication_data
are_sector_keys sector size form = record {
  first = is_sector_key sector size form;
  second = _;
  some = refl;
  spelled = ap (object 0x7C) (sym (append-nil (object 0xA0 (token_object (known_bytes known.RiSha256) sector))));
  short = omega (arith, key_size sector size, object_fits 0xA0 (token_object (known_bytes known.RiSha256) sector), length-append (object 0xA0 (token_object (known_bytes known.RiSha256) sector)) []);
}

-- the chip reads it so
sector_read : (sector : List ℕ) → length sector ≡ 65 → IsUncompressed sector → sector_keys_in (identify sector).body ≡ Some (sector_keys sector)
sector_read sector size form = (sector_keys_in-exact (identify sector).body (sector_keys sector)).1 (are_sector_keys sector size form)

-- behind the selection the chip takes the command for the step of restricted identification
identify_is_of_kind : (s : State) (sector : List ℕ) → s.next ≡ Some PerformRestrictedIdentification → IsOfKind (unchained s) (identify sector) PerformRestrictedIdentification
identify_is_of_kind s sector next = record { unchained = refl; named = rw next refl; passes = λ full answers. refl }

-- it can be sent
identify_has_size : (sector : List ℕ) → length sector ≡ 65 → HasSize (identify sector)
unfolding authentication_data
identify_has_size sector size = record {
  short = omega (arith, key_size sector size, object_fits 0xA0 (token_object (known_bytes known.RiSha256) sector), object_fits 0x7C (object 0xA0 (token_object (known_bytes known.RiSha256) sector)));
  most = omega arith;
  class = refl;
}

-- the step ends the run, and changes nothing else
identify_is_calm : IsCalm PerformRestrictedIdentification
identify_is_calm = record {
  commits = λ s. refl;
  channel = λ full c answers s. refl;
  agrees = λ plan chain full c answers s is. record {
    memory = is.memory;
    pace = is.pace;
    password = is.password;
    template = is.template;
    certificates = is.certificates;
    terminal = is.terminal;
    chip_proven = is.chip_proven;
    selected = is.selected;
  };
}

-- another terminal's sector key is refused, and nothing is asked
module _ (full : FullRecord) (s : State) (c : PlainCommand) (keys : PlainSectorKeys) (body : sector_keys_in c.body ≡ Some keys) (others : are_its_sectors s.certificates.sectors (Some keys) ≡ false) where
  -- it is refused
  other_outcome : (given : List Answer) → outcome_of kind_rules (known PerformRestrictedIdentification full s c given) ≡ record { rule = 40; reply = status_alone 0x6300 }
  other_outcome given = rw (body, others) refl

  -- as is promised
  other_promised : (given : List Answer) → asked_outcome PerformRestrictedIdentification full s c given ≡ record { rule = 40; reply = status_alone 0x6300 }
  other_promised given = rw (body, others) refl

  -- nothing is asked
  other_unasked : question_by kind_rules (known PerformRestrictedIdentification full s c []) ≡ None
  other_unasked = rw (body, others) refl

-- the identifier in the sector, by the secret that was agreed
abbrev identifier_reply : List ℕ → PlainReply
identifier_reply shared = data_alone (bodies.authentication_data 0x81 (identifier shared))

-- the terminal's sector key is served: a secret is agreed with it
module _ (full : FullRecord) (s : State) (sector : List ℕ) (body : sector_keys_in (identify sector).body ≡ Some (sector_keys sector)) (its : are_its_sectors s.certificates.sectors (Some (sector_keys sector)) ≡ true) where
  -- the one question
  own_asked : question_by kind_rules (known PerformRestrictedIdentification full s (identify sector) []) ≡ Some (questions.Agree full.fields.ri_secret sector)
  own_asked = rw (body, its) refl

  -- and no other one
  own_done : (shared : List ℕ) → question_by kind_rules (known PerformRestrictedIdentification full s (identify sector) (answers.Shared shared ∷ [])) ≡ None
  own_done shared = rw (body, its) refl

  -- the identifier is answered
  own_outcome : (shared : List ℕ) → outcome_of kind_rules (known PerformRestrictedIdentification full s (identify sector) (answers.Shared shared ∷ [])) ≡ record { rule = 0; reply = identifier_reply shared }
  unfolding bodies.authentication_data
  own_outcome shared = rw (body, its) (rw body refl)

  -- as is promised
  own_promised : (shared : List ℕ) → asked_outcome PerformRestrictedIdentification full s (identify sector) (answers.Shared shared ∷ []) ≡ record { rule = 0; reply = identifier_reply shared }
  unfolding bodies.authentication_data
  own_promised shared = rw (body, its) (rw body refl)

-- a terminal finds the identifier in the reply
identifier_found : (shared : List ℕ) → lacks_identifier (identifier_reply shared) ≡ false
identifier_found shared = rw (value_found 0x81 32 (identifier shared) refl (length-sha256 shared) (omega arith)) refl

-- what the chip asks about a sector key next
abbrev sector_question_at : FullRecord → State → List ℕ → List Answer → Option Question
sector_question_at full s sector given = question_by kind_rules (known PerformRestrictedIdentification full s (identify sector) given)

-- and how it answers
abbrev identified_at : FullRecord → State → List ℕ → List Answer → Outcome
identified_at full s sector given = outcome_of kind_rules (known PerformRestrictedIdentification full s (identify sector) given)

-- what is promised to a sector key
abbrev identification : FullRecord → State → List ℕ → Outcome
identification kept s sector = asked_outcome PerformRestrictedIdentification kept s (identify sector) (agreement kept.fields.ri_secret sector ∷ [])

-- a sector key is answered so, and a success holds the identifier
record IsIdentified (full : FullRecord) (s : State) (sector : List ℕ) (given : List Answer) : Type 0 where
  outcome : identified_at full s sector given ≡ identification full s sector
  found : lacks_identifier (identification full s sector).reply ≡ false

-- each outcome is one of these
identified_so : (full : FullRecord) (s : State) (sector : List ℕ) (asks : List Ask) → sector_keys_in (identify sector).body ≡ Some (sector_keys sector)
    → AreAsked (sector_question_at full s sector) [] asks → All IsGiven asks → IsIdentified full s sector (answers_of asks)
identified_so full s sector asks body asked given = by (are_its_sectors s.certificates.sectors (Some (sector_keys sector))) refl where
  by : (its : Bool) → are_its_sectors s.certificates.sectors (Some (sector_keys sector)) ≡ its → IsIdentified full s sector (answers_of asks)
  by false others =
      let promise = other_promised full s (identify sector) (sector_keys sector) body others (agreement full.fields.ri_secret sector ∷ []) in
      record {
        outcome = other_outcome full s (identify sector) (sector_keys sector) body others (answers_of asks) ∙ sym promise;
        found = ap (λ (o : Outcome). lacks_identifier o.reply) promise;
      }
  by true its =
      let first = first_ask (sector_question_at full s sector) [] asks (questions.Agree full.fields.ri_secret sector) asked (own_asked full s sector body its) given in
      let agreed = shared_given first.ask full.fields.ri_secret sector first.by first.same in
      let nothing : first.later ≡ [] =
      none_asked (sector_question_at full s sector) (answers.Shared agreed.shared ∷ []) first.later
      (subst (λ (a : Answer). AreAsked (sector_question_at full s sector) (a ∷ []) first.later) agreed.is first.asked) (own_done full s sector body its agreed.shared) in
      let those : answers_of asks ≡ answers.Shared agreed.shared ∷ [] =
      ap answers_of first.is ∙ ap (λ (l : List Ask). first.ask.answer ∷ answers_of l) nothing ∙ ap (λ (a : Answer). a ∷ []) agreed.is in
      let promise : identification full s sector ≡ record { rule = 0; reply = identifier_reply agreed.shared } =
      ap (λ (a : Answer). asked_outcome PerformRestrictedIdentification full s (identify sector) (a ∷ [])) (agreed.same ∙ agreed.is) ∙ own_promised full s sector body its agreed.shared in
      record {
        outcome = ap (identified_at full s sector) those ∙ own_outcome full s sector body its agreed.shared ∙ sym promise;
        found = ap (λ (o : Outcome). lacks_identifier o.reply) promise ∙ identifier_found agreed.shared;
      }

-- the promise to a sector key looks at the certificates and the secret alone
identification_alike : (full kept : FullRecord) (s t : State) (sector : List ℕ) → s.certificates ≡ t.certificates → full.fields.ri_secret ≡ kept.fields.ri_secret → identification full s sector ≡ identification kept t sector
identification_alike full kept s t sector certificates secret =
    let given : List Answer = agreement full.fields.ri_secret sector ∷ [] in
    let alike : answer_by asked_rules (asked_with PerformRestrictedIdentification full s (identify sector) given) ≡ answer_by asked_rules (asked_with PerformRestrictedIdentification kept t (identify sector) given) = rw certificates refl in
    answered_by asked_rules (asked_with PerformRestrictedIdentification full s (identify sector) given) ∙ alike ∙ sym (answered_by asked_rules (asked_with PerformRestrictedIdentification kept t (identify sector) given))
    ∙ ap (λ (k : List ℕ). asked_outcome PerformRestrictedIdentification kept t (identify sector) (agreement k sector ∷ [])) secret

-- ---- a request

-- a result was given at this place, and the session goes on, and still agrees
record IsGivenOn (w : Way) (full : FullRecord) (plan : PlainPlan) (chain : Option PlainChain) (place : ℕ) (reply : PlainReply) (later : Option ChannelState → Course) (told : List Told) : Type 0 where
  rest : List Told
  same : told ≡ Result place reply ∷ rest
  new : State
  agrees : IsAsking plan chain new
  goes : AtCourse w full (unchained new) (later new.channel) rest

-- a result that was given
given_on : (w : Way) (full : FullRecord) (plan : PlainPlan) (chain : Option PlainChain) (new : State) (place : ℕ) (reply : PlainReply) (later : Option ChannelState → Course) (told : List Told)
    → IsAsking plan chain new → AtCourse w full (unchained new) (Gives place reply (later new.channel)) told → IsGivenOn w full plan chain place reply later told
given_on w full plan chain new place reply later told agrees at =
    let is = given_so w full (unchained new) place reply (later new.channel) told at in
    record { rest = is.rest; same = is.same; new = new; agrees = agrees; goes = is.goes }

-- one command, whose reply is the result
answer_given : (w : Way) (full : FullRecord) (plan : PlainPlan) (chain : Option PlainChain) (kind : Kind) (o : Outcome) (place : ℕ) (later : Option ChannelState → Course) (told : List Told)
    → IsAnsweredOn w full plan chain kind o (giving place later) told → IsGivenOn w full plan chain place o.reply later told
unfolding giving
answer_given w full plan chain kind o place later told is = given_on w full plan chain is.new place o.reply later told is.agrees is.goes

-- a data group is read as promised
file_given : (w : Way) (full kept : FullRecord) (plan : PlainPlan) (chain : Option PlainChain) (s : State) (step : Step) (place number : ℕ) (later : Option ChannelState → Course) (told : List Told)
    → 1 ≤ number → number ≤ 21 → full.files ≡ kept.files → IsAsking plan chain s → AtCourse w full (unchained s) (exchange step (read number) (giving place later) s.channel) told
    → IsGivenOn w full plan chain place (asked_outcome ReadBinary kept (asking plan chain) (read number) []).reply later told
file_given w full kept plan chain s step place number later told least most files is at =
    let did = handled_so w full s ReadBinary step (read number) (giving place later) told (read_is_of_kind s number most) (read_has_size number) at in
    answer_given w full plan chain ReadBinary _ place later told (read_answered w full kept s plan chain number (giving place later) told least most files is did)

-- data are compared as promised
comparison_given : (w : Way) (full kept : FullRecord) (plan : PlainPlan) (chain : Option PlainChain) (s : State) (step : Step) (place : ℕ) (identifier : Known) (comparison : Comparison) (later : Option ChannelState → Course) (told : List Told)
    → comparison_in (verification identifier) ≡ Some comparison → full.files ≡ kept.files → IsAsking plan chain s → AtCourse w full (unchained s) (exchange step (verify identifier) (giving place later) s.channel) told
    → IsGivenOn w full plan chain place (asked_outcome VerifyAuxiliary kept (asking plan chain) (verify identifier) []).reply later told
comparison_given w full kept plan chain s step place identifier comparison later told named files is at =
    let did = handled_so w full s VerifyAuxiliary step (verify identifier) (giving place later) told (verify_is_of_kind s identifier) (verify_has_size identifier) at in
    answer_given w full plan chain VerifyAuxiliary _ place later told (verify_answered w full kept s plan chain (verify identifier) comparison (giving place later) told named files is did)

-- the sector key is sent, and the result given
sector_given : (w : Way) (full kept : FullRecord) (plan : PlainPlan) (chain : Option PlainChain) (s : State) (step : Step) (sector : List ℕ) (place : ℕ) (later : Option ChannelState → Course) (told : List Told)
    → full.fields.ri_secret ≡ kept.fields.ri_secret → length sector ≡ 65 → IsUncompressed sector → IsAsking plan chain s → s.next ≡ Some PerformRestrictedIdentification
    → AtCourse w full (unchained s) (exchange step (identify sector) (after_identification step place later) s.channel) told
    → IsGivenOn w full plan chain place (identification kept (asking plan chain) sector).reply later told
unfolding after_identification
sector_given w full kept plan chain s step sector place later told secret size form is next at =
    let did = handled_so w full s PerformRestrictedIdentification step (identify sector) (after_identification step place later) told (identify_is_of_kind s sector next) (identify_has_size sector size) at in
    let so = identified_so full (unchained s) sector did.asks (sector_read sector size form) did.asked did.given in
    let alike = identification_alike full kept (unchained s) (asking plan chain) sector is.certificates secret in
    let on = answered_on w full s plan chain PerformRestrictedIdentification (identify sector) (after_identification step place later) told (identification kept (asking plan chain) sector) did is identify_is_calm
    (so.outcome ∙ alike) (stays PerformRestrictedIdentification kept (asking plan chain) (identify sector) _) in
    let found : lacks_identifier (identification kept (asking plan chain) sector).reply ≡ false = sym (ap (λ (o : Outcome). lacks_identifier o.reply) alike) ∙ so.found in
    given_on w full plan chain on.new place _ later told on.agrees (rw found at on.goes)

-- restricted identification is chosen; where it could be, the sector key is sent
identifier_given : (w : Way) (full kept : FullRecord) (plan : PlainPlan) (chain : Option PlainChain) (s : State) (step : Step) (sector : List ℕ) (place : ℕ) (later : Option ChannelState → Course) (told : List Told)
    → full.fields.ri_secret ≡ kept.fields.ri_secret → length sector ≡ 65 → IsUncompressed sector → IsAsking plan chain s
    → AtCourse w full (unchained s) (exchange step select_restricted_identification (after_protocol step sector place later) s.channel) told
    → IsGivenOn w full plan chain place (promised_reply kept (asking plan chain) sector Ri) later told
unfolding after_protocol
identifier_given w full kept plan chain s step sector place later told secret size form is at = by (chosen_or_not kept plan chain) where
  did : IsHandledSo w full s SelectRestrictedIdentification select_restricted_identification (after_protocol step sector place later) told
  did = handled_so w full s SelectRestrictedIdentification step select_restricted_identification (after_protocol step sector place later) told (choose_is_of_kind s) (selection_size known.RiSha256) at

  on : IsAnsweredOn w full plan chain SelectRestrictedIdentification (choice kept plan chain) (after_protocol step sector place later) told
  on = choose_answered w full kept s plan chain (after_protocol step sector place later) told is did

  by : Chosen (choice kept plan chain) → IsGivenOn w full plan chain place (promised_reply kept (asking plan chain) sector Ri) later told
  by (Refused other no_success) = rw other (given_on w full plan chain on.new place _ later told on.agrees (rw no_success at on.goes))
  by (Taken taken) =
      rw taken (sector_given w full kept plan chain on.new step sector place later told secret size form on.agrees (on.next (ap (λ (o : Outcome). o.rule == 0) taken)) (rw taken at on.goes))

-- what holds of a sector key that is there holds of the one that is sent
if_there : (P : List ℕ → Type 0) (o : Option (List ℕ)) → IsSome o → IfSome o P → P (unwrap_or o [])
if_there P None some holds = absurd (cc)
if_there P (Some value) some holds = holds

-- each request is answered as promised
request_given : (w : Way) (full kept : FullRecord) (plan : PlainPlan) (chain : Option PlainChain) (s : State) (step : Step) (place : ℕ) (request : Request) (later : Option ChannelState → Course) (told : List Told)
    → full.files ≡ kept.files → full.fields.ri_secret ≡ kept.fields.ri_secret → IfSome plan.sector (λ key. length key ≡ 65) → IfSome plan.sector IsUncompressed → CanBeAsked plan.sector request → IsAsking plan chain s
    → AtCourse w full (unchained s) (exchange step (command_for request) (after_command step (sector_of plan) place request later) s.channel) told
    → IsGivenOn w full plan chain place (promised_reply kept (asking plan chain) (sector_of plan) request) later told
request_given w full kept plan chain s step place (File number) later told files secret size form can is at = file_given w full kept plan chain s step place number later told can.0 can.1 files is at
request_given w full kept plan chain s step place Age later told files secret size form can is at = comparison_given w full kept plan chain s step place known.Birth comparisons.Age later told age_named files is at
request_given w full kept plan chain s step place Validity later told files secret size form can is at = comparison_given w full kept plan chain s step place known.Expiry comparisons.Validity later told validity_named files is at
request_given w full kept plan chain s step place Community later told files secret size form can is at = comparison_given w full kept plan chain s step place known.Community comparisons.Community later told community_named files is at
request_given w full kept plan chain s step place Ri later told files secret size form can is at =
    identifier_given w full kept plan chain s step (sector_of plan) place later told secret (if_there (λ key. length key ≡ 65) plan.sector can size) (if_there IsUncompressed plan.sector can form) is at

-- how the course goes on with a request
requests_more : (plan : PlainPlan) (place : ℕ) (request : Request) (later : List Request) (ch : Option ChannelState)
    → requests plan place (request ∷ later) ch ≡ exchange (last_step plan) (command_for request) (after_command (last_step plan) (sector_of plan) place request (requests plan (place + 1) later)) ch
unfolding requests
requests_more plan place request later ch = refl

-- and without one
no_requests : (plan : PlainPlan) (place : ℕ) (ch : Option ChannelState) → requests plan place [] ch ≡ Ends
unfolding requests
no_requests plan place ch = refl

-- All requests are answered as promised, one after the other, and the terminal comes to its end.
pub requested : (w : Way) (full kept : FullRecord) (plan : PlainPlan) (chain : Option PlainChain) (list : List Request) (place : ℕ) (s : State) (told : List Told)
    → full.files ≡ kept.files → full.fields.ri_secret ≡ kept.fields.ri_secret → IfSome plan.sector (λ key. length key ≡ 65) → IfSome plan.sector IsUncompressed
    → CanAllBeAsked plan.sector list → IsAsking plan chain s → AtCourse w full (unchained s) (requests plan place list s.channel) told
    → (told ≡ promised_results kept (asking plan chain) (sector_of plan) place list) × (w.at ≡ Ends)
requested w full kept plan chain [] place s told files secret size form can is at =
    ended_so w full (unchained s) told (subst (λ (course : Course). AtCourse w full (unchained s) course told) (no_requests plan place s.channel) at)
requested w full kept plan chain (request ∷ list) place s told files secret size form can is at =
    let one = request_given w full kept plan chain s (last_step plan) place request (requests plan (place + 1) list) told files secret size form can.0 is
    (subst (λ (course : Course). AtCourse w full (unchained s) course told) (requests_more plan place request list s.channel) at) in
    let later = requested w full kept plan chain list (place + 1) one.new one.rest files secret size form can.1 one.agrees one.goes in
    (one.same ∙ ap (λ (l : List Told). Result place (promised_reply kept (asking plan chain) (sector_of plan) request) ∷ l) later.0, later.1)

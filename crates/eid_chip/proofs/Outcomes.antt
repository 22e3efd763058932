-- From the rules of a kind to all rules.
use Rattle.std.proofs.Common.{◌≡◌, ℕ, ◌<◌, ◌≤◌, Bool, true, false, ◌==◌, ◌&&◌, ◌||◌, not, List, [], ◌∷◌, ◌++◌, length, Option, Some, None, refl, sym, ap, ◌∙◌, subst, arith}
use Rattle.std.specs.Prelude.{if◌then◌else◌, is_none, nat_le, option_map}
use Rattle.std.proofs.lemmas.Bool.Decides.{nat_tests}
use Rattle.eid_apdu.specs.Command.{PlainCommand}
use Rattle.eid_apdu.specs.Chaining.{OpenChain, MAX_REQUEST, Says, body_so_far, chain_after, continues, is_fragment, request}
use Rattle.eid_apdu.specs.declared.chain.Fed.TheVariants.{More}
use Rattle.eid_apdu.specs.Answer.{PlainReply}
use Rattle.eid_copro.specs.declared.ask.Ask.{Ask}
use Rattle.eid_copro.specs.declared.ask.Question.{Question}
use Rattle.eid_copro.specs.declared.ask.Answer.{Answer}
use Rattle.eid_record.specs.Plain.{FullRecord, PlainRecord, PlainEffect}
use Rattle.eid_cells.specs.Device.{Device}
use Rattle.eid_copro.specs.Seen.{CoproSeen}
use Rattle.eid_sm.specs.Keys.{ChannelState}
use Rattle.eid_store.specs.declared.store.Store.{Store}
use Rattle.eid_store.specs.Store as stored
use Rattle.eid_model.specs.declared.kind.Kind.{Kind}
use Rattle.eid_model.specs.Kinds.{kind_named}
use Rattle.eid_model.specs.Runs.{answers_of}
use Rattle.eid_model.specs.Sessions.{State, unchained}
use Rattle.eid_model.specs.Rules.{Incoming, OfCommand, plain_of, Situation, RuleRow, transport_rules, naming_rules, request_rules, kind_rules, answer_rules, commit_rules, proof_rules, concerns, first_failed, to_commit}
use Rattle.eid_model.specs.Answers.{Outcome, outcome, outcome_of, outcome_by, question, question_by, question_of, due, due_by, situation, kind_incoming, command_of, status_alone}
use Rattle.eid_model.specs.Legal.{AreAsked, IsReadAs}
use Rattle.eid_model.proofs.Books.{nothing_due_by}
use Rattle.eid_chip.specs.Transitions.{state_answered, state_by_kind, state_carried_out, state_later, state_piece, state_refused}
use Rattle.eid_chip.specs.Endings.{Answered, Ended, Lost, Reacted}
use Rattle.eid_chip.specs.declared.session.Session.{Session}
use Rattle.eid_chip.specs.Worlds.{World, world, Leaves}
use Rattle.eid_chip.specs.Held.{held}
use Rattle.eid_chip.specs.States.{chained, next_of, state}
use Rattle.eid_chip.specs.Naming.{Passes}
use Rattle.eid_chip.specs.Steps.{PlainRefusal, refusal_by, known, with_command, outcome_seen, state_left, state_due, Stepped, Performed, IsAnsweredByKind, IsAnsweredByRules, Reacts, IsEnding, IsNext, IsEndedByKind, IsEndedByRules, Responds, rule_of}
use Rattle.eid_chip.proofs.Commits.{unwritten}
use Rattle.eid_chip.proofs.HeldFiles.{held_stands}
use Rattle.eid_copro.proofs.Asking.{not_asked}

passed_at : (b : Bool) (row : RuleRow) (rows more : List RuleRow) (s : Situation) → (refusal_by rows s ≡ None → first_failed (rows ++ more) s ≡ first_failed more s) → option_map {U = PlainRefusal} (λ r. record { rule = r.number; status = r.status s }) (if b then Some row else first_failed rows s) ≡ None → (if b then Some row else first_failed (rows ++ more) s) ≡ first_failed more s
passed_at true row rows more s later e = absurd (cc)
passed_at false row rows more s later e = later e

-- where none of these rules fails, the first failed is one of the others
pub passed : (rows more : List RuleRow) (s : Situation) → refusal_by rows s ≡ None → first_failed (rows ++ more) s ≡ first_failed more s
passed [] more s e = refl
passed (row ∷ rows) more s e = passed_at (concerns row.kinds s.kind && not (row.holds s)) row rows more s (passed rows more s) e

failed_at : (b : Bool) (row : RuleRow) (rows more : List RuleRow) (s : Situation) (r : PlainRefusal) → (refusal_by rows s ≡ Some r → outcome_by (first_failed (rows ++ more) s) s ≡ record { rule = r.rule; reply = status_alone r.status }) → option_map (λ row. record { rule = row.number; status = row.status s }) (if b then Some row else first_failed rows s) ≡ Some r → outcome_by (if b then Some row else first_failed (rows ++ more) s) s ≡ record { rule = r.rule; reply = status_alone r.status }
failed_at true row rows more s r later e =
    let same : record { rule = row.number; status = row.status s } ≡ r = cc in
    ap (λ (x : PlainRefusal). record { rule = x.rule; reply = status_alone x.status }) same
failed_at false row rows more s r later e = later e

-- where one of these rules fails, it is answered, whatever others follow
pub failed : (rows more : List RuleRow) (s : Situation) (r : PlainRefusal) → refusal_by rows s ≡ Some r → outcome_by (first_failed (rows ++ more) s) s ≡ record { rule = r.rule; reply = status_alone r.status }
failed [] more s r e = absurd (cc)
failed (row ∷ rows) more s r e = failed_at (concerns row.kinds s.kind && not (row.holds s)) row rows more s r (failed rows more s r) e

some_at : (b : Bool) (row : RuleRow) (rows more : List RuleRow) (s : Situation) (r : PlainRefusal) → (refusal_by rows s ≡ Some r → is_none (first_failed (rows ++ more) s) ≡ false) → option_map (λ row. record { rule = row.number; status = row.status s }) (if b then Some row else first_failed rows s) ≡ Some r → is_none (if b then Some row else first_failed (rows ++ more) s) ≡ false
some_at true row rows more s r later e = refl
some_at false row rows more s r later e = later e

-- where one of these rules fails, some rule fails
pub some_failed : (rows more : List RuleRow) (s : Situation) (r : PlainRefusal) → refusal_by rows s ≡ Some r → is_none (first_failed (rows ++ more) s) ≡ false
some_failed [] more s r e = absurd (cc)
some_failed (row ∷ rows) more s r e = some_at (concerns row.kinds s.kind && not (row.holds s)) row rows more s r (some_failed rows more s r) e

-- what was incoming is a command: the rules on hearing hold
incoming_so : (kept : FullRecord) (old : State) (c : PlainCommand) (answers : List Answer) → refusal_by transport_rules (with_command kept old c answers) ≡ None
incoming_so kept old c answers = refl

-- only the rules of the kind and the later ones are left
late_rules : (more : List RuleRow) (kept : FullRecord) (old : State) (c : PlainCommand) (answers : List Answer) → refusal_by naming_rules (with_command kept old c answers) ≡ None → refusal_by request_rules (with_command kept old c answers) ≡ None
    → first_failed (transport_rules ++ naming_rules ++ request_rules ++ kind_rules ++ more) (with_command kept old c answers) ≡ first_failed (kind_rules ++ more) (with_command kept old c answers)
late_rules more kept old c answers names requests =
    let s = with_command kept old c answers in
    passed transport_rules (naming_rules ++ request_rules ++ kind_rules ++ more) s (incoming_so kept old c answers)
    ∙ passed naming_rules (request_rules ++ kind_rules ++ more) s names ∙ passed request_rules (kind_rules ++ more) s requests

-- where a command is the last of its request, and the kind is this
abbrev at_request : (unbroken : Bool) → Option Kind → FullRecord → State → PlainCommand → List Answer → Situation
at_request unbroken kind kept old c answers = record {
  incoming = OfCommand (request old.chaining c);
  unbroken = unbroken;
  command = request old.chaining c;
  kind = kind;
  kept = kept;
  state = unchained old;
  answers = answers;
}

-- The command goes on with the fragments before it, if there are any, and ends a request of this kind.
pub record Ends (old : State) (c : PlainCommand) (kind : Kind) : Type 0 where
  pub goes_on : continues old.chaining c ≡ true
  pub named : kind_named old.next (request old.chaining c) ≡ Some kind

-- a situation in which the kind was found
known_so : (kept : FullRecord) (old : State) (c : PlainCommand) (kind : Kind) (answers : List Answer) → Ends old c kind → with_command kept old c answers ≡ known kind kept (unchained old) (request old.chaining c) answers
known_so kept old c kind answers ends =
    ap (λ (k : Option Kind). at_request (continues old.chaining c) k kept old c answers) ends.named
    ∙ ap (λ (b : Bool). at_request b (Some kind) kept old c answers) ends.goes_on

-- the questions and the outcome are those of the kind
pub kind_question : (kept : FullRecord) (old : State) (c : PlainCommand) (kind : Kind) (answers : List Answer) → Ends old c kind → refusal_by naming_rules (with_command kept old c answers) ≡ None → refusal_by request_rules (with_command kept old c answers) ≡ None
    → question (with_command kept old c answers) ≡ question_by kind_rules (known kind kept (unchained old) (request old.chaining c) answers)
unfolding question
kind_question kept old c kind answers ends names requests =
    ap (λ (f : Option RuleRow). if is_none f then question_of (with_command kept old c answers).kind (with_command kept old c answers) else None) (late_rules answer_rules kept old c answers names requests)
    ∙ ap (λ (s : Situation). question_by kind_rules s) (known_so kept old c kind answers ends)

pub kind_outcome : (kept : FullRecord) (old : State) (c : PlainCommand) (kind : Kind) (answers : List Answer) → Ends old c kind → refusal_by naming_rules (with_command kept old c answers) ≡ None → refusal_by request_rules (with_command kept old c answers) ≡ None
    → outcome (with_command kept old c answers) ≡ outcome_of kind_rules (known kind kept (unchained old) (request old.chaining c) answers)
unfolding outcome
kind_outcome kept old c kind answers ends names requests =
    ap (λ (f : Option RuleRow). outcome_by f (with_command kept old c answers)) (late_rules (answer_rules ++ commit_rules ++ proof_rules) kept old c answers names requests)
    ∙ ap (λ (s : Situation). outcome_of kind_rules s) (known_so kept old c kind answers ends)

-- questions by two functions that agree
pub asked_alike : (f g : List Answer → Option Question) → ((answers : List Answer) → f answers ≡ g answers) → (given : List Answer) (asks : List Ask) → AreAsked f given asks → AreAsked g given asks
asked_alike f g same given [] asked = sym (same given) ∙ asked
asked_alike f g same given (ask ∷ later) asked =
    (sym (same given) ∙ asked.0, asked.1, asked_alike f g same (given ++ ask.answer ∷ []) later asked.2)

-- a rule on the objects of secure messaging
abbrev pub is_on_objects : ℕ → Bool
is_on_objects rule = rule == 2 || rule == 3

rule_at : (b : Bool) (row : RuleRow) (rows : List RuleRow) (s : Situation) → is_on_objects row.number ≡ false → is_on_objects (outcome_by (first_failed rows s) s).rule ≡ false → is_on_objects (outcome_by (if b then Some row else first_failed rows s) s).rule ≡ false
rule_at true row rows s here later = here
rule_at false row rows s here later = later

AreOthers : List RuleRow → Type 0
AreOthers [] = Unit {0}
AreOthers (row ∷ rows) = (is_on_objects row.number ≡ false) × AreOthers rows

others_fail : (rows : List RuleRow) (s : Situation) → AreOthers rows → is_on_objects (outcome_by (first_failed rows s) s).rule ≡ false
unfolding AreOthers
others_fail [] s others = refl
others_fail (row ∷ rows) s others = rule_at (concerns row.kinds s.kind && not (row.holds s)) row rows s others.0 (others_fail rows s others.1)

-- a command that was incoming fails none of them
pub command_rule : (kept : FullRecord) (old : State) (c : PlainCommand) (answers : List Answer) (o : Outcome) → outcome (with_command kept old c answers) ≡ o → is_on_objects o.rule ≡ false
unfolding outcome AreOthers
command_rule kept old c answers o is =
    let s = with_command kept old c answers in
    let later = naming_rules ++ request_rules ++ kind_rules ++ answer_rules ++ commit_rules ++ proof_rules in
    let found : first_failed (transport_rules ++ later) s ≡ first_failed later s = passed transport_rules later s refl in
    ap (λ (x : Outcome). is_on_objects x.rule) (sym is) ∙ ap (λ (f : Option RuleRow). is_on_objects (outcome_by f s).rule) found
    ∙ others_fail later s (refl, (refl, (refl, (refl, (refl, (refl, (refl, (refl, (refl, (refl, (refl, (refl, (refl, (refl, (refl, (refl, (refl, (refl, (refl, (refl, (refl, (refl, (refl, (refl, (refl, (refl, (refl, (refl, (refl, (refl, (refl, (refl, (refl, (refl, (refl, (refl, (refl, (refl, (refl, (refl, (refl, (refl, (refl, (refl, (refl, (refl, _))))))))))))))))))))))))))))))))))))))))))))))

pub command_answered : (old : State) (c : PlainCommand) (asks : List Ask) (ending : Ended) (reply : PlainReply) (left : Option OpenChain) (before after : World) → IsEndedByRules old (OfCommand c) asks ending reply left before after → is_on_objects (rule_of ending) ≡ false
command_answered old c asks (Answered r finished) reply left before after did = command_rule (held before.cells) old c (answers_of asks) (outcome_seen r reply) did.ended.1
command_answered old c asks (Lost finished) reply left before after did = refl

-- the outcome of a refusal
abbrev pub refused_so : PlainRefusal → Outcome
refused_so r = record { rule = r.rule; reply = status_alone r.status }

pub if_not : {A : Type 0} (b : Bool) (x y : A) → b ≡ false → (if b then x else y) ≡ y
if_not true x y e = absurd (cc)
if_not false x y e = refl

-- a refused command leaves the state without a run
pub refused_by_kind : (kept : PlainRecord) (rule : ℕ) (kind : Kind) (c : PlainCommand) (answers : List Answer) (old : State) → (rule == 0) ≡ false → state_by_kind kept rule kind c answers old ≡ state_refused old
refused_by_kind kept rule kind c answers old e = if_not (rule == 0) (state_carried_out kept kind c answers old) (state_refused old) e

pub refused_state : (kept : PlainRecord) (rule : ℕ) (kind : Option Kind) (c : PlainCommand) (answers : List Answer) (old : State) → (rule == 0) ≡ false → state_answered kept rule kind c answers old ≡ state_refused old
refused_state kept rule None c answers old e = rw e refl
refused_state kept rule (Some kind) c answers old e = refused_by_kind kept rule kind (request old.chaining c) answers (unchained old) e

-- a refusal puts no question, and is the answer
pub refused_answers : (rows more most later : List RuleRow) (kept : FullRecord) (old : State) (incoming : Incoming) (refused : PlainRefusal) (r : Reacted) (reply : PlainReply) → refusal_by rows (situation kept old incoming []) ≡ Some refused
    → question (situation kept old incoming []) ≡ (if is_none (first_failed (rows ++ more) (situation kept old incoming [])) then question_of (situation kept old incoming []).kind (situation kept old incoming []) else None)
    → due (situation kept old incoming []) ≡ (if is_none (first_failed (rows ++ most) (situation kept old incoming [])) then to_commit (situation kept old incoming []).kind (situation kept old incoming []) else [])
    → outcome (situation kept old incoming []) ≡ outcome_by (first_failed (rows ++ later) (situation kept old incoming [])) (situation kept old incoming [])
    → (refused.rule == 0) ≡ false → r.rule ≡ refused.rule → reply ≡ status_alone refused.status
    → state_left r old.channel ≡ state_due refused.rule (state_refused old) → IsAnsweredByRules kept old incoming [] r reply
refused_answers rows more most later kept old incoming refused r reply fails asks dues ends is_one rule answered left =
    let s = situation kept old incoming [] in
    let same : refused_so refused ≡ outcome_seen r reply = rw (rule, answered) refl in
    record {
      asked = asks ∙ if_not (is_none (first_failed (rows ++ more) s)) (question_of s.kind s) None (some_failed rows more s refused fails);
      ended = ends ∙ failed rows later s refused fails ∙ same;
      undue = dues ∙ if_not (is_none (first_failed (rows ++ most) s)) (to_commit s.kind s) [] (some_failed rows most s refused fails);
      left = left ∙ ap (λ (n : ℕ). state_due n (state_refused old)) (sym rule)
          ∙ ap (λ (x : State). state_due r.rule x) (sym (refused_state kept.fields r.rule (kind_incoming old incoming) (command_of incoming) [] old (ap (λ (n : ℕ). n == 0) rule ∙ is_one)));
    }

-- a command whose class, instruction or parameters are refused
pub name_refused : (kept : FullRecord) (old : State) (c : PlainCommand) (refused : PlainRefusal) (r : Reacted) (reply : PlainReply) → refusal_by naming_rules (with_command kept old c []) ≡ Some refused
    → (refused.rule == 0) ≡ false → r.rule ≡ refused.rule → reply ≡ status_alone refused.status
    → state_left r old.channel ≡ state_due refused.rule (state_refused old) → IsAnsweredByRules kept old (OfCommand c) [] r reply
unfolding question outcome due
name_refused kept old c refused r reply fails is_one rule answered left =
    let s = with_command kept old c [] in
    refused_answers naming_rules (request_rules ++ kind_rules ++ answer_rules) (request_rules ++ kind_rules ++ answer_rules ++ commit_rules) (request_rules ++ kind_rules ++ answer_rules ++ commit_rules ++ proof_rules) kept old (OfCommand c) refused r reply fails
    (ap (λ (f : Option RuleRow). if is_none f then question_of s.kind s else None) (passed transport_rules (naming_rules ++ request_rules ++ kind_rules ++ answer_rules) s refl))
    (ap (λ (f : Option RuleRow). if is_none f then to_commit s.kind s else []) (passed transport_rules (naming_rules ++ request_rules ++ kind_rules ++ answer_rules ++ commit_rules) s refl))
    (ap (λ (f : Option RuleRow). outcome_by f s) (passed transport_rules (naming_rules ++ request_rules ++ kind_rules ++ answer_rules ++ commit_rules ++ proof_rules) s refl))
    is_one rule answered left

-- a command of some kind in a request that is refused
pub request_refused : (kept : FullRecord) (old : State) (c : PlainCommand) (refused : PlainRefusal) (r : Reacted) (reply : PlainReply) → refusal_by naming_rules (with_command kept old c []) ≡ None → refusal_by request_rules (with_command kept old c []) ≡ Some refused
    → (refused.rule == 0) ≡ false → r.rule ≡ refused.rule → reply ≡ status_alone refused.status
    → state_left r old.channel ≡ state_due refused.rule (state_refused old) → IsAnsweredByRules kept old (OfCommand c) [] r reply
unfolding question outcome due
request_refused kept old c refused r reply names fails is_one rule answered left =
    let s = with_command kept old c [] in
    refused_answers request_rules (kind_rules ++ answer_rules) (kind_rules ++ answer_rules ++ commit_rules) (kind_rules ++ answer_rules ++ commit_rules ++ proof_rules) kept old (OfCommand c) refused r reply fails
    (ap (λ (f : Option RuleRow). if is_none f then question_of s.kind s else None)
    (passed transport_rules (naming_rules ++ request_rules ++ kind_rules ++ answer_rules) s refl ∙ passed naming_rules (request_rules ++ kind_rules ++ answer_rules) s names))
    (ap (λ (f : Option RuleRow). if is_none f then to_commit s.kind s else [])
    (passed transport_rules (naming_rules ++ request_rules ++ kind_rules ++ answer_rules ++ commit_rules) s refl ∙ passed naming_rules (request_rules ++ kind_rules ++ answer_rules ++ commit_rules) s names))
    (ap (λ (f : Option RuleRow). outcome_by f s)
    (passed transport_rules (naming_rules ++ request_rules ++ kind_rules ++ answer_rules ++ commit_rules ++ proof_rules) s refl ∙ passed naming_rules (request_rules ++ kind_rules ++ answer_rules ++ commit_rules ++ proof_rules) s names))
    is_one rule answered left

-- bytes that are no command, or whose objects of secure messaging are missing or wrong
pub transport_refused : (kept : FullRecord) (old : State) (incoming : Incoming) (refused : PlainRefusal) (r : Reacted) (reply : PlainReply) → refusal_by transport_rules (situation kept old incoming []) ≡ Some refused
    → (refused.rule == 0) ≡ false → r.rule ≡ refused.rule → reply ≡ status_alone refused.status
    → state_left r old.channel ≡ state_due refused.rule (state_refused old) → IsAnsweredByRules kept old incoming [] r reply
unfolding question outcome due
transport_refused kept old incoming refused r reply fails is_one rule answered left =
    refused_answers transport_rules (naming_rules ++ request_rules ++ kind_rules ++ answer_rules) (naming_rules ++ request_rules ++ kind_rules ++ answer_rules ++ commit_rules)
    (naming_rules ++ request_rules ++ kind_rules ++ answer_rules ++ commit_rules ++ proof_rules) kept old incoming refused r reply fails
    refl refl refl is_one rule answered left

-- a command that does not go on with its chain, a request that is too long, and one that can be answered
pub broken_request : (kept : FullRecord) (old : State) (c : PlainCommand) (answers : List Answer) → continues old.chaining c ≡ false
    → refusal_by request_rules (with_command kept old c answers) ≡ Some (record { rule = 7; status = 0x6883 })
broken_request kept old c answers broken = rw broken refl

pub long_request : (kept : FullRecord) (old : State) (c : PlainCommand) (answers : List Answer) → continues old.chaining c ≡ true
    → MAX_REQUEST < length (body_so_far old.chaining c.body) → refusal_by request_rules (with_command kept old c answers) ≡ Some (record { rule = 8; status = 0x6700 })
long_request kept old c answers goes_on long =
    let over : nat_le (length (body_so_far old.chaining c.body)) MAX_REQUEST ≡ false = grind (arith, nat_tests) in
    rw (goes_on, over) refl

pub request_passes : (kept : FullRecord) (old : State) (c : PlainCommand) (answers : List Answer) → continues old.chaining c ≡ true
    → length (body_so_far old.chaining c.body) ≤ MAX_REQUEST → refusal_by request_rules (with_command kept old c answers) ≡ None
request_passes kept old c answers goes_on fits =
    let within : nat_le (length (body_so_far old.chaining c.body)) MAX_REQUEST ≡ true = grind (arith, nat_tests) in
    rw (goes_on, within) refl

-- ---- how a command ends that may commit

-- the effects due are those of the kind
pub kind_due : (kept : FullRecord) (old : State) (c : PlainCommand) (kind : Kind) (answers : List Answer) → Ends old c kind → refusal_by naming_rules (with_command kept old c answers) ≡ None → refusal_by request_rules (with_command kept old c answers) ≡ None
    → due (with_command kept old c answers) ≡ due_by kind_rules (known kind kept (unchained old) (request old.chaining c) answers)
unfolding due
kind_due kept old c kind answers ends names requests =
    ap (λ (f : Option RuleRow). if is_none f then to_commit (with_command kept old c answers).kind (with_command kept old c answers) else []) (late_rules (answer_rules ++ commit_rules) kept old c answers names requests)
    ∙ ap (λ (s : Situation). due_by kind_rules s) (known_so kept old c kind answers ends)

-- the last command of a request of a known kind, which can be answered, ends by the rules of its kind
pub ended_by_rules : (old : State) (c : PlainCommand) (kind : Kind) (asks : List Ask) (ending : Ended) (reply : PlainReply) (before after : World) → Ends old c kind
    → ((answers : List Answer) → refusal_by naming_rules (with_command (held before.cells) old c answers) ≡ None)
    → ((answers : List Answer) → refusal_by request_rules (with_command (held before.cells) old c answers) ≡ None)
    → IsEndedByKind kind (unchained old) (request old.chaining c) asks ending reply before after → IsEndedByRules old (OfCommand c) asks ending reply None before after
ended_by_rules old c kind asks ending reply before after ends names requests did =
    let kept = held before.cells in
    let whole = request old.chaining c in
    let effects = sym (kind_due kept old c kind (answers_of asks) ends (names (answers_of asks)) (requests (answers_of asks))) in
    let outcome_is = sym (kind_outcome kept old c kind (answers_of asks) ends (names (answers_of asks)) (requests (answers_of asks))) in
    record {
      asked = asked_alike (λ answers. question_by kind_rules (known kind kept (unchained old) whole answers)) (λ answers. question (with_command kept old c answers))
          (λ answers. sym (kind_question kept old c kind answers ends (names answers) (requests answers))) [] asks did.asked;
      ended = subst (λ (l : List PlainEffect). IsEnding l (outcome (with_command kept old c (answers_of asks))) ending reply) effects
          (subst (λ (o : Outcome). IsEnding (due_by kind_rules (known kind kept (unchained old) whole (answers_of asks))) o ending reply) outcome_is did.ended);
      next = subst (λ (k : Option Kind). IsNext (λ rule. state_answered kept.fields rule k c (answers_of asks) old) ending old.channel None) (sym ends.named) did.next;
      leaves = subst (λ (l : List PlainEffect). Leaves l kept ending before after) effects did.leaves;
    }

-- a command that commits nothing leaves all but the coprocessor as it was
pub leaves_all : (effects : List PlainEffect) (r : Reacted) (before after : CoproSeen) (store : Store) (device : Device) (cells : List ℕ) → effects ≡ [] → stored.Fits store device cells
    → Leaves effects (held cells) (Answered r 0) (world before store device cells) (world after store device cells)
leaves_all effects r before after store device cells none fits =
    subst (λ (l : List PlainEffect). Leaves l (held cells) (Answered r 0) (world before store device cells) (world after store device cells)) (sym none)
    (fits, held_stands store device cells fits, unwritten device)

-- a command of a known kind of which nothing is due
pub ended_uncommitted : (kind : Kind) (old : State) (c : PlainCommand) (asks : List Ask) (r : Reacted) (reply : PlainReply) (before after : CoproSeen) (store : Store) (device : Device) (cells : List ℕ) → stored.Fits store device cells
    → due_by kind_rules (known kind (held cells) old c (answers_of asks)) ≡ [] → IsAnsweredByKind kind (held cells) old c asks r reply
    → IsEndedByKind kind old c asks (Answered r 0) reply (world before store device cells) (world after store device cells)
ended_uncommitted kind old c asks r reply before after store device cells fits none told = record {
  asked = told.asked;
  ended = (sym (ap length none), told.ended);
  next = told.left;
  leaves = leaves_all _ r before after store device cells none fits;
}

-- a command of a kind that never commits
pub settled : (kind is : Kind) (session : Session) (c : PlainCommand) (ending : Ended) (r : Reacted) (reply : PlainReply) (before after : CoproSeen) (store : Store) (device : Device) (cells : List ℕ)
    → kind ≡ is → ((s : Situation) → to_commit (Some is) s ≡ []) → stored.Fits store device cells → ending ≡ Answered r 0
    → Stepped before after is (held cells) session c r reply → Performed kind session c ending reply (world before store device cells) (world after store device cells)
settled kind is session c ending r reply before after store device cells same commits fits ends stepped =
    subst (λ (k : Kind). Performed k session c ending reply (world before store device cells) (world after store device cells)) (sym same)
    (subst (λ (e : Ended). Performed is session c e reply (world before store device cells) (world after store device cells)) (sym ends) (record {
      asks = stepped.asks;
      were_asked = stepped.were_asked;
      ended = λ channel.
          ended_uncommitted is (state session channel) c stepped.asks r reply before after store device cells fits
          (nothing_due_by kind_rules (known is (held cells) (state session channel) c (answers_of stepped.asks)) (commits _)) (stepped.tells channel);
      layout = refl;
    }))

-- a command that puts no question, and of which nothing is due
pub performed_unasked : (kind : Kind) (session : Session) (c : PlainCommand) (ending : Ended) (r : Reacted) (reply : PlainReply) (copro : CoproSeen) (store : Store) (device : Device) (cells : List ℕ) → stored.Fits store device cells → ending ≡ Answered r 0
    → ((channel : Option ChannelState) → (due_by kind_rules (known kind (held cells) (state session channel) c []) ≡ []) × IsAnsweredByKind kind (held cells) (state session channel) c [] r reply)
    → Performed kind session c ending reply (world copro store device cells) (world copro store device cells)
performed_unasked kind session c ending r reply copro store device cells fits ends told =
    subst (λ (e : Ended). Performed kind session c e reply (world copro store device cells) (world copro store device cells)) (sym ends) (record {
      asks = [];
      were_asked = not_asked copro;
      ended = λ channel. let said = told channel in ended_uncommitted kind (state session channel) c [] r reply copro copro store device cells fits said.0 said.1;
      layout = refl;
    })

-- a command that is refused by a rule of its kind
pub kind_refused : (kind : Kind) (kept : FullRecord) (old : State) (c : PlainCommand) (refused : PlainRefusal) (r : Reacted) (reply : PlainReply) → refusal_by kind_rules (known kind kept old c []) ≡ Some refused
    → (refused.rule == 0) ≡ false → r.rule ≡ refused.rule → reply ≡ status_alone refused.status
    → state_left r old.channel ≡ state_due refused.rule (state_refused old)
    → (due_by kind_rules (known kind kept old c []) ≡ []) × IsAnsweredByKind kind kept old c [] r reply
kind_refused kind kept old c refused r reply fails is_one rule answered left =
    let s = known kind kept old c [] in
    let same : refused_so refused ≡ outcome_seen r reply = rw (rule, answered) refl in (
      if_not (is_none (first_failed (kind_rules ++ answer_rules ++ commit_rules) s)) (to_commit s.kind s) [] (some_failed kind_rules (answer_rules ++ commit_rules) s refused fails),
      record {
        asked = if_not (is_none (first_failed (kind_rules ++ answer_rules) s)) (question_of s.kind s) None (some_failed kind_rules answer_rules s refused fails);
        ended = failed kind_rules (answer_rules ++ commit_rules ++ proof_rules) s refused fails ∙ same;
        left = left ∙ ap (λ (n : ℕ). state_due n (state_refused old)) (sym rule)
            ∙ ap (λ (x : State). state_due r.rule x) (sym (refused_by_kind kept.fields r.rule kind c [] old (ap (λ (n : ℕ). n == 0) rule ∙ is_one)));
      },
    )

-- and that puts no question and commits nothing
pub refused_unasked : (kind : Kind) (session : Session) (c : PlainCommand) (refused : PlainRefusal) (ending : Ended) (r : Reacted) (reply : PlainReply) (copro : CoproSeen) (store : Store) (device : Device) (cells : List ℕ) → stored.Fits store device cells → ending ≡ Answered r 0
    → ((channel : Option ChannelState) → (refusal_by kind_rules (known kind (held cells) (state session channel) c []) ≡ Some refused) × ((refused.rule == 0) ≡ false))
    → r.rule ≡ refused.rule → reply ≡ status_alone refused.status → ((channel : Option ChannelState) → state_left r channel ≡ state_due refused.rule (state_refused (state session channel)))
    → Performed kind session c ending reply (world copro store device cells) (world copro store device cells)
refused_unasked kind session c refused ending r reply copro store device cells fits ends tells rule answered left =
    performed_unasked kind session c ending r reply copro store device cells fits ends (λ channel. let told = tells channel in
    kind_refused kind (held cells) (state session channel) c refused r reply told.0 told.1 rule answered (left channel))

-- a refusal before the kind is known
pub refused_ends : (old : State) (incoming : Incoming) (r : Reacted) (reply : PlainReply) (copro : CoproSeen) (store : Store) (device : Device) (cells : List ℕ) → stored.Fits store device cells
    → IsAnsweredByRules (held cells) old incoming [] r reply → IsEndedByRules old incoming [] (Answered r 0) reply None (world copro store device cells) (world copro store device cells)
refused_ends old incoming r reply copro store device cells fits answers =
    record {
      asked = answers.asked;
      ended = (sym (ap length answers.undue), answers.ended);
      next = answers.left;
      leaves = leaves_all _ r copro copro store device cells answers.undue fits;
    }

-- and so a command that is refused; no chain is open behind it
pub refused_reacts : (session : Session) (fragments : Option OpenChain) (c : PlainCommand) (ending : Ended) (r : Reacted) (reply : PlainReply) (left : Option OpenChain) (copro : CoproSeen) (store : Store) (device : Device) (cells : List ℕ)
    → stored.Fits store device cells → ending ≡ Answered r 0 → left ≡ None
    → ((channel : Option ChannelState) → IsAnsweredByRules (held cells) (chained fragments (state session channel)) (OfCommand c) [] r reply)
    → Reacts session fragments c ending reply left (world copro store device cells) (world copro store device cells)
refused_reacts session fragments c ending r reply left copro store device cells fits ends closed answers = record {
  asks = [];
  were_asked = not_asked copro;
  ended = λ channel. let old : State = chained fragments (state session channel) in
      subst (λ (e : Ended). IsEndedByRules old (OfCommand c) [] e reply left (world copro store device cells) (world copro store device cells)) (sym ends)
      (subst (λ (o : Option OpenChain). IsEndedByRules old (OfCommand c) [] (Answered r 0) reply o (world copro store device cells) (world copro store device cells)) (sym closed)
      (refused_ends old (OfCommand c) r reply copro store device cells fits (answers channel)));
  layout = refl;
}

-- and so a response to bytes of which no command was incoming
pub refused_responds : (incoming : Incoming) (session : Session) (channel : Option ChannelState) (fragments : Option OpenChain) (bytes : List ℕ) (plain : Option PlainCommand) (ending : Ended) (r : Reacted) (reply : PlainReply) (left : Option OpenChain) (copro : CoproSeen) (store : Store) (device : Device) (cells : List ℕ)
    → stored.Fits store device cells → IsReadAs channel bytes incoming → plain_of incoming ≡ None → plain ≡ None → ending ≡ Answered r 0 → left ≡ None
    → IsAnsweredByRules (held cells) (chained fragments (state session channel)) incoming [] r reply
    → Responds session channel fragments bytes plain ending reply left (world copro store device cells) (world copro store device cells)
refused_responds incoming session channel fragments bytes plain ending r reply left copro store device cells fits reads none is ends closed answers =
    let old : State = chained fragments (state session channel) in
    record {
      incoming = incoming;
      reads = reads;
      is_plain = is ∙ sym none;
      asks = [];
      were_asked = not_asked copro;
      ended = subst (λ (e : Ended). IsEndedByRules old incoming [] e reply left (world copro store device cells) (world copro store device cells)) (sym ends)
          (subst (λ (o : Option OpenChain). IsEndedByRules old incoming [] (Answered r 0) reply o (world copro store device cells) (world copro store device cells)) (sym closed)
          (refused_ends old incoming r reply copro store device cells fits answers));
      layout = refl;
    }

-- ---- requests

-- a command of some kind in a request that is refused
pub request_reacts : (session : Session) (fragments : Option OpenChain) (c : PlainCommand) (refused : PlainRefusal) (ending : Ended) (r : Reacted) (reply : PlainReply) (left : Option OpenChain) (copro : CoproSeen) (store : Store) (device : Device) (cells : List ℕ)
    → stored.Fits store device cells → ending ≡ Answered r 0 → left ≡ None → Passes c
    → ((kept : FullRecord) (old : State) → old.chaining ≡ fragments → refusal_by request_rules (with_command kept old c []) ≡ Some refused)
    → (refused.rule == 0) ≡ false → r.rule ≡ refused.rule → reply ≡ status_alone refused.status
    → ((channel : Option ChannelState) → state_left r channel ≡ state_due refused.rule (state_refused (state session channel)))
    → Reacts session fragments c ending reply left (world copro store device cells) (world copro store device cells)
request_reacts session fragments c refused ending r reply left copro store device cells fits ends closed names fails is_one rule answered leaves =
    refused_reacts session fragments c ending r reply left copro store device cells fits ends closed
    (λ channel. let old : State = chained fragments (state session channel) in
    request_refused (held cells) old c refused r reply (names (held cells) old []) (fails (held cells) old refl) is_one rule answered (leaves channel))

-- the last command of a request that can be answered ends by the rules of its kind
pub request_answered : (session : Session) (fragments : Option OpenChain) (c whole : PlainCommand) (kind : Kind) (ending : Ended) (reply : PlainReply) (left : Option OpenChain) (before after : World)
    → continues fragments c ≡ true → length (body_so_far fragments c.body) ≤ MAX_REQUEST → kind_named (next_of session) whole ≡ Some kind → Passes c
    → whole ≡ request fragments c → left ≡ None → Performed kind session whole ending reply before after → Reacts session fragments c ending reply left before after
request_answered session fragments c whole kind ending reply left before after goes_on short named names is closed did = record {
  asks = did.asks;
  were_asked = did.were_asked;
  ended = λ channel. let old : State = chained fragments (state session channel) in
      subst (λ (o : Option OpenChain). IsEndedByRules old (OfCommand c) did.asks ending reply o before after) (sym closed)
      (ended_by_rules old c kind did.asks ending reply before after (record { goes_on = goes_on; named = ap (kind_named (next_of session)) (sym is) ∙ named }) (names (held before.cells) old)
      (λ answers. request_passes (held before.cells) old c answers goes_on short)
      (subst (λ (w : PlainCommand). IsEndedByKind kind (state session channel) w did.asks ending reply before after) is (did.ended channel)));
  layout = did.layout;
}

-- ---- fragments

-- a fragment has no kind
fragment_so : (kept : FullRecord) (old : State) (c : PlainCommand) → is_fragment c ≡ true → with_command kept old c [] ≡ at_request (continues old.chaining c) None kept old c []
fragment_so kept old c is = rw is refl

-- and so no rule behind those on requests concerns it
fragment_rules : (kept : FullRecord) (old : State) (c : PlainCommand) → is_fragment c ≡ true → refusal_by naming_rules (with_command kept old c []) ≡ None → refusal_by request_rules (with_command kept old c []) ≡ None
    → first_failed (transport_rules ++ naming_rules ++ request_rules ++ kind_rules ++ answer_rules ++ commit_rules ++ proof_rules) (with_command kept old c []) ≡ None
fragment_rules kept old c is names requests =
    late_rules (answer_rules ++ commit_rules ++ proof_rules) kept old c [] names requests
    ∙ ap (λ (s : Situation). first_failed (kind_rules ++ answer_rules ++ commit_rules ++ proof_rules) s) (fragment_so kept old c is)

fragment_outcome : (kept : FullRecord) (old : State) (c : PlainCommand) → is_fragment c ≡ true → refusal_by naming_rules (with_command kept old c []) ≡ None → refusal_by request_rules (with_command kept old c []) ≡ None
    → outcome (with_command kept old c []) ≡ record { rule = 0; reply = status_alone 0x9000 }
unfolding outcome
fragment_outcome kept old c is names requests =
    ap (λ (f : Option RuleRow). outcome_by f (with_command kept old c [])) (fragment_rules kept old c is names requests)
    ∙ ap (λ (s : Situation). outcome_by None s) (fragment_so kept old c is)

same_if : {A : Type 0} (b : Bool) (x : A) → (if b then x else x) ≡ x
same_if true x = refl
same_if false x = refl

fragment_asks : (kept : FullRecord) (old : State) (c : PlainCommand) → is_fragment c ≡ true → question (with_command kept old c []) ≡ None
unfolding question
fragment_asks kept old c is = ap question (fragment_so kept old c is) ∙ same_if _ None

fragment_due : (kept : FullRecord) (old : State) (c : PlainCommand) → is_fragment c ≡ true → due (with_command kept old c []) ≡ []
unfolding due
fragment_due kept old c is = ap due (fragment_so kept old c is) ∙ same_if _ []

-- the state after it, with the chain that it goes on with
fragment_state : (kept : PlainRecord) (rule : ℕ) (kind : Option Kind) (old : State) (c : PlainCommand) (left : Option OpenChain) → rule ≡ 0 → kind ≡ None → is_fragment c ≡ true
    → left ≡ chain_after old.chaining c More → chained left (state_piece c old) ≡ state_due rule (state_answered kept rule kind c [] old)
fragment_state kept rule kind old c left zero none is leaves = rw (zero, none, is, leaves) refl

-- a fragment that is answered
pub fragment_taken : (session : Session) (fragments : Option OpenChain) (c : PlainCommand) (ending : Ended) (r : Reacted) (reply : PlainReply) (left : Option OpenChain) (copro : CoproSeen) (store : Store) (device : Device) (cells : List ℕ)
    → stored.Fits store device cells → ending ≡ Answered r 0 → Says fragments c More → Passes c → r.rule ≡ 0 → reply ≡ status_alone 0x9000 → left ≡ chain_after fragments c More
    → ((channel : Option ChannelState) → state_left r channel ≡ state_piece c (state session channel))
    → Reacts session fragments c ending reply left (world copro store device cells) (world copro store device cells)
fragment_taken session fragments c ending r reply left copro store device cells fits ends says names rule answered leaves idle = record {
  asks = [];
  were_asked = not_asked copro;
  ended = λ channel.
      let old : State = chained fragments (state session channel) in
      let is : is_fragment c ≡ true = says.2 in
      let requests = request_passes (held cells) old c [] says.0 says.1 in
      subst (λ (e : Ended). IsEndedByRules old (OfCommand c) [] e reply left (world copro store device cells) (world copro store device cells)) (sym ends) (record {
        asked = fragment_asks (held cells) old c is;
        ended = (
          sym (ap length (fragment_due (held cells) old c is)),
          fragment_outcome (held cells) old c is (names (held cells) old []) requests ∙ rw (rule, answered) refl,
        );
        next = ap (λ (s : State). chained left s) (idle channel) ∙ fragment_state (held cells).fields r.rule (kind_incoming old (OfCommand c)) old c left rule (rw is refl) is leaves;
        leaves = leaves_all _ r copro copro store device cells (fragment_due (held cells) old c is) fits;
      });
  layout = refl;
}

-- how a command of a known kind ended, by its questions, by what is due and by the outcome
pub ends_so : (kind : Kind) (old : State) (c : PlainCommand) (asks : List Ask) (effects : List PlainEffect) (o : Outcome) (ending : Ended) (reply : PlainReply) (before after : World)
    → AreAsked (λ answers. question_by kind_rules (known kind (held before.cells) old c answers)) [] asks → due_by kind_rules (known kind (held before.cells) old c (answers_of asks)) ≡ effects → outcome_of kind_rules (known kind (held before.cells) old c (answers_of asks)) ≡ o
    → IsEnding effects o ending reply → IsNext (λ rule. state_by_kind (held before.cells).fields rule kind c (answers_of asks) old) ending old.channel None → Leaves effects (held before.cells) ending before after
    → IsEndedByKind kind old c asks ending reply before after
ends_so kind old c asks effects o ending reply before after unasked due_is outcome_is ended next leaves = record {
  asked = unasked;
  ended = subst (λ (l : List PlainEffect). IsEnding l (outcome_of kind_rules (known kind (held before.cells) old c (answers_of asks))) ending reply) (sym due_is)
      (subst (λ (x : Outcome). IsEnding effects x ending reply) (sym outcome_is) ended);
  next = next;
  leaves = subst (λ (l : List PlainEffect). Leaves l (held before.cells) ending before after) (sym due_is) leaves;
}

-- what a fragment that is answered leaves
pub piece_left : (session new : Session) (c : PlainCommand) (r : Reacted) (channel : Option ChannelState) → r.rule ≡ 0 → r.opened ≡ None → r.session ≡ new
    → ((ch : Option ChannelState) → state_later (state new ch) ≡ state_piece c (state session ch)) → state_left r channel ≡ state_piece c (state session channel)
piece_left session new c r channel rule opened is left = rw (rule, opened, is) (left channel)

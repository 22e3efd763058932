-- The law of the access to comparisons.
use Rattle.std.proofs.Common.{◌≡◌, ℕ, Bool, true, false, not, ◌==◌, ◌&&◌, ◌||◌, List, [], ◌∷◌, ◌++◌, take, drop, Option, Some, None, refl, sym, ap, ◌∙◌, inl, inr}
use Rattle.std.specs.Prelude.{◌↔◌, ◌⊎◌, is_none, is_some, if◌then◌else◌}
use Rattle.std.specs.List.{list_all}
use Rattle.std.proofs.lemmas.Bool.{and_parts, eqb-true}
use Rattle.std.proofs.lemmas.List.Folds.{list_all-append}
use Rattle.eid_apdu.specs.Command.{PlainCommand}
use Rattle.eid_copro.specs.declared.ask.Ask.{Ask}
use Rattle.eid_copro.specs.declared.ask.Answer.{Answer}
use Rattle.eid_copro.specs.declared.ask.Question.{Question}
use Rattle.eid_record.specs.Plain.{FullRecord}
use Rattle.eid_model.specs.declared.comparison.Comparison.{Comparison}
use Rattle.eid_model.specs.declared.comparison.Comparison.TheVariants.{Age, Validity, Community}
use Rattle.eid_model.specs.declared.kind.Kind.{Kind}
use Rattle.eid_model.specs.declared.kind.Kind.TheVariants.{VerifyAuxiliary}
use Rattle.eid_model.specs.Answers.{outcome, outcome_by, question, question_of, rules_before}
use Rattle.eid_model.specs.Auxiliary.{comparison_in, compared_of, is_yes}
use Rattle.eid_model.specs.Laws.{HasCompleted, HasItsRight, all_rules, comparison_asked, tells_comparison, is_kept, is_on_access, others_hold_but_36, sent_at}
use Rattle.eid_model.specs.Legal.{AreAsked, AreLegal, situation_after}
use Rattle.eid_model.specs.Runs.{answers_of}
use Rattle.eid_model.specs.Moments.{PlainMoment}
use Rattle.eid_model.specs.Rules.{AGE_VERIFICATION, COMMUNITY_VERIFICATION, Incoming, OfCommand, RuleRow, Situation, answer_rules, concerns, first_failed, is_of, may_compare}
use Rattle.eid_model.specs.Sessions.{State}
use Rattle.eid_model.proofs.Access.{all_kept, completed_so, failed_at, granted_so, kept_at, of_command, right_of, rule_is, split}
use Rattle.eid_model.proofs.Laws.{IsAnswered, answered_for, plain_so}

-- ---- what is asked

of_verify : (kind : Option Kind) → is_of VerifyAuxiliary kind ≡ true → kind ≡ Some VerifyAuxiliary
of_verify None e = absurd (cc)
of_verify (Some VerifyAuxiliary) e = refl
of_verify (Some kind) e = absurd (cc)

asked_at : (of : Bool) (found : Option Comparison) (comparison : Comparison) → (if of then found else None) ≡ Some comparison → (of ≡ true) × (found ≡ Some comparison)
asked_at true found comparison e = (refl, e)
asked_at false found comparison e = absurd (cc)

-- ---- the rules before the verdict, and those behind it

-- none of these rows is the verdict's, and each has a number
abbrev are_before : List RuleRow → Bool
are_before rows = list_all (λ row. not (row.number == 0) && not (row.number == 36)) rows

abbrev front : List RuleRow
front = take 33 all_rules

abbrev rest : List RuleRow
rest = drop 33 all_rules

front_more : (failed : Bool) (row : RuleRow) (rows more : List RuleRow) (s : Situation) → (concerns row.kinds s.kind && not (row.holds s)) ≡ failed → not (row.number == 36) ≡ true
    → ((outcome_by (first_failed (rows ++ more) s) s).rule ≡ 36 → list_all (is_kept s) rows ≡ true)
    → (outcome_by (if failed then Some row else first_failed (rows ++ more) s) s).rule ≡ 36 → (is_kept s row && list_all (is_kept s) rows) ≡ true
front_more true row rows more s is other later rule = absurd (let no : not (row.number == 36) ≡ false = ap (λ (n : ℕ). not (n == 36)) rule in cc)
front_more false row rows more s is other later rule = rw (kept_at (concerns row.kinds s.kind) (row.holds s) is) (later rule)

front_kept : (rows more : List RuleRow) (s : Situation) → are_before rows ≡ true → (outcome_by (first_failed (rows ++ more) s) s).rule ≡ 36 → list_all (is_kept s) rows ≡ true
front_kept [] more s before e = refl
front_kept (row ∷ rows) more s before e =
    let both = and_parts (not (row.number == 0) && not (row.number == 36)) (are_before rows) before in
    let other = and_parts (not (row.number == 0)) (not (row.number == 36)) both.0 in
    front_more (concerns row.kinds s.kind && not (row.holds s)) row rows more s refl other.1 (front_kept rows more s both.1) e

passed_more : (failed : Bool) (row : RuleRow) (rows more : List RuleRow) (s : Situation) → (concerns row.kinds s.kind && not (row.holds s)) ≡ failed → is_kept s row ≡ true
    → first_failed (rows ++ more) s ≡ first_failed more s → (if failed then Some row else first_failed (rows ++ more) s) ≡ first_failed more s
passed_more true row rows more s is kept later = absurd (let no : is_kept s row ≡ false = failed_at (concerns row.kinds s.kind) (row.holds s) is in cc)
passed_more false row rows more s is kept later = later

front_passed : (rows more : List RuleRow) (s : Situation) → list_all (is_kept s) rows ≡ true → first_failed (rows ++ more) s ≡ first_failed more s
front_passed [] more s e = refl
front_passed (row ∷ rows) more s e =
    let both = and_parts (is_kept s row) (list_all (is_kept s) rows) e in
    passed_more (concerns row.kinds s.kind && not (row.holds s)) row rows more s refl both.0 (front_passed rows more s both.1)

last : (a b : Bool) → (a || b || true) ≡ true
last true b = refl
last false true = refl
last false false = refl

-- what holds of each kept row, holds of all
pub weaker : (test : RuleRow → Bool) (rows : List RuleRow) (s : Situation) → ((row : RuleRow) → is_kept s row ≡ true → test row ≡ true) → list_all (is_kept s) rows ≡ true → list_all test rows ≡ true
weaker test [] s holds e = refl
weaker test (row ∷ rows) s holds e =
    let both = and_parts (is_kept s row) (list_all (is_kept s) rows) e in
    let first : test row ≡ true = holds row both.0 in
    rw first (weaker test rows s holds both.1)

pub behind : (a b : Bool) → b ≡ true → (a || b) ≡ true
behind true b e = refl
behind false b e = e

-- the verdict's row and those behind it, where no question was put
rest_rule : (s : Situation) → s.kind ≡ Some VerifyAuxiliary → s.answers ≡ [] → tells_comparison (outcome_by (first_failed rest s) s).rule ≡ true
rest_rule s kind answers = by (is_yes (compared_of s.kept (comparison_in s.command.body) s.state.terminal)) refl where
  by : (yes : Bool) → is_yes (compared_of s.kept (comparison_in s.command.body) s.state.terminal) ≡ yes → tells_comparison (outcome_by (first_failed rest s) s).rule ≡ true
  by true is = rw (answers, is, kind) refl
  by false is = rw (answers, is, kind) refl

rest_holds : (s : Situation) → s.kind ≡ Some VerifyAuxiliary → s.answers ≡ [] → list_all (λ row. is_on_access row.number || row.number == 36 || is_kept s row) rest ≡ true
rest_holds s kind answers = rw (answers, kind) refl

-- those on the access, before it
abbrev conditions : State → Comparison → Bool
conditions s comparison = is_some s.pace && (is_some s.terminal && (s.chip_proven && (may_compare s (Some comparison) && true)))

access_hold : (s : Situation) (comparison : Comparison) → comparison_in s.command.body ≡ Some comparison → s.kind ≡ Some VerifyAuxiliary
    → list_all (λ row. not (is_on_access row.number) || is_kept s row) front ≡ conditions s.state comparison
access_hold s comparison asked kind = rw (asked, kind) refl

its_right : (s : State) (comparison : Comparison) → may_compare s (Some comparison) ≡ true → HasItsRight s comparison
its_right s Age e = right_of s AGE_VERIFICATION e
its_right s Validity e = tt
its_right s Community e = right_of s COMMUNITY_VERIFICATION e

may_so : (s : State) (comparison : Comparison) → s.chip_proven ≡ true → HasItsRight s comparison → may_compare s (Some comparison) ≡ true
may_so s Age chip right = granted_so s AGE_VERIFICATION refl chip right
may_so s Validity chip right = refl
may_so s Community chip right = granted_so s COMMUNITY_VERIFICATION refl chip right

allowed : (s : State) (comparison : Comparison) → HasCompleted s → HasItsRight s comparison → conditions s comparison ≡ true
allowed s comparison a right = rw (may_so s comparison a.chip right, a.pace, a.terminal, a.chip) refl

-- ---- no question

none_both : (b : Bool) → ◌≡◌ {A = Option Question} (if b then None else None) None
none_both true = refl
none_both false = refl

none_asked : (next : List Answer → Option Question) (asks : List Ask) → AreAsked next [] asks → next [] ≡ None → asks ≡ []
none_asked next [] asked none = refl
none_asked next (ask ∷ later) asked none = absurd (let some = asked.0 in cc)

no_question : (s : Situation) → s.kind ≡ Some VerifyAuxiliary → question s ≡ None
unfolding question
no_question s kind = by (is_none (first_failed (rules_before ++ answer_rules) s)) refl where
  by : (b : Bool) → is_none (first_failed (rules_before ++ answer_rules) s) ≡ b → (if is_none (first_failed (rules_before ++ answer_rules) s) then question_of s.kind s else None) ≡ None
  by true is = rw is (ap (λ (k : Option Kind). question_of k s) kind)
  by false is = rw is refl

-- ---- the law

either : (n : ℕ) → tells_comparison n ≡ true → (n ≡ 0) ⊎ (n ≡ 36)
either n e = by (n == 0) refl e where
  by : (zero : Bool) → (n == 0) ≡ zero → (zero || n == 36) ≡ true → (n ≡ 0) ⊎ (n ≡ 36)
  by true is so = inl (eqb-true n 0 is)
  by false is so = inr (eqb-true n 36 so)

pub comparison_access : (opening : FullRecord) (m : PlainMoment) (before : List PlainMoment) (c : PlainCommand) (comparison : Comparison) → AreLegal opening (m ∷ before) → m.plain ≡ Some c → is_some m.answer ≡ true
    → comparison_asked (sent_at opening before c m) ≡ Some comparison
    → (tells_comparison m.rule ≡ true) ↔ (HasCompleted (sent_at opening before c m).state × HasItsRight (sent_at opening before c m).state comparison × (others_hold_but_36 (sent_at opening before c m) ≡ true))
unfolding outcome
comparison_access opening m before c comparison legal plain answer asked = (forth, back) where
  s : Situation
  s = sent_at opening before c m

  rule : m.rule ≡ (outcome s).rule
  rule = rule_is opening before m c legal plain answer

  both : (is_of VerifyAuxiliary s.kind ≡ true) × (comparison_in s.command.body ≡ Some comparison)
  both = asked_at (is_of VerifyAuxiliary s.kind) (comparison_in s.command.body) comparison asked

  kind : s.kind ≡ Some VerifyAuxiliary
  kind = of_verify s.kind both.0

  unasked : m.asks ≡ []
  unasked =
      let a : IsAnswered opening before m = answered_for m.input opening before m refl legal.0 answer in
      let is : a.incoming ≡ OfCommand c = of_command a.incoming c (sym plain ∙ plain_so opening before m a) in
      none_asked (λ answers. question (situation_after opening before a.incoming answers)) m.asks a.asked
      (ap (λ (incoming : Incoming). question (situation_after opening before incoming [])) is ∙ no_question (situation_after opening before (OfCommand c) []) kind)

  answers : s.answers ≡ []
  answers = ap answers_of unasked

  kept_by : (outcome s).rule ≡ 0 ⊎ (outcome s).rule ≡ 36 → list_all (is_kept s) front ≡ true
  kept_by (inl zero) = (and_parts (list_all (is_kept s) front) (list_all (is_kept s) rest) (sym (list_all-append (is_kept s) front rest) ∙ all_kept all_rules s refl zero)).0
  kept_by (inr verdict) = front_kept front rest s refl verdict

  forth : tells_comparison m.rule ≡ true → HasCompleted s.state × HasItsRight s.state comparison × (others_hold_but_36 s ≡ true)
  forth e =
      let kept : list_all (is_kept s) front ≡ true = kept_by (either (outcome s).rule (sym (ap tells_comparison rule) ∙ e)) in
      let access = weaker (λ row. not (is_on_access row.number) || is_kept s row) front s (λ row k. behind (not (is_on_access row.number)) (is_kept s row) k) kept in
      let others : list_all (λ row. is_on_access row.number || row.number == 36 || is_kept s row) front ≡ true = weaker (λ row. is_on_access row.number || row.number == 36 || is_kept s row) front s (λ row k. rw k (last (is_on_access row.number) (row.number == 36))) kept in
      let first : list_all (λ row. is_on_access row.number || row.number == 36 || is_kept s row) front ≡ true = others in
      let second = rest_holds s kind answers in
      let done = completed_so s.state (may_compare s.state (Some comparison)) (sym (access_hold s comparison both.1 kind) ∙ access) in
      (done.0, its_right s.state comparison done.1, list_all-append (λ row. is_on_access row.number || row.number == 36 || is_kept s row) front rest ∙ rw (first, second) refl)

  back : HasCompleted s.state × HasItsRight s.state comparison × (others_hold_but_36 s ≡ true) → tells_comparison m.rule ≡ true
  back e =
      let parts = and_parts (list_all (λ row. is_on_access row.number || row.number == 36 || is_kept s row) front) (list_all (λ row. is_on_access row.number || row.number == 36 || is_kept s row) rest) (sym (list_all-append (λ row. is_on_access row.number || row.number == 36 || is_kept s row) front rest) ∙ e.2) in
      let first : list_all (λ row. is_on_access row.number || is_kept s row) front ≡ true = parts.0 in
      let access : list_all (λ row. not (is_on_access row.number) || is_kept s row) front ≡ true = access_hold s comparison both.1 kind ∙ allowed s.state comparison e.0 e.1 in
      let kept : list_all (is_kept s) front ≡ true = sym (split (is_kept s) front) ∙ rw (first, access) refl in
      ap tells_comparison (rule ∙ ap (λ (o : Option RuleRow). (outcome_by o s).rule) (front_passed front rest s kept)) ∙ rest_rule s kind answers

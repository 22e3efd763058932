-- The law of the access to identifiers in sectors.
use Rattle.std.proofs.Common.{◌≡◌, ℕ, Bool, true, false, not, ◌==◌, ◌&&◌, ◌||◌, List, [], ◌∷◌, Option, Some, None, refl, sym, ◌∙◌}
use Rattle.std.specs.Prelude.{◌↔◌, is_some, option_and_then, if◌then◌else◌}
use Rattle.std.specs.List.{list_all}
use Rattle.std.proofs.lemmas.Bool.{and_parts, eqb-true}
use Rattle.eid_apdu.specs.Command.{PlainCommand}
use Rattle.eid_apdu.specs.Chaining.{is_fragment}
use Rattle.eid_copro.specs.declared.ask.Answer.{Answer}
use Rattle.eid_record.specs.Plain.{FullRecord}
use Rattle.eid_ri.specs.SectorKeys.{PlainSectorKeys}
use Rattle.eid_ri.specs.SectorKeysIn.{sector_keys_in}
use Rattle.eid_model.specs.declared.kind.Kind.{Kind}
use Rattle.eid_model.specs.declared.kind.Kind.TheVariants.{PerformRestrictedIdentification, SelectRestrictedIdentification}
use Rattle.eid_model.specs.Answers.{outcome}
use Rattle.eid_model.specs.Chains.{fragment, request_of}
use Rattle.eid_model.specs.Kinds.{has_form_of, kind_in_table, kind_named, kinds}
use Rattle.eid_model.specs.Laws.{HasCompleted, HasRight, SelectionHolds, all_rules, is_kept, is_on_access, kind_sent, others_hold, sectors_asked, sent_at}
use Rattle.eid_model.specs.Ledger.{account, state_of}
use Rattle.eid_model.specs.Legal.{AreLegal}
use Rattle.eid_model.specs.Moments.{PlainMoment, ends_session, live, succeeded}
use Rattle.eid_model.specs.Rules.{RESTRICTED_IDENTIFICATION, Situation, is_by_holder, is_granted, is_of}
use Rattle.eid_model.specs.Runs.{Step, answers_of, continued, is_piece_of_next, kind_done, next, run}
use Rattle.eid_model.specs.Sessions.{State, accepts, kind_of_moment}
use Rattle.eid_model.proofs.Access.{all_kept, none_failed, right_of, rule_is, split}
use Rattle.eid_model.proofs.Comparisons.{behind, weaker}
use Rattle.eid_model.proofs.Laws.{IsAnswered, answered_for, at, kind_so, rule_so}
use Rattle.eid_model.proofs.Steps.{in_table_of, never_found, no_fragment, no_piece}

-- ---- the step comes behind its selection alone

in_table : (next : Option Kind) (c : PlainCommand) → kind_in_table next c ≡ Some PerformRestrictedIdentification → next ≡ Some PerformRestrictedIdentification
in_table None c e = absurd (never_found PerformRestrictedIdentification kinds None c refl e)
in_table (Some PerformRestrictedIdentification) c e = refl
in_table (Some kind) c e = absurd (never_found PerformRestrictedIdentification kinds (Some kind) c refl e)

in_turn : (next : Option Kind) (c : PlainCommand) → kind_named next c ≡ Some PerformRestrictedIdentification → next ≡ Some PerformRestrictedIdentification
in_turn next c e = in_table_of PerformRestrictedIdentification next c (in_table next c) e

-- a run in which it is next began with the newest request, its selection
begun_by : (done : Option Kind) (whole : Option PlainCommand) (given : List Answer) (steps : List Step) → next (continued done whole given steps) ≡ Some PerformRestrictedIdentification
    → done ≡ Some SelectRestrictedIdentification
begun_by None whole given steps e = absurd (cc)
begun_by (Some kind) None given steps e = absurd (cc)
begun_by (Some SelectRestrictedIdentification) (Some c) given steps e = refl
begun_by (Some kind) (Some c) given steps e = absurd (cc)

no_form : (c : PlainCommand) → is_fragment c ≡ true → has_form_of PerformRestrictedIdentification c ≡ false
no_form c = no_fragment PerformRestrictedIdentification c (λ other. rw other refl)

-- ---- what its selection needs

record MayIdentify (s : State) : Type 0 where
  completed : HasCompleted s
  right : HasRight s RESTRICTED_IDENTIFICATION
  selection : SelectionHolds s

abbrev conditions : State → Bool
conditions s = is_some s.pace && (is_some s.terminal && (s.chip_proven && (is_by_holder s && (s.selected && (is_granted s RESTRICTED_IDENTIFICATION && true)))))

abbrev is_on_selection : ℕ → Bool
is_on_selection number = number == 20 || number == 26 || number == 28 || number == 31 || number == 32 || number == 33

conditions_are : (s : Situation) → s.kind ≡ Some SelectRestrictedIdentification → list_all (λ row. not (is_on_selection row.number) || is_kept s row) all_rules ≡ conditions s.state
conditions_are s kind = rw kind refl

may_identify : (s : State) → conditions s ≡ true → MayIdentify s
may_identify s e =
    let pace = and_parts (is_some s.pace) _ e in
    let terminal = and_parts (is_some s.terminal) _ pace.1 in
    let chip = and_parts s.chip_proven _ terminal.1 in
    let holder = and_parts (is_by_holder s) _ chip.1 in
    let selected = and_parts s.selected _ holder.1 in
    record {
      completed = record { pace = pace.0; terminal = terminal.0; chip = chip.0 };
      right = right_of s RESTRICTED_IDENTIFICATION (and_parts (is_granted s RESTRICTED_IDENTIFICATION) true selected.1).0;
      selection = record { holder = holder.0; selected = selected.0 };
    }

selection_held : (s : Situation) → s.kind ≡ Some SelectRestrictedIdentification → (outcome s).rule ≡ 0 → MayIdentify s.state
unfolding outcome
selection_held s kind zero =
    let kept : list_all (is_kept s) all_rules ≡ true = all_kept all_rules s refl zero in
    let held = weaker (λ row. not (is_on_selection row.number) || is_kept s row) all_rules s (λ row k. behind (not (is_on_selection row.number)) (is_kept s row) k) kept in
    may_identify s.state (sym (conditions_are s kind) ∙ held)

-- nothing else counts for it
same_rights : (a b : State) → a.pace ≡ b.pace → a.certificates ≡ b.certificates → a.terminal ≡ b.terminal → a.chip_proven ≡ b.chip_proven → a.selected ≡ b.selected → MayIdentify a → MayIdentify b
unfolding is_by_holder is_granted
same_rights a b pace certificates terminal chip selected may =
    let holder : is_by_holder a ≡ is_by_holder b = rw (pace, certificates, chip) refl in
    record {
      completed = record { pace = rw pace at may.completed.pace; terminal = rw terminal at may.completed.terminal; chip = sym chip ∙ may.completed.chip };
      right = (rw pace at may.right.0, rw certificates at may.right.1);
      selection = record { holder = sym holder ∙ may.selection.holder; selected = sym selected ∙ may.selection.selected };
    }

none_accepted : (request : Option PlainCommand) → option_and_then (accepts SelectRestrictedIdentification) request ≡ None
none_accepted None = refl
none_accepted (Some c) = refl

-- a selection that was carried out leaves it as it was
stays : (opening : FullRecord) (m : PlainMoment) (before : List PlainMoment) → ends_session m ≡ false → kind_of_moment m (live before) ≡ Some SelectRestrictedIdentification
    → MayIdentify (state_of opening before) → MayIdentify (state_of opening (m ∷ before))
unfolding account
stays opening m before ends kind may =
    let none = none_accepted (request_of m (live before)) in
    same_rights (state_of opening before) (state_of opening (m ∷ before)) (rw (ends, kind) refl) (rw (ends, kind, none) refl) (rw (ends, kind) refl) (rw (ends, kind) refl) (rw (ends, kind) refl) may

-- where the step comes next, its selection was carried out with the newest moment
begun : (opening : FullRecord) (m : PlainMoment) (before : List PlainMoment) → AreLegal opening (m ∷ before) → ends_session m ≡ false
    → kind_of_moment m (live before) ≡ Some SelectRestrictedIdentification → MayIdentify (state_of opening before)
begun opening m before legal ends kind = by (succeeded m) refl where
  by : (b : Bool) → succeeded m ≡ b → MayIdentify (state_of opening before)
  by false is = absurd (let none : kind_of_moment m (live before) ≡ None = rw is refl in cc)
  by true is =
      let both = and_parts (is_some m.answer) (m.rule == 0) is in
      let a : IsAnswered opening before m = answered_for m.input opening before m refl legal.0 both.0 in
      let s : Situation = at opening before a.incoming m in
      let sent : kind_sent m before ≡ Some SelectRestrictedIdentification = rw is at kind in
      let of : s.kind ≡ Some SelectRestrictedIdentification = sym (kind_so opening before m a) ∙ sent in
      let held = selection_held s of (sym (rule_so opening before m a) ∙ eqb-true m.rule 0 both.1) in
      same_rights s.state (state_of opening before) refl refl refl refl refl held

stands : (opening : FullRecord) (moments : List PlainMoment) → AreLegal opening moments → next (run (live moments)) ≡ Some PerformRestrictedIdentification → MayIdentify (state_of opening moments)
stands opening [] legal e = absurd (cc)
stands opening (m ∷ before) legal e = by (ends_session m) refl where
  selected : (piece : Bool) → is_piece_of_next (next (run (live before))) (fragment m) ≡ piece
      → next (if piece then run (live before) else continued (kind_done (next (run (live before))) m (live before)) (request_of m (live before)) (answers_of m.asks) (run (live before))) ≡ Some PerformRestrictedIdentification
      → kind_of_moment m (live before) ≡ Some SelectRestrictedIdentification
  selected true is so = absurd (let none : is_piece_of_next (next (run (live before))) (fragment m) ≡ false = rw so (no_piece PerformRestrictedIdentification m no_form) in cc)
  selected false is so = begun_by (kind_done (next (run (live before))) m (live before)) (request_of m (live before)) (answers_of m.asks) (run (live before)) so

  by : (b : Bool) → ends_session m ≡ b → MayIdentify (state_of opening (m ∷ before))
  by true is = absurd (let none : next (run (live (m ∷ before))) ≡ None = rw is refl in cc)
  by false is =
      let kind = selected (is_piece_of_next (next (run (live before))) (fragment m)) refl (rw is at e) in
      stays opening m before is kind (begun opening m before legal is kind)

-- ---- the law

of_step : (kind : Option Kind) → is_of PerformRestrictedIdentification kind ≡ true → kind ≡ Some PerformRestrictedIdentification
of_step None e = absurd (cc)
of_step (Some PerformRestrictedIdentification) e = refl
of_step (Some kind) e = absurd (cc)

asked_at : (of : Bool) (found : Option PlainSectorKeys) (keys : PlainSectorKeys) → (if of then found else None) ≡ Some keys → of ≡ true
asked_at true found keys e = refl
asked_at false found keys e = absurd (cc)

-- no rule on the access concerns the step itself
none_on_access : (s : Situation) → s.kind ≡ Some PerformRestrictedIdentification → list_all (λ row. not (is_on_access row.number) || is_kept s row) all_rules ≡ true
none_on_access s kind = rw kind refl

pub identifier_access : (opening : FullRecord) (m : PlainMoment) (before : List PlainMoment) (c : PlainCommand) (keys : PlainSectorKeys) → AreLegal opening (m ∷ before) → m.plain ≡ Some c → is_some m.answer ≡ true
    → sectors_asked (sent_at opening before c m) ≡ Some keys
    → m.rule ≡ 0 ↔ (HasCompleted (sent_at opening before c m).state × HasRight (sent_at opening before c m).state RESTRICTED_IDENTIFICATION × SelectionHolds (sent_at opening before c m).state × (others_hold (sent_at opening before c m) ≡ true))
unfolding outcome
identifier_access opening m before c keys legal plain answer asked = (forth, back) where
  s : Situation
  s = sent_at opening before c m

  rule : m.rule ≡ (outcome s).rule
  rule = rule_is opening before m c legal plain answer

  kind : s.kind ≡ Some PerformRestrictedIdentification
  kind = of_step s.kind (asked_at (is_of PerformRestrictedIdentification s.kind) (sector_keys_in s.command.body) keys asked)

  may : MayIdentify s.state
  may = same_rights (state_of opening before) s.state refl refl refl refl refl (stands opening before legal.1 (in_turn (next (run (live before))) s.command kind))

  forth : m.rule ≡ 0 → HasCompleted s.state × HasRight s.state RESTRICTED_IDENTIFICATION × SelectionHolds s.state × (others_hold s ≡ true)
  forth zero =
      let kept : list_all (is_kept s) all_rules ≡ true = all_kept all_rules s refl (sym rule ∙ zero) in
      (may.completed, may.right, may.selection, (and_parts (others_hold s) (list_all (λ row. not (is_on_access row.number) || is_kept s row) all_rules) (split (is_kept s) all_rules ∙ kept)).0)

  back : HasCompleted s.state × HasRight s.state RESTRICTED_IDENTIFICATION × SelectionHolds s.state × (others_hold s ≡ true) → m.rule ≡ 0
  back all =
      let access = none_on_access s kind in
      let others : others_hold s ≡ true = all.3 in
      let kept : list_all (is_kept s) all_rules ≡ true = sym (split (is_kept s) all_rules) ∙ rw (others, access) refl in
      rule ∙ none_failed all_rules s kept

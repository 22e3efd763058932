-- The law of the access to data groups.
use Rattle.std.proofs.Common.{◌≡◌, ℕ, Bool, true, false, not, ◌==◌, ◌&&◌, ◌||◌, List, [], ◌∷◌, Option, Some, None, refl, sym, ap, ◌∙◌, arith}
use Rattle.std.specs.Prelude.{◌↔◌, is_some, nat_le, nat_lt, option_and_then, if◌then◌else◌}
use Rattle.std.specs.List.{list_all}
use Rattle.std.proofs.lemmas.Bool.{and_parts}
use Rattle.std.proofs.lemmas.Bool.Decides.{nat_tests}
use Rattle.eid_apdu.specs.Command.{PlainCommand}
use Rattle.eid_bits.specs.Date.{is_between}
use Rattle.eid_files.specs.Names.{data_group_of}
use Rattle.eid_bits.specs.Rights.{is_right}
use Rattle.eid_record.specs.Plain.{FullRecord}
use Rattle.eid_model.specs.declared.kind.Kind.{Kind}
use Rattle.eid_model.specs.declared.kind.Kind.TheVariants.{ReadBinary}
use Rattle.eid_model.specs.Answers.{outcome, outcome_by}
use Rattle.eid_model.specs.Laws.{HasCompleted, HasRight, all_rules, group_read, is_kept, is_on_access, others_hold, sent_at}
use Rattle.eid_model.specs.Ledger.{state_of}
use Rattle.eid_model.specs.Legal.{AreLegal}
use Rattle.eid_model.specs.Moments.{PlainMoment, leaves_no_session}
use Rattle.eid_model.specs.Rules.{Incoming, NoCommand, MissingObjects, WrongObjects, OfCommand, RuleRow, Situation, chain_gave, concerns, file_meant, first_failed, group_of, holder_gave, is_granted, is_of, plain_of, reading}
use Rattle.eid_model.specs.Sessions.{State}
use Rattle.eid_model.proofs.Laws.{IsAnswered, answered_for, at, begins_fresh, plain_so, rule_so}

-- nothing is granted where there is no session
pub nothing_granted : (opening : FullRecord) (m : PlainMoment) (before : List PlainMoment) (bit : ℕ) → leaves_no_session m ≡ true → is_granted (state_of opening (m ∷ before)) bit ≡ false
unfolding is_granted
nothing_granted opening m before bit leaves = ap (λ (s : State). is_granted s bit) (begins_fresh opening m before leaves)

-- ---- what is carried out failed no rule

-- the numbers of these rules are others than 0
abbrev pub are_numbered : List RuleRow → Bool
are_numbered rows = list_all (λ row. not (row.number == 0)) rows

pub kept_at : (concerned holds : Bool) → (concerned && not holds) ≡ false → (not concerned || holds) ≡ true
kept_at true true e = refl
kept_at true false e = absurd (cc)
kept_at false holds e = refl

pub failed_at : (concerned holds : Bool) → (concerned && not holds) ≡ true → (not concerned || holds) ≡ false
failed_at true true e = absurd (cc)
failed_at true false e = refl
failed_at false holds e = absurd (cc)

pub numbered_at : (n : ℕ) → not (n == 0) ≡ true → n ≡ 0 → ⊥
numbered_at n other is = absurd (let no : not (n == 0) ≡ false = ap (λ (k : ℕ). not (k == 0)) is in cc)

kept_more : (failed : Bool) (row : RuleRow) (rows : List RuleRow) (s : Situation) → (concerns row.kinds s.kind && not (row.holds s)) ≡ failed → not (row.number == 0) ≡ true
    → ((outcome_by (first_failed rows s) s).rule ≡ 0 → list_all (is_kept s) rows ≡ true)
    → (outcome_by (if failed then Some row else first_failed rows s) s).rule ≡ 0 → (is_kept s row && list_all (is_kept s) rows) ≡ true
kept_more true row rows s is numbered later rule = absurd (numbered_at row.number numbered rule)
kept_more false row rows s is numbered later rule = rw (kept_at (concerns row.kinds s.kind) (row.holds s) is) (later rule)

pub all_kept : (rows : List RuleRow) (s : Situation) → are_numbered rows ≡ true → (outcome_by (first_failed rows s) s).rule ≡ 0 → list_all (is_kept s) rows ≡ true
all_kept [] s numbered e = refl
all_kept (row ∷ rows) s numbered e =
    let both = and_parts (not (row.number == 0)) (are_numbered rows) numbered in
    kept_more (concerns row.kinds s.kind && not (row.holds s)) row rows s refl both.0 (all_kept rows s both.1) e

none_more : (failed : Bool) (row : RuleRow) (rows : List RuleRow) (s : Situation) → (concerns row.kinds s.kind && not (row.holds s)) ≡ failed → is_kept s row ≡ true
    → (outcome_by (first_failed rows s) s).rule ≡ 0 → (outcome_by (if failed then Some row else first_failed rows s) s).rule ≡ 0
none_more true row rows s is kept later = absurd (let no : is_kept s row ≡ false = failed_at (concerns row.kinds s.kind) (row.holds s) is in cc)
none_more false row rows s is kept later = later

pub none_failed : (rows : List RuleRow) (s : Situation) → list_all (is_kept s) rows ≡ true → (outcome_by (first_failed rows s) s).rule ≡ 0
none_failed [] s e = refl
none_failed (row ∷ rows) s e =
    let both = and_parts (is_kept s row) (list_all (is_kept s) rows) e in
    none_more (concerns row.kinds s.kind && not (row.holds s)) row rows s refl both.0 (none_failed rows s both.1)

-- ---- the rules on access, and the others

split_at : (access kept rest others : Bool) → ((access || kept) && rest) && ((not access || kept) && others) ≡ kept && (rest && others)
split_at true true rest others = refl
split_at true false true others = refl
split_at true false false others = refl
split_at false true rest others = refl
split_at false false rest others = refl

pub split : (test : RuleRow → Bool) (rows : List RuleRow) → (list_all (λ row. is_on_access row.number || test row) rows && list_all (λ row. not (is_on_access row.number) || test row) rows) ≡ list_all test rows
split test [] = refl
split test (row ∷ rows) =
    split_at (is_on_access row.number) (test row) (list_all (λ r. is_on_access r.number || test r) rows) (list_all (λ r. not (is_on_access r.number) || test r) rows)
    ∙ ap (λ (b : Bool). test row && b) (split test rows)

-- those on the access to a data group
abbrev conditions : State → ℕ → Bool
conditions s bit = is_some s.pace && (is_some s.terminal && (s.chip_proven && (is_granted s bit && true)))

access_hold : (s : Situation) (file : ℕ) → file_meant s ≡ Some file → (file == 0) ≡ false → nat_lt 1 file ≡ true → s.kind ≡ Some ReadBinary
    → list_all (λ row. not (is_on_access row.number) || is_kept s row) all_rules ≡ conditions s.state (reading (group_of file))
access_hold s file meant other group kind = rw (meant, kind, other, group) refl

pub granted_parts : (chip right holder chain : Bool) → (chip && right && holder && chain) ≡ true → (holder ≡ true) × (chain ≡ true)
granted_parts true true true true e = (refl, refl)
granted_parts true true true false e = absurd (cc)
granted_parts true true false chain e = absurd (cc)
granted_parts true false holder chain e = absurd (cc)
granted_parts false right holder chain e = absurd (cc)

-- the three conditions before the right
pub completed_so : (s : State) (right : Bool) → (is_some s.pace && (is_some s.terminal && (s.chip_proven && (right && true)))) ≡ true → HasCompleted s × (right ≡ true)
completed_so s right e =
    let pace = and_parts (is_some s.pace) _ e in
    let terminal = and_parts (is_some s.terminal) _ pace.1 in
    let chip = and_parts s.chip_proven _ terminal.1 in
    (record { pace = pace.0; terminal = terminal.0; chip = chip.0 }, (and_parts right true chip.1).0)

pub right_of : (s : State) (bit : ℕ) → is_granted s bit ≡ true → HasRight s bit
unfolding is_granted
right_of s bit e = granted_parts s.chip_proven (is_right bit) (holder_gave s.pace bit) (chain_gave s.certificates bit) e

pub granted_so : (s : State) (bit : ℕ) → is_right bit ≡ true → s.chip_proven ≡ true → HasRight s bit → is_granted s bit ≡ true
unfolding is_granted
granted_so s bit right chip has = rw (right, has.0, has.1, chip) refl

allowed : (s : State) (bit : ℕ) → is_right bit ≡ true → HasCompleted s → HasRight s bit → conditions s bit ≡ true
allowed s bit right a has = rw (granted_so s bit right a.chip has, a.pace, a.terminal, a.chip) refl

-- ---- the data group

right_so : (group : ℕ) → is_between 1 21 group ≡ true → is_right (reading group) ≡ true
right_so group is =
    let both = and_parts (nat_le 1 group) (nat_le group 21) is in
    let low : nat_le (reading group) 28 ≡ true = grind (arith, nat_tests, both.1) in
    rw low refl

-- what a READ BINARY of a data group is
record Reads (s : Situation) (group : ℕ) : Type 0 where
  kind : s.kind ≡ Some ReadBinary
  file : ℕ
  meant : file_meant s ≡ Some file
  between : is_between 1 21 (group_of file) ≡ true
  is : group_of file ≡ group

of_read : (kind : Option Kind) → is_of ReadBinary kind ≡ true → kind ≡ Some ReadBinary
of_read None e = absurd (cc)
of_read (Some ReadBinary) e = refl
of_read (Some kind) e = absurd (cc)

reads_at : (of between : Bool) (file group : ℕ) → (if of then (if between then Some file else None) else None) ≡ Some group → (of ≡ true) × (between ≡ true) × (file ≡ group)
reads_at true true file group e = (refl, refl, cc)
reads_at true false file group e = absurd (cc)
reads_at false between file group e = absurd (cc)

none_read : (of : Bool) (group : ℕ) → (if of then None else None) ≡ Some group → ⊥
none_read true group e = cc
none_read false group e = cc

reads : (s : Situation) (group : ℕ) → group_read s ≡ Some group → Reads s group
reads s group e = by (file_meant s) refl e where
  by : (o : Option ℕ) → file_meant s ≡ o → (if is_of ReadBinary s.kind then option_and_then data_group_of o else None) ≡ Some group → Reads s group
  by None meant so = absurd (none_read (is_of ReadBinary s.kind) group so)
  by (Some file) meant so =
      let all = reads_at (is_of ReadBinary s.kind) (is_between 1 21 (group_of file)) (group_of file) group so in
      record { kind = of_read s.kind all.0; file = file; meant = meant; between = all.1; is = all.2 }

access_so : (s : Situation) (group : ℕ) (r : Reads s group) → list_all (λ row. not (is_on_access row.number) || is_kept s row) all_rules ≡ conditions s.state (reading group)
access_so s group r =
    let low = (and_parts (nat_le 1 (group_of r.file)) (nat_le (group_of r.file) 21) r.between).0 in
    let other : (r.file == 0) ≡ false = grind (arith, nat_tests, low) in
    let above : nat_lt 1 r.file ≡ true = grind (arith, nat_tests, low) in
    access_hold s r.file r.meant other above r.kind ∙ ap (λ (n : ℕ). conditions s.state (reading n)) r.is

-- ---- the law

pub of_command : (incoming : Incoming) (c : PlainCommand) → Some c ≡ plain_of incoming → incoming ≡ OfCommand c
of_command NoCommand c e = absurd (cc)
of_command MissingObjects c e = absurd (cc)
of_command WrongObjects c e = absurd (cc)
of_command (OfCommand other) c e = cc

pub rule_is : (opening : FullRecord) (before : List PlainMoment) (m : PlainMoment) (c : PlainCommand) → AreLegal opening (m ∷ before) → m.plain ≡ Some c → is_some m.answer ≡ true
    → m.rule ≡ (outcome (sent_at opening before c m)).rule
rule_is opening before m c legal plain answer =
    let a : IsAnswered opening before m = answered_for m.input opening before m refl legal.0 answer in
    let is : a.incoming ≡ OfCommand c = of_command a.incoming c (sym plain ∙ plain_so opening before m a) in
    rule_so opening before m a ∙ ap (λ (incoming : Incoming). (outcome (at opening before incoming m)).rule) is

pub access : (opening : FullRecord) (m : PlainMoment) (before : List PlainMoment) (c : PlainCommand) (group : ℕ) → AreLegal opening (m ∷ before) → m.plain ≡ Some c → is_some m.answer ≡ true
    → group_read (sent_at opening before c m) ≡ Some group
    → m.rule ≡ 0 ↔ (HasCompleted (sent_at opening before c m).state × HasRight (sent_at opening before c m).state (reading group) × (others_hold (sent_at opening before c m) ≡ true))
unfolding outcome
access opening m before c group legal plain answer read = (forth, back) where
  s : Situation
  s = sent_at opening before c m

  rule : m.rule ≡ (outcome s).rule
  rule = rule_is opening before m c legal plain answer

  r : Reads s group
  r = reads s group read

  forth : m.rule ≡ 0 → HasCompleted s.state × HasRight s.state (reading group) × (others_hold s ≡ true)
  forth zero =
      let kept : list_all (is_kept s) all_rules ≡ true = all_kept all_rules s refl (sym rule ∙ zero) in
      let both = and_parts (others_hold s) (list_all (λ row. not (is_on_access row.number) || is_kept s row) all_rules) (split (is_kept s) all_rules ∙ kept) in
      let done = completed_so s.state (is_granted s.state (reading group)) (sym (access_so s group r) ∙ both.1) in
      (done.0, right_of s.state (reading group) done.1, both.0)

  back : HasCompleted s.state × HasRight s.state (reading group) × (others_hold s ≡ true) → m.rule ≡ 0
  back both =
      let right : is_right (reading group) ≡ true = right_so group (sym (ap (is_between 1 21) r.is) ∙ r.between) in
      let access : list_all (λ row. not (is_on_access row.number) || is_kept s row) all_rules ≡ true = access_so s group r ∙ allowed s.state (reading group) right both.0 both.1 in
      let others : others_hold s ≡ true = both.2 in
      let kept : list_all (is_kept s) all_rules ≡ true = sym (split (is_kept s) all_rules) ∙ rw (others, access) refl in
      rule ∙ none_failed all_rules s kept

-- The selections that are carried out fail no rule.
use Rattle.std.proofs.Common.{◌≡◌, ℕ, ◌≤◌, Bool, true, false, ◌==◌, ◌||◌, not, List, [], ◌∷◌, ◌++◌, length, Option, None, Some, refl, arith}
use Rattle.std.specs.Prelude.{nat_le, nat_lt, is_some, option_map}
use Rattle.std.specs.Str.{bytes_eq}
use Rattle.std.proofs.lemmas.Bool.Decides.{nat_tests}
use Rattle.eid_apdu.specs.Command.{PlainCommand}
use Rattle.eid_record.specs.Plain.{FullRecord, PlainRecord}
use Rattle.eid_model.specs.declared.kind.Kind.TheVariants.{SelectApplication, SelectMasterFile, SelectFile}
use Rattle.eid_files.specs.Names.{file_of_id}
use Rattle.eid_model.specs.Kinds.{application_id}
use Rattle.eid_model.specs.Runs.{entered, claimed}
use Rattle.eid_model.specs.Sessions.{State, number_of_two}
use Rattle.eid_model.specs.Rules.{kind_rules, answer_rules, commit_rules, proof_rules, first_failed}
use Rattle.eid_chip.specs.Transitions.{state_carried_out, state_refused}
use Rattle.eid_chip.specs.Steps.{known}

pub not_false : (b : Bool) → false ≡ not b → b ≡ true
not_false true e = refl
not_false false e = absurd (cc)

-- what `!=` denied
pub same_of : (a x b : List ℕ) → false ≡ not (bytes_eq a x) → x ≡ b → bytes_eq a b ≡ true
same_of a x b differs is = rw (← is) (not_false (bytes_eq a x) differs)

pub filled : (n : ℕ) → false ≡ (n == 0) → nat_le 1 n ≡ true
filled n e = grind (arith, nat_tests)

pub unfilled : (n : ℕ) → true ≡ (n == 0) → nat_le 1 n ≡ false
unfilled n e = grind (arith, nat_tests)

pub not_above : (n m : ℕ) → m ≤ n → nat_lt n m ≡ false
not_above n m e = grind (arith, nat_tests)

pub first_holds : (a b : Bool) → true ≡ a → (a || b) ≡ true
first_holds a b e = rw (← e) refl

pub second_holds : (a b : Bool) → b ≡ true → (a || b) ≡ true
second_holds true b e = refl
second_holds false b e = e

pub application_passes : (kept : FullRecord) (old : State) (c : PlainCommand) → nat_le 1 (length c.body) ≡ true → nat_le (length c.body) 16 ≡ true → bytes_eq c.body application_id ≡ true → first_failed (kind_rules ++ answer_rules ++ commit_rules ++ proof_rules) (known SelectApplication kept old c []) ≡ None
application_passes kept old c some few same = rw (some, few, same) refl

pub master_file_passes : (kept : FullRecord) (old : State) (c : PlainCommand) → (length c.body == 0 || bytes_eq c.body (0x3F ∷ 0x00 ∷ [])) ≡ true → first_failed (kind_rules ++ answer_rules ++ commit_rules ++ proof_rules) (known SelectMasterFile kept old c []) ≡ None
master_file_passes kept old c formed = rw formed refl

pub file_passes : (kept : FullRecord) (old : State) (c : PlainCommand) (file : ℕ) → (length c.body == 2) ≡ true → file_of_id (number_of_two c.body) ≡ Some file → first_failed (kind_rules ++ answer_rules ++ commit_rules ++ proof_rules) (known SelectFile kept old c []) ≡ None
file_passes kept old c file two named = rw (two, named) refl

-- what they leave
pub application_leaves : (kept : PlainRecord) (old : State) (c : PlainCommand) → record (state_refused old) { selected = true; current = None } ≡ state_carried_out kept SelectApplication c [] old
unfolding entered claimed
application_leaves kept old c = refl

pub master_file_leaves : (kept : PlainRecord) (old : State) (c : PlainCommand) → record (state_refused old) { selected = false; current = None } ≡ state_carried_out kept SelectMasterFile c [] old
unfolding entered claimed
master_file_leaves kept old c = refl

pub file_leaves : (kept : PlainRecord) (old : State) (c : PlainCommand) (file : ℕ) → file_of_id (number_of_two c.body) ≡ Some file → record (state_refused old) { current = Some file } ≡ state_carried_out kept SelectFile c [] old
unfolding entered claimed
file_leaves kept old c file named = rw named refl

pub some_after : {A B : Type 0} (f : A → B) (o : Option A) → is_some (option_map f o) ≡ is_some o
some_after f None = refl
some_after f (Some x) = refl

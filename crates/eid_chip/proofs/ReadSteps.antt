-- A READ BINARY: how its file refuses it, and what it answers and leaves.
use Rattle.std.proofs.Common.{◌≡◌, ap, ℕ, ◌-◌, Bool, true, false, ◌==◌, ◌||◌, not, List, [], ◌++◌, length, drop, Option, None, Some, refl}
use Rattle.std.specs.Prelude.{nat_le, nat_lt, is_some, unwrap_or, option_map, if◌then◌else◌}
use Rattle.std.specs.Option.{option_or}
use Rattle.eid_apdu.specs.Command.{PlainCommand}
use Rattle.eid_record.specs.Plain.{FullRecord}
use Rattle.eid_model.specs.declared.kind.Kind.TheVariants.{ReadBinary}
use Rattle.eid_files.specs.Names.{file_of_short}
use Rattle.eid_model.specs.Kinds.{is_by_short}
use Rattle.eid_model.specs.Runs.{entered, claimed}
use Rattle.eid_model.specs.Sessions.{State}
use Rattle.eid_model.specs.Rules.{kind_rules, answer_rules, commit_rules, proof_rules, first_failed, file_meant, bytes_of_file, offset_meant}
use Rattle.eid_model.specs.Answers.{read_reply, success_of}
use Rattle.eid_record.specs.declared.fields.FileNo.{FileNo}
use Rattle.eid_chip.specs.declared.session.Change.TheVariants.{Current, Nothing}
use Rattle.eid_chip.specs.Transitions.{state_carried_out, state_refused, with_change}
use Rattle.eid_chip.specs.Granting.{reading_refused}
use Rattle.eid_chip.specs.Steps.{known, refusal_by}
use Rattle.eid_chip.proofs.RightSteps.{MayRead, reading_served}
use Rattle.eid_chip.proofs.Selections.{second_holds}

pub is_there : (o : Option (List ℕ)) (n : ℕ) → option_map (λ bytes. length bytes) o ≡ Some n → is_some o ≡ true
is_there None n e = absurd (cc)
is_there (Some bytes) n e = refl

pub none_there : (o : Option (List ℕ)) → option_map (λ bytes. length bytes) o ≡ None → is_some o ≡ false
none_there None e = refl
none_there (Some bytes) e = absurd (cc)

pub long_so : (o : Option (List ℕ)) (n : ℕ) → option_map (λ bytes. length bytes) o ≡ Some n → length (unwrap_or o []) ≡ n
long_so None n e = absurd (cc)
long_so (Some bytes) n e = cc

-- what a READ BINARY needs before its file is looked at
pub record MeansFile (kept : FullRecord) (old : State) (c : PlainCommand) (file : ℕ) : Type 0 where
  pub empty : (length c.body == 0) ≡ true
  pub current : (is_by_short c || is_some old.current) ≡ true
  pub meant : file_meant (known ReadBinary kept old c []) ≡ Some file
  pub served : reading_refused old file ≡ None

named_so : (b : Bool) → (b || true) ≡ true
named_so b = second_holds b true refl

pub read_absent : (kept : FullRecord) (old : State) (c : PlainCommand) (file : ℕ) → MeansFile kept old c file → is_some (bytes_of_file kept (Some file)) ≡ false
    → refusal_by kind_rules (known ReadBinary kept old c []) ≡ Some (record { rule = 37; status = 0x6A82 })
read_absent kept old c file m absent = by (nat_lt 1 file) refl where
  may : MayRead old file
  may = reading_served old file m.served

  by : (group : Bool) → nat_lt 1 file ≡ group → refusal_by kind_rules (known ReadBinary kept old c []) ≡ Some (record { rule = 37; status = 0x6A82 })
  by false group = rw (m.empty, m.current, m.meant, named_so (not (is_by_short c)), may.pace, group, absent) refl
  by true group =
      let so = may.group group in
      rw (m.empty, m.current, m.meant, named_so (not (is_by_short c)), may.pace, group, so.0.terminal, so.0.holder, so.0.granted, so.1, so.0.chip, absent) refl

pub read_behind : (kept : FullRecord) (old : State) (c : PlainCommand) (file size : ℕ) → MeansFile kept old c file → option_map (λ bytes. length bytes) (bytes_of_file kept (Some file)) ≡ Some size → nat_le (offset_meant c) size ≡ false
    → refusal_by kind_rules (known ReadBinary kept old c []) ≡ Some (record { rule = 38; status = 0x6B00 })
read_behind kept old c file size m there offset = by (nat_lt 1 file) refl where
  may : MayRead old file
  may = reading_served old file m.served

  present : is_some (bytes_of_file kept (Some file)) ≡ true
  present = is_there (bytes_of_file kept (Some file)) size there

  long : length (unwrap_or (bytes_of_file kept (Some file)) []) ≡ size
  long = long_so (bytes_of_file kept (Some file)) size there

  by : (group : Bool) → nat_lt 1 file ≡ group → refusal_by kind_rules (known ReadBinary kept old c []) ≡ Some (record { rule = 38; status = 0x6B00 })
  by false group = rw (m.empty, m.current, m.meant, named_so (not (is_by_short c)), may.pace, group, present, long, offset) refl
  by true group =
      let so = may.group group in
      rw (m.empty, m.current, m.meant, named_so (not (is_by_short c)), may.pace, group, so.0.terminal, so.0.holder, so.0.granted, so.1, so.0.chip, present, long, offset) refl

pub read_passes : (kept : FullRecord) (old : State) (c : PlainCommand) (file size : ℕ) → MeansFile kept old c file → option_map (λ bytes. length bytes) (bytes_of_file kept (Some file)) ≡ Some size → nat_le (offset_meant c) size ≡ true
    → first_failed (kind_rules ++ answer_rules ++ commit_rules ++ proof_rules) (known ReadBinary kept old c []) ≡ None
read_passes kept old c file size m there offset = by (nat_lt 1 file) refl where
  may : MayRead old file
  may = reading_served old file m.served

  present : is_some (bytes_of_file kept (Some file)) ≡ true
  present = is_there (bytes_of_file kept (Some file)) size there

  long : length (unwrap_or (bytes_of_file kept (Some file)) []) ≡ size
  long = long_so (bytes_of_file kept (Some file)) size there

  by : (group : Bool) → nat_lt 1 file ≡ group → first_failed (kind_rules ++ answer_rules ++ commit_rules ++ proof_rules) (known ReadBinary kept old c []) ≡ None
  by false group = rw (m.empty, m.current, m.meant, named_so (not (is_by_short c)), may.pace, group, present, long, offset) refl
  by true group =
      let so = may.group group in
      rw (m.empty, m.current, m.meant, named_so (not (is_by_short c)), may.pace, group, so.0.terminal, so.0.holder, so.0.granted, so.1, so.0.chip, present, long, offset) refl

-- the answer is of the file meant
pub read_answers : (kept : FullRecord) (old : State) (c : PlainCommand) (file : ℕ) → file_meant (known ReadBinary kept old c []) ≡ Some file → read_reply (drop (offset_meant c) (unwrap_or (bytes_of_file kept (Some file)) [])) c.ne ≡ success_of ReadBinary (known ReadBinary kept old c [])
read_answers kept old c file meant = rw meant refl

current_by : (by_short : Bool) (short : Option ℕ) (current : Option ℕ) (file : ℕ) → (if by_short then short else current) ≡ Some file → (if by_short then Some file else current) ≡ option_or (if by_short then short else None) current
current_by true short current file e = rw e refl
current_by false short current file e = refl

-- the file is current afterwards
pub read_leaves : (kept : FullRecord) (old : State) (c : PlainCommand) (file : ℕ) → file_meant (known ReadBinary kept old c []) ≡ Some file → record (state_refused old) { current = if is_by_short c then Some file else old.current } ≡ state_carried_out kept.fields ReadBinary c [] old
unfolding entered claimed file_meant
read_leaves kept old c file meant =
    ap (λ (o : Option ℕ). record (state_refused old) { current = o }) (current_by (is_by_short c) (file_of_short (c.p1 - 0x80)) old.current file meant)

-- the change that names it
pub file_named : (by_short : Bool) (file : FileNo) (s : State) → with_change (if by_short then Current file else Nothing) s ≡ record s { current = if by_short then Some file.0 else s.current }
file_named true file s = refl
file_named false file s = refl

-- An UPDATE BINARY: what refuses it, what it commits, and what it leaves.
use Rattle.std.proofs.Common.{◌≡◌, ◌∙◌, ap, ℕ, ◌+◌, ◌-◌, Bool, true, false, ◌||◌, not, [], ◌++◌, length, Option, None, Some, refl}
use Rattle.std.specs.Prelude.{is_none, nat_le, is_some, option_map, if◌then◌else◌}
use Rattle.std.specs.Option.{option_or}
use Rattle.eid_apdu.specs.Command.{PlainCommand}
use Rattle.eid_bits.specs.Date.{is_between}
use Rattle.eid_record.specs.Plain.{FullRecord, Write}
use Rattle.eid_record.specs.declared.fields.FileNo.{FileNo}
use Rattle.eid_model.specs.declared.kind.Kind.TheVariants.{UpdateBinary}
use Rattle.eid_files.specs.Names.{file_of_short}
use Rattle.eid_model.specs.Kinds.{is_by_short}
use Rattle.eid_model.specs.Runs.{entered, claimed}
use Rattle.eid_model.specs.Sessions.{State}
use Rattle.eid_model.specs.Rules.{answer_rules, bytes_of_file, file_meant, first_failed, group_of, kind_rules, offset_meant, to_write}
use Rattle.eid_chip.specs.Granting.{writing_refused}
use Rattle.eid_chip.specs.Steps.{CommitsOne, PlainRefusal, known, refusal_by}
use Rattle.eid_chip.specs.Transitions.{state_refused, with_change}
use Rattle.eid_chip.specs.declared.session.Change.TheVariants.{Current, Nothing}
use Rattle.eid_chip.proofs.CarriedOut.{unasked_at}
use Rattle.eid_chip.proofs.ReadSteps.{is_there, long_so}
use Rattle.eid_chip.proofs.RightSteps.{writing_served}
use Rattle.eid_chip.proofs.Selections.{second_holds, some_after}

abbrev refused_with : ℕ → ℕ → Option PlainRefusal
refused_with rule status = Some (record { rule = rule; status = status })

named_so : (b : Bool) → (b || true) ≡ true
named_so b = second_holds b true refl

pub update_unformed : (kept : FullRecord) (old : State) (c : PlainCommand) → nat_le 1 (length c.body) ≡ false → refusal_by kind_rules (known UpdateBinary kept old c []) ≡ refused_with 10 0x6A80
update_unformed kept old c empty = rw empty refl

pub update_without_current : (kept : FullRecord) (old : State) (c : PlainCommand) → nat_le 1 (length c.body) ≡ true → is_by_short c ≡ false → is_some old.current ≡ false
    → refusal_by kind_rules (known UpdateBinary kept old c []) ≡ refused_with 12 0x6986
update_without_current kept old c some by_offset none = rw (some, by_offset, none) refl

-- what is kept of the current file is its number
pub current_at : (by_short : Bool) (current : Option FileNo) → (by_short || is_some current) ≡ true → (by_short || is_some (option_map (λ (f : FileNo). f.0) current)) ≡ true
current_at by_short current named = ap (λ (b : Bool). by_short || b) (some_after (λ (f : FileNo). f.0) current) ∙ named

-- an identifier was given, where there is no file
pub short_so : {A : Type 0} (b : Bool) (current : Option A) → (b || is_some current) ≡ true → (b ≡ false → None ≡ current) → b ≡ true
short_so true current holds none = refl
short_so false current holds none = absurd (let is = none refl in cc)

pub update_unnamed : (kept : FullRecord) (old : State) (c : PlainCommand) → nat_le 1 (length c.body) ≡ true → is_by_short c ≡ true → file_meant (known UpdateBinary kept old c []) ≡ None
    → refusal_by kind_rules (known UpdateBinary kept old c []) ≡ refused_with 13 0x6A82
update_unnamed kept old c some short none = rw (some, short, none) refl

pub update_unwritable : (kept : FullRecord) (old : State) (c : PlainCommand) (file : ℕ) → nat_le 1 (length c.body) ≡ true → (is_by_short c || is_some old.current) ≡ true → file_meant (known UpdateBinary kept old c []) ≡ Some file
    → is_between 17 21 (group_of file) ≡ false → refusal_by kind_rules (known UpdateBinary kept old c []) ≡ refused_with 14 0x6982
update_unwritable kept old c file some current meant writable = rw (some, current, meant, named_so (not (is_by_short c)), writable) refl

-- what it needs before its file is looked at
pub record MeansGroup (kept : FullRecord) (old : State) (c : PlainCommand) (file : ℕ) : Type 0 where
  pub some : nat_le 1 (length c.body) ≡ true
  pub current : (is_by_short c || is_some old.current) ≡ true
  pub meant : file_meant (known UpdateBinary kept old c []) ≡ Some file
  pub writable : is_between 17 21 (group_of file) ≡ true
  pub served : writing_refused old file ≡ None

pub update_absent : (kept : FullRecord) (old : State) (c : PlainCommand) (file : ℕ) → MeansGroup kept old c file → is_some (bytes_of_file kept (Some file)) ≡ false
    → refusal_by kind_rules (known UpdateBinary kept old c []) ≡ refused_with 37 0x6A82
update_absent kept old c file m absent =
    let so = writing_served old file m.served in
    rw (m.some, m.current, m.meant, named_so (not (is_by_short c)), m.writable, so.0, so.1.0.terminal, so.1.0.holder, so.1.0.granted, so.1.1, so.1.0.chip, absent) refl

pub update_behind : (kept : FullRecord) (old : State) (c : PlainCommand) (file size : ℕ) → MeansGroup kept old c file → option_map (λ bytes. length bytes) (bytes_of_file kept (Some file)) ≡ Some size → nat_le (offset_meant c) size ≡ false
    → refusal_by kind_rules (known UpdateBinary kept old c []) ≡ refused_with 38 0x6B00
update_behind kept old c file size m there offset =
    let so = writing_served old file m.served in
    let present = is_there (bytes_of_file kept (Some file)) size there in
    let long = long_so (bytes_of_file kept (Some file)) size there in
    rw (m.some, m.current, m.meant, named_so (not (is_by_short c)), m.writable, so.0, so.1.0.terminal, so.1.0.holder, so.1.0.granted, so.1.1, so.1.0.chip, present, long, offset) refl

pub update_over : (kept : FullRecord) (old : State) (c : PlainCommand) (file size : ℕ) → MeansGroup kept old c file → option_map (λ bytes. length bytes) (bytes_of_file kept (Some file)) ≡ Some size → nat_le (offset_meant c) size ≡ true
    → nat_le (offset_meant c + length c.body) size ≡ false → refusal_by kind_rules (known UpdateBinary kept old c []) ≡ refused_with 39 0x6A84
update_over kept old c file size m there offset over =
    let so = writing_served old file m.served in
    let present = is_there (bytes_of_file kept (Some file)) size there in
    let long = long_so (bytes_of_file kept (Some file)) size there in
    rw (m.some, m.current, m.meant, named_so (not (is_by_short c)), m.writable, so.0, so.1.0.terminal, so.1.0.holder, so.1.0.granted, so.1.1, so.1.0.chip, present, long, offset, over) refl

-- the file is current afterwards, where a short identifier named it
current_after : (by_short : Bool) (file : FileNo) (s : State) (short : Option ℕ) → (by_short ≡ true → short ≡ Some file.0)
    → record s { current = option_or (if by_short then short else None) s.current } ≡ with_change (if by_short then Current file else Nothing) s
current_after true file s short is = rw (is refl) refl
current_after false file s short is = refl

pub updates : (kept : FullRecord) (old : State) (c : PlainCommand) (file : FileNo) (size : ℕ) → MeansGroup kept old c file.0 → option_map (λ bytes. length bytes) (bytes_of_file kept (Some file.0)) ≡ Some size → nat_le (offset_meant c) size ≡ true
    → nat_le (offset_meant c + length c.body) size ≡ true → (is_by_short c ≡ true → file_of_short (c.p1 - 0x80) ≡ Some file.0)
    → CommitsOne UpdateBinary kept old c [] (Write file.0 (offset_meant c) c.body) (if is_by_short c then Current file else Nothing)
unfolding entered claimed
updates kept old c file size m there offset fits named =
    let so = writing_served old file.0 m.served in
    let present = is_there (bytes_of_file kept (Some file.0)) size there in
    let long = long_so (bytes_of_file kept (Some file.0)) size there in
    record {
      asked = unasked_at (is_none (first_failed (kind_rules ++ answer_rules) (known UpdateBinary kept old c []))) _ refl;
      passes = rw (m.some, m.current, m.meant, named_so (not (is_by_short c)), m.writable, so.0, so.1.0.terminal, so.1.0.holder, so.1.0.granted, so.1.1, so.1.0.chip, present, long, offset, fits) refl;
      committing = refl;
      commits = ap (λ (o : Option ℕ). to_write o (offset_meant c) c.body) m.meant;
      proves = refl;
      answers = refl;
      leaves = current_after (is_by_short c) file (state_refused old) (file_of_short (c.p1 - 0x80)) named;
    }

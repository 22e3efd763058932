-- What refuses a terminal, by the rules that concern the kinds.
use Rattle.std.proofs.Common.{◌≡◌, ◌∙◌, ap, ℕ, Bool, true, false, not, ◌==◌, ◌||◌, List, [], length, Option, None, Some, Result, Ok, Err, refl, sym, subst}
use Rattle.std.specs.Prelude.{IfSome, is_some, nat_le, nat_lt, if◌then◌else◌}
use Rattle.std.specs.Option.{option_or}
use Rattle.eid_aux.specs.declared.compared.Compared.{Compared}
use Rattle.eid_aux.specs.declared.compared.Compared.TheVariants.{Yes, No, NoReference}
use Rattle.eid_model.specs.Auxiliary.{comparison_in, compared_to}
use Rattle.eid_model.specs.declared.comparison.Comparison.{Comparison}
use Rattle.eid_model.specs.declared.comparison.Comparison.TheVariants.{Age, Validity, Community}
use Rattle.eid_apdu.specs.Command.{PlainCommand}
use Rattle.eid_bits.specs.Date.{is_between}
use Rattle.eid_bits.specs.declared.identifier.Known.TheVariants.{RiSha256}
use Rattle.eid_ca.specs.Selections.{names}
use Rattle.eid_record.specs.Plain.{FullRecord}
use Rattle.eid_password.specs.Passwords.{is_pin, is_puk}
use Rattle.eid_sm.specs.Keys.{ChannelState}
use Rattle.eid_model.specs.declared.kind.Kind.TheVariants.{ReadBinary, UpdateBinary, SelectRestrictedIdentification, VerifyAuxiliary, ChangeCan}
use Rattle.eid_model.specs.Kinds.{is_by_short}
use Rattle.eid_model.specs.Sessions.{State}
use Rattle.eid_model.specs.Rules.{AGE_VERIFICATION, COMMUNITY_VERIFICATION, PIN_MANAGEMENT, RESTRICTED_IDENTIFICATION, file_meant, group_of, is_by_holder, is_card_access, is_formed, is_granted, kind_rules, manages_pin, may_compare, reading, was_with, writing}
use Rattle.eid_chip.specs.Granting.{activation, change_refused, comparing_refused, file_refused, identification_refused, manager_refused, of_memory, reading_refused, refusal_in, refusal_of, sent_refused, terminal_refused, unblocking_refused, verdict_refused, writing_refused}
use Rattle.eid_chip.specs.States.{state}
use Rattle.eid_chip.specs.Steps.{PlainRefusal, known, refusal, refusal_by}
use Rattle.eid_chip.specs.declared.refusal.Refusal.{Refusal}
use Rattle.eid_chip.specs.declared.session.Session.{Session}
use Rattle.eid_chip.proofs.Selections.{second_holds}

-- ---- what a session keeps is its state's

granted_at : (session : Session) (channel : Option ChannelState) (bit : ℕ) → is_granted (of_memory session.memory) bit ≡ is_granted (state session channel) bit
unfolding is_granted
granted_at session channel bit = refl

holder_at : (session : Session) (channel : Option ChannelState) → is_by_holder (of_memory session.memory) ≡ is_by_holder (state session channel)
unfolding is_by_holder is_granted
holder_at session channel = refl

manages_at : (session : Session) (channel : Option ChannelState) → manages_pin (of_memory session.memory) ≡ manages_pin (state session channel)
unfolding manages_pin is_by_holder is_granted
manages_at session channel = refl

file_at : (session : Session) (channel : Option ChannelState) (bit : ℕ) → file_refused (of_memory session.memory) bit ≡ file_refused (state session channel) bit
file_at session channel bit = rw (holder_at session channel, granted_at session channel bit) refl

pub reading_at : (session : Session) (channel : Option ChannelState) (file : ℕ) → reading_refused (of_memory session.memory) file ≡ reading_refused (state session channel) file
reading_at session channel file = rw (file_at session channel (reading (group_of file))) refl

pub writing_at : (session : Session) (channel : Option ChannelState) (file : ℕ) → writing_refused (of_memory session.memory) file ≡ writing_refused (state session channel) file
writing_at session channel file = rw (file_at session channel (writing (group_of file))) refl

pub manager_at : (session : Session) (channel : Option ChannelState) → manager_refused (of_memory session.memory) ≡ manager_refused (state session channel)
manager_at session channel = rw (holder_at session channel, granted_at session channel PIN_MANAGEMENT) refl

pub identification_at : (session : Session) (channel : Option ChannelState) → identification_refused (of_memory session.memory) ≡ identification_refused (state session channel)
identification_at session channel = rw (file_at session channel RESTRICTED_IDENTIFICATION) refl

pub change_at : (session : Session) (channel : Option ChannelState) → change_refused (of_memory session.memory) ≡ change_refused (state session channel)
change_at session channel = rw (manages_at session channel) refl

pub unblocking_at : (session : Session) (channel : Option ChannelState) (left : ℕ) → unblocking_refused (of_memory session.memory) left ≡ unblocking_refused (state session channel) left
unblocking_at session channel left = rw (manages_at session channel) refl

-- ---- to read

pub reading_fails : (kept : FullRecord) (old : State) (c : PlainCommand) (file : ℕ) (refused : PlainRefusal) → (length c.body == 0) ≡ true → (is_by_short c || is_some old.current) ≡ true
    → file_meant (known ReadBinary kept old c []) ≡ Some file → reading_refused old file ≡ Some refused → refusal_by kind_rules (known ReadBinary kept old c []) ≡ Some refused
reading_fails kept old c file refused empty current meant e =
    by (is_card_access (Some file) || is_some old.pace) (nat_lt 1 file) (is_some old.terminal) old.chip_proven (is_by_holder old) old.selected (is_granted old (reading (group_of file))) refl refl refl refl refl refl refl where
      named : (not (is_by_short c) || true) ≡ true
      named = second_holds (not (is_by_short c)) true refl

      by : (pace group terminal chip holder selected granted : Bool) → (is_card_access (Some file) || is_some old.pace) ≡ pace → nat_lt 1 file ≡ group → is_some old.terminal ≡ terminal → old.chip_proven ≡ chip
          → is_by_holder old ≡ holder → old.selected ≡ selected → is_granted old (reading (group_of file)) ≡ granted → refusal_by kind_rules (known ReadBinary kept old c []) ≡ Some refused
      by false g t ch h s r ip ig it ic ih is ir = rw (empty, current, meant, named, ip) (rw ip at e)
      by true false t ch h s r ip ig it ic ih is ir = absurd (let none = rw (ip, ig) at e in cc)
      by true true false ch h s r ip ig it ic ih is ir = rw (empty, current, meant, named, ip, ig, it) (rw (ip, ig, it) at e)
      by true true true false h s r ip ig it ic ih is ir = rw (empty, current, meant, named, ip, ig, it, ic) (rw (ip, ig, it, ic) at e)
      by true true true true false s r ip ig it ic ih is ir = rw (empty, current, meant, named, ip, ig, it, ih, ic) (rw (ip, ig, it, ih, ic) at e)
      by true true true true true false r ip ig it ic ih is ir = rw (empty, current, meant, named, ip, ig, it, ih, is, ic) (rw (ip, ig, it, ih, is, ic) at e)
      by true true true true true true false ip ig it ic ih is ir = rw (empty, current, meant, named, ip, ig, it, ih, ir, is, ic) (rw (ip, ig, it, ih, ir, is, ic) at e)
      by true true true true true true true ip ig it ic ih is ir = absurd (let none = rw (ip, ig, it, ih, ir, is, ic) at e in cc)

-- ---- to write

pub writing_fails : (kept : FullRecord) (old : State) (c : PlainCommand) (file : ℕ) (refused : PlainRefusal) → nat_le 1 (length c.body) ≡ true → (is_by_short c || is_some old.current) ≡ true
    → file_meant (known UpdateBinary kept old c []) ≡ Some file → is_between 17 21 (group_of file) ≡ true → writing_refused old file ≡ Some refused → refusal_by kind_rules (known UpdateBinary kept old c []) ≡ Some refused
writing_fails kept old c file refused some current meant writable e =
    by (is_some old.pace) (is_some old.terminal) old.chip_proven (is_by_holder old) old.selected (is_granted old (writing (group_of file))) refl refl refl refl refl refl where
      named : (not (is_by_short c) || true) ≡ true
      named = second_holds (not (is_by_short c)) true refl

      by : (pace terminal chip holder selected granted : Bool) → is_some old.pace ≡ pace → is_some old.terminal ≡ terminal → old.chip_proven ≡ chip → is_by_holder old ≡ holder → old.selected ≡ selected
          → is_granted old (writing (group_of file)) ≡ granted → refusal_by kind_rules (known UpdateBinary kept old c []) ≡ Some refused
      by false t ch h s r ip it ic ih is ir = rw (some, current, meant, named, writable, ip) (rw ip at e)
      by true false ch h s r ip it ic ih is ir = rw (some, current, meant, named, writable, ip, it) (rw (ip, it) at e)
      by true true false h s r ip it ic ih is ir = rw (some, current, meant, named, writable, ip, it, ic) (rw (ip, it, ic) at e)
      by true true true false s r ip it ic ih is ir = rw (some, current, meant, named, writable, ip, it, ih, ic) (rw (ip, it, ih, ic) at e)
      by true true true true false r ip it ic ih is ir = rw (some, current, meant, named, writable, ip, it, ih, is, ic) (rw (ip, it, ih, is, ic) at e)
      by true true true true true false ip it ic ih is ir = rw (some, current, meant, named, writable, ip, it, ih, ir, is, ic) (rw (ip, it, ih, ir, is, ic) at e)
      by true true true true true true ip it ic ih is ir = absurd (let none = rw (ip, it, ih, ir, is, ic) at e in cc)

-- ---- to manage PIN and CAN

pub can_fails : (kept : FullRecord) (old : State) (c : PlainCommand) (refused : PlainRefusal) → is_formed (Some ChangeCan) c.body ≡ true → manager_refused old ≡ Some refused
    → refusal_by kind_rules (known ChangeCan kept old c []) ≡ Some refused
can_fails kept old c refused formed e = by (is_some old.pace) (is_some old.terminal) old.chip_proven (is_by_holder old) (is_granted old PIN_MANAGEMENT) refl refl refl refl refl where
  by : (pace terminal chip holder granted : Bool) → is_some old.pace ≡ pace → is_some old.terminal ≡ terminal → old.chip_proven ≡ chip → is_by_holder old ≡ holder → is_granted old PIN_MANAGEMENT ≡ granted
      → refusal_by kind_rules (known ChangeCan kept old c []) ≡ Some refused
  by false t ch h r ip it ic ih ir = rw (formed, ip) (rw ip at e)
  by true false ch h r ip it ic ih ir = rw (formed, ip, it) (rw (ip, it) at e)
  by true true false h r ip it ic ih ir = rw (formed, ip, it, ic) (rw (ip, it, ic) at e)
  by true true true false r ip it ic ih ir = rw (formed, ip, it, ih, ic) (rw (ip, it, ih, ic) at e)
  by true true true true false ip it ic ih ir = rw (formed, ip, it, ih, ir, ic) (rw (ip, it, ih, ir, ic) at e)
  by true true true true true ip it ic ih ir = absurd (let none = rw (ip, it, ih, ir, ic) at e in cc)

pub activation_fails : (active : Bool) (kept : FullRecord) (old : State) (c : PlainCommand) (refused : PlainRefusal) → (length c.body == 0) ≡ true → manager_refused old ≡ Some refused
    → refusal_by kind_rules (known (activation active) kept old c []) ≡ Some refused
activation_fails active kept old c refused empty e = by active (is_some old.pace) (is_some old.terminal) old.chip_proven (is_by_holder old) (is_granted old PIN_MANAGEMENT) refl refl refl refl refl where
  by : (active pace terminal chip holder granted : Bool) → is_some old.pace ≡ pace → is_some old.terminal ≡ terminal → old.chip_proven ≡ chip → is_by_holder old ≡ holder → is_granted old PIN_MANAGEMENT ≡ granted
      → refusal_by kind_rules (known (activation active) kept old c []) ≡ Some refused
  by true false t ch h r ip it ic ih ir = rw (empty, ip) (rw ip at e)
  by true true false ch h r ip it ic ih ir = rw (empty, ip, it) (rw (ip, it) at e)
  by true true true false h r ip it ic ih ir = rw (empty, ip, it, ic) (rw (ip, it, ic) at e)
  by true true true true false r ip it ic ih ir = rw (empty, ip, it, ih, ic) (rw (ip, it, ih, ic) at e)
  by true true true true true false ip it ic ih ir = rw (empty, ip, it, ih, ir, ic) (rw (ip, it, ih, ir, ic) at e)
  by false false t ch h r ip it ic ih ir = rw (empty, ip) (rw ip at e)
  by false true false ch h r ip it ic ih ir = rw (empty, ip, it) (rw (ip, it) at e)
  by false true true false h r ip it ic ih ir = rw (empty, ip, it, ic) (rw (ip, it, ic) at e)
  by false true true true false r ip it ic ih ir = rw (empty, ip, it, ih, ic) (rw (ip, it, ih, ic) at e)
  by false true true true true false ip it ic ih ir = rw (empty, ip, it, ih, ir, ic) (rw (ip, it, ih, ir, ic) at e)
  by active true true true true true ip it ic ih ir = absurd (let none = rw (ip, it, ih, ir, ic) at e in cc)

-- ---- to begin restricted identification

pub identification_fails : (kept : FullRecord) (old : State) (c : PlainCommand) (refused : PlainRefusal) → names RiSha256 c.body ≡ true → identification_refused old ≡ Some refused
    → refusal_by kind_rules (known SelectRestrictedIdentification kept old c []) ≡ Some refused
identification_fails kept old c refused formed e = by (is_some old.pace) (is_some old.terminal) old.chip_proven (is_by_holder old) old.selected (is_granted old RESTRICTED_IDENTIFICATION) refl refl refl refl refl refl where
  by : (pace terminal chip holder selected granted : Bool) → is_some old.pace ≡ pace → is_some old.terminal ≡ terminal → old.chip_proven ≡ chip → is_by_holder old ≡ holder → old.selected ≡ selected
      → is_granted old RESTRICTED_IDENTIFICATION ≡ granted → refusal_by kind_rules (known SelectRestrictedIdentification kept old c []) ≡ Some refused
  by false t ch h s r ip it ic ih is ir = rw (formed, ip) (rw ip at e)
  by true false ch h s r ip it ic ih is ir = rw (formed, ip, it) (rw (ip, it) at e)
  by true true false h s r ip it ic ih is ir = rw (formed, ip, it, ic) (rw (ip, it, ic) at e)
  by true true true false s r ip it ic ih is ir = rw (formed, ip, it, ih, ic) (rw (ip, it, ih, ic) at e)
  by true true true true false r ip it ic ih is ir = rw (formed, ip, it, ih, is, ic) (rw (ip, it, ih, is, ic) at e)
  by true true true true true false ip it ic ih is ir = rw (formed, ip, it, ih, ir, is, ic) (rw (ip, it, ih, ir, is, ic) at e)
  by true true true true true true ip it ic ih is ir = absurd (let none = rw (ip, it, ih, ir, is, ic) at e in cc)

-- ---- to compare

pub comparing_fails : (kept : FullRecord) (old : State) (c : PlainCommand) (comparison : Comparison) (refused : PlainRefusal) → comparison_in c.body ≡ Some comparison → comparing_refused old comparison ≡ Some refused
    → refusal_by kind_rules (known VerifyAuxiliary kept old c []) ≡ Some refused
comparing_fails kept old c comparison refused formed e =
    by (is_some old.pace) (is_some old.terminal) old.chip_proven (is_by_holder old) old.selected (may_compare old (Some comparison)) refl refl refl refl refl refl where
      by : (pace terminal chip holder selected granted : Bool) → is_some old.pace ≡ pace → is_some old.terminal ≡ terminal → old.chip_proven ≡ chip → is_by_holder old ≡ holder → old.selected ≡ selected
          → may_compare old (Some comparison) ≡ granted → refusal_by kind_rules (known VerifyAuxiliary kept old c []) ≡ Some refused
      by false t ch h s r ip it ic ih is ir = rw (formed, ip) (rw ip at e)
      by true false ch h s r ip it ic ih is ir = rw (formed, ip, it) (rw (ip, it) at e)
      by true true false h s r ip it ic ih is ir = rw (formed, ip, it, ic) (rw (ip, it, ic) at e)
      by true true true false s r ip it ic ih is ir = rw (formed, ip, it, ih, ic) (rw (ip, it, ih, ic) at e)
      by true true true true false r ip it ic ih is ir = rw (formed, ip, it, ih, is, ic) (rw (ip, it, ih, is, ic) at e)
      by true true true true true false ip it ic ih is ir = rw (formed, ip, it, ih, ir, is, ic) (rw (ip, it, ih, ir, is, ic) at e)
      by true true true true true true ip it ic ih is ir = absurd (let none = rw (ip, it, ih, ir, is, ic) at e in cc)

-- what a comparison needs before the data are looked at
pub record MayCompare (s : State) (comparison : Comparison) : Type 0 where
  pub pace : is_some s.pace ≡ true
  pub terminal : is_some s.terminal ≡ true
  pub chip : s.chip_proven ≡ true
  pub holder : is_by_holder s ≡ true
  pub selected : s.selected ≡ true
  pub granted : may_compare s (Some comparison) ≡ true

pub comparing_served : (s : State) (comparison : Comparison) → comparing_refused s comparison ≡ None → MayCompare s comparison
comparing_served s comparison e = by (is_some s.pace) (is_some s.terminal) s.chip_proven (is_by_holder s) s.selected (may_compare s (Some comparison)) refl refl refl refl refl refl where
  by : (pace terminal chip holder selected granted : Bool) → is_some s.pace ≡ pace → is_some s.terminal ≡ terminal → s.chip_proven ≡ chip → is_by_holder s ≡ holder → s.selected ≡ selected
      → may_compare s (Some comparison) ≡ granted → MayCompare s comparison
  by false t ch h sel r ip it ic ih is ir = absurd (let none = rw ip at e in cc)
  by true false ch h sel r ip it ic ih is ir = absurd (let none = rw (ip, it) at e in cc)
  by true true false h sel r ip it ic ih is ir = absurd (let none = rw (ip, it, ic) at e in cc)
  by true true true false sel r ip it ic ih is ir = absurd (let none = rw (ip, it, ih, ic) at e in cc)
  by true true true true false r ip it ic ih is ir = absurd (let none = rw (ip, it, ih, is, ic) at e in cc)
  by true true true true true false ip it ic ih is ir = absurd (let none = rw (ip, it, ih, ir, is, ic) at e in cc)
  by true true true true true true ip it ic ih is ir = record { pace = ip; terminal = it; chip = ic; holder = ih; selected = is; granted = ir }

may_compare_at : (session : Session) (channel : Option ChannelState) (comparison : Comparison) → may_compare (of_memory session.memory) (Some comparison) ≡ may_compare (state session channel) (Some comparison)
may_compare_at session channel Age = granted_at session channel AGE_VERIFICATION
may_compare_at session channel Validity = refl
may_compare_at session channel Community = granted_at session channel COMMUNITY_VERIFICATION

pub comparing_at : (session : Session) (channel : Option ChannelState) (comparison : Comparison) → comparing_refused (of_memory session.memory) comparison ≡ comparing_refused (state session channel) comparison
comparing_at session channel comparison = rw (holder_at session channel, may_compare_at session channel comparison) refl

-- ---- what serves

-- PACE, terminal and chip have been proven, for a holder whose password serves, and the right is granted
pub record IsServed (s : State) (bit : ℕ) : Type 0 where
  pub terminal : is_some s.terminal ≡ true
  pub chip : s.chip_proven ≡ true
  pub holder : is_by_holder s ≡ true
  pub granted : is_granted s bit ≡ true

file_served : (s : State) (bit : ℕ) → file_refused s bit ≡ None → IsServed s bit × (s.selected ≡ true)
file_served s bit e = by (is_some s.terminal) s.chip_proven (is_by_holder s) s.selected (is_granted s bit) refl refl refl refl refl where
  by : (terminal chip holder selected granted : Bool) → is_some s.terminal ≡ terminal → s.chip_proven ≡ chip → is_by_holder s ≡ holder → s.selected ≡ selected → is_granted s bit ≡ granted → IsServed s bit × (s.selected ≡ true)
  by false ch h sel r it ic ih is ir = absurd (let none = rw it at e in cc)
  by true false h sel r it ic ih is ir = absurd (let none = rw (it, ic) at e in cc)
  by true true false sel r it ic ih is ir = absurd (let none = rw (it, ih, ic) at e in cc)
  by true true true false r it ic ih is ir = absurd (let none = rw (it, ih, is, ic) at e in cc)
  by true true true true false it ic ih is ir = absurd (let none = rw (it, ih, ir, is, ic) at e in cc)
  by true true true true true it ic ih is ir = (record { terminal = it; chip = ic; holder = ih; granted = ir }, is)

pub manager_served : (s : State) → manager_refused s ≡ None → (is_some s.pace ≡ true) × IsServed s PIN_MANAGEMENT
manager_served s e = by (is_some s.pace) (is_some s.terminal) s.chip_proven (is_by_holder s) (is_granted s PIN_MANAGEMENT) refl refl refl refl refl where
  by : (pace terminal chip holder granted : Bool) → is_some s.pace ≡ pace → is_some s.terminal ≡ terminal → s.chip_proven ≡ chip → is_by_holder s ≡ holder → is_granted s PIN_MANAGEMENT ≡ granted
      → (is_some s.pace ≡ true) × IsServed s PIN_MANAGEMENT
  by false t ch h r ip it ic ih ir = absurd (let none = rw ip at e in cc)
  by true false ch h r ip it ic ih ir = absurd (let none = rw (ip, it) at e in cc)
  by true true false h r ip it ic ih ir = absurd (let none = rw (ip, it, ic) at e in cc)
  by true true true false r ip it ic ih ir = absurd (let none = rw (ip, it, ih, ic) at e in cc)
  by true true true true false ip it ic ih ir = absurd (let none = rw (ip, it, ih, ir, ic) at e in cc)
  by true true true true true ip it ic ih ir = (ip, record { terminal = it; chip = ic; holder = ih; granted = ir })

if_none : (b : Bool) (rule status : ℕ) (later : Option PlainRefusal) → (if not b then refusal_of rule status else later) ≡ None → (b ≡ true) × (later ≡ None)
if_none true rule status later e = (refl, e)
if_none false rule status later e = absurd (cc)

pub identification_served : (s : State) → identification_refused s ≡ None → (is_some s.pace ≡ true) × (IsServed s RESTRICTED_IDENTIFICATION × (s.selected ≡ true))
identification_served s e =
    let both = if_none (is_some s.pace) 20 0x6982 (file_refused s RESTRICTED_IDENTIFICATION) e in
    (both.0, file_served s RESTRICTED_IDENTIFICATION both.1)

pub writing_served : (s : State) (file : ℕ) → writing_refused s file ≡ None → (is_some s.pace ≡ true) × (IsServed s (writing (group_of file)) × (s.selected ≡ true))
writing_served s file e =
    let both = if_none (is_some s.pace) 20 0x6982 (file_refused s (writing (group_of file))) e in
    (both.0, file_served s (writing (group_of file)) both.1)

-- what is wanted to read a file: PACE, but for EF.CardAccess, and for a data group what serves a terminal
pub record MayRead (s : State) (file : ℕ) : Type 0 where
  pub pace : (is_card_access (Some file) || is_some s.pace) ≡ true
  pub group : nat_lt 1 file ≡ true → IsServed s (reading (group_of file)) × (s.selected ≡ true)

pub reading_served : (s : State) (file : ℕ) → reading_refused s file ≡ None → MayRead s file
reading_served s file e =
    let both = if_none (is_card_access (Some file) || is_some s.pace) 20 0x6982 (if nat_lt 1 file then file_refused s (reading (group_of file)) else None) e in
    record { pace = both.0; group = λ group. file_served s (reading (group_of file)) (rw group at both.1) }

pub change_served : (s : State) → change_refused s ≡ None → (is_some s.pace ≡ true) × ((was_with is_pin s.pace || manages_pin s) ≡ true)
change_served s e =
    let pace = if_none (is_some s.pace) 20 0x6982 (if not (was_with is_pin s.pace || manages_pin s) then refusal_of 29 0x6982 else None) e in
    (pace.0, (if_none (was_with is_pin s.pace || manages_pin s) 29 0x6982 None pace.1).0)

pub unblocking_served : (s : State) (left : ℕ) → unblocking_refused s left ≡ None
    → (is_some s.pace ≡ true) × ((was_with is_puk s.pace || manages_pin s) ≡ true) × ((not (was_with is_puk s.pace) || nat_le 1 left) ≡ true)
unblocking_served s left e =
    let last = if not (not (was_with is_puk s.pace) || nat_le 1 left) then refusal_of 30 0x6983 else None in
    let pace = if_none (is_some s.pace) 20 0x6982 (if not (was_with is_puk s.pace || manages_pin s) then refusal_of 29 0x6982 else last) e in
    let puk = if_none (was_with is_puk s.pace || manages_pin s) 29 0x6982 last pace.1 in
    (pace.0, puk.0, (if_none (not (was_with is_puk s.pace) || nat_le 1 left) 30 0x6983 None puk.1).0)

-- ---- the numbers of these rules

abbrev pub AreRules : Option PlainRefusal → Type 0
AreRules o = IfSome o (λ refused. (refused.rule == 0) ≡ false)

if_rules : (b : Bool) (rule status : ℕ) (later : Option PlainRefusal) → (rule == 0) ≡ false → AreRules later → AreRules (if b then refusal_of rule status else later)
if_rules true rule status later is others = is
if_rules false rule status later is others = others

or_rules : (first later : Option PlainRefusal) → AreRules first → AreRules later → AreRules (option_or first later)
or_rules None later are others = others
or_rules (Some refused) later are others = are

terminal_rules : (s : State) → AreRules (terminal_refused s)
terminal_rules s =
    if_rules (not (is_some s.terminal)) 26 0x6982 _ refl (if_rules (not s.chip_proven) 28 0x6982 _ refl (if_rules (not (is_by_holder s)) 31 0x6982 None refl tt))

file_rules : (s : State) (bit : ℕ) → AreRules (file_refused s bit)
file_rules s bit =
    or_rules (terminal_refused s) _ (terminal_rules s) (if_rules (not s.selected) 32 0x6985 _ refl (if_rules (not (is_granted s bit)) 33 0x6982 None refl tt))

if_else : (b : Bool) (o : Option PlainRefusal) → AreRules o → AreRules (if b then o else None)
if_else true o are = are
if_else false o are = tt

pub reading_rules : (s : State) (file : ℕ) → AreRules (reading_refused s file)
reading_rules s file =
    if_rules (not (is_card_access (Some file) || is_some s.pace)) 20 0x6982 _ refl
    (if_else (nat_lt 1 file) (file_refused s (reading (group_of file))) (file_rules s (reading (group_of file))))

pub writing_rules : (s : State) (file : ℕ) → AreRules (writing_refused s file)
writing_rules s file = if_rules (not (is_some s.pace)) 20 0x6982 _ refl (file_rules s (writing (group_of file)))

pub manager_rules : (s : State) → AreRules (manager_refused s)
manager_rules s =
    if_rules (not (is_some s.pace)) 20 0x6982 _ refl
    (or_rules (terminal_refused s) _ (terminal_rules s) (if_rules (not (is_granted s PIN_MANAGEMENT)) 33 0x6982 None refl tt))

pub identification_rules : (s : State) → AreRules (identification_refused s)
identification_rules s = if_rules (not (is_some s.pace)) 20 0x6982 _ refl (file_rules s RESTRICTED_IDENTIFICATION)

pub change_rules : (s : State) → AreRules (change_refused s)
change_rules s =
    if_rules (not (is_some s.pace)) 20 0x6982 _ refl (if_rules (not (was_with is_pin s.pace || manages_pin s)) 29 0x6982 None refl tt)

pub unblocking_rules : (s : State) (left : ℕ) → AreRules (unblocking_refused s left)
unblocking_rules s left =
    if_rules (not (is_some s.pace)) 20 0x6982 _ refl
    (if_rules (not (was_with is_puk s.pace || manages_pin s)) 29 0x6982 _ refl (if_rules (not (not (was_with is_puk s.pace) || nat_le 1 left)) 30 0x6983 None refl tt))

pub comparing_rules : (s : State) (comparison : Comparison) → AreRules (comparing_refused s comparison)
comparing_rules s comparison =
    if_rules (not (is_some s.pace)) 20 0x6982 _ refl
    (or_rules (terminal_refused s) _ (terminal_rules s) (if_rules (not s.selected) 32 0x6985 _ refl (if_rules (not (may_compare s (Some comparison))) 33 0x6982 None refl tt)))

pub verdict_rules : (compared : Compared) → AreRules (verdict_refused compared)
verdict_rules Yes = tt
verdict_rules No = refl
verdict_rules NoReference = refl

pub sent_rules : (comparison : Comparison) (stored sent : Option (List ℕ)) → AreRules (sent_refused comparison stored sent)
sent_rules comparison stored None = refl
sent_rules comparison stored (Some sent) = verdict_rules (compared_to comparison stored sent)

-- the refusal of a result, of the rules that it goes by
pub refused_is : (result : Result Unit Refusal) (r : Refusal) (o : Option PlainRefusal) → refusal_in result ≡ o → result ≡ Err r → (o ≡ Some (refusal r)) × (AreRules o → (r.rule.0 == 0) ≡ false)
refused_is result r o is err =
    let so : o ≡ Some (refusal r) = sym is ∙ ap refusal_in err in
    (so, λ are. subst AreRules so are)

-- and of one that is none
pub passed_is : (result : Result Unit Refusal) (none : Unit {0}) (o : Option PlainRefusal) → refusal_in result ≡ o → result ≡ Ok none → o ≡ None
passed_is result none o is passed = sym is ∙ ap refusal_in passed

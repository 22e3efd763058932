-- Inside: cited by private contracts alone.
-- What refuses a terminal (BSI TR-03110-4), by the rules on it in their order.
use Rattle.std.specs.Prelude.{ℕ, Bool, true, false, not, List, ◌&&◌, ◌||◌, nat_le, Option, Some, None, Result, Ok, Err, is_some, option_map, if◌then◌else◌}
use Rattle.std.specs.Option.{option_or}
use Rattle.eid_bits.specs.Rights.{has_right, is_right}
use Rattle.eid_bits.specs.declared.rights.Bits.{Bits}
use Rattle.eid_aux.specs.declared.compared.Compared.{Compared}
use Rattle.eid_aux.specs.declared.compared.Compared.TheVariants.{Yes, No, NoReference}
use Rattle.eid_cvc.specs.Chains.{chain_view, known_view}
use Rattle.eid_model.specs.Auxiliary.{compared_to, sent_by}
use Rattle.eid_model.specs.declared.comparison.Comparison.{Comparison}
use Rattle.eid_model.specs.declared.kind.Kind.{Kind}
use Rattle.eid_model.specs.declared.kind.Kind.TheVariants.{ActivatePin, DeactivatePin}
use Rattle.eid_password.specs.Passwords.{is_pin, is_puk}
use Rattle.eid_model.specs.Rules.{PIN_MANAGEMENT, RESTRICTED_IDENTIFICATION, chain_gave, group_of, holder_gave, is_by_holder, is_card_access, is_group_file, is_granted, manages_pin, may_compare, reading, was_with, writing}
use Rattle.eid_model.specs.Sessions.{State}
use Rattle.eid_chip.specs.declared.refusal.Refusal.{Refusal}
use Rattle.eid_chip.specs.declared.session.Memory.{Memory}
use Rattle.eid_chip.specs.declared.session.Authentication.TheVariants.{NotBegun}
use Rattle.eid_chip.specs.declared.session.Run.TheVariants.{Idle}
use Rattle.eid_chip.specs.States.{memory, state}
use Rattle.eid_chip.specs.Steps.{PlainRefusal, refusal}

-- what a session keeps, as a state
abbrev pub of_memory : Memory → State
of_memory m = state (record { run = Idle; authentication = NotBegun; memory = m }) None

-- the right that is among these, if there are any
abbrev pub has_among : Option Bits → ℕ → Bool
has_among None bit = false
has_among (Some rights) bit = has_right rights bit

-- the right stands in the holder's template and in all of the chain
abbrev pub is_given : Memory → ℕ → Bool
is_given m bit = is_right bit && holder_gave (option_map memory m.pace) bit && chain_gave (chain_view m.certificates) bit

-- a refusal, if there is one
abbrev pub refusal_in : Result Unit Refusal → Option PlainRefusal
refusal_in (Ok none) = None
refusal_in (Err r) = Some (refusal r)

abbrev pub refusal_of : ℕ → ℕ → Option PlainRefusal
refusal_of rule status = Some (record { rule = rule; status = status })

-- terminal authentication, chip authentication, and the password of PACE
abbrev pub terminal_refused : State → Option PlainRefusal
terminal_refused s =
    if not (is_some s.terminal) then refusal_of 26 0x6982
    else if not s.chip_proven then refusal_of 28 0x6982
    else if not (is_by_holder s) then refusal_of 31 0x6982
    else None

-- and for a file: that the application is selected, and the right
abbrev pub file_refused : State → ℕ → Option PlainRefusal
file_refused s bit =
    option_or (terminal_refused s)
    (if not s.selected then refusal_of 32 0x6985 else if not (is_granted s bit) then refusal_of 33 0x6982 else None)

-- to read a file: PACE, but for EF.CardAccess, and those rules for a data group
abbrev pub reading_refused : State → ℕ → Option PlainRefusal
reading_refused s file =
    if not (is_card_access (Some file) || is_some s.pace) then refusal_of 20 0x6982
    else if is_group_file (Some file) then file_refused s (reading (group_of file)) else None

-- to write one: PACE, and those rules
abbrev pub writing_refused : State → ℕ → Option PlainRefusal
writing_refused s file = if not (is_some s.pace) then refusal_of 20 0x6982 else file_refused s (writing (group_of file))

-- to compare: PACE, what refuses a terminal, that the application is selected, and the right
abbrev pub comparing_refused : State → Comparison → Option PlainRefusal
comparing_refused s comparison =
    if not (is_some s.pace) then refusal_of 20 0x6982
    else option_or (terminal_refused s)
    (if not s.selected then refusal_of 32 0x6985 else if not (may_compare s (Some comparison)) then refusal_of 33 0x6982 else None)

-- to begin restricted identification: PACE, and what refuses a file, with that right
abbrev pub identification_refused : State → Option PlainRefusal
identification_refused s = if not (is_some s.pace) then refusal_of 20 0x6982 else file_refused s RESTRICTED_IDENTIFICATION

-- by what was compared: no reference, or no
abbrev pub verdict_refused : Compared → Option PlainRefusal
verdict_refused Yes = None
verdict_refused No = refusal_of 36 0x6300
verdict_refused NoReference = refusal_of 35 0x6A88

-- by what was sent, and by what is stored
abbrev pub sent_refused : Comparison → Option (List ℕ) → Option (List ℕ) → Option PlainRefusal
sent_refused comparison stored None = refusal_of 34 0x6A88
sent_refused comparison stored (Some sent) = verdict_refused (compared_to comparison stored sent)

-- what was sent of a session's terminal
abbrev pub sent_to : Memory → Comparison → Option (List ℕ)
sent_to m comparison = sent_by (option_map known_view m.terminal) comparison

-- to manage PIN and CAN: PACE, what refuses a terminal, and the right
abbrev pub manager_refused : State → Option PlainRefusal
manager_refused s =
    if not (is_some s.pace) then refusal_of 20 0x6982
    else option_or (terminal_refused s) (if not (is_granted s PIN_MANAGEMENT) then refusal_of 33 0x6982 else None)

-- to change the PIN: PACE with it, or a terminal that manages it
abbrev pub change_refused : State → Option PlainRefusal
change_refused s =
    if not (is_some s.pace) then refusal_of 20 0x6982
    else if not (was_with is_pin s.pace || manages_pin s) then refusal_of 29 0x6982 else None

-- to unblock it: PACE with the PUK, and that so many unblockings are left; or a terminal that manages it
abbrev pub unblocking_refused : State → ℕ → Option PlainRefusal
unblocking_refused s left =
    if not (is_some s.pace) then refusal_of 20 0x6982
    else if not (was_with is_puk s.pace || manages_pin s) then refusal_of 29 0x6982
    else if not (not (was_with is_puk s.pace) || nat_le 1 left) then refusal_of 30 0x6983 else None

-- the kind that makes the PIN active, or not
abbrev pub activation : Bool → Kind
activation true = ActivatePin
activation false = DeactivatePin

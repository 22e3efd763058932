-- The management of the PIN: what the last PACE, or a terminal, gives the right to.
use Rattle.std.proofs.Common.{◌≡◌, ℕ, Bool, true, false, not, ◌==◌, ◌||◌, List, [], ◌∷◌, length, Option, Some, None, refl, sym, ap}
use Rattle.std.specs.Prelude.{is_none, is_some, nat_le, ◌++◌}
use Rattle.eid_apdu.specs.Command.{PlainCommand}
use Rattle.eid_record.specs.Plain.{FullRecord, Active, SetCan, SetPin, Unblock}
use Rattle.eid_password.specs.Passwords.{is_pin, is_puk}
use Rattle.eid_model.specs.declared.kind.Kind.TheVariants.{ActivatePin, ChangeCan, ChangePin, DeactivatePin, UnblockPin}
use Rattle.eid_model.specs.Rules.{answer_rules, first_failed, is_formed, kind_rules, manages_pin, was_with}
use Rattle.eid_model.specs.Runs.{entered, claimed}
use Rattle.eid_model.specs.Sessions.{State}
use Rattle.eid_chip.specs.Granting.{activation, change_refused, manager_refused, unblocking_refused}
use Rattle.eid_chip.specs.Steps.{CommitsOne, PlainRefusal, known, refusal_by}
use Rattle.eid_chip.specs.declared.session.Change.TheVariants.{Nothing}
use Rattle.eid_chip.proofs.CarriedOut.{unasked_at}
use Rattle.eid_chip.proofs.RightSteps.{change_served, manager_served, unblocking_served}

abbrev refusal_with : ℕ → ℕ → Option PlainRefusal
refusal_with rule status = Some (record { rule = rule; status = status })

-- ---- a new PIN

pub change_unformed : (kept : FullRecord) (old : State) (c : PlainCommand) → is_formed (Some ChangePin) c.body ≡ false → refusal_by kind_rules (known ChangePin kept old c []) ≡ refusal_with 10 0x6A80
change_unformed kept old c formed = rw formed refl

pub change_fails : (kept : FullRecord) (old : State) (c : PlainCommand) (refused : PlainRefusal) → is_formed (Some ChangePin) c.body ≡ true → change_refused old ≡ Some refused → refusal_by kind_rules (known ChangePin kept old c []) ≡ Some refused
change_fails kept old c refused formed e = by (is_some old.pace) (was_with is_pin old.pace || manages_pin old) refl refl where
  by : (pace right : Bool) → is_some old.pace ≡ pace → (was_with is_pin old.pace || manages_pin old) ≡ right → refusal_by kind_rules (known ChangePin kept old c []) ≡ Some refused
  by false right ip ir = rw (formed, ip) (rw ip at e)
  by true false ip ir = rw (formed, ip, ir) (rw (ip, ir) at e)
  by true true ip ir = absurd (let none = rw (ip, ir) at e in cc)

pub changes : (kept : FullRecord) (old : State) (c : PlainCommand) (pin : List ℕ) → is_formed (Some ChangePin) c.body ≡ true → change_refused old ≡ None → pin ≡ c.body → CommitsOne ChangePin kept old c [] (SetPin pin) Nothing
unfolding entered claimed
changes kept old c pin formed served is =
    let may = change_served old served in
    record {
      asked = unasked_at (is_none (first_failed (kind_rules ++ answer_rules) (known ChangePin kept old c []))) _ refl;
      passes = rw (formed, may.0, may.1) refl;
      committing = refl;
      commits = ap (λ (p : List ℕ). SetPin p ∷ []) (sym is);
      proves = refl;
      answers = refl;
      leaves = refl;
    }

-- ---- an unblocking

pub unblock_unformed : (kept : FullRecord) (old : State) (c : PlainCommand) → (length c.body == 0) ≡ false → refusal_by kind_rules (known UnblockPin kept old c []) ≡ refusal_with 10 0x6A80
unblock_unformed kept old c formed = rw formed refl

pub unblock_fails : (kept : FullRecord) (old : State) (c : PlainCommand) (refused : PlainRefusal) → (length c.body == 0) ≡ true → unblocking_refused old kept.fields.unblocks ≡ Some refused → refusal_by kind_rules (known UnblockPin kept old c []) ≡ Some refused
unblock_fails kept old c refused formed e = by (is_some old.pace) (was_with is_puk old.pace || manages_pin old) (not (was_with is_puk old.pace) || nat_le 1 kept.fields.unblocks) refl refl refl where
  by : (pace right left : Bool) → is_some old.pace ≡ pace → (was_with is_puk old.pace || manages_pin old) ≡ right → (not (was_with is_puk old.pace) || nat_le 1 kept.fields.unblocks) ≡ left → refusal_by kind_rules (known UnblockPin kept old c []) ≡ Some refused
  by false right left ip ir il = rw (formed, ip) (rw ip at e)
  by true false left ip ir il = rw (formed, ip, ir) (rw (ip, ir) at e)
  by true true false ip ir il = rw (formed, ip, ir, il) (rw (ip, ir, il) at e)
  by true true true ip ir il = absurd (let none = rw (ip, ir, il) at e in cc)

pub unblocks : (kept : FullRecord) (old : State) (c : PlainCommand) (by_puk : Bool) → (length c.body == 0) ≡ true → unblocking_refused old kept.fields.unblocks ≡ None → by_puk ≡ was_with is_puk old.pace → CommitsOne UnblockPin kept old c [] (Unblock by_puk) Nothing
unfolding entered claimed
unblocks kept old c by_puk formed served is =
    let may = unblocking_served old kept.fields.unblocks served in
    record {
      asked = unasked_at (is_none (first_failed (kind_rules ++ answer_rules) (known UnblockPin kept old c []))) _ refl;
      passes = rw (formed, may.0, may.1, may.2) refl;
      committing = refl;
      commits = ap (λ (b : Bool). Unblock b ∷ []) (sym is);
      proves = refl;
      answers = refl;
      leaves = refl;
    }

-- ---- a new CAN

pub can_unformed : (kept : FullRecord) (old : State) (c : PlainCommand) → is_formed (Some ChangeCan) c.body ≡ false → refusal_by kind_rules (known ChangeCan kept old c []) ≡ refusal_with 10 0x6A80
can_unformed kept old c formed = rw formed refl

pub changes_can : (kept : FullRecord) (old : State) (c : PlainCommand) (can : List ℕ) → is_formed (Some ChangeCan) c.body ≡ true → manager_refused old ≡ None → can ≡ c.body → CommitsOne ChangeCan kept old c [] (SetCan can) Nothing
unfolding entered claimed
changes_can kept old c can formed served is =
    let may = manager_served old served in
    record {
      asked = unasked_at (is_none (first_failed (kind_rules ++ answer_rules) (known ChangeCan kept old c []))) _ refl;
      passes = rw (formed, may.0, may.1.terminal, may.1.holder, may.1.granted, may.1.chip) refl;
      committing = refl;
      commits = ap (λ (p : List ℕ). SetCan p ∷ []) (sym is);
      proves = refl;
      answers = refl;
      leaves = refl;
    }

-- ---- a PIN that is made active, or not

pub activation_unformed : (active : Bool) (kept : FullRecord) (old : State) (c : PlainCommand) → (length c.body == 0) ≡ false → refusal_by kind_rules (known (activation active) kept old c []) ≡ refusal_with 10 0x6A80
activation_unformed true kept old c formed = rw formed refl
activation_unformed false kept old c formed = rw formed refl

pub activates : (active : Bool) (kept : FullRecord) (old : State) (c : PlainCommand) → (length c.body == 0) ≡ true → manager_refused old ≡ None → CommitsOne (activation active) kept old c [] (Active active) Nothing
unfolding entered claimed
activates true kept old c formed served =
    let may = manager_served old served in
    record {
      asked = unasked_at (is_none (first_failed (kind_rules ++ answer_rules) (known ActivatePin kept old c []))) _ refl;
      passes = rw (formed, may.0, may.1.terminal, may.1.holder, may.1.granted, may.1.chip) refl;
      committing = refl;
      commits = refl;
      proves = refl;
      answers = refl;
      leaves = refl;
    }
activates false kept old c formed served =
    let may = manager_served old served in
    record {
      asked = unasked_at (is_none (first_failed (kind_rules ++ answer_rules) (known DeactivatePin kept old c []))) _ refl;
      passes = rw (formed, may.0, may.1.terminal, may.1.holder, may.1.granted, may.1.chip) refl;
      committing = refl;
      commits = refl;
      proves = refl;
      answers = refl;
      leaves = refl;
    }

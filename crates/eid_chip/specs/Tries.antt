-- Inside: cited by private contracts alone.
-- The tries of the PIN while a PACE with it is under way.
use Rattle.std.specs.Prelude.{◌≡◌, ◌≤◌, Bool, true, false}
use Rattle.eid_record.specs.Plain.{PlainRecord}
use Rattle.eid_password.specs.Passwords.{is_pin}
use Rattle.eid_pace.specs.View.{nonce_sent_view, mapped_view, agreed_view}
use Rattle.eid_chip.specs.declared.reaction.Ending.{Ending}
use Rattle.eid_chip.specs.declared.reaction.Ending.TheVariants as endings
use Rattle.eid_chip.specs.declared.session.Run.{Run}
use Rattle.eid_chip.specs.declared.session.Run.TheVariants as runs

-- a PACE with the PIN has sent its nonce
abbrev pub tries_pin : Run → Bool
tries_pin runs.Idle = false
tries_pin (runs.Chosen chosen) = false
tries_pin (runs.NonceSent sent) = is_pin (nonce_sent_view sent).choice.password
tries_pin (runs.Mapped mapped) = is_pin (mapped_view mapped).choice.password
tries_pin (runs.Agreed agreed) = is_pin (agreed_view agreed).choice.password
tries_pin (runs.KeyChosen name) = false
tries_pin runs.RiChosen = false

-- where it has, a try is left
abbrev pub IsTryLeft : Run → PlainRecord → Type 0
IsTryLeft run kept = tries_pin run ≡ true → 1 ≤ kept.tries

-- no run is left where the power was cut in a commit
abbrev pub IsIdleIfLost : Ending → Run → Type 0
IsIdleIfLost (endings.Answered reaction finished) run = Unit {0}
IsIdleIfLost (endings.Lost finished) run = run ≡ runs.Idle

-- The passwords that a record keeps, and when PACE may start with one (BSI TR-03110-2: the PIN is operational, suspended,
-- blocked or deactivated). How many tries there are is this project's own.
use Rattle.std.specs.Prelude.{ℕ, ◌+◌, Bool, true, false, ◌||◌, not, nat_le, nat_lt, List, Option, Some, None, if◌then◌else◌}
use Rattle.eid_base.specs.Rules.{active_rule, try_rule, resumed_rule}
use Rattle.eid_record.specs.Plain.{PlainRecord}
use Rattle.eid_record.specs.declared.fields.Password.{Password}
use Rattle.eid_record.specs.declared.fields.Password.TheVariants.{Can, Pin, Puk}

-- the digits of a password
abbrev pub digits_of : PlainRecord → Password → List ℕ
digits_of kept Can = kept.can
digits_of kept Pin = kept.pin
digits_of kept Puk = kept.puk

abbrev pub is_can : Password → Bool
is_can Can = true
is_can Pin = false
is_can Puk = false

abbrev pub is_pin : Password → Bool
is_pin Can = false
is_pin Pin = true
is_pin Puk = false

abbrev pub is_puk : Password → Bool
is_puk Can = false
is_puk Pin = false
is_puk Puk = true

-- ---- the start of PACE

-- the tries of a PIN that was not mistaken
abbrev pub ALL_TRIES : ℕ
ALL_TRIES = 3

-- a try of the PIN is left; else it is blocked
abbrev pub has_try : PlainRecord → Bool
has_try kept = nat_le 1 kept.tries

-- the PIN is not suspended: two tries are left, or the session's last PACE was with the CAN
abbrev pub is_resumed : PlainRecord → (by_can : Bool) → Bool
is_resumed kept by_can = nat_le 2 kept.tries || by_can

-- the first rule that fails at a start with the PIN
abbrev pub pin_refusal : PlainRecord → (by_can : Bool) → Option ℕ
pin_refusal kept by_can =
    if not kept.active then Some active_rule
    else if not (has_try kept) then Some try_rule
    else if not (is_resumed kept by_can) then Some resumed_rule
    else None

-- the other passwords may always be tried
abbrev pub start_refusal : PlainRecord → Password → (by_can : Bool) → Option ℕ
start_refusal kept Can by_can = None
start_refusal kept Pin by_can = pin_refusal kept by_can
start_refusal kept Puk by_can = None

-- the status of the selection of a password (BSI TR-03110-3): that the PIN is deactivated, how many tries of it are left
-- where one was lost, and else nothing
abbrev pub select_status : PlainRecord → Password → ℕ
select_status kept Can = 0x9000
select_status kept Pin =
    if not kept.active then 0x6283
    else if nat_lt kept.tries ALL_TRIES then 0x63C0 + kept.tries
    else 0x9000
select_status kept Puk = 0x9000

-- The ledger: which effects were committed, and the record that is kept because of them. Everything is found by looking
-- back over the moments and over the ledger; and with it the certificates accepted and the terminal known. This project's own.
use Rattle.std.specs.Prelude.{◌≡◌, ◌⊎◌, ℕ, ◌+◌, ◌-◌, Bool, ◌==◌, ◌&&◌, nat_le, nat_lt, List, [], ◌∷◌, length, take, drop, slice_index, Option, Some, None, is_some, if◌then◌else◌}
use Rattle.eid_apdu.specs.Command.{PlainCommand}
use Rattle.eid_record.specs.Plain.{FullRecord, PlainTrustPoint, PlainEffect, Spend, Refill, Unblock, SetPin, SetCan, Active, Advance, Write}
use Rattle.eid_record.specs.Effect.{committed}
use Rattle.eid_trust.specs.Trust.{later_date}
use Rattle.eid_model.specs.Moments.{Event, PoweredOn, PoweredOff, Received, PlainMoment, on, live}
use Rattle.eid_model.specs.Runs.{answers_of}
use Rattle.eid_cvc.specs.Chains.{PlainTerminalKnown}
use Rattle.eid_model.specs.Sessions.{State, Accepted, accepted_more, terminal_more, state_in}
use Rattle.eid_model.specs.Rules.{OfCommand}
use Rattle.eid_model.specs.Answers.{situation, due}

-- ---- the record kept, by the effects that were committed, the newest first

-- tries of the PIN: a Spend takes one, Refill and Unblock give all three back
abbrev pub tries_after : ℕ → List PlainEffect → ℕ
tries_after opening [] = opening
tries_after opening (Spend ∷ before) = tries_after opening before - 1
tries_after opening (Refill ∷ before) = 3
tries_after opening (Unblock by_puk ∷ before) = 3
tries_after opening (SetPin pin ∷ before) = tries_after opening before
tries_after opening (SetCan can ∷ before) = tries_after opening before
tries_after opening (Active active ∷ before) = tries_after opening before
tries_after opening (Advance date current previous ∷ before) = tries_after opening before
tries_after opening (Write file offset bytes ∷ before) = tries_after opening before

-- unblockings: each Unblock by the PUK takes one
abbrev pub unblocks_after : ℕ → List PlainEffect → ℕ
unblocks_after opening [] = opening
unblocks_after opening (Spend ∷ before) = unblocks_after opening before
unblocks_after opening (Refill ∷ before) = unblocks_after opening before
unblocks_after opening (Unblock by_puk ∷ before) = if by_puk then unblocks_after opening before - 1 else unblocks_after opening before
unblocks_after opening (SetPin pin ∷ before) = unblocks_after opening before
unblocks_after opening (SetCan can ∷ before) = unblocks_after opening before
unblocks_after opening (Active active ∷ before) = unblocks_after opening before
unblocks_after opening (Advance date current previous ∷ before) = unblocks_after opening before
unblocks_after opening (Write file offset bytes ∷ before) = unblocks_after opening before

-- the PIN that was set last, the CAN that was set last, whether the PIN was made active last
abbrev pub pin_after : List ℕ → List PlainEffect → List ℕ
pin_after opening [] = opening
pin_after opening (Spend ∷ before) = pin_after opening before
pin_after opening (Refill ∷ before) = pin_after opening before
pin_after opening (Unblock by_puk ∷ before) = pin_after opening before
pin_after opening (SetPin pin ∷ before) = pin
pin_after opening (SetCan can ∷ before) = pin_after opening before
pin_after opening (Active active ∷ before) = pin_after opening before
pin_after opening (Advance date current previous ∷ before) = pin_after opening before
pin_after opening (Write file offset bytes ∷ before) = pin_after opening before

abbrev pub can_after : List ℕ → List PlainEffect → List ℕ
can_after opening [] = opening
can_after opening (Spend ∷ before) = can_after opening before
can_after opening (Refill ∷ before) = can_after opening before
can_after opening (Unblock by_puk ∷ before) = can_after opening before
can_after opening (SetPin pin ∷ before) = can_after opening before
can_after opening (SetCan can ∷ before) = can
can_after opening (Active active ∷ before) = can_after opening before
can_after opening (Advance date current previous ∷ before) = can_after opening before
can_after opening (Write file offset bytes ∷ before) = can_after opening before

abbrev pub active_after : Bool → List PlainEffect → Bool
active_after opening [] = opening
active_after opening (Spend ∷ before) = active_after opening before
active_after opening (Refill ∷ before) = active_after opening before
active_after opening (Unblock by_puk ∷ before) = active_after opening before
active_after opening (SetPin pin ∷ before) = active_after opening before
active_after opening (SetCan can ∷ before) = active_after opening before
active_after opening (Active active ∷ before) = active
active_after opening (Advance date current previous ∷ before) = active_after opening before
active_after opening (Write file offset bytes ∷ before) = active_after opening before

-- the latest of the opening date and the dates that were advanced to
abbrev pub date_after : List ℕ → List PlainEffect → List ℕ
date_after opening [] = opening
date_after opening (Spend ∷ before) = date_after opening before
date_after opening (Refill ∷ before) = date_after opening before
date_after opening (Unblock by_puk ∷ before) = date_after opening before
date_after opening (SetPin pin ∷ before) = date_after opening before
date_after opening (SetCan can ∷ before) = date_after opening before
date_after opening (Active active ∷ before) = date_after opening before
date_after opening (Advance date current previous ∷ before) = later_date (date_after opening before) date
date_after opening (Write file offset bytes ∷ before) = date_after opening before

-- The trust points: the current one, and the one before it.
pub record TrustPoints : Type 0 where
  pub current : PlainTrustPoint
  pub previous : Option PlainTrustPoint

-- those of the last Advance
abbrev pub points_after : TrustPoints → List PlainEffect → TrustPoints
points_after opening [] = opening
points_after opening (Spend ∷ before) = points_after opening before
points_after opening (Refill ∷ before) = points_after opening before
points_after opening (Unblock by_puk ∷ before) = points_after opening before
points_after opening (SetPin pin ∷ before) = points_after opening before
points_after opening (SetCan can ∷ before) = points_after opening before
points_after opening (Active active ∷ before) = points_after opening before
points_after opening (Advance date current previous ∷ before) = record { current = current; previous = previous }
points_after opening (Write file offset bytes ∷ before) = points_after opening before

-- the write covers this place of this file
abbrev pub covers : ℕ → ℕ → ℕ → ℕ → List ℕ → Bool
covers file place written offset bytes = file == written && nat_le offset place && nat_lt place (offset + length bytes)

-- a byte of a file: that of the last Write that covers it
abbrev pub byte_after : ℕ → ℕ → ℕ → List PlainEffect → ℕ
byte_after file place opening [] = opening
byte_after file place opening (Spend ∷ before) = byte_after file place opening before
byte_after file place opening (Refill ∷ before) = byte_after file place opening before
byte_after file place opening (Unblock by_puk ∷ before) = byte_after file place opening before
byte_after file place opening (SetPin pin ∷ before) = byte_after file place opening before
byte_after file place opening (SetCan can ∷ before) = byte_after file place opening before
byte_after file place opening (Active active ∷ before) = byte_after file place opening before
byte_after file place opening (Advance date current previous ∷ before) = byte_after file place opening before
byte_after file place opening (Write written offset bytes ∷ before) =
    if covers file place written offset bytes then slice_index bytes (place - offset) else byte_after file place opening before

-- the bytes of a file from this place on, and the files from this number on
abbrev pub bytes_after : ℕ → ℕ → List ℕ → List PlainEffect → List ℕ
bytes_after file place [] ledger = []
bytes_after file place (b ∷ bytes) ledger = byte_after file place b ledger ∷ bytes_after file (place + 1) bytes ledger

abbrev pub files_kept : ℕ → List (Option (List ℕ)) → List PlainEffect → List (Option (List ℕ))
files_kept file [] ledger = []
files_kept file (None ∷ later) ledger = None ∷ files_kept (file + 1) later ledger
files_kept file (Some bytes ∷ later) ledger = Some (bytes_after file 0 bytes ledger) ∷ files_kept (file + 1) later ledger

abbrev pub opening_points : FullRecord → TrustPoints
opening_points opening = record { current = opening.fields.current; previous = opening.fields.previous }

-- the record after these commits: the number tells how many there were, and the rest is as in the opening record
abbrev pub record_after : FullRecord → List PlainEffect → FullRecord
record_after opening ledger = record {
  fields = record opening.fields {
    number = opening.fields.number + length ledger;
    tries = tries_after opening.fields.tries ledger;
    unblocks = unblocks_after opening.fields.unblocks ledger;
    active = active_after opening.fields.active ledger;
    pin = pin_after opening.fields.pin ledger;
    can = can_after opening.fields.can ledger;
    date = date_after opening.fields.date ledger;
    current = (points_after (opening_points opening) ledger).current;
    previous = (points_after (opening_points opening) ledger).previous;
  };
  files = files_kept 0 opening.files ledger;
}

-- ---- the ledger of a journal

-- The effects committed so far, the newest first, and the effect in whose commit the power was cut, as long as no
-- power-on has told whether it was committed.
pub record Books : Type 0 where
  pub ledger : List PlainEffect
  pub pending : Option PlainEffect

-- effects entered one after the other
abbrev pub onto : List PlainEffect → List PlainEffect → List PlainEffect
onto [] ledger = ledger
onto (effect ∷ later) ledger = onto later (effect ∷ ledger)

abbrev pub first_of : List PlainEffect → Option PlainEffect
first_of [] = None
first_of (effect ∷ later) = Some effect

-- the effects that were due at a command, in the record kept and the state before it
abbrev pub due_at : FullRecord → State → Option PlainCommand → PlainMoment → List PlainEffect
due_at kept state None m = []
due_at kept state (Some c) m = due (situation kept state (OfCommand c) (answers_of m.asks))

-- a power-on that found this number: one more than what was kept tells that what was pending was committed
abbrev pub books_found : ℕ → ℕ → Books → Books
books_found found kept books = record {
  ledger = if found == kept + 1 then (elim books.pending [ None ↦ books.ledger | Some effect ↦ effect ∷ books.ledger ]) else books.ledger;
  pending = None;
}

-- a command of which so many of the effects due were committed; where it was not answered, the next one is pending
abbrev pub books_handled : List PlainEffect → PlainMoment → Books → Books
books_handled due_now m books = record {
  ledger = onto (take m.finished due_now) books.ledger;
  pending = if is_some m.answer then None else first_of (drop m.finished due_now);
}

-- the books after one more moment, by what came, where power stood so, in the state before it
abbrev pub books_more : FullRecord → (power : Bool) → State → PlainMoment → Event → Books → Books
books_more opening power state m (PoweredOn None) books = books
books_more opening power state m (PoweredOn (Some found)) books = books_found found (record_after opening books.ledger).fields.number books
books_more opening power state m PoweredOff books = books
books_more opening power state m (Received bytes) books =
    if power then books_handled (due_at (record_after opening books.ledger) state m.plain m) m books else books

-- The books, the certificates that count, the newest first, and the terminal that has authenticated itself.
pub record Account : Type 0 where
  pub books : Books
  pub accepted : List Accepted
  pub terminal : Option PlainTerminalKnown

-- and after one more moment
abbrev pub account_more : FullRecord → List PlainMoment → PlainMoment → Account → Account
account_more opening before m account = record {
  books = books_more opening (on before) (state_in account.accepted account.terminal (live before)) m m.input account.books;
  accepted = accepted_more (record_after opening account.books.ledger).fields m (live before) account.accepted;
  terminal = terminal_more m (live before) account.accepted account.terminal;
}

unfoldable pub account : FullRecord → List PlainMoment → Account
account opening [] = record { books = record { ledger = []; pending = None }; accepted = []; terminal = None }
account opening (m ∷ before) = account_more opening before m (account opening before)

abbrev pub books : FullRecord → List PlainMoment → Books
books opening moments = (account opening moments).books

-- the certificates accepted since the last PACE of the session, the newest first
abbrev pub accepted : FullRecord → List PlainMoment → List Accepted
accepted opening moments = (account opening moments).accepted

-- the terminal that has authenticated itself since the last PACE of the session
abbrev pub terminal : FullRecord → List PlainMoment → Option PlainTerminalKnown
terminal opening moments = (account opening moments).terminal

-- what the moments of a journal with this opening record leave
abbrev pub state_of : FullRecord → List PlainMoment → State
state_of opening moments = state_in (accepted opening moments) (terminal opening moments) (live moments)

abbrev pub ledger : FullRecord → List PlainMoment → List PlainEffect
ledger opening moments = (books opening moments).ledger

abbrev pub pending : FullRecord → List PlainMoment → Option PlainEffect
pending opening moments = (books opening moments).pending

-- the record kept
abbrev pub kept : FullRecord → List PlainMoment → FullRecord
kept opening moments = record_after opening (ledger opening moments)

-- ---- what cells may hold

-- the record after these effects were committed, the first one first
abbrev pub all_committed : List PlainEffect → FullRecord → FullRecord
all_committed [] kept = kept
all_committed (effect ∷ later) kept = all_committed later (committed effect kept)

-- cells hold the record kept; where an effect is pending, that or the one with the effect
abbrev pub MayHold : Option PlainEffect → FullRecord → Option FullRecord → Type 0
MayHold None kept holds = holds ≡ Some kept
MayHold (Some effect) kept holds = (holds ≡ Some kept) ⊎ (holds ≡ Some (committed effect kept))

-- a power-on finds the number kept; where an effect is pending, that or one more
abbrev pub MayFind : Option PlainEffect → ℕ → ℕ → Type 0
MayFind None kept found = found ≡ kept
MayFind (Some effect) kept found = (found ≡ kept) ⊎ (found ≡ kept + 1)

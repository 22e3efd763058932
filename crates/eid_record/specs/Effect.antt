-- What an effect needs, and what it changes.
use Rattle.std.specs.Prelude.{◌≡◌, ℕ, ◌+◌, ◌-◌, ◌<◌, ◌≤◌, List, length, Option, Some, None, IsTrue, IsSomeAnd, slice_get, slice_set, slice_index_or, if◌then◌else◌}
use Rattle.std.specs.Option.{ForSome, option_map}
use Rattle.eid_record.specs.Plain.{PlainTrustPoint, PlainRecord, PlainEffect, FullRecord, Spend, Refill, Unblock, SetPin, SetCan, Active, Advance, Write}
use Rattle.eid_record.specs.Layout.{replaced}
use Rattle.eid_record.specs.Valid.{AreDigits}

-- a name of at least one byte, and an uncompressed point
pub record IsNamed (t : PlainTrustPoint) : Type 0 where
  pub named : 0 < length t.name
  pub uncompressed : slice_get t.key 0 ≡ Some 4

-- the file of this number is there, and has so many bytes from this offset on
abbrev pub HasRange : List (Option ℕ) → ℕ → ℕ → ℕ → Type 0
HasRange lengths file offset count = IsSomeAnd (slice_index_or lengths file None) (λ n. offset + count ≤ n)

-- the effect may be applied to this record
abbrev pub CanApply : PlainEffect → PlainRecord → Type 0
CanApply Spend r = 0 < r.tries
CanApply Refill r = Unit {0}
CanApply (Unblock by_puk) r = IsTrue by_puk → 0 < r.unblocks
CanApply (SetPin pin) r = AreDigits 6 pin
CanApply (SetCan can) r = AreDigits 6 can
CanApply (Active active) r = Unit {0}
CanApply (Advance date current previous) r = IsNamed current × ForSome previous IsNamed
CanApply (Write file offset bytes) r = HasRange r.lengths file offset (length bytes)

-- the record after the effect
abbrev pub applied : PlainEffect → PlainRecord → PlainRecord
applied Spend r = record r { tries = r.tries - 1 }
applied Refill r = record r { tries = 3 }
applied (Unblock by_puk) r = record r { tries = 3; unblocks = if by_puk then r.unblocks - 1 else r.unblocks }
applied (SetPin pin) r = record r { pin = pin }
applied (SetCan can) r = record r { can = can }
applied (Active active) r = record r { active = active }
applied (Advance date current previous) r = record r { date = date; current = current; previous = previous }
applied (Write file offset bytes) r = r

-- the files after the effect: only Write changes one
abbrev pub files_after : PlainEffect → List (Option (List ℕ)) → List (Option (List ℕ))
files_after (Write file offset bytes) files =
    slice_set files file (option_map (replaced offset bytes) (slice_index_or files file None))
files_after effect files = files

-- the fields after a commit of the effect, which raises the commit number by one
abbrev pub committed_fields : PlainEffect → PlainRecord → PlainRecord
committed_fields effect r = record (applied effect r) { number = r.number + 1 }

-- the full record after a commit of the effect
abbrev pub committed : PlainEffect → FullRecord → FullRecord
committed effect full = record { fields = committed_fields effect full.fields; files = files_after effect full.files }

-- Counts of faults, and what an answer says of them. This project's own.
use Rattle.std.specs.Prelude.{◌≡◌, ℕ, ◌+◌, ◌-◌, ◌^◌, ◌≤◌, min, Result, IsErrOf}
use Rattle.eid_base.specs.declared.outside.IoError.{IoError}
use Rattle.eid_base.specs.declared.outside.IoError.TheVariants.{Fault}

-- the next number of a count, which is kept in 64 bits and stands still at their end
abbrev pub next_number : ℕ → ℕ
next_number count = min (count + 1) (2 ^ 64 - 1)

-- the count rose, or stands at its end
abbrev pub Rose : ℕ → ℕ → Type 0
Rose before now = next_number before ≤ now

-- a fault is answered only where the count rose, and any other answer leaves the count as it was: so memory is wanting
-- only where nothing failed
pub record HasCause {T : Type 0} (before now : ℕ) (answer : Result T IoError) : Type 0 where
  pub later : before ≤ now
  pub fault : IsErrOf answer Fault → Rose before now
  pub still : ¬ IsErrOf answer Fault → now ≡ before

use Rattle.std.proofs.Common.{◌≡◌, ℕ, ◌+◌, ◌-◌, ◌*◌, ◌≤◌, List, Option, length, take}
use Rattle.eid_record.specs.Reading.{lengths_from}
use Rattle.eid_record.proofs.Loop.{with_front}
use Rattle.eid_record.proofs.reading.lengths.Given as goal

-- after i lengths
pub record SoFar (fixed : List ℕ) (lengths : List (Option ℕ)) (i place sum : ℕ) : Type 0 where
  pub read : with_front (take i lengths) (lengths_from (23 - i) place sum fixed) ≡ lengths_from 23 384 0 fixed
  pub at : place ≡ 384 + 2 * i
  pub all : length lengths ≡ 23
  pub fits : sum ≤ 24000

abbrev pub invariant-loop-i : goal.invariant-loop-i
invariant-loop-i l = SoFar l.fixed l.lengths l.i l.place l.sum

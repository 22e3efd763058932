use Rattle.std.proofs.Common.{◌≡◌, ℕ, ◌+◌, ◌*◌, List, Option, take}
use Rattle.std.specs.List.{flat_map}
use Rattle.eid_record.specs.Layout.{replaced, length_bytes}
use Rattle.eid_record.proofs.writing.put_lengths.Given as goal

-- after i lengths
pub record SoFar (first : List ℕ) (lengths : List (Option ℕ)) (fixed : List ℕ) (place i : ℕ) : Type 0 where
  pub written : fixed ≡ replaced 384 (flat_map length_bytes (take i lengths)) first
  pub at : place ≡ 384 + 2 * i

abbrev pub invariant-loop-length : goal.invariant-loop-length
invariant-loop-length l = SoFar l.fn.fixed l.lengths l.fixed l.place l.length-index

-- A line that is cut at its first space.
use Rattle.std.proofs.Common.{◌≡◌, ℕ, ◌<◌, ◌≤◌, Bool, List, length, arith, cond, ltb, Some, None}
use Rattle.std.specs.List.{position, position_or_len}
use Rattle.std.proofs.lemmas.Bool.Decides.{nat_tests}

pub found_at : (p : ℕ → Bool) (line : List ℕ) (at : ℕ) → position p line ≡ Some at → (position_or_len p line ≡ at) × (at < length line)
found_at p line at is = chosen (position_or_len p line) is where
  chosen : (k : ℕ) → cond (ltb k (length line)) (Some k) None ≡ Some at → (k ≡ at) × (at < length line)
  chosen k is = grind (arith, nat_tests)

pub not_found : (p : ℕ → Bool) (line : List ℕ) → position p line ≡ None → length line ≤ position_or_len p line
not_found p line is = chosen (position_or_len p line) is where
  chosen : (k : ℕ) → cond (ltb k (length line)) (Some k) None ≡ None → length line ≤ k
  chosen k is = grind (arith, nat_tests)

-- What is true of the numbers of generated sessions.
use Rattle.std.proofs.Common.{ℕ, ◌≤◌, length, arith}
use Rattle.std.specs.Prelude.{decimal}
use Rattle.std.proofs.lemmas.Fmt.{length-decimal-le}

-- a number up to 1,000 has at most four digits
pub few_digits : (number : ℕ) → number ≤ 1000 → length (decimal number) ≤ 4
few_digits number few = length-decimal-le 4 number (omega arith) (omega (arith, few)) (omega (arith, few))

use Rattle.std.proofs.Common.{◌≡◌, ℕ, ◌<◌, ◌≤◌, length, get_or}
use Rattle.eid_aes.specs.Field.{inv_sub}
use Rattle.eid_aes.proofs.steps.inv_sub_bytes.Given as goal

abbrev pub invariant-loop-byte : goal.invariant-loop-byte
invariant-loop-byte l = record {
  size : length l.s ≡ 16;
  done : (k : ℕ) → k < l.byte-index → get_or l.s k 0 ≡ inv_sub (get_or l.fn.s k 0);
  rest : (k : ℕ) → l.byte-index ≤ k → get_or l.s k 0 ≡ get_or l.fn.s k 0;
}

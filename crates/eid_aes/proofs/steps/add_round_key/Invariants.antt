use Rattle.std.proofs.Common.{◌≡◌, ℕ, ◌+◌, ◌*◌, ◌<◌, ◌≤◌, length, get_or, bit_xor}
use Rattle.eid_aes.proofs.steps.add_round_key.Given as goal

abbrev pub invariant-loop-i : goal.invariant-loop-i
invariant-loop-i l = record {
  size : length l.s ≡ 16;
  done : (k : ℕ) → k < l.i → get_or l.s k 0 ≡ bit_xor (get_or l.fn.s k 0) (get_or l.schedule (16 * l.round + k) 0);
  rest : (k : ℕ) → l.i ≤ k → get_or l.s k 0 ≡ get_or l.fn.s k 0;
}

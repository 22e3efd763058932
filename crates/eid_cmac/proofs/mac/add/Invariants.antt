use Rattle.std.proofs.Common.{◌≡◌, ℕ, ◌+◌, ◌<◌, ◌≤◌, length, get_or, bit_xor}
use Rattle.eid_cmac.proofs.mac.add.Given as goal

abbrev pub invariant-loop-i : goal.invariant-loop-i
invariant-loop-i l = record {
  size : length l.block ≡ 16;
  before : (k : ℕ) → k < l.at → get_or l.block k 0 ≡ get_or l.fn.block k 0;
  done : (k : ℕ) → k < l.i → get_or l.block (l.at + k) 0 ≡ bit_xor (get_or l.fn.block (l.at + k) 0) (get_or l.bytes k 0);
  rest : (k : ℕ) → l.at + l.i ≤ k → get_or l.block k 0 ≡ get_or l.fn.block k 0;
}

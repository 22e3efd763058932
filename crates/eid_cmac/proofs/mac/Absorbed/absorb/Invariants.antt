use Rattle.std.proofs.Common.{◌≡◌, ℕ, List, ◌-◌, ◌<◌, ◌≤◌, ◌++◌, length, take}
use Rattle.eid_cmac.specs.Absorbing.{Holds}
use Rattle.eid_cmac.proofs.mac.Absorbed.absorb.Given as goal

abbrev pub invariant-loop-at : goal.invariant-loop-at
invariant-loop-at g l = record {
  within : l.at ≤ length l.piece;
  held : l.self.held ≤ 16;
  whole : l.at < length l.piece → l.self.held ≡ 16;
  holds : (m : List ℕ) → Holds l.key l.fn.self.state l.fn.self.held m → Holds l.key l.self.state l.self.held (m ++ take l.at l.piece);
}

abbrev pub decreases-loop-at : goal.decreases-loop-at
decreases-loop-at g l = length l.piece - l.at

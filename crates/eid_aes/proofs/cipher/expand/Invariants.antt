use Rattle.std.proofs.Common.{◌≡◌, ◌-◌, ◌*◌, length, take}
use Rattle.eid_aes.specs.Cipher.{expanded}
use Rattle.eid_aes.proofs.cipher.expand.Given as goal

abbrev pub invariant-loop-i : goal.invariant-loop-i
invariant-loop-i l = record {
  size : length l.schedule ≡ 240;
  made : take (4 * l.i) l.schedule ≡ expanded l.key (l.i - l.words);
}

use Rattle.std.proofs.Common.{◌≡◌, ◌-◌}
use Rattle.eid_aes.specs.Cipher.{before_rounds}
use Rattle.eid_aes.proofs.cipher.Aes.decrypt.Given as goal

abbrev pub invariant-loop-round : goal.invariant-loop-round
invariant-loop-round g l = before_rounds l.self-inside.schedule (l.round - 1) l.block ≡ before_rounds l.self-inside.schedule (l.initial.round - 1) l.initial.block

use Rattle.std.proofs.Common.{◌≡◌, ◌-◌}
use Rattle.eid_aes.specs.Cipher.{after_rounds}
use Rattle.eid_aes.specs.Columns.{state_of}
use Rattle.eid_aes.proofs.cipher.Aes.encrypt.Given as goal

abbrev pub invariant-loop-round : goal.invariant-loop-round
invariant-loop-round g l = state_of l.s ≡ after_rounds l.self-inside.schedule (l.round - 1) l.fn.block

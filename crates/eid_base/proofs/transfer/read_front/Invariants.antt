use Rattle.std.proofs.Common.{◌≤◌, ◌-◌, vec_len}
use Rattle.std.specs.Io.KnownBytes.{Consumes}
use Rattle.eid_base.proofs.transfer.read_front.Given as goal

-- no more than asked for, and all that the reader gave
abbrev pub invariant-loop-chunk : goal.invariant-loop-chunk
invariant-loop-chunk g l = record { most : vec_len l.bytes ≤ l.most; given : Consumes (g.R.Read.remaining l.initial.from) (g.R.Read.remaining l.from) l.bytes.items }

-- what may still come
abbrev pub decreases-loop-chunk : goal.decreases-loop-chunk
decreases-loop-chunk g l = l.most - vec_len l.bytes

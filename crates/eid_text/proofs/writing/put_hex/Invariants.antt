use Rattle.std.proofs.Common.{◌≡◌, ◌++◌, ◌+◌, ◌-◌, ◌*◌, ◌≤◌, length, take, vec_capacity, vec_len}
use Rattle.hex.specs.Hex.{encode_lower}
use Rattle.eid_text.proofs.writing.put_hex.Given as goal

-- the digits of the bytes so far stand there, and there is room for the others
abbrev pub invariant-loop-byte : goal.invariant-loop-byte
invariant-loop-byte l = record {
  room : vec_len l.out + 2 * (length l.bytes - l.byte-index) ≤ vec_capacity l.out;
  written : l.out.items ≡ l.initial.out.items ++ encode_lower (take l.byte-index l.bytes);
}

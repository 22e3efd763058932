use Rattle.std.proofs.Common.{◌≡◌, ◌-◌, ◌*◌, ◌/◌, ◌++◌, length, take, drop}
use Rattle.std.specs.List.{concat}
use Rattle.eid_aes.specs.Cbc.{blocks, encrypted_blocks, cbc_encrypted}
use Rattle.eid_aes.proofs.cipher.Aes.cbc_encrypt.Given as goal

-- what is done and the encryption of what is left are the encryption of all
abbrev pub invariant-loop-i : goal.invariant-loop-i
invariant-loop-i g l = record {
  size : length l.bytes ≡ length l.fn.bytes;
  chain : length l.chain ≡ 16;
  rest : drop (16 * l.i) l.bytes ≡ drop (16 * l.i) l.fn.bytes;
  done : take (16 * l.i) l.bytes ++ concat (encrypted_blocks l.self l.chain (blocks (length l.fn.bytes / 16 - l.i) (drop (16 * l.i) l.fn.bytes)))
      ≡ cbc_encrypted l.self l.iv l.fn.bytes;
}

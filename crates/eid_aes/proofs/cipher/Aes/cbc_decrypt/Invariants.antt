use Rattle.std.proofs.Common.{slice_index, ◌<◌, ◌≡◌, ℕ, ◌-◌, ◌*◌, ◌/◌, ◌++◌, length, take, drop}
use Rattle.std.specs.List.{concat}
use Rattle.eid_aes.specs.Cbc.{blocks, decrypted_blocks, cbc_decrypted}
use Rattle.eid_aes.proofs.cipher.Aes.cbc_decrypt.Given as goal

-- what is done and the decryption of what is left are the decryption of all
abbrev pub invariant-loop-i : goal.invariant-loop-i
invariant-loop-i g l = record {
  size : length l.bytes ≡ length l.fn.bytes;
  each : (k : ℕ) → slice_index l.fn.bytes k < 256;
  chain : length l.chain ≡ 16;
  rest : drop (16 * l.i) l.bytes ≡ drop (16 * l.i) l.fn.bytes;
  done : take (16 * l.i) l.bytes ++ concat (decrypted_blocks l.self l.chain (blocks (length l.fn.bytes / 16 - l.i) (drop (16 * l.i) l.fn.bytes)))
      ≡ cbc_decrypted l.self l.iv l.fn.bytes;
}

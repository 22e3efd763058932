-- Inside: a message that is taken piece by piece. Only private functions cite this.
use Rattle.std.specs.Prelude.{◌≡◌, ℕ, List, length}
use Rattle.eid_aes.specs.Cipher.{xor_block}
use Rattle.eid_cmac.specs.Cmac.{chain, blocks_before, last_bytes}

-- The state is the chain with the last block's bytes added, and that block has so many bytes.
pub record Holds (key state : List ℕ) (held : ℕ) (message : List ℕ) : Type 0 where
  pub added : state ≡ xor_block (chain key message (blocks_before message)) (last_bytes message)
  pub count : held ≡ length (last_bytes message)

-- What the program prints.
use Rattle.std.specs.Prelude.{ℕ, ◌-◌, ◌*◌, ◌/◌, List, drop, replicate}
use Rattle.hex.specs.Hex.{encode_lower}
use Rattle.eid_aes.specs.Cbc.{cbc_encrypted}
use Rattle.eid_cmac.specs.Cmac.{zeros, cmac}

-- the last block of n bytes, cut down to whole blocks, that are encrypted, as hexadecimal digits
abbrev pub cbc_answer : List ℕ → ℕ → ℕ → List ℕ
cbc_answer key fill n = encode_lower (drop (n / 16 * 16 - 16) (cbc_encrypted key zeros (replicate (n / 16 * 16) fill)))

-- the MAC of n bytes, as hexadecimal digits
abbrev pub cmac_answer : List ℕ → ℕ → ℕ → List ℕ
cmac_answer key fill n = encode_lower (cmac key (replicate n fill))

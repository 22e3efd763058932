-- The ciphers and digests of a PACE alone, as a program that is timed does them.
use Rattle.std.specs.Prelude.{ℕ, zero, suc, List, [], ◌∷◌, ◌++◌, take, replicate}
use Rattle.hex.specs.Hex.{encode_lower}
use Rattle.sha2.specs.Sha256.{sha256}
use Rattle.eid_aes.specs.Cbc.{cbc_encrypted}
use Rattle.eid_cmac.specs.Cmac.{zeros, cmac}
use Rattle.eid_cmac.specs.Derivation.{derived}

-- a random block from the one before
abbrev pub drawn : List ℕ → List ℕ
drawn seed = sha256 seed

-- the digits of a password, as a key of 16 bytes
abbrev pub digits : List ℕ
digits = 0 ∷ 1 ∷ 2 ∷ 3 ∷ 4 ∷ 5 ∷ 6 ∷ 7 ∷ 8 ∷ 9 ∷ 10 ∷ 11 ∷ 12 ∷ 13 ∷ 14 ∷ 15 ∷ []

-- the nonce in a random block, encrypted
abbrev pub nonce_of : List ℕ → List ℕ
nonce_of block = cbc_encrypted (derived digits [] 3) zeros (take 16 block)

-- a MAC of 82 bytes, the last of them the nonce, and one of 82 bytes, encrypted from the first on; both keys are
-- those of the secret
abbrev pub sent : List ℕ → List ℕ → List ℕ
sent nonce shared =
    cbc_encrypted (derived shared [] 1) (cmac (derived shared [] 2) (replicate 66 0x5a ++ nonce)) (cmac (derived shared [] 2) (replicate 82 0x5a))

-- one PACE, from the seed of its random blocks
unfoldable pub pace_work : List ℕ → List ℕ
pace_work seed = sent (nonce_of (drawn seed)) (drawn (drawn (drawn seed)))

unfoldable pub paces : ℕ → List ℕ
paces zero = replicate 16 0
paces (suc n) = pace_work (paces n)

abbrev pub pace_answer : ℕ → List ℕ
pace_answer n = encode_lower (paces n)

-- The keys, the tokens and the identity of PACE (BSI TR-03110-3), for AES-128.
use Rattle.std.specs.Prelude.{ℕ, List, [], replicate}
use Rattle.eid_aes.specs.Cbc.{cbc_encrypted}
use Rattle.eid_cmac.specs.Cmac.{mac8}
use Rattle.eid_cmac.specs.Derivation.{derived}
use Rattle.eid_cvc.specs.PublicKeys.{token_object, x_half}

-- of a password's digits
abbrev pub password_key : List ℕ → List ℕ
password_key digits = derived digits [] 3

-- the nonce as the chip sends it
abbrev pub encrypted_nonce : List ℕ → List ℕ → List ℕ
encrypted_nonce digits nonce = cbc_encrypted (password_key digits) (replicate 16 0) nonce

-- of the secret that was agreed: the key of encryption, and that of MACs
abbrev pub enc_key : List ℕ → List ℕ
enc_key shared = derived shared [] 1

abbrev pub mac_key : List ℕ → List ℕ
mac_key shared = derived shared [] 2

-- a token: the MAC of the object identifier of the protocol, and of the ephemeral point of the side that the token is sent to
abbrev pub token : (key protocol point : List ℕ) → List ℕ
token key protocol point = mac8 key (token_object protocol point)

-- the X half of the chip's ephemeral point
abbrev pub identity_of : List ℕ → List ℕ
identity_of point = x_half point

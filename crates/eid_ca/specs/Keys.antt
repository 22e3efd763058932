-- The keys and the token of chip authentication (BSI TR-03110-3), for AES-128.
use Rattle.std.specs.Prelude.{ℕ, List}
use Rattle.eid_cmac.specs.Cmac.{mac8}
use Rattle.eid_cmac.specs.Derivation.{derived}
use Rattle.eid_cvc.specs.PublicKeys.{token_object}

-- of the secret that was agreed and the chip's nonce: the key of encryption, and that of MACs
abbrev pub enc_key : (shared nonce : List ℕ) → List ℕ
enc_key shared nonce = derived shared nonce 1

abbrev pub mac_key : (shared nonce : List ℕ) → List ℕ
mac_key shared nonce = derived shared nonce 2

-- the token: the MAC of the object identifier of the protocol, and of the terminal's point
abbrev pub token : (key protocol point : List ℕ) → List ℕ
token key protocol point = mac8 key (token_object protocol point)

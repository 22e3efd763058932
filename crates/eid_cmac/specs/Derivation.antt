-- Key derivation for AES-128 (BSI TR-03110-3): SHA-1 of the secret, the nonce and the counter.
use Rattle.std.specs.Prelude.{ℕ, List, ◌++◌, take}
use Rattle.std.specs.Int.{w32, to_be_bytes}
use Rattle.sha1.specs.Sha1.{sha1}

-- the key number `which`: 1 for encryption, 2 for MACs, 3 for a password
abbrev pub derived : List ℕ → List ℕ → ℕ → List ℕ
derived secret nonce which = take 16 (sha1 (secret ++ nonce ++ to_be_bytes w32 which))

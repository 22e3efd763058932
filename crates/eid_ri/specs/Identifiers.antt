-- The hash of a sector key, and the identifier in a sector (BSI TR-03110-3, RI-ECDH-SHA-256). That the hash is that
-- of the whole object 7F49 is this project's own.
use Rattle.std.specs.Prelude.{ℕ, List}
use Rattle.sha2.specs.Sha256.{sha256}

-- of the object 7F49
abbrev pub sector_hash : List ℕ → List ℕ
sector_hash object = sha256 object

-- of the secret that was agreed with the chip's static key and the sector key
abbrev pub identifier : List ℕ → List ℕ
identifier shared = sha256 shared

-- The keys of a channel as lists of bytes.
use Rattle.std.specs.Prelude.{ℕ, List}
use Rattle.eid_cmac.specs.declared.session_keys.SessionKeys.{SessionKeys}
use Rattle.eid_cmac.specs.declared.session_keys.SessionKeys.TheVariants.{Short}

-- the key of encryption
abbrev pub enc_of : SessionKeys → List ℕ
enc_of (Short enc mac) = enc

-- the key of MACs
abbrev pub mac_of : SessionKeys → List ℕ
mac_of (Short enc mac) = mac

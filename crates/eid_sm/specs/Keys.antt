-- The keys and the send sequence counter of secure messaging (BSI TR-03110-3).
use Rattle.std.specs.Prelude.{ℕ, ◌+◌, ◌%◌, ◌^◌, List}
use Rattle.std.specs.Int.{w128, to_be_bytes}
use Rattle.eid_cmac.specs.SessionKeys.{enc_of, mac_of}
use Rattle.eid_cmac.specs.declared.session_keys.SessionKeys.{SessionKeys}

-- the bytes of the key for encryption and of the key for MACs
pub record Keys : Type 0 where
  pub enc : List ℕ
  pub mac : List ℕ

abbrev pub keys_view : SessionKeys → Keys
keys_view keys = record { enc = enc_of keys; mac = mac_of keys }

-- what a channel keeps: its keys, and the send sequence counter of the last message
pub record ChannelState : Type 0 where
  pub keys : Keys
  pub counter : ℕ

-- a send sequence counter as 16 bytes, its high byte first
unfoldable pub counter_bytes : ℕ → List ℕ
counter_bytes n = to_be_bytes w128 n

-- the send sequence counter of the next message; 0 follows the greatest number of 16 bytes
abbrev pub next_counter : ℕ → ℕ
next_counter n = (n + 1) % 2 ^ 128

-- the channel after one message more
abbrev pub advanced : ChannelState → ChannelState
advanced s = record { keys = s.keys; counter = next_counter s.counter }

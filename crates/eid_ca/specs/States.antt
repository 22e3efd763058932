-- Where chip authentication stands after its selection, and what it leaves, as plain values.
use Rattle.std.specs.Prelude.{ℕ, List}
use Rattle.eid_ca.specs.Keys.{enc_key, mac_key, token}
use Rattle.eid_ca.specs.Protocols.{protocol_bytes}
use Rattle.eid_ca.specs.declared.protocol.Protocol.{Protocol}

-- after the selection: what it chose, and the X half that the terminal's point must have
pub record PlainCaChosen : Type 0 where
  pub protocol : Protocol
  pub key_x : List ℕ

-- after the chip has proven its key: what it sends, and the keys of the channel from then on
pub record PlainProven : Type 0 where
  pub nonce : List ℕ
  pub token : List ℕ
  pub enc : List ℕ
  pub mac : List ℕ

-- by a nonce, and the secret agreed with the terminal's point
abbrev pub proven_by : Protocol → (point nonce shared : List ℕ) → PlainProven
proven_by protocol point nonce shared = record {
  nonce = nonce;
  token = token (mac_key shared nonce) (protocol_bytes protocol) point;
  enc = enc_key shared nonce;
  mac = mac_key shared nonce;
}

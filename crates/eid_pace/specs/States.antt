-- Where PACE stands between two steps: what later steps need, as plain values.
use Rattle.std.specs.Prelude.{ℕ, List, Option}
use Rattle.eid_record.specs.declared.fields.Password.{Password}
use Rattle.eid_pace.specs.declared.protocol.Protocol.{Protocol}

-- what the selection chose
pub record PlainChoice : Type 0 where
  pub protocol : Protocol
  pub password : Password
  pub template : Option (List ℕ)

-- after the nonce was sent
pub record PlainNonceSent : Type 0 where
  pub choice : PlainChoice
  pub nonce : List ℕ

-- after the nonce was mapped to a base
pub record PlainMapped : Type 0 where
  pub choice : PlainChoice
  pub base : List ℕ

-- after the ephemeral points gave a secret
pub record PlainAgreed : Type 0 where
  pub choice : PlainChoice
  pub chip_point : List ℕ
  pub terminal_point : List ℕ
  pub shared : List ℕ

-- after the tokens
pub record PlainDone : Type 0 where
  pub password : Password
  pub template : Option (List ℕ)
  pub identity : List ℕ
  pub enc : List ℕ
  pub mac : List ℕ

-- Where terminal authentication stands between two steps: what later steps need, as plain values.
use Rattle.std.specs.Prelude.{ℕ, List, Option}
use Rattle.eid_cvc.specs.Chains.{PlainAux}

-- what the body of MSE:Set AT announces
pub record PlainAnnouncement : Type 0 where
  -- the name of the terminal
  pub reference : List ℕ
  -- the X half of the terminal's ephemeral key
  pub key_x : List ℕ
  -- the object 67 whole, or nothing
  pub sent : List ℕ
  -- the auxiliary data in it
  pub aux : PlainAux

-- after the announcement
pub record PlainAnnounced : Type 0 where
  -- of trust point, document verifier and terminal
  pub templates : List (List ℕ)
  -- the terminal's public key
  pub key : List ℕ
  pub key_x : List ℕ
  pub sent : List ℕ
  pub aux : PlainAux
  -- the hashes of the terminal's first and second sector key
  pub sectors : List (Option (List ℕ))

-- after the challenge was sent
pub record PlainChallenged : Type 0 where
  pub announced : PlainAnnounced
  pub challenge : List ℕ

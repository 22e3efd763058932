-- How the first step of PACE can end: it may not start with the password, or a nonce is drawn, and sent under the
-- password's digits.
use Rattle.std.specs.Prelude.{◌≡◌, ℕ, List, [], ◌∷◌, Option, Some, None, Result, Ok, Err}
use Rattle.eid_copro.specs.declared.ask.Ask.{Ask}
use Rattle.eid_copro.specs.declared.ask.Answer.TheVariants as answers
use Rattle.eid_copro.specs.Asking.{nonce_ask}
use Rattle.eid_pace.specs.Keys.{encrypted_nonce}
use Rattle.eid_pace.specs.Rules.{fault_rule}
use Rattle.eid_pace.specs.States.{PlainChoice, PlainNonceSent}

-- by the rule that refuses the start, if there is one
pub data NonceEnd (refusal : Option ℕ) : Type 0 where
  NotStarted : (rule : ℕ) → refusal ≡ Some rule → NonceEnd refusal
  NoNonce : refusal ≡ None → NonceEnd refusal
  Drawn : (nonce : List ℕ) → refusal ≡ None → NonceEnd refusal

-- the questions with their answers
abbrev pub nonce_asks : (refusal : Option ℕ) → NonceEnd refusal → List Ask
nonce_asks refusal (NotStarted rule is) = []
nonce_asks refusal (NoNonce may) = nonce_ask answers.Fault ∷ []
nonce_asks refusal (Drawn nonce may) = nonce_ask (answers.Nonce nonce) ∷ []

-- the next state and what is sent, or the rule that failed
abbrev pub nonce_given : PlainChoice → List ℕ → (refusal : Option ℕ) → NonceEnd refusal → Result (PlainNonceSent × List ℕ) ℕ
nonce_given choice digits refusal (NotStarted rule is) = Err rule
nonce_given choice digits refusal (NoNonce may) = Err fault_rule
nonce_given choice digits refusal (Drawn nonce may) = Ok (record { choice = choice; nonce = nonce }, encrypted_nonce digits nonce)

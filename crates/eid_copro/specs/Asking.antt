-- Asks, and what several questions do to a coprocessor. This project's own.
use Rattle.std.specs.Prelude.{◌≡◌, ℕ, ◌+◌, ◌≤◌, ◌||◌, Bool, true, false, List, [], ◌∷◌, ◌++◌, length, Option}
use Rattle.eid_base.specs.Faults.{Rose}
use Rattle.eid_copro.specs.Seen.{CoproSeen}
use Rattle.eid_copro.specs.declared.ask.Ask.{Ask}
use Rattle.eid_copro.specs.declared.ask.Question.TheVariants as questions
use Rattle.eid_copro.specs.declared.ask.Answer.{Answer}
use Rattle.eid_copro.specs.declared.ask.Answer.TheVariants as answers

abbrev pub nonce_ask : Answer → Ask
nonce_ask answer = record { question = questions.Nonce; answer = answer }

abbrev pub pair_ask : Option (List ℕ) → Answer → Ask
pair_ask base answer = record { question = questions.Pair base; answer = answer }

abbrev pub map_ask : List ℕ → List ℕ → List ℕ → Answer → Ask
map_ask nonce secret peer answer = record { question = questions.Map nonce secret peer; answer = answer }

abbrev pub agree_ask : List ℕ → List ℕ → Answer → Ask
agree_ask secret peer answer = record { question = questions.Agree secret peer; answer = answer }

-- the challenge that a terminal is to sign
abbrev pub challenge_ask : Answer → Ask
challenge_ask answer = record { question = questions.Challenge; answer = answer }

-- whether that is the key's signature of the digest
abbrev pub verify_ask : (key digest signature : List ℕ) → Answer → Ask
verify_ask key digest signature answer = record { question = questions.Verify key digest signature; answer = answer }

abbrev pub is_fault : Answer → Bool
is_fault answers.Fault = true
is_fault answer = false

-- some of them met a fault
abbrev pub met_fault : List Ask → Bool
met_fault [] = false
met_fault (ask ∷ later) = is_fault ask.answer || met_fault later

-- these were asked and answered, oldest first, and no others; a fault has a cause
pub record WereAsked (old new : CoproSeen) (asks : List Ask) : Type 0 where
  pub logged : new.log ≡ old.log ++ asks
  pub spent : new.spare + length asks ≡ old.spare
  pub same_told : new.told ≡ old.told
  pub later : old.faults ≤ new.faults
  pub cause : met_fault asks ≡ true → Rose old.faults new.faults

-- A step put the questions of one of its ends, and gave what that end gives.
pub record EndsAs {End Given : Type 0} (old new : CoproSeen) (asks_of : End → List Ask) (given_by : End → Given) (given : Given) : Type 0 where
  pub end : End
  pub asked : WereAsked old new (asks_of end)
  pub gives : given ≡ given_by end

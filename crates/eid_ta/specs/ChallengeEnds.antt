-- How the second step of terminal authentication can end: a challenge is drawn, and sent.
use Rattle.std.specs.Prelude.{ℕ, List, [], ◌∷◌, Result, Ok, Err}
use Rattle.eid_copro.specs.declared.ask.Ask.{Ask}
use Rattle.eid_copro.specs.declared.ask.Answer.TheVariants as answers
use Rattle.eid_copro.specs.Asking.{challenge_ask}
use Rattle.eid_ta.specs.Rules.{fault_rule}
use Rattle.eid_ta.specs.States.{PlainAnnounced, PlainChallenged}

-- the challenge that was drawn, if one was
pub data ChallengeEnd : Type 0 where
  NoChallenge : ChallengeEnd
  Drawn : (challenge : List ℕ) → ChallengeEnd

-- the question with its answer
abbrev pub challenge_asks : ChallengeEnd → List Ask
challenge_asks NoChallenge = challenge_ask answers.Fault ∷ []
challenge_asks (Drawn challenge) = challenge_ask (answers.Challenge challenge) ∷ []

-- the next state and the challenge, or the rule that failed
abbrev pub challenge_given : PlainAnnounced → ChallengeEnd → Result (PlainChallenged × List ℕ) ℕ
challenge_given announced NoChallenge = Err fault_rule
challenge_given announced (Drawn challenge) = Ok (record { announced = announced; challenge = challenge }, challenge)

-- Which answers have the kind of a question; a fault fits each. This project's own.
use Rattle.std.specs.Prelude.{Bool, true, false}
use Rattle.eid_copro.specs.declared.ask.Question.{Question}
use Rattle.eid_copro.specs.declared.ask.Question.TheVariants as questions
use Rattle.eid_copro.specs.declared.ask.Answer.{Answer}
use Rattle.eid_copro.specs.declared.ask.Answer.TheVariants as answers

abbrev pub fits_nonce : Answer → Bool
fits_nonce (answers.Nonce nonce) = true
fits_nonce answers.Fault = true
fits_nonce answer = false

abbrev pub fits_challenge : Answer → Bool
fits_challenge (answers.Challenge challenge) = true
fits_challenge answers.Fault = true
fits_challenge answer = false

abbrev pub fits_pair : Answer → Bool
fits_pair (answers.Pair secret public) = true
fits_pair answers.Fault = true
fits_pair answer = false

abbrev pub fits_map : Answer → Bool
fits_map (answers.Mapped base) = true
fits_map answers.NoPoint = true
fits_map answers.Fault = true
fits_map answer = false

abbrev pub fits_agree : Answer → Bool
fits_agree (answers.Shared shared) = true
fits_agree answers.NoPoint = true
fits_agree answers.Fault = true
fits_agree answer = false

abbrev pub fits_verify : Answer → Bool
fits_verify (answers.Verdict good) = true
fits_verify answers.Fault = true
fits_verify answer = false

abbrev pub fits_sign : Answer → Bool
fits_sign (answers.Signed signature) = true
fits_sign answers.Fault = true
fits_sign answer = false

abbrev pub fits : Question → Answer → Bool
fits questions.Nonce answer = fits_nonce answer
fits questions.Challenge answer = fits_challenge answer
fits (questions.Pair base) answer = fits_pair answer
fits (questions.Map nonce secret peer) answer = fits_map answer
fits (questions.Agree secret peer) answer = fits_agree answer
fits (questions.Verify key digest signature) answer = fits_verify answer
fits (questions.Sign secret digest) answer = fits_sign answer

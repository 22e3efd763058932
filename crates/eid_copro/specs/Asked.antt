-- What a question does to a coprocessor. This project's own.
use Rattle.std.specs.Prelude.{◌≡◌, ℕ, ◌+◌, ◌≤◌, List, [], ◌∷◌, ◌++◌, Bool, Option, Some, None, Result, Ok, Err}
use Rattle.eid_base.specs.Faults.{Rose}
use Rattle.eid_copro.specs.Seen.{CoproSeen}
use Rattle.eid_copro.specs.Told.{IsAsTold}
use Rattle.eid_copro.specs.declared.ask.Question.{Question}
use Rattle.eid_copro.specs.declared.ask.Answer.{Answer}
use Rattle.eid_copro.specs.declared.ask.Answer.TheVariants as answers
use Rattle.eid_copro.specs.declared.coprocessor.CoproFault.{CoproFault}

-- the question and its answer are logged, room for one ask is used, the answer is as told, and a
-- fault has a cause
pub record Asked (old new : CoproSeen) (question : Question) (answer : Answer) : Type 0 where
  pub logged : new.log ≡ old.log ++ record { question = question; answer = answer } ∷ []
  pub spent : new.spare + 1 ≡ old.spare
  pub same_told : new.told ≡ old.told
  pub as_told : IsAsTold old.told old.log question answer
  pub later : old.faults ≤ new.faults
  pub cause : answer ≡ answers.Fault → Rose old.faults new.faults

-- the answers that the results of the calls stand for
abbrev pub nonce_answer : Result (List ℕ) CoproFault → Answer
nonce_answer (Ok nonce) = answers.Nonce nonce
nonce_answer (Err fault) = answers.Fault

abbrev pub challenge_answer : Result (List ℕ) CoproFault → Answer
challenge_answer (Ok challenge) = answers.Challenge challenge
challenge_answer (Err fault) = answers.Fault

abbrev pub pair_answer : Result (List ℕ × List ℕ) CoproFault → Answer
pair_answer (Ok pair) = answers.Pair pair.0 pair.1
pair_answer (Err fault) = answers.Fault

abbrev pub map_answer : Result (Option (List ℕ)) CoproFault → Answer
map_answer (Ok (Some base)) = answers.Mapped base
map_answer (Ok None) = answers.NoPoint
map_answer (Err fault) = answers.Fault

abbrev pub agree_answer : Result (Option (List ℕ)) CoproFault → Answer
agree_answer (Ok (Some shared)) = answers.Shared shared
agree_answer (Ok None) = answers.NoPoint
agree_answer (Err fault) = answers.Fault

abbrev pub verify_answer : Result Bool CoproFault → Answer
verify_answer (Ok good) = answers.Verdict good
verify_answer (Err fault) = answers.Fault

abbrev pub sign_answer : Result (List ℕ) CoproFault → Answer
sign_answer (Ok signature) = answers.Signed signature
sign_answer (Err fault) = answers.Fault

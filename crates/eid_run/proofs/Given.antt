-- What a model coprocessor gives, and the questions of a chip, one after the other.
use Rattle.std.proofs.Common.{◌≡◌, ℕ, List, [], ◌∷◌, ◌++◌, length, take, Option, Some, None, refl, sym, ap, ◌∙◌, arith}
use Rattle.std.specs.Prelude.{slice_index}
use Rattle.std.specs.Int.{w64, to_be_bytes}
use Rattle.std.specs.List.{All}
use Rattle.std.proofs.lemmas.List.{length-take-le}
use Rattle.std.proofs.lemmas.List.Elements.{All-head, All-tail}
use Rattle.sha2.proofs.Facts256.{length-sha256}
use Rattle.eid_copro.specs.Model.{agreement, answer_with, random_block}
use Rattle.eid_copro.specs.Numbers.{point_number, point_of, scalar, times, x_half}
use Rattle.eid_copro.specs.declared.ask.Answer.{Answer}
use Rattle.eid_copro.specs.declared.ask.Answer.TheVariants as answers
use Rattle.eid_copro.specs.declared.ask.Ask.{Ask}
use Rattle.eid_copro.specs.declared.ask.Question.{Question}
use Rattle.eid_copro.specs.declared.ask.Question.TheVariants as questions
use Rattle.eid_model.specs.Legal.{AreAsked}
use Rattle.eid_run.proofs.Agreeing.{agree_given}
use Rattle.eid_run.proofs.Going.{IsGiven}

-- ---- questions

-- the first question that the chip puts, and the later ones
pub record FirstAsk (next : List Answer → Option Question) (given : List Answer) (asks : List Ask) (question : Question) : Type 0 where
  pub ask : Ask
  pub later : List Ask
  pub is : asks ≡ ask ∷ later
  pub same : ask.question ≡ question
  pub by : IsGiven ask
  pub asked : AreAsked next (given ++ ask.answer ∷ []) later
  pub further : All IsGiven later

pub first_ask : (next : List Answer → Option Question) (given : List Answer) (asks : List Ask) (question : Question) → AreAsked next given asks → next given ≡ Some question → All IsGiven asks → FirstAsk next given asks question
first_ask next given [] question asked some all = absurd (by (next given) asked some) where
  by : (o : Option Question) → o ≡ None → o ≡ Some question → ⊥
  by o p q = cc
first_ask next given (ask ∷ later) question asked some all = record {
  ask = ask;
  later = later;
  is = refl;
  same = by (next given) asked.0 some;
  by = All-head IsGiven ask later all;
  asked = asked.2;
  further = All-tail IsGiven ask later all;
} where
  by : (o : Option Question) → o ≡ Some ask.question → o ≡ Some question → ask.question ≡ question
  by o p q = cc

-- an ask, by its question and its answer
pub ask_is : (ask : Ask) (question : Question) (answer : Answer) → ask.question ≡ question → ask.answer ≡ answer → ask ≡ record { question = question; answer = answer }
ask_is ask question answer q a =
    ap (λ (x : Question). record { question = x; answer = ask.answer }) q ∙ ap (λ (x : Answer). record { question = question; answer = x }) a

-- ---- answers

-- a secret that was agreed, as the model agrees it
pub record IsShared (answer : Answer) (model : Answer) : Type 0 where
  pub shared : List ℕ
  pub is : answer ≡ answers.Shared shared
  pub same : model ≡ answer

-- a coprocessor that found a point has agreed one
pub shared_given : (ask : Ask) (secret peer : List ℕ) → IsGiven ask → ask.question ≡ questions.Agree secret peer → IsShared ask.answer (agreement secret peer)
unfolding answer_with
shared_given ask secret peer given is = record {
  shared = x_half (point_of (times (scalar secret) (point_number peer)));
  is = agree_given ask secret peer given is;
  same = sym (given.by_model ∙ ap (answer_with (random_block given.start given.number)) is);
}

-- a challenge of eight bytes
pub record IsChallenge (answer : Answer) : Type 0 where
  pub challenge : List ℕ
  pub is : answer ≡ answers.Challenge challenge
  pub size : length challenge ≡ 8

-- a challenge is the front of a block
pub challenge_given : (ask : Ask) → IsGiven ask → ask.question ≡ questions.Challenge → IsChallenge ask.answer
unfolding answer_with random_block
challenge_given ask given is =
    let block : List ℕ = random_block given.start given.number in
    record {
      challenge = take 8 block;
      is = given.by_model ∙ ap (answer_with block) is;
      size = length-take-le 8 block (omega (arith, length-sha256 (to_be_bytes w64 given.start ++ to_be_bytes w64 given.number)));
    }

-- ---- points

-- a point has 65 bytes
pub point_size : (n : ℕ) → length (point_of n) ≡ 65
unfolding point_of
point_size n = refl

-- and begins with 04
pub point_form : (n : ℕ) → slice_index (point_of n) 0 ≡ 4
unfolding point_of
point_form n = refl

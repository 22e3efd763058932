-- What a coprocessor tells of its answers beforehand. This project's own.
use Rattle.std.specs.Prelude.{◌≡◌, ℕ, List, ◌∷◌, ◌++◌, ⊤}
use Rattle.eid_copro.specs.Model.{model_answer}
use Rattle.eid_copro.specs.Script.{script_answer}
use Rattle.eid_copro.specs.declared.ask.Ask.{Ask}
use Rattle.eid_copro.specs.declared.ask.Question.{Question}
use Rattle.eid_copro.specs.declared.ask.Answer.{Answer}

-- what a question is answered, by the asks before it
abbrev pub Source : Type 0
Source = List Ask → Question → Answer

-- each ask has the answer of the source, given the asks before it
pub record AnswersFrom (source : Source) (asks : List Ask) : Type 0 where
  pub each : (before later : List Ask) (ask : Ask) → asks ≡ before ++ ask ∷ later → ask.answer ≡ source before ask.question

abbrev pub ModelAnswers : ℕ → List Ask → Type 0
ModelAnswers start log = AnswersFrom (model_answer start) log

abbrev pub ScriptAnswers : List Answer → List Ask → Type 0
ScriptAnswers list log = AnswersFrom (script_answer list) log

-- nothing, the start of the model, or a list of answers
pub data Told : Type 0 where
  Nothing : Told
  Start : ℕ → Told
  Listed : List Answer → Told

-- the log is one that what was told makes
abbrev pub KeepsTo : Told → List Ask → Type 0
KeepsTo Nothing log = ⊤
KeepsTo (Start start) log = ModelAnswers start log
KeepsTo (Listed list) log = ScriptAnswers list log

-- the answer to that question, after those asks, is the one that was told
abbrev pub IsAsTold : Told → List Ask → Question → Answer → Type 0
IsAsTold Nothing before question answer = ⊤
IsAsTold (Start start) before question answer = answer ≡ model_answer start before question
IsAsTold (Listed list) before question answer = answer ≡ script_answer list before question

-- What a refusal of a text of answers says.
use Rattle.std.specs.Prelude.{◌≡◌, ℕ, List, Result, Err, ⊤}
use Rattle.eid_copro.specs.declared.ask.Answer.{Answer}
use Rattle.eid_copro.specs.declared.lines.AnswersError.{AnswersError}
use Rattle.eid_copro.specs.declared.lines.AnswersError.TheVariants.{Bad, NoMemory}

-- the line is the one that reading names; memory may be refused at any time
abbrev pub Refuses : Result (List Answer) ℕ → AnswersError → Type 0
Refuses read (Bad line) = read ≡ Err line
Refuses read NoMemory = ⊤

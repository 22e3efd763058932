-- How the second step of PACE can end: a pair over the generator is drawn, and the nonce is mapped to a base
-- with the pair's secret and the terminal's point.
use Rattle.std.specs.Prelude.{ℕ, List, [], ◌∷◌, None, Result, Ok, Err}
use Rattle.eid_copro.specs.declared.ask.Ask.{Ask}
use Rattle.eid_copro.specs.declared.ask.Answer.TheVariants as answers
use Rattle.eid_copro.specs.Asking.{pair_ask, map_ask}
use Rattle.eid_pace.specs.Rules.{fault_rule, no_point_rule}
use Rattle.eid_pace.specs.States.{PlainNonceSent, PlainMapped}

pub data MapEnd : Type 0 where
  NoPair : MapEnd
  NoMapping : (secret public : List ℕ) → MapEnd
  NoBase : (secret public : List ℕ) → MapEnd
  Based : (secret public base : List ℕ) → MapEnd

-- the questions with their answers
abbrev pub map_asks : PlainNonceSent → List ℕ → MapEnd → List Ask
map_asks sent peer NoPair = pair_ask None answers.Fault ∷ []
map_asks sent peer (NoMapping secret public) =
    pair_ask None (answers.Pair secret public) ∷ map_ask sent.nonce secret peer answers.Fault ∷ []
map_asks sent peer (NoBase secret public) =
    pair_ask None (answers.Pair secret public) ∷ map_ask sent.nonce secret peer answers.NoPoint ∷ []
map_asks sent peer (Based secret public base) =
    pair_ask None (answers.Pair secret public) ∷ map_ask sent.nonce secret peer (answers.Mapped base) ∷ []

-- the next state and the pair's public point, or the rule that failed
abbrev pub map_given : PlainNonceSent → MapEnd → Result (PlainMapped × List ℕ) ℕ
map_given sent NoPair = Err fault_rule
map_given sent (NoMapping secret public) = Err fault_rule
map_given sent (NoBase secret public) = Err no_point_rule
map_given sent (Based secret public base) = Ok (record { choice = sent.choice; base = base }, public)

-- How the third step of PACE can end: an ephemeral pair over the mapped base is drawn, and a secret agreed with
-- the terminal's ephemeral point, which must differ from the chip's.
use Rattle.std.specs.Prelude.{◌≡◌, ℕ, true, false, List, [], ◌∷◌, Some, Result, Ok, Err}
use Rattle.std.specs.Str.{bytes_eq}
use Rattle.eid_copro.specs.declared.ask.Ask.{Ask}
use Rattle.eid_copro.specs.declared.ask.Answer.TheVariants as answers
use Rattle.eid_copro.specs.Asking.{pair_ask, agree_ask}
use Rattle.eid_pace.specs.Rules.{fault_rule, same_point_rule, no_point_rule}
use Rattle.eid_pace.specs.States.{PlainMapped, PlainAgreed}

pub data AgreeEnd (peer : List ℕ) : Type 0 where
  NoPair : AgreeEnd peer
  SamePoint : (secret public : List ℕ) → bytes_eq peer public ≡ true → AgreeEnd peer
  NoAgreement : (secret public : List ℕ) → bytes_eq peer public ≡ false → AgreeEnd peer
  NoSecret : (secret public : List ℕ) → bytes_eq peer public ≡ false → AgreeEnd peer
  Shared : (secret public shared : List ℕ) → bytes_eq peer public ≡ false → AgreeEnd peer

-- the questions with their answers
abbrev pub agree_asks : PlainMapped → (peer : List ℕ) → AgreeEnd peer → List Ask
agree_asks mapped peer NoPair = pair_ask (Some mapped.base) answers.Fault ∷ []
agree_asks mapped peer (SamePoint secret public same) = pair_ask (Some mapped.base) (answers.Pair secret public) ∷ []
agree_asks mapped peer (NoAgreement secret public other) =
    pair_ask (Some mapped.base) (answers.Pair secret public) ∷ agree_ask secret peer answers.Fault ∷ []
agree_asks mapped peer (NoSecret secret public other) =
    pair_ask (Some mapped.base) (answers.Pair secret public) ∷ agree_ask secret peer answers.NoPoint ∷ []
agree_asks mapped peer (Shared secret public shared other) =
    pair_ask (Some mapped.base) (answers.Pair secret public) ∷ agree_ask secret peer (answers.Shared shared) ∷ []

-- the next state and the chip's ephemeral point, or the rule that failed
abbrev pub agree_given : PlainMapped → (peer : List ℕ) → AgreeEnd peer → Result (PlainAgreed × List ℕ) ℕ
agree_given mapped peer NoPair = Err fault_rule
agree_given mapped peer (SamePoint secret public same) = Err same_point_rule
agree_given mapped peer (NoAgreement secret public other) = Err fault_rule
agree_given mapped peer (NoSecret secret public other) = Err no_point_rule
agree_given mapped peer (Shared secret public shared other) =
    Ok (record { choice = mapped.choice; chip_point = public; terminal_point = peer; shared = shared }, public)

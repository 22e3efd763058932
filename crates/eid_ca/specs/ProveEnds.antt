-- How the step of chip authentication can end: the terminal's point is not the one that it announced, or a nonce is
-- drawn, and a secret agreed with the chip's static key and that point.
use Rattle.std.specs.Prelude.{◌≡◌, ℕ, true, false, List, [], ◌∷◌, Result, Ok, Err}
use Rattle.std.specs.Str.{bytes_eq}
use Rattle.eid_cvc.specs.PublicKeys.{x_half}
use Rattle.eid_copro.specs.declared.ask.Ask.{Ask}
use Rattle.eid_copro.specs.declared.ask.Answer.TheVariants as answers
use Rattle.eid_copro.specs.Asking.{challenge_ask, agree_ask}
use Rattle.eid_ca.specs.Rules.{other_key_rule, fault_rule, no_point_rule}
use Rattle.eid_ca.specs.States.{PlainCaChosen, PlainProven, proven_by}

-- by the X half that is expected, and the point that comes
pub data ProveEnd (key_x point : List ℕ) : Type 0 where
  OtherKey : bytes_eq (x_half point) key_x ≡ false → ProveEnd key_x point
  NoNonce : bytes_eq (x_half point) key_x ≡ true → ProveEnd key_x point
  NoAgreement : (nonce : List ℕ) → bytes_eq (x_half point) key_x ≡ true → ProveEnd key_x point
  NoSecret : (nonce : List ℕ) → bytes_eq (x_half point) key_x ≡ true → ProveEnd key_x point
  Shared : (nonce shared : List ℕ) → bytes_eq (x_half point) key_x ≡ true → ProveEnd key_x point

-- the questions with their answers
abbrev pub prove_asks : (key_x secret point : List ℕ) → ProveEnd key_x point → List Ask
prove_asks key_x secret point (OtherKey other) = []
prove_asks key_x secret point (NoNonce same) = challenge_ask answers.Fault ∷ []
prove_asks key_x secret point (NoAgreement nonce same) =
    challenge_ask (answers.Challenge nonce) ∷ agree_ask secret point answers.Fault ∷ []
prove_asks key_x secret point (NoSecret nonce same) =
    challenge_ask (answers.Challenge nonce) ∷ agree_ask secret point answers.NoPoint ∷ []
prove_asks key_x secret point (Shared nonce shared same) =
    challenge_ask (answers.Challenge nonce) ∷ agree_ask secret point (answers.Shared shared) ∷ []

-- what is sent and the keys, or the rule that failed
abbrev pub prove_given : (chosen : PlainCaChosen) (point : List ℕ) → ProveEnd chosen.key_x point → Result PlainProven ℕ
prove_given chosen point (OtherKey other) = Err other_key_rule
prove_given chosen point (NoNonce same) = Err fault_rule
prove_given chosen point (NoAgreement nonce same) = Err fault_rule
prove_given chosen point (NoSecret nonce same) = Err no_point_rule
prove_given chosen point (Shared nonce shared same) = Ok (proven_by chosen.protocol point nonce shared)

-- How the last step of terminal authentication can end: the signature is verified with the terminal's key.
use Rattle.std.specs.Prelude.{ℕ, true, false, List, [], ◌∷◌, Result, Ok, Err}
use Rattle.sha2.specs.Sha256.{sha256}
use Rattle.eid_copro.specs.declared.ask.Ask.{Ask}
use Rattle.eid_copro.specs.declared.ask.Answer.{Answer}
use Rattle.eid_copro.specs.declared.ask.Answer.TheVariants as answers
use Rattle.eid_copro.specs.Asking.{verify_ask}
use Rattle.eid_cvc.specs.Chains.{PlainTerminalKnown}
use Rattle.eid_ta.specs.Announcing.{known_by, signed_bytes}
use Rattle.eid_ta.specs.Rules.{fault_rule, signature_rule}
use Rattle.eid_ta.specs.States.{PlainChallenged}

-- by the verdict, if there was one
pub data VerifyEnd : Type 0 where
  NoVerdict : VerifyEnd
  Refused : VerifyEnd
  Verified : VerifyEnd

-- whether that is the terminal's signature of what it is to sign, for the chip of that identity
abbrev pub signature_ask : (challenged : PlainChallenged) → (identity signature : List ℕ) → Answer → Ask
signature_ask challenged identity signature =
    verify_ask challenged.announced.key (sha256 (signed_bytes identity challenged)) signature

-- the question with its answer
abbrev pub verify_asks : PlainChallenged → List ℕ → List ℕ → VerifyEnd → List Ask
verify_asks challenged identity signature NoVerdict = signature_ask challenged identity signature answers.Fault ∷ []
verify_asks challenged identity signature Refused = signature_ask challenged identity signature (answers.Verdict false) ∷ []
verify_asks challenged identity signature Verified = signature_ask challenged identity signature (answers.Verdict true) ∷ []

-- what is known of the terminal, or the rule that failed
abbrev pub verify_given : PlainChallenged → VerifyEnd → Result PlainTerminalKnown ℕ
verify_given challenged NoVerdict = Err fault_rule
verify_given challenged Refused = Err signature_rule
verify_given challenged Verified = Ok (known_by challenged)

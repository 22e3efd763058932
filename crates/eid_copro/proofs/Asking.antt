-- No question, one question, and two, as several.
use Rattle.std.proofs.Common.{◌≡◌, ◌||◌, true, false, List, [], ◌∷◌, ◌++◌, refl, sym, ◌∙◌, ap, append_assoc, arith}
use Rattle.std.proofs.lemmas.List.{append-nil}
use Rattle.eid_base.specs.Faults.{Rose}
use Rattle.eid_copro.specs.Asked.{Asked}
use Rattle.eid_copro.specs.Seen.{CoproSeen}
use Rattle.eid_copro.specs.declared.ask.Ask.{Ask}
use Rattle.eid_copro.specs.declared.ask.Question.{Question}
use Rattle.eid_copro.specs.declared.ask.Answer.{Answer}
use Rattle.eid_copro.specs.declared.ask.Answer.TheVariants as answers
use Rattle.eid_copro.specs.Asking.{WereAsked, is_fault}

-- an answer that is a fault, and no answer after it
met : (answer : Answer) → is_fault answer || false ≡ true → answer ≡ answers.Fault
met (answers.Nonce nonce) h = cc
met (answers.Challenge challenge) h = cc
met (answers.Pair secret public) h = cc
met (answers.Mapped base) h = cc
met (answers.Shared shared) h = cc
met answers.NoPoint h = cc
met (answers.Verdict verdict) h = cc
met (answers.Signed signature) h = cc
met answers.Fault h = refl

-- a coprocessor that was not asked
pub not_asked : (copro : CoproSeen) → WereAsked copro copro []
not_asked copro = record {
  logged = sym (append-nil copro.log);
  spent = omega arith;
  same_told = refl;
  later = omega arith;
  cause = λ met. absurd (cc);
}

pub asked_once : {old new : CoproSeen} {question : Question} {answer : Answer} → Asked old new question answer
    → WereAsked old new (record { question = question; answer = answer } ∷ [])
asked_once {answer = answer} h = record {
  logged = h.logged;
  spent = h.spent;
  same_told = h.same_told;
  later = h.later;
  cause = λ e. h.cause (met answer e);
}

-- a question after one that met no fault
pub asked_twice : {old between new : CoproSeen} {first second : Question} {given answer : Answer}
    → Asked old between first given → is_fault given ≡ false → Asked between new second answer
    → WereAsked old new (record { question = first; answer = given } ∷ record { question = second; answer = answer } ∷ [])
asked_twice {old = old} {new = new} {second = second} {answer = answer} h fine k = record {
  logged = k.logged ∙ ap (λ (asks : List Ask). asks ++ record { question = second; answer = answer } ∷ []) h.logged ∙ append_assoc old.log _ _;
  spent = omega (arith, h.spent, k.spent);
  same_told = k.same_told ∙ h.same_told;
  later = omega (arith, h.later, k.later);
  cause = λ e. let rose = k.cause (met answer (rw fine at e)) in let goal : Rose old.faults new.faults = omega (arith, rose, h.later) in goal;
}

-- One more ask on a log.
use Rattle.std.proofs.Common.{◌≡◌, ℕ, ◌+◌, Bool, true, false, ◌⊎◌, inl, inr, List, [], ◌∷◌, ◌++◌, length, refl, sym, ◌∙◌, ap, arith, append_assoc, cond, IsTrue, Option, Some, None, slice_get}
use Rattle.std.proofs.lemmas.List.{same_from_push}
use Rattle.std.proofs.lemmas.Grind.{common_steps}
use Rattle.eid_copro.specs.Asks.{fits, fits_map, fits_agree}
use Rattle.eid_copro.specs.Model.{answer_with, pair_from, mapping, agreement, blocks_drawn, draws}
use Rattle.eid_copro.specs.Script.{fitting, script_answer}
use Rattle.eid_copro.specs.Told.{Source, AnswersFrom}
use Rattle.eid_copro.specs.declared.ask.Ask.{Ask}
use Rattle.eid_copro.specs.declared.ask.Question.{Question}
use Rattle.eid_copro.specs.declared.ask.Question.TheVariants as questions
use Rattle.eid_copro.specs.declared.ask.Answer.{Answer}
use Rattle.eid_copro.specs.declared.ask.Answer.TheVariants as answers

-- the last element of a list, and what comes before it
pub record EndsWith (list : List Ask) : Type 0 where
  pub front : List Ask
  pub last : Ask
  pub joined : list ≡ front ++ last ∷ []

last_of : (list : List Ask) → (list ≡ []) ⊎ EndsWith list
last_of [] = inl refl
last_of (first ∷ rest) = elim (last_of rest) [
  | inl none ↦ inr (record { front = []; last = first; joined = ap (λ r. first ∷ r) none })
  | inr ends ↦ inr (record { front = first ∷ ends.front; last = ends.last; joined = ap (λ r. first ∷ r) ends.joined })
]

pub one_more : (source : Source) (asks : List Ask) (question : Question) (answer : Answer) → AnswersFrom source asks
    → answer ≡ source asks question → AnswersFrom source (asks ++ record { question = question; answer = answer } ∷ [])
one_more source asks question answer so_far given = record {
  each = λ before later ask cut. elim (last_of later) [
    | inl none ↦
        let ends : asks ++ record { question = question; answer = answer } ∷ [] ≡ before ++ ask ∷ [] = cut ∙ ap (λ l. before ++ ask ∷ l) none in
        let same = same_from_push asks before (record { question = question; answer = answer }) ask ends in
        let question_is : question ≡ ask.question = ap (λ (a : Ask). a.question) same.1 in
        let answer_is : answer ≡ ask.answer = ap (λ (a : Ask). a.answer) same.1 in
        sym answer_is ∙ given ∙ ap (λ b. source b question) same.0 ∙ ap (source before) question_is
    | inr ends ↦
        let whole : asks ++ record { question = question; answer = answer } ∷ [] ≡ (before ++ ask ∷ ends.front) ++ ends.last ∷ [] =
        cut ∙ ap (λ l. before ++ ask ∷ l) ends.joined ∙ sym (append_assoc before (ask ∷ ends.front) (ends.last ∷ [])) in
        let same = same_from_push asks (before ++ ask ∷ ends.front) (record { question = question; answer = answer }) ends.last whole in
        so_far.each before ends.front ask same.0
  ];
}

point_fits_map : (none : Bool) (point : List ℕ) → fits_map (cond none answers.NoPoint (answers.Mapped point)) ≡ true
point_fits_map true point = refl
point_fits_map false point = refl

x_fits_agree : (none : Bool) (x : List ℕ) → fits_agree (cond none answers.NoPoint (answers.Shared x)) ≡ true
x_fits_agree true x = refl
x_fits_agree false x = refl

-- the answers of the model fit their questions
pub model_fits : (block : List ℕ) (question : Question) → IsTrue (fits question (answer_with block question))
unfolding answer_with pair_from mapping agreement
model_fits block questions.Nonce = refl
model_fits block questions.Challenge = refl
model_fits block (questions.Pair base) = refl
model_fits block (questions.Map nonce secret peer) = point_fits_map _ _
model_fits block (questions.Agree secret peer) = x_fits_agree _ _
model_fits block (questions.Verify key digest signature) = refl
model_fits block (questions.Sign secret digest) = refl

no_fault_from_map : (none : Bool) (point : List ℕ) → cond none answers.NoPoint (answers.Mapped point) ≡ answers.Fault → ⊥
no_fault_from_map true point is = cc
no_fault_from_map false point is = cc

no_fault_from_agree : (none : Bool) (x : List ℕ) → cond none answers.NoPoint (answers.Shared x) ≡ answers.Fault → ⊥
no_fault_from_agree true x is = cc
no_fault_from_agree false x is = cc

-- and are no faults
pub model_never_faults : (block : List ℕ) (question : Question) → answer_with block question ≡ answers.Fault → ⊥
unfolding answer_with pair_from mapping agreement
model_never_faults block questions.Nonce is = cc
model_never_faults block questions.Challenge is = cc
model_never_faults block (questions.Pair base) is = cc
model_never_faults block (questions.Map nonce secret peer) is = no_fault_from_map _ _ is
model_never_faults block (questions.Agree secret peer) is = no_fault_from_agree _ _ is
model_never_faults block (questions.Verify key digest signature) is = cc
model_never_faults block (questions.Sign secret digest) is = cc

-- one more ask uses a block, or none
pub drawn_more : (asks : List Ask) (ask : Ask) → blocks_drawn (asks ++ ask ∷ []) ≡ blocks_drawn asks + cond (draws ask.question) 1 0
drawn_more asks ask = grind (arith, common_steps)

-- a fault fits each question
fault_fits : (question : Question) → IsTrue (fits question answers.Fault)
fault_fits questions.Nonce = refl
fault_fits questions.Challenge = refl
fault_fits (questions.Pair base) = refl
fault_fits (questions.Map nonce secret peer) = refl
fault_fits (questions.Agree secret peer) = refl
fault_fits (questions.Verify key digest signature) = refl
fault_fits (questions.Sign secret digest) = refl

-- an answer that is chosen where it fits, fits
chosen_fits : (question : Question) (answer : Answer) (good : Bool) → fits question answer ≡ good
    → IsTrue (fits question (cond good answer answers.Fault))
chosen_fits question answer true is = is
chosen_fits question answer false is = fault_fits question

-- so do the answers of a script
fitting_fits : (question : Question) (answer : Option Answer) → IsTrue (fits question (fitting question answer))
fitting_fits question None = fault_fits question
fitting_fits question (Some answer) = chosen_fits question answer (fits question answer) refl

pub script_fits : (list : List Answer) (before : List Ask) (question : Question) → IsTrue (fits question (script_answer list before question))
script_fits list before question = fitting_fits question (slice_get list (length before))

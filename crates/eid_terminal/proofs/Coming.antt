-- A turn of the terminal, from what comes at a course and from the questions on the way to it.
use Rattle.std.proofs.Common.{◌≡◌, Bool, true, false, not, List, [], ◌∷◌, ◌++◌, refl, sym, ap, ◌∙◌, subst, append_assoc, arith}
use Rattle.eid_base.specs.Faults.{Rose}
use Rattle.eid_copro.proofs.Asking.{asked_once, not_asked}
use Rattle.eid_copro.specs.Asked.{Asked}
use Rattle.eid_copro.specs.Asking.{WereAsked, is_fault}
use Rattle.eid_copro.specs.Seen.{CoproSeen}
use Rattle.eid_copro.specs.declared.ask.Ask.{Ask}
use Rattle.eid_copro.specs.declared.ask.Answer.{Answer}
use Rattle.eid_copro.specs.declared.ask.Answer.TheVariants as answers
use Rattle.eid_copro.specs.declared.ask.Question.{Question}
use Rattle.eid_terminal.specs.declared.action.Step.{Step}
use Rattle.eid_terminal.specs.Courses.{Course, Reached, Asks, Sends, Passes, Gives, Stops, Faults, Ends}
use Rattle.eid_terminal.specs.Moves.{Move, move_of}
use Rattle.eid_terminal.specs.Plans.{PlainPlan}
use Rattle.eid_terminal.specs.Terminals.{tells_fault}
use Rattle.eid_terminal.specs.View.{Comes, Did, TurnSeen}

-- whether a fault comes at a course
abbrev pub fails : Course → Bool
fails (Asks question later) = false
fails (Sends channel command later) = false
fails (Passes step later) = false
fails (Gives request reply later) = false
fails (Stops step status) = false
fails (Faults step) = true
fails Ends = false

told_at : (at : Course) → fails at ≡ false → tells_fault (move_of at) ≡ true → ⊥
told_at (Asks question later) calm told = cc
told_at (Sends channel command later) calm told = cc
told_at (Passes step later) calm told = cc
told_at (Gives request reply later) calm told = cc
told_at (Stops step status) calm told = cc
told_at (Faults step) calm told = cc
told_at Ends calm told = cc

told_by : (move : Move) (at : Course) → move ≡ move_of at → fails at ≡ false → tells_fault move ≡ true → ⊥
told_by move at e calm told = told_at at calm (rw e at told)

-- one stands at a course itself
pub here : (at : Course) → Reached at [] [] 0 at
here (Asks question later) = (refl, refl, refl, refl)
here (Sends channel command later) = (refl, refl, refl, refl)
here (Passes step later) = (refl, refl, refl, refl)
here (Gives request reply later) = (refl, refl, refl, refl)
here (Stops step status) = (refl, refl, refl, refl)
here (Faults step) = (refl, refl, refl, refl)
here Ends = (refl, refl, refl, refl)

pub did_at : (plan : PlainPlan) (turn : TurnSeen) (from at : Course) → from ≡ at → Did plan turn at → Did plan turn from
did_at plan turn from at e did = subst (λ (c : Course). Did plan turn c) (sym e) did

-- without a question
pub came_now : (copro : CoproSeen) (plan : PlainPlan) (turn : TurnSeen) (from at : Course) → from ≡ at → fails at ≡ false → Did plan turn at → Comes copro copro plan turn from
came_now copro plan turn from at e calm did = record {
  asks = [];
  were_asked = not_asked copro;
  at = at;
  reached = subst (λ (c : Course). Reached c [] [] 0 at) (sym e) (here at);
  did = did;
  fault = λ told. absurd (told_by turn.move at did.move calm told);
}

-- by a question that met a fault
pub came_fault : (old new : CoproSeen) (plan : PlainPlan) (turn : TurnSeen) (from : Course) (question : Question) (later : Answer → Course) (step : Step)
    → from ≡ Asks question later → later answers.Fault ≡ Faults step → Asked old new question answers.Fault → Did plan turn (Faults step) → Comes old new plan turn from
came_fault old new plan turn from question later step e fault asked did = record {
  asks = record { question = question; answer = answers.Fault } ∷ [];
  were_asked = asked_once asked;
  at = Faults step;
  reached = subst (λ (c : Course). Reached c (record { question = question; answer = answers.Fault } ∷ []) [] 0 (Faults step)) (sym e)
      (refl, subst (λ (c : Course). Reached c [] [] 0 (Faults step)) (sym fault) (here (Faults step)));
  did = did;
  fault = λ told. asked.cause refl;
}

more_asked : (old between new : CoproSeen) (question : Question) (answer : Answer) (asks : List Ask)
    → Asked old between question answer → is_fault answer ≡ false → WereAsked between new asks
    → WereAsked old new (record { question = question; answer = answer } ∷ asks)
more_asked old between new question answer asks h fine more = record {
  logged = more.logged ∙ ap (λ (log : List Ask). log ++ asks) h.logged ∙ append_assoc old.log (record { question = question; answer = answer } ∷ []) asks;
  spent = omega (arith, h.spent, more.spent);
  same_told = more.same_told ∙ h.same_told;
  later = omega (arith, h.later, more.later);
  cause = λ met. let rose = more.cause (rw fine at met) in let goal : Rose old.faults new.faults = omega (arith, rose, h.later) in goal;
}

-- by a question that was answered, and what came then
pub came_by : (old between new : CoproSeen) (plan : PlainPlan) (turn : TurnSeen) (from : Course) (question : Question) (later : Answer → Course) (answer : Answer)
    → from ≡ Asks question later → Asked old between question answer → is_fault answer ≡ false → Comes between new plan turn (later answer) → Comes old new plan turn from
came_by old between new plan turn from question later answer e asked fine comes = record {
  asks = record { question = question; answer = answer } ∷ comes.asks;
  were_asked = more_asked old between new question answer comes.asks asked fine comes.were_asked;
  at = comes.at;
  reached = subst (λ (c : Course). Reached c (record { question = question; answer = answer } ∷ comes.asks) [] 0 comes.at) (sym e) (refl, comes.reached);
  did = comes.did;
  fault = λ told. let rose = comes.fault told in let goal : Rose old.faults new.faults = omega (arith, rose, asked.later) in goal;
}

-- what is not so
pub not_so : (b : Bool) → true ≡ not b → b ≡ false
not_so true h = cc
not_so false h = refl

pub so : (b : Bool) → false ≡ not b → b ≡ true
so true h = refl
so false h = cc

pub came_at : (old new : CoproSeen) (plan : PlainPlan) (turn : TurnSeen) (from at : Course) → from ≡ at → Comes old new plan turn at → Comes old new plan turn from
came_at old new plan turn from at e comes = subst (λ (c : Course). Comes old new plan turn c) (sym e) comes

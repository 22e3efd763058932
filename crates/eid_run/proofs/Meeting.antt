-- A session over models of the coprocessors, on a device at rest.
use Rattle.std.proofs.Common.{◌≡◌, ℕ, false, List, [], ◌∷◌, ◌++◌, refl, sym, ap, ◌∙◌, subst}
use Rattle.std.specs.Prelude.{map}
use Rattle.eid_base.specs.Seen.{SinkSeen}
use Rattle.eid_cells.specs.Device.{Device}
use Rattle.eid_copro.specs.declared.ask.Ask.{Ask}
use Rattle.eid_copro.specs.Model.{model_answer}
use Rattle.eid_copro.specs.Told.{Source, Told, Start, KeepsTo, AnswersFrom}
use Rattle.eid_model.specs.Moments.{PlainMoment, asked}
use Rattle.eid_script.specs.Scripts.{ApduLine, CutLine, OffLine, OnLine, ScriptLine}
use Rattle.eid_run.specs.Conversations.{Exchange}
use Rattle.eid_run.specs.Meetings.{Coprocessors, Meeting, MetWhole, inverted}
use Rattle.eid_step.specs.Effects.{Did, LineEffect, Planned, line_of}
use Rattle.eid_run.specs.Runs.{has_plan, journal, lines_of, outside, resting}
use Rattle.eid_run.specs.Sessions.{DidSession, command_line, session_lines}
use Rattle.eid_run.specs.Talk.{HasSource}

-- ---- coprocessors

-- the model has its answers from its start
pub model_source : (start : ℕ) (told : Told) → told ≡ Start start → HasSource told (model_answer start)
model_source start told is = λ log keeps. rw is at keeps

-- the log of a coprocessor that began with an empty one, and tells what it told then, is of its source
pub answers_from : (source : Source) (told told_now : Told) (log : List Ask) (moments : List PlainMoment) → HasSource told source → told_now ≡ told → KeepsTo told_now log → log ≡ asked moments → AnswersFrom source (asked moments)
answers_from source told told_now log moments has same keeps logged = has (asked moments) (rw (same, logged) at keeps)

-- ---- no line of a session plans a cut

abbrev PlansNone : List ScriptLine → Type 0
PlansNone [] = Unit {0}
PlansNone (OnLine ∷ rest) = PlansNone rest
PlansNone (OffLine ∷ rest) = PlansNone rest
PlansNone (ApduLine bytes ∷ rest) = PlansNone rest
PlansNone (CutLine write tear ∷ rest) = ⊥

session_plans_none : (exchanges : List Exchange) → PlansNone (map command_line exchanges)
session_plans_none [] = tt
session_plans_none (e ∷ rest) = session_plans_none rest

front_plans_none : (front rest : List ScriptLine) → PlansNone (front ++ rest) → PlansNone front
front_plans_none [] rest none = tt
front_plans_none (OnLine ∷ front) rest none = front_plans_none front rest none
front_plans_none (OffLine ∷ front) rest none = front_plans_none front rest none
front_plans_none (ApduLine bytes ∷ front) rest none = front_plans_none front rest none
front_plans_none (CutLine write tear ∷ front) rest none = absurd none

last_plans_none : (front : List ScriptLine) (line : ScriptLine) → PlansNone (front ++ line ∷ []) → PlansNone (line ∷ [])
last_plans_none [] line none = none
last_plans_none (OnLine ∷ front) line none = last_plans_none front line none
last_plans_none (OffLine ∷ front) line none = last_plans_none front line none
last_plans_none (ApduLine bytes ∷ front) line none = last_plans_none front line none
last_plans_none (CutLine write tear ∷ front) line none = absurd none

no_plan : (happened : List LineEffect) → PlansNone (lines_of happened) → has_plan happened ≡ false
no_plan [] none = refl
no_plan (Did m ∷ before) none = no_plan before (front_plans_none (lines_of before) (line_of (Did m) ∷ []) none)
no_plan (Planned write tear ∷ before) none = absurd (last_plans_none (lines_of before) (CutLine write tear) none)

pub of_session : (happened : List LineEffect) (undone : List ScriptLine) (exchanges : List Exchange) → lines_of happened ++ undone ≡ session_lines exchanges → has_plan happened ≡ false
of_session happened undone exchanges carried =
    no_plan happened (front_plans_none (lines_of happened) undone (subst PlansNone (sym carried) (session_plans_none exchanges)))

-- ---- the whole session

-- the terminal's coprocessor, which began with an empty log, gave its answers from its source
pub asks_from : (source : Source) (told told_now : Told) (log asks : List Ask) → HasSource told source → told_now ≡ told → KeepsTo told_now log → log ≡ asks → AnswersFrom source asks
asks_from source told told_now log asks has same keeps logged = has asks (rw (same, logged) at keeps)

-- the session went to its end
unfoldable pub met_whole : (start : ℕ) (s : Meeting) (copros : Coprocessors) (device : Device) (new_cells : List ℕ) (before now : SinkSeen) → HasSource copros.chip.told (model_answer start) → HasSource copros.terminal.told (model_answer (inverted start)) → copros.chip.log ≡ [] → copros.terminal.log ≡ [] → KeepsTo copros.chip_now.told copros.chip_now.log → KeepsTo copros.terminal_now.told copros.terminal_now.log
    → DidSession s.plan s.opening (outside resting s.cells copros.chip before) (outside device new_cells copros.chip_now now) copros.terminal copros.terminal_now → now.tells ≡ before.tells → MetWhole start s new_cells before now
met_whole start s copros device new_cells before now chip_has terminal_has chip_unasked terminal_unasked chip_keeps terminal_keeps did tells =
    let talk = did.conversed in record {
      copros = copros;
      chip_unasked = chip_unasked;
      terminal_unasked = terminal_unasked;
      device = device;
      did = did;
      chip_told = answers_from (model_answer start) copros.chip.told copros.chip_now.told copros.chip_now.log (journal talk.happened) chip_has talk.ran.told chip_keeps (talk.ran.logged ∙ ap (λ (l : List Ask). l ++ asked (journal talk.happened)) chip_unasked);
      terminal_told = asks_from (model_answer (inverted start)) copros.terminal.told copros.terminal_now.told copros.terminal_now.log talk.asks terminal_has talk.same_told terminal_keeps (talk.logged ∙ ap (λ (l : List Ask). l ++ talk.asks) terminal_unasked);
      steady = talk.ran.unplanned refl refl (of_session talk.happened talk.undone _ talk.carried);
      tells = tells;
    }

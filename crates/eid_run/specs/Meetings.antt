-- What a session of a terminal and a chip does where both coprocessors are models and the device is at rest before it. This
-- project's own.
use Rattle.std.specs.Prelude.{◌≡◌, ℕ, ◌-◌, ◌^◌, List, []}
use Rattle.eid_base.specs.Seen.{SinkSeen}
use Rattle.eid_cells.specs.Device.{Device}
use Rattle.eid_copro.specs.Model.{model_answer}
use Rattle.eid_copro.specs.Seen.{CoproSeen}
use Rattle.eid_copro.specs.Told.{AnswersFrom}
use Rattle.eid_model.specs.Moments.{asked, AreSteady}
use Rattle.eid_record.specs.Plain.{FullRecord}
use Rattle.eid_terminal.specs.Plans.{PlainPlan}
use Rattle.eid_run.specs.Runs.{journal, outside, resting}
use Rattle.eid_run.specs.Sessions.{DidSession}

-- What a session begins with: the opening record, the cells that stand for it, and the plan of the terminal.
pub record Meeting : Type 0 where
  pub opening : FullRecord
  pub cells : List ℕ
  pub plan : PlainPlan

abbrev pub meeting : FullRecord → List ℕ → PlainPlan → Meeting
meeting opening cells plan = record { opening = opening; cells = cells; plan = plan }

-- the terminal's coprocessor starts with all 64 bits of the chip's start inverted
abbrev pub inverted : ℕ → ℕ
inverted start = (2 ^ 64 - 1) - start

-- The coprocessors of a session, before it and after it.
pub record Coprocessors : Type 0 where
  pub chip : CoproSeen
  pub chip_now : CoproSeen
  pub terminal : CoproSeen
  pub terminal_now : CoproSeen

-- The session went to its end over a device at rest with the image's cells. The model coprocessors, which had been asked
-- nothing, gave both their answers, and the power was not cut.
pub record MetWhole (start : ℕ) (s : Meeting) (new_cells : List ℕ) (before now : SinkSeen) : Type 0 where
  pub copros : Coprocessors
  pub chip_unasked : copros.chip.log ≡ []
  pub terminal_unasked : copros.terminal.log ≡ []
  pub device : Device
  pub did : DidSession s.plan s.opening (outside resting s.cells copros.chip before) (outside device new_cells copros.chip_now now)
      copros.terminal copros.terminal_now
  pub chip_told : AnswersFrom (model_answer start) (asked (journal did.conversed.happened))
  pub terminal_told : AnswersFrom (model_answer (inverted start)) did.conversed.asks
  pub steady : AreSteady (journal did.conversed.happened)
  pub tells : now.tells ≡ before.tells

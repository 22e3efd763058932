-- What a line of a script makes.
use Rattle.std.specs.Prelude.{◌≡◌, ℕ, ◌≤◌, Bool, true, false}
use Rattle.eid_base.specs.Faults.{Rose}
use Rattle.eid_cells.specs.declared.tear.Tear.{Tear}
use Rattle.eid_model.specs.Moments.{Event, PoweredOn, PoweredOff, Received, PlainMoment}
use Rattle.eid_script.specs.Scripts.{ScriptLine, OnLine, OffLine, ApduLine, CutLine}

-- What a line made: a moment, or the plan of a cut.
pub data LineEffect : Type 0 where
  Did : PlainMoment → LineEffect
  Planned : ℕ → Tear → LineEffect

-- the line that asks for what came
abbrev pub line_for : Event → ScriptLine
line_for (PoweredOn found) = OnLine
line_for PoweredOff = OffLine
line_for (Received bytes) = ApduLine bytes

abbrev pub line_of : LineEffect → ScriptLine
line_of (Did m) = line_for m.input
line_of (Planned write tear) = CutLine write tear

abbrev pub is_power_on : Event → Bool
is_power_on (PoweredOn found) = true
is_power_on PoweredOff = false
is_power_on (Received bytes) = false

-- the count of cuts behind a line: it rose where the power was cut in it, and stays where it was not
abbrev pub CountedBy : (cut : Bool) → (before now : ℕ) → Type 0
CountedBy true before now = (before ≤ now) × Rose before now
CountedBy false before now = now ≡ before

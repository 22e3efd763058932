-- What one line of a script does.
use Rattle.std.specs.Prelude.{◌≡◌, ◌⊎◌, ℕ, ◌+◌, ◌*◌, ◌<◌, ◌≤◌, ◌&&◌, Bool, true, false, IsTrue, List, [], ◌++◌, ◌==◌, is_some, is_none, slice_index, if◌then◌else◌}
use Rattle.eid_base.specs.Seen.{SinkSeen, Grew, GrewByPart}
use Rattle.eid_cells.specs.Device.{Device, planned_at}
use Rattle.eid_copro.specs.declared.ask.Ask.{Ask}
use Rattle.eid_model.specs.Moments.{PlainMoment, is_lost}
use Rattle.eid_model.specs.Trace.{text}
use Rattle.eid_chip.specs.Fits.{Scene, Follows, IsSound, is_off}
use Rattle.eid_script.specs.Scripts.{ScriptLine, OnLine, OffLine, ApduLine, CutLine}
use Rattle.eid_chip.specs.Commits.{LEAST_WRITES, MOST_WRITES, MOST_MOUNTING}
use Rattle.eid_store.specs.Cost.{once}
use Rattle.eid_step.specs.Effects.{LineEffect, Did, Planned, line_of, CountedBy, is_power_on}

abbrev pub is_cut_line : ScriptLine → Bool
is_cut_line OnLine = false
is_cut_line OffLine = false
is_cut_line (ApduLine bytes) = false
is_cut_line (CutLine write tear) = true

-- the questions that the coprocessor was asked, with their answers
abbrev pub asks_of : LineEffect → List Ask
asks_of (Did m) = m.asks
asks_of (Planned write tear) = []

abbrev pub text_of : LineEffect → List ℕ
text_of (Did m) = text m
text_of (Planned write tear) = []

-- the power was cut in this line, where the chip was on before it, or off
abbrev pub was_cut : Bool → LineEffect → Bool
was_cut powered (Did m) = is_lost m.input (is_none m.answer && powered)
was_cut powered (Planned write tear) = false

-- a plan replaces the one before; there is no write of the number 0, so nothing is planned for it
abbrev pub planned_by : ℕ → Device → Device
planned_by write device = if write == 0 then device else planned_at write device

-- From one number of writes ahead of a planned cut to another, where 0 is no plan: by so many commits that finished and
-- so many power-ons, and the cut struck or not.
pub record Spends (before now commits power_ons : ℕ) (struck : Bool) : Type 0 where
  pub unplanned : before ≡ 0 → (now ≡ 0) × (struck ≡ false)
  pub ahead : 0 < before → struck ≡ false
      → (0 < now) × (now + LEAST_WRITES * commits ≤ before) × (before ≤ now + MOST_WRITES * commits + MOST_MOUNTING * power_ons)
  pub strikes : 0 < before → struck ≡ true
      → (now ≡ 0) × (LEAST_WRITES * commits < before) × (before ≤ MOST_WRITES * (commits + 1) + MOST_MOUNTING * power_ons)

-- what a line's moment spends, where the chip was on before it, or off
abbrev pub SpendsBy : Bool → ℕ → ℕ → LineEffect → Type 0
SpendsBy powered before now (Did m) = Spends before now m.finished (once (is_power_on m.input)) (was_cut powered (Did m))
SpendsBy powered before now (Planned write tear) = Unit {0}

-- from one scene to another by what happened; a plan changes the device's plan alone
abbrev pub IsStep : Scene → Scene → LineEffect → Type 0
IsStep old new (Did m) = Follows old new m
IsStep old new (Planned write tear) = new ≡ record old { device = planned_by write old.device }

-- A line was carried out, and the coprocessor's log grew by its questions. The device's count of cuts rose where the power
-- was cut in it, by one where the device tells its plans, and stays where it was not; and it was not cut where the device tells
-- that no cut is planned.
pub record IsLine (old new : Scene) (log log_now : List Ask) (line : ScriptLine) (h : LineEffect) : Type 0 where
  pub step : IsStep old new h
  pub logged : log_now ≡ log ++ asks_of h
  pub carried : line_of h ≡ line
  pub counts : CountedBy (was_cut (is_some old.chip.running) h) old.device.cuts new.device.cuts
  pub exact : IsTrue old.device.told → new.device.cuts ≡ old.device.cuts + once (was_cut (is_some old.chip.running) h)
  pub unplanned : IsTrue old.device.told → old.device.planned ≡ 0 → was_cut (is_some old.chip.running) h ≡ false
  pub spends : IsTrue old.device.told → SpendsBy (is_some old.chip.running) old.device.planned new.device.planned h

-- what every line leaves: where the chip is on its store fits, and where it is off the device has no power, if that was so
-- before; the cell that names the layout is as before; without a plan none comes up but by a line
pub record Keeps (old new : Scene) (line : ScriptLine) : Type 0 where
  pub sound : IsSound new
  pub dark : (is_off old.chip ≡ true → old.device.has_power ≡ false) → is_off new.chip ≡ true → new.device.has_power ≡ false
  pub layout : slice_index new.cells 0 ≡ slice_index old.cells 0
  pub told : new.device.told ≡ old.device.told
  pub unplanned : IsTrue old.device.told → is_cut_line line ≡ false → old.device.planned ≡ 0 → new.device.planned ≡ 0

-- and its text was written whole
pub record DidLine (old new : Scene) (log log_now : List Ask) (line : ScriptLine) (before now : SinkSeen) : Type 0 where
  pub happened : LineEffect
  pub made : IsLine old new log log_now line happened
  pub written : IsTrue before.tells → Grew before.written now.written (text_of happened)

-- a line broke off: it did not happen, or only a front of its text was written
pub record PartOfLine (old new : Scene) (log log_now : List Ask) (line : ScriptLine) (before now : SinkSeen) : Type 0 where
  pub moment : PlainMoment
  pub made : IsLine old new log log_now line (Did moment)
  pub written : IsTrue before.tells → GrewByPart before.written now.written (text moment)

abbrev pub BrokeOffLine : Scene → Scene → List Ask → List Ask → ScriptLine → SinkSeen → SinkSeen → Type 0
BrokeOffLine old new log log_now line before now =
    ((new ≡ old) × (log_now ≡ log) × (IsTrue before.tells → now.written ≡ before.written)) ⊎ PartOfLine old new log log_now line before now

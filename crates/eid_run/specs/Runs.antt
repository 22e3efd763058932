-- What a run of a script does: the moments that its lines make, and what is written of them.
use Rattle.std.specs.Prelude.{◌≡◌, ℕ, ◌+◌, ◌-◌, ◌*◌, ◌^◌, min, ◌<◌, ◌≤◌, ◌==◌, ◌||◌, Bool, true, false, IsTrue, List, [], ◌∷◌, ◌++◌, length, slice_index, Option, Some, None, option_map, if◌then◌else◌}
use Rattle.eid_base.specs.Faults.{Rose}
use Rattle.eid_base.specs.Seen.{SinkSeen, IsFront, Grew}
use Rattle.eid_cells.specs.Device.{Device}
use Rattle.eid_record.specs.Plain.{FullRecord}
use Rattle.eid_store.specs.Cost.{once}
use Rattle.eid_store.specs.Stands.{stands}
use Rattle.eid_copro.specs.Seen.{CoproSeen}
use Rattle.eid_copro.specs.Told.{Source, AnswersFrom}
use Rattle.eid_model.specs.Moments.{PlainMoment, on, asked, lost, AreSteady}
use Rattle.eid_model.specs.Legal.{AreLegal, IsOnlyJournal}
use Rattle.eid_model.specs.Ledger.{kept, pending, MayHold}
use Rattle.eid_model.specs.Trace.{text, trace}
use Rattle.eid_chip.specs.Commits.{LEAST_WRITES, MOST_WRITES, MOST_MOUNTING}
use Rattle.eid_script.specs.Scripts.{ScriptLine}
use Rattle.eid_step.specs.Effects.{LineEffect, Did, Planned, line_of, CountedBy, is_power_on}

-- the lines that were carried out, the first one first; what happened has the newest first
abbrev pub lines_of : List LineEffect → List ScriptLine
lines_of [] = []
lines_of (h ∷ before) = lines_of before ++ line_of h ∷ []

-- the moments alone
abbrev pub journal : List LineEffect → List PlainMoment
journal [] = []
journal (Did m ∷ before) = m ∷ journal before
journal (Planned write tear ∷ before) = journal before

-- some line planned a cut
abbrev pub is_plan : LineEffect → Bool
is_plan (Did m) = false
is_plan (Planned write tear) = true

abbrev pub has_plan : List LineEffect → Bool
has_plan [] = false
has_plan (h ∷ before) = is_plan h || has_plan before

-- how often the power was cut
abbrev pub losses : List PlainMoment → ℕ
losses [] = 0
losses (m ∷ before) = once (lost m before) + losses before

-- The count of cuts from the entry to the exit, line by line: it rose in each line in which the power was cut, and stays in
-- any other.
abbrev pub Counts : (entry : ℕ) → List LineEffect → (exit : ℕ) → Type 0
Counts entry [] exit = exit ≡ entry
Counts entry (Did m ∷ before) exit = (between : ℕ) × (Counts entry before between × CountedBy (lost m (journal before)) between exit)
Counts entry (Planned write tear ∷ before) exit = Counts entry before exit

-- ---- where planned cuts strike

-- The stretch of a `cut` line, up to the next one: the write that the line names, the commits that finished and the
-- power-ons up to and with the moment in which the power was cut, and how often it was cut.
pub record Stretch : Type 0 where
  pub write : ℕ
  pub commits : ℕ
  pub power_ons : ℕ
  pub cuts : ℕ

-- one moment more, in which the power was cut or not; behind a cut only further cuts count
abbrev pub longer : (cut : Bool) → PlainMoment → Stretch → Stretch
longer cut m s =
    if s.cuts == 0
    then record { write = s.write; commits = s.commits + m.finished; power_ons = s.power_ons + once (is_power_on m.input); cuts = once cut }
    else record s { cuts = s.cuts + once cut }

-- the stretch of the last `cut` line, if there was one; a write of the number 0 is none, and plans nothing
abbrev pub stretch : List LineEffect → Option Stretch
stretch [] = None
stretch (Did m ∷ before) = option_map (longer (lost m (journal before)) m) (stretch before)
stretch (Planned write tear ∷ before) =
    if write == 0 then stretch before else Some (record { write = write; commits = 0; power_ons = 0; cuts = 0 })

-- The power was cut at most once, and there: a commit has 5 to 384 writes, a power-on at most 40.
pub record IsAsPlanned (s : Stretch) : Type 0 where
  pub once : s.cuts ≤ 1
  pub not_before : LEAST_WRITES * s.commits < s.write
  pub not_after : 1 ≤ s.cuts → s.write ≤ MOST_WRITES * (s.commits + 1) + MOST_MOUNTING * s.power_ons

-- so many writes are ahead of the cut that a stretch plans; none where it struck
pub record IsAheadIn (s : Stretch) (planned : ℕ) : Type 0 where
  pub is : IsAsPlanned s
  pub waits : s.cuts ≡ 0 → (0 < planned) × (planned + LEAST_WRITES * s.commits ≤ s.write)
      × (s.write ≤ planned + MOST_WRITES * s.commits + MOST_MOUNTING * s.power_ons)
  pub struck : 0 < s.cuts → planned ≡ 0

-- and none without a stretch
abbrev pub IsAhead : Option Stretch → ℕ → Type 0
IsAhead None planned = planned ≡ 0
IsAhead (Some s) planned = IsAheadIn s planned

-- a moment before the first `cut` line was not cut; any other is of a stretch that is as planned
abbrev pub IsInStretch : Option Stretch → (cut : Bool) → Type 0
IsInStretch None cut = cut ≡ false
IsInStretch (Some s) cut = IsAsPlanned s

-- and so at each moment of the run
abbrev pub CutsAsPlanned : List LineEffect → Type 0
CutsAsPlanned [] = Unit {0}
CutsAsPlanned (Did m ∷ before) = IsInStretch (stretch (Did m ∷ before)) (lost m (journal before)) × CutsAsPlanned before
CutsAsPlanned (Planned write tear ∷ before) = CutsAsPlanned before

-- a front of the trace, in which all moments but the newest are whole
abbrev pub IsFrontOfTrace : List ℕ → List PlainMoment → Type 0
IsFrontOfTrace written [] = written ≡ []
IsFrontOfTrace written (m ∷ before) = (front : List ℕ) × IsFront front (text m) × (written ≡ trace before ++ front)

-- What a run finds outside of the chip, and leaves there: the device, its cells, the coprocessor, and the sink.
pub record Outside : Type 0 where
  pub device : Device
  pub cells : List ℕ
  pub copro : CoproSeen
  pub sink : SinkSeen

abbrev pub outside : Device → List ℕ → CoproSeen → SinkSeen → Outside
outside device cells copro sink = record { device = device; cells = cells; copro = copro; sink = sink }

-- the device that a run begins with: it has no power, and no cut is planned
abbrev pub resting : Device
resting = record { has_power = false; told = true; planned = 0; cuts = 0 }

-- What a run of lines did, whose moments are this journal: it is legal; the device's count of cuts rose in each line in which
-- the power was cut, and stays in any other, so it is higher by these cuts, as far as it can count, and exactly where the
-- device tells its plans; where it did not rise there was no cut. Where the device told that no cut was planned and no line
-- planned one, there was none, and none is planned; where it can count a cut more for each line, cuts come as they were
-- planned, and what is planned then is ahead; the coprocessor's log grew by the questions of the moments; the cells hold what
-- the journal says; and the device has power exactly where the chip has.
pub record RanLines (opening : FullRecord) (happened : List LineEffect) (old new : Outside) : Type 0 where
  pub legal : AreLegal opening (journal happened)
  pub counts : Counts old.device.cuts happened new.device.cuts
  pub counted : min (old.device.cuts + losses (journal happened)) (2 ^ 64 - 1) ≤ new.device.cuts
  pub exact : IsTrue old.device.told → new.device.cuts ≡ old.device.cuts + losses (journal happened)
  pub steady : (Rose old.device.cuts new.device.cuts → ⊥) → AreSteady (journal happened)
  pub unplanned : IsTrue old.device.told → old.device.planned ≡ 0 → has_plan happened ≡ false → AreSteady (journal happened)
  pub none_planned : IsTrue old.device.told → old.device.planned ≡ 0 → has_plan happened ≡ false → new.device.planned ≡ 0
  pub strikes : IsTrue old.device.told → old.device.planned ≡ 0 → old.device.cuts + length happened < 2 ^ 64 → CutsAsPlanned happened
  pub ahead : IsTrue old.device.told → old.device.planned ≡ 0 → old.device.cuts + length happened < 2 ^ 64
      → IsAhead (stretch happened) new.device.planned
  pub only : (source : Source) → AnswersFrom source (asked (journal happened)) → AreSteady (journal happened)
      → IsOnlyJournal source opening (journal happened)
  pub logged : new.copro.log ≡ old.copro.log ++ asked (journal happened)
  pub told : new.copro.told ≡ old.copro.told
  pub cells : MayHold (pending opening (journal happened)) (kept opening (journal happened)) (stands new.cells)
  pub layout : slice_index new.cells 0 ≡ slice_index old.cells 0
  pub power : old.device.has_power ≡ false → new.device.has_power ≡ on (journal happened)

-- all lines were carried out, and the trace was written
pub record DidLines (opening : FullRecord) (lines : List ScriptLine) (old new : Outside) : Type 0 where
  pub happened : List LineEffect
  pub ran : RanLines opening happened old new
  pub carried : lines_of happened ≡ lines
  pub written : IsTrue old.sink.tells → Grew old.sink.written new.sink.written (trace (journal happened))

-- the lines broke off: a front of them was carried out, and a front of the trace written
pub record DidSomeLines (opening : FullRecord) (lines : List ScriptLine) (old new : Outside) : Type 0 where
  pub happened : List LineEffect
  pub ran : RanLines opening happened old new
  pub carried : (rest : List ScriptLine) × (lines_of happened ++ rest ≡ lines)
  pub written : IsTrue old.sink.tells → (part : List ℕ) × IsFrontOfTrace part (journal happened) × (new.sink.written ≡ old.sink.written ++ part)

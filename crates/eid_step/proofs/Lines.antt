-- What one line makes.
use Rattle.std.proofs.Common.{◌≡◌, ◌≢◌, ℕ, ◌+◌, ◌-◌, ◌*◌, ◌<◌, ◌≤◌, Bool, true, false, ◌==◌, IsTrue, List, [], ◌++◌, length, drop, Option, Some, None, Result, Ok, Err, refl, sym, ap, ◌∙◌, subst, append-nil, length-append, arith, inr}
use Rattle.std.specs.Prelude.{IsSome, OnOk, OnErr, is_some, is_none, nat_le, slice_index, if◌then◌else◌}
use Rattle.std.proofs.lemmas.Bool.Decides.{nat_tests}
use Rattle.std.proofs.lemmas.List.{drop_at}
use Rattle.eid_base.specs.Faults.{Rose}
use Rattle.eid_base.specs.Seen.{SinkSeen, Grew, GrewByPart}
use Rattle.eid_cells.specs.Device.{Device, planned_at}
use Rattle.eid_cells.specs.declared.tear.Tear.{Tear}
use Rattle.eid_store.specs.declared.durable.MountError.{MountError}
use Rattle.eid_store.specs.declared.durable.MountError.TheVariants.{Cut, BadImage}
use Rattle.eid_store.specs.Durable.{Mounts}
use Rattle.eid_store.proofs.Laws.{powered, refitting}
use Rattle.eid_copro.specs.Seen.{CoproSeen}
use Rattle.eid_copro.specs.declared.ask.Ask.{Ask}
use Rattle.eid_model.specs.Legal.{silent}
use Rattle.eid_model.specs.Ledger.{kept}
use Rattle.eid_model.specs.Moments.{PoweredOn, PoweredOff, PlainMoment}
use Rattle.eid_model.specs.Trace.{text}
use Rattle.eid_chip.specs.Commits.{LEAST_WRITES, MOST_WRITES, MOST_MOUNTING, WasCutBehind}
use Rattle.eid_store.specs.Cost.{once}
use Rattle.eid_chip.specs.Fits.{Scene, scene, Follows, Handles, IsSound, IsSoundRunning, Came, Silence, Answer, Loss, CameOver, moment_of, is_silence, leaves_off, found, is_off}
use Rattle.eid_chip.specs.States.{ChipView, RunningView}
use Rattle.eid_script.specs.Scripts.{ScriptLine, OnLine, OffLine, ApduLine, CutLine}
use Rattle.eid_step.specs.Effects.{Did, Planned, line_for, CountedBy}
use Rattle.eid_step.specs.Lines.{was_cut, planned_by, Spends, SpendsBy, IsLine, Keeps, DidLine, BrokeOffLine}

-- ---- a power-on

-- a plan that names none of these writes names a later one
not_within : (planned writes : ℕ) → 0 < planned → ((1 ≤ planned) × (planned ≤ writes) → ⊥) → writes < planned
not_within planned writes some other = by (nat_le planned writes) refl where
  by : (b : Bool) → nat_le planned writes ≡ b → writes < planned
  by true is = absurd (other (some, let le : planned ≤ writes = grind (arith, nat_tests) in le))
  by false is = grind (arith, nat_tests)

found_kept : (r : Result ℕ MountError) (powered : Bool) → r ≢ Err BadImage → r ≢ Err Cut → was_cut powered (Did (silent (PoweredOn (found r)))) ≡ false
found_kept (Ok number) powered good kept = refl
found_kept (Err Cut) powered good kept = absurd (kept refl)
found_kept (Err BadImage) powered good kept = absurd (good refl)

-- the writes that a power-on takes from a plan
on_spends : (powered : Bool) (r : Result ℕ MountError) (writes : ℕ) (old new : Device) → r ≢ Err BadImage → writes ≤ MOST_MOUNTING → Mounts writes (record old { has_power = true }) new r → IsTrue old.told
    → Spends old.planned new.planned 0 1 (was_cut powered (Did (silent (PoweredOn (found r)))))
on_spends powered (Ok number) writes old new good few device told =
    let planned : new.planned ≡ old.planned - writes = ap (λ (d : Device). d.planned) device.mounted in
    let spared = device.spared told in
    let beyond : 0 < old.planned → writes < old.planned = λ some. not_within old.planned writes some spared in
    record {
      unplanned = λ none. (omega (arith, planned, none), refl);
      ahead = λ some kept. let over = beyond some in (omega (arith, planned, over), omega (arith, planned, over), omega (arith, planned, over, few));
      strikes = λ some struck. absurd (cc);
    }
on_spends powered (Err Cut) writes old new good few device told =
    let cut = device.cut refl in
    let struck = device.struck told refl in
    record {
      unplanned = λ none. absurd (omega (arith, struck.0, none));
      ahead = λ some kept. absurd (cc);
      strikes = λ some is. (cut.planned, omega (arith, some), omega (arith, struck.1, few));
    }
on_spends powered (Err BadImage) writes old new good few device told = absurd (good refl)

-- and what it adds to the count of cuts
on_counts : (powered : Bool) (r : Result ℕ MountError) (writes : ℕ) (old new : Device) → r ≢ Err BadImage → Mounts writes (record old { has_power = true }) new r → CountedBy (was_cut powered (Did (silent (PoweredOn (found r))))) old.cuts new.cuts
on_counts powered (Ok number) writes old new good device = ap (λ (d : Device). d.cuts) device.mounted
on_counts powered (Err Cut) writes old new good device = let cut = device.cut refl in (cut.never_falls, cut.rose)
on_counts powered (Err BadImage) writes old new good device = absurd (good refl)

on_exact : (powered : Bool) (r : Result ℕ MountError) (writes : ℕ) (old new : Device) → r ≢ Err BadImage → Mounts writes (record old { has_power = true }) new r → IsTrue old.told → new.cuts ≡ old.cuts + once (was_cut powered (Did (silent (PoweredOn (found r)))))
on_exact powered (Ok number) writes old new good device told = let same = ap (λ (d : Device). d.cuts) device.mounted in omega (arith, same)
on_exact powered (Err Cut) writes old new good device told = (device.cut refl).by_one told
on_exact powered (Err BadImage) writes old new good device told = absurd (good refl)

-- a power-on, as the chip says it
pub line_on : (old new : Scene) (r : Result ℕ MountError) (writes : ℕ) (log : List Ask) → r ≢ Err BadImage → writes ≤ MOST_MOUNTING → Follows old new (silent (PoweredOn (found r))) → Mounts writes (record old.device { has_power = true }) new.device r
    → IsLine old new log log OnLine (Did (silent (PoweredOn (found r))))
line_on old new r writes log good few follows device = record {
  step = follows;
  logged = sym (append-nil log);
  carried = refl;
  counts = on_counts (is_some old.chip.running) r writes old.device new.device good device;
  exact = on_exact (is_some old.chip.running) r writes old.device new.device good device;
  unplanned = λ told none. found_kept r (is_some old.chip.running) good (λ is. let struck = device.struck told is in absurd (omega (arith, struck.0, none)));
  spends = λ told. on_spends (is_some old.chip.running) r writes old.device new.device good few device told;
}

pub keeps_on : (old new : Scene) (r : Result ℕ MountError) (writes : ℕ) → r ≢ Err BadImage → Mounts writes (record old.device { has_power = true }) new.device r → IsSound new → OnErr r (new.chip.running ≡ None)
    → slice_index new.cells 0 ≡ slice_index old.cells 0 → (OnOk r (is_off new.chip ≡ false)) → Keeps old new OnLine
keeps_on old new (Ok number) writes good device sound off layout alive = record {
  sound = sound;
  dark = λ before is. absurd (cc);
  layout = layout;
  told = ap (λ (d : Device). d.told) device.mounted;
  unplanned = λ told plain none. ap (λ (d : Device). d.planned) device.mounted ∙ rw none (omega arith);
}
keeps_on old new (Err Cut) writes good device sound off layout alive =
    let cut = device.cut refl in
    record {
      sound = sound;
      dark = λ before is. cut.power;
      layout = layout;
      told = cut.told;
      unplanned = λ told plain none. cut.planned;
    }
keeps_on old new (Err BadImage) writes good device sound off layout alive = absurd (good refl)

-- ---- a power-off

-- a plan that stays as it is
stays : (before now : ℕ) → now ≡ before → Spends before now 0 0 false
stays before now same = record {
  unplanned = λ none. (omega (arith, same, none), refl);
  ahead = λ some kept. (omega (arith, same, some), omega (arith, same), omega (arith, same));
  strikes = λ some struck. absurd (cc);
}

pub line_off : (old new : Scene) (log : List Ask) → Follows old new (silent PoweredOff) → new.device ≡ record old.device { has_power = false } → IsLine old new log log OffLine (Did (silent PoweredOff))
line_off old new log follows device = record {
  step = follows;
  logged = sym (append-nil log);
  carried = refl;
  counts = ap (λ (d : Device). d.cuts) device;
  exact = λ told. let same = ap (λ (d : Device). d.cuts) device in omega (arith, same);
  unplanned = λ told none. refl;
  spends = λ told. stays old.device.planned new.device.planned (ap (λ (d : Device). d.planned) device);
}

pub keeps_off : (old new : Scene) → new.chip.running ≡ None → new.cells ≡ old.cells → new.device ≡ record old.device { has_power = false } → Keeps old new OffLine
keeps_off old new off cells device = record {
  sound = subst (λ (l : Option RunningView). IsSoundRunning l new.device new.cells) (sym off) tt;
  dark = λ before is. ap (λ (d : Device). d.has_power) device;
  layout = ap (λ (c : List ℕ). slice_index c 0) cells;
  told = ap (λ (d : Device). d.told) device;
  unplanned = λ told plain none. ap (λ (d : Device). d.planned) device ∙ none;
}

-- ---- a command

came_input : (bytes : List ℕ) (asks : List Ask) (came : Came) → line_for (moment_of bytes asks came).input ≡ ApduLine bytes
came_input bytes asks Silence = refl
came_input bytes asks (Answer plain finished rule reply sent) = refl
came_input bytes asks (Loss plain finished) = refl

-- the moment has the questions that were put
came_asks : (bytes : List ℕ) (asks : List Ask) (came : Came) → (is_silence came ≡ true → asks ≡ []) → (moment_of bytes asks came).asks ≡ asks
came_asks bytes asks Silence none = sym (none refl)
came_asks bytes asks (Answer plain finished rule reply sent) none = refl
came_asks bytes asks (Loss plain finished) none = refl

rose_behind : (finished : ℕ) (old new : Device) → WasCutBehind finished old new → Rose old.cuts new.cuts
rose_behind finished old new behind = subst (λ (n : ℕ). Rose n new.cuts) (ap (λ (d : Device). d.cuts) behind.wrote.device) behind.cut.rose

-- what a command adds to the count of cuts
came_counts : (powered : Bool) (bytes : List ℕ) (asks : List Ask) (came : Came) (old new : Device) → CameOver came old new → (is_silence came ≡ true → powered ≡ false) → (is_silence came ≡ false → powered ≡ true)
    → CountedBy (was_cut powered (Did (moment_of bytes asks came))) old.cuts new.cuts
came_counts powered bytes asks Silence old new over off alive = rw (off refl) (ap (λ (d : Device). d.cuts) over)
came_counts powered bytes asks (Answer plain finished rule reply sent) old new over off alive = ap (λ (d : Device). d.cuts) over.device
came_counts powered bytes asks (Loss plain finished) old new over off alive =
    let same = ap (λ (d : Device). d.cuts) over.wrote.device in
    rw (alive refl) (omega (arith, over.cut.never_falls, same), rose_behind finished old new over)

came_exact : (powered : Bool) (bytes : List ℕ) (asks : List Ask) (came : Came) (old new : Device) → CameOver came old new → (is_silence came ≡ true → powered ≡ false) → (is_silence came ≡ false → powered ≡ true) → IsTrue old.told
    → new.cuts ≡ old.cuts + once (was_cut powered (Did (moment_of bytes asks came)))
came_exact powered bytes asks Silence old new over off alive told =
    let same = ap (λ (d : Device). d.cuts) over in
    rw (off refl) (omega (arith, same))
came_exact powered bytes asks (Answer plain finished rule reply sent) old new over off alive told =
    let same = ap (λ (d : Device). d.cuts) over.device in
    omega (arith, same)
came_exact powered bytes asks (Loss plain finished) old new over off alive told =
    let same = ap (λ (d : Device). d.cuts) over.wrote.device in
    let one = over.cut.by_one (ap (λ (d : Device). d.told) over.wrote.device ∙ told) in
    rw (alive refl) (omega (arith, one, same))

-- and never where no cut was planned
lost_planned : (powered : Bool) (bytes : List ℕ) (asks : List Ask) (came : Came) (old new : Device) → CameOver came old new → (is_silence came ≡ true → powered ≡ false) → IsTrue old.told → old.planned ≡ 0 → was_cut powered (Did (moment_of bytes asks came)) ≡ false
lost_planned powered bytes asks Silence old new over off told none = rw (off refl) refl
lost_planned powered bytes asks (Answer plain finished rule reply sent) old new over off told none = refl
lost_planned powered bytes asks (Loss plain finished) old new over off told none =
    let still : over.between.told ≡ old.told = ap (λ (d : Device). d.told) over.wrote.device in
    let struck = over.struck (still ∙ told) in
    let planned : over.between.planned ≡ old.planned - over.wrote.writes = ap (λ (d : Device). d.planned) over.wrote.device in
    absurd (omega (arith, struck.0, planned, none))

-- a cut behind so many commits
loss_spends : (finished before now writes between : ℕ) → between ≡ before - writes → 1 ≤ between → between ≤ MOST_WRITES → LEAST_WRITES * finished ≤ writes → writes ≤ MOST_WRITES * finished → now ≡ 0
    → Spends before now finished 0 true
loss_spends finished before now writes between is some few least most none = record {
  unplanned = λ no_plan. absurd (omega (arith, is, some, no_plan));
  ahead = λ planned kept. absurd (cc);
  strikes = λ planned struck. (none, omega (arith, is, some, least), omega (arith, is, some, few, most));
}

-- the writes that a command takes from a plan
handled_spends : (powered : Bool) (bytes : List ℕ) (asks : List Ask) (came : Came) (old new : Device) → CameOver came old new → (is_silence came ≡ true → powered ≡ false) → (is_silence came ≡ false → powered ≡ true) → IsTrue old.told
    → SpendsBy powered old.planned new.planned (Did (moment_of bytes asks came))
handled_spends powered bytes asks Silence old new over off alive told =
    rw (off refl) (stays old.planned new.planned (ap (λ (d : Device). d.planned) over))
handled_spends powered bytes asks (Answer plain finished rule reply sent) old new over off alive told =
    let planned : new.planned ≡ old.planned - over.writes = ap (λ (d : Device). d.planned) over.device in
    let beyond : 0 < old.planned → over.writes < old.planned = λ some. not_within old.planned over.writes some (over.spared told) in
    record {
      unplanned = λ none. (omega (arith, planned, none), refl);
      ahead = λ some kept. let later = beyond some in (omega (arith, planned, later), omega (arith, planned, later, over.least), omega (arith, planned, later, over.most));
      strikes = λ some struck. absurd (cc);
    }
handled_spends powered bytes asks (Loss plain finished) old new over off alive told =
    let wrote = over.wrote in
    let planned : over.between.planned ≡ old.planned - wrote.writes = ap (λ (d : Device). d.planned) wrote.device in
    let struck = over.struck (ap (λ (d : Device). d.told) wrote.device ∙ told) in
    rw (alive refl) (loss_spends finished old.planned new.planned wrote.writes over.between.planned planned struck.0 struck.1 wrote.least wrote.most over.cut.planned)

silent_on : (b : Bool) (running : Option RunningView) → b ≡ is_none running → b ≡ false → is_some running ≡ true
silent_on b None is s = absurd (cc)
silent_on b (Some running) is s = refl

silent_off : (b : Bool) (running : Option RunningView) → b ≡ is_none running → b ≡ true → is_some running ≡ false
silent_off b None is s = refl
silent_off b (Some running) is s = absurd (cc)

pub line_handled : (before after : CoproSeen) (old new : Scene) (bytes : List ℕ) (came : Came) (log : List Ask) (told : List Ask) (m : PlainMoment) (handles : Handles before after old new bytes came) → before.log ≡ log → told ≡ handles.asks → m ≡ moment_of bytes told came
    → IsLine old new log after.log (ApduLine bytes) (Did m)
line_handled before after old new bytes came log told m handles same so is =
    let event = moment_of bytes handles.asks came in
    let off : is_silence came ≡ true → is_some old.chip.running ≡ false = λ s. silent_off (is_silence came) old.chip.running handles.silent s in
    let alive : is_silence came ≡ false → is_some old.chip.running ≡ true = λ s. silent_on (is_silence came) old.chip.running handles.silent s in
    let line : IsLine old new log after.log (ApduLine bytes) (Did event) = record {
      step = handles.follows;
      logged = handles.were_asked.logged ∙ ap (λ (l : List Ask). l ++ handles.asks) same ∙ ap (λ (l : List Ask). log ++ l) (sym (came_asks bytes handles.asks came handles.unasked));
      carried = came_input bytes handles.asks came;
      counts = came_counts (is_some old.chip.running) bytes handles.asks came old.device new.device handles.device off alive;
      exact = came_exact (is_some old.chip.running) bytes handles.asks came old.device new.device handles.device off alive;
      unplanned = lost_planned (is_some old.chip.running) bytes handles.asks came old.device new.device handles.device off;
      spends = handled_spends (is_some old.chip.running) bytes handles.asks came old.device new.device handles.device off alive;
    } in
    subst (λ (x : PlainMoment). IsLine old new log after.log (ApduLine bytes) (Did x)) (sym (is ∙ ap (λ (a : List Ask). moment_of bytes a came) so)) line

pub keeps_handled : (before after : CoproSeen) (old new : Scene) (bytes : List ℕ) (came : Came) → Handles before after old new bytes came → Keeps old new (ApduLine bytes)
keeps_handled before after old new bytes came handles = by came handles.device handles.silent handles.running where
  by : (c : Came) → CameOver c old.device new.device → is_silence c ≡ is_off old.chip → is_off new.chip ≡ leaves_off c → Keeps old new (ApduLine bytes)
  by Silence over silent running = record {
    sound = handles.sound;
    dark = λ before is. ap (λ (d : Device). d.has_power) over ∙ before (sym silent);
    layout = handles.layout;
    told = ap (λ (d : Device). d.told) over;
    unplanned = λ told plain none. ap (λ (d : Device). d.planned) over ∙ none;
  }
  by (Answer plain finished rule reply sent) over silent running = record {
    sound = handles.sound;
    dark = λ before is. absurd (cc);
    layout = handles.layout;
    told = ap (λ (d : Device). d.told) over.device;
    unplanned = λ told plain none. ap (λ (d : Device). d.planned) over.device ∙ rw none (omega arith);
  }
  by (Loss plain finished) over silent running = record {
    sound = handles.sound;
    dark = λ before is. over.cut.power;
    layout = handles.layout;
    told = over.cut.told ∙ ap (λ (d : Device). d.told) over.wrote.device;
    unplanned = λ told plain none. over.cut.planned;
  }

-- ---- a plan

pub sound_running : (running : Option RunningView) (old new : Device) (cells : List ℕ) → new.has_power ≡ old.has_power → IsSoundRunning running old cells → IsSoundRunning running new cells
sound_running None old new cells same sound = tt
sound_running (Some running) old new cells same sound = refitting running.store old new cells sound (same ∙ powered running.store old cells sound)

pub planned_power : (write : ℕ) (device : Device) → (planned_by write device).has_power ≡ device.has_power
planned_power write device = by (write == 0) where
  by : (b : Bool) → (if b then device else planned_at write device).has_power ≡ device.has_power
  by true = refl
  by false = refl

planned_told : (write : ℕ) (device : Device) → (planned_by write device).told ≡ device.told
planned_told write device = by (write == 0) where
  by : (b : Bool) → (if b then device else planned_at write device).told ≡ device.told
  by true = refl
  by false = refl

planned_cuts : (write : ℕ) (device : Device) → (planned_by write device).cuts ≡ device.cuts
planned_cuts write device = by (write == 0) where
  by : (b : Bool) → (if b then device else planned_at write device).cuts ≡ device.cuts
  by true = refl
  by false = refl

-- what the device does with a plan
pub planned_is : (write : ℕ) (device : Device) → 0 < write → planned_at write device ≡ planned_by write device
planned_is write device some =
    let other : (write == 0) ≡ false = grind (arith, nat_tests) in
    rw other refl

pub planned_none : (write : ℕ) (device : Device) → write ≤ 0 → device ≡ planned_by write device
planned_none write device none =
    let is : (write == 0) ≡ true = grind (arith, nat_tests) in
    rw is refl

pub scene_planned : (chip : ChipView) (old new : Device) (cells cells_now : List ℕ) (write : ℕ) → new ≡ planned_by write old → cells_now ≡ cells → scene chip new cells_now ≡ record (scene chip old cells) { device = planned_by write old }
scene_planned chip old new cells cells_now write is same = ap (λ (d : Device). scene chip d cells_now) is ∙ ap (λ (c : List ℕ). scene chip (planned_by write old) c) same

pub line_planned : (old new : Scene) (write : ℕ) (tear : Tear) (log : List Ask) → new ≡ record old { device = planned_by write old.device } → IsLine old new log log (CutLine write tear) (Planned write tear)
line_planned old new write tear log is =
    let same : new.device.cuts ≡ old.device.cuts = ap (λ (s : Scene). s.device.cuts) is ∙ planned_cuts write old.device in
    record { step = is; logged = sym (append-nil log); carried = refl; counts = same; exact = λ told. omega (arith, same); unplanned = λ told none. refl; spends = λ told. tt }

pub keeps_planned : (chip : ChipView) (old new : Device) (cells cells_now : List ℕ) (write : ℕ) (tear : Tear) → new ≡ planned_by write old → cells_now ≡ cells → IsSound (scene chip old cells) → Keeps (scene chip old cells) (scene chip new cells_now) (CutLine write tear)
keeps_planned chip old new cells cells_now write tear is same sound =
    let power : new.has_power ≡ old.has_power = ap (λ (d : Device). d.has_power) is ∙ planned_power write old in
    record {
      sound = rw same (sound_running chip.running old new cells power sound);
      dark = λ before off. power ∙ before off;
      layout = ap (λ (c : List ℕ). slice_index c 0) same;
      told = ap (λ (d : Device). d.told) is ∙ planned_told write old;
      unplanned = λ told plain none. absurd (cc);
    }

-- ---- texts

-- what holds on success, and on an error, by what follows from it
pub on_ok : {A E P Q : Type 0} (r : Result A E) → (P → Q) → OnOk r P → OnOk r Q
on_ok (Ok x) f p = f p
on_ok (Err e) f p = _

pub on_err : {A E P Q : Type 0} (r : Result A E) → (P → Q) → OnErr r P → OnErr r Q
on_err (Ok x) f p = _
on_err (Err e) f p = f p

-- a moment was made, and its text written, or a front of it
pub did_line : (old new : Scene) (log log_now : List Ask) (line : ScriptLine) (m : PlainMoment) (before now : SinkSeen) → IsLine old new log log_now line (Did m) → (IsTrue before.tells → Grew before.written now.written (text m)) → DidLine old new log log_now line before now
did_line old new log log_now line m before now made written = record { happened = Did m; made = made; written = written }

pub part_of_line : (old new : Scene) (log log_now : List Ask) (line : ScriptLine) (m : PlainMoment) (before now : SinkSeen) → IsLine old new log log_now line (Did m) → (IsTrue before.tells → GrewByPart before.written now.written (text m)) → BrokeOffLine old new log log_now line before now
part_of_line old new log log_now line m before now made written = inr (record { moment = m; made = made; written = written })

pub line_same : (old new : Scene) (log : List Ask) (line : ScriptLine) (e m : PlainMoment) → m ≡ e → IsLine old new log log line (Did e) → IsLine old new log log line (Did m)
line_same old new log line e m same made = subst (λ (x : PlainMoment). IsLine old new log log line (Did x)) (sym same) made

-- a plan writes nothing
pub planned_line : (old new : Scene) (log : List Ask) (line : ScriptLine) (write : ℕ) (tear : Tear) (seen : SinkSeen) → IsLine old new log log line (Planned write tear) → DidLine old new log log line seen seen
planned_line old new log line write tear seen made = record { happened = Planned write tear; made = made; written = λ tells. sym (append-nil seen.written) }

-- what was appended is what stands behind
pub asks_behind : (log log_now asks : List Ask) → log_now ≡ log ++ asks → drop (length log) log_now ≡ asks
asks_behind log log_now asks logged = ap (drop (length log)) logged ∙ drop_at log asks (length log) refl

pub no_shorter : (log log_now asks : List Ask) → log_now ≡ log ++ asks → length log ≤ length log_now
no_shorter log log_now asks logged = let size : length log_now ≡ length log + length asks = ap length logged ∙ length-append log asks in omega arith

pub some_is_not_none : {A : Type 0} (o : Option A) → IsSome o → o ≡ None → ⊥
some_is_not_none o some none = absurd (cc)

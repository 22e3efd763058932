-- Runs with one line more.
use Rattle.std.proofs.Common.{min, ◌≡◌, ℕ, suc, ◌+◌, ◌-◌, ◌^◌, ◌<◌, ◌≤◌, Bool, true, false, ◌==◌, ◌||◌, IsTrue, List, [], ◌∷◌, ◌++◌, length, take, drop, get_or, map, Option, Some, None, refl, sym, ap, ◌∙◌, subst, append_assoc, append-nil, arith, inl, inr}
use Rattle.std.specs.Prelude.{IsSome, is_some, is_none, nat_lt, option_map, slice_index, if◌then◌else◌}
use Rattle.std.proofs.lemmas.Bool.{eqb-true}
use Rattle.std.proofs.lemmas.Bool.Decides.{nat_tests}
use Rattle.std.proofs.lemmas.List.{take_more, map-append, take-append-drop}
use Rattle.eid_base.specs.Faults.{Rose}
use Rattle.eid_base.specs.Seen.{SinkSeen, Grew}
use Rattle.eid_cells.specs.Device.{Device}
use Rattle.eid_record.specs.Plain.{FullRecord, PlainEffect}
use Rattle.eid_store.proofs.Laws.{powered}
use Rattle.eid_copro.specs.declared.ask.Ask.{Ask}
use Rattle.eid_model.specs.Ledger.{MayHold}
use Rattle.eid_model.specs.Moments.{Event, PoweredOn, PoweredOff, Received, PlainMoment, on, asked, lost, AreSteady}
use Rattle.eid_model.specs.Trace.{text, trace}
use Rattle.eid_model.proofs.Journals.{only_journal}
use Rattle.eid_store.specs.Cost.{once}
use Rattle.eid_chip.specs.Fits.{Scene, scene, Fits, IsSoundRunning, found, is_off}
use Rattle.eid_chip.specs.States.{ChipView, RunningView}
use Rattle.eid_script.specs.declared.script.Line.{Line}
use Rattle.eid_script.specs.Scripts.{ScriptLine, plain_line}
use Rattle.eid_step.specs.Effects.{LineEffect, Did, Planned, line_for, line_of, CountedBy, is_power_on}
use Rattle.eid_step.specs.Lines.{is_cut_line, text_of, was_cut, planned_by, Spends, IsLine, Keeps, DidLine, BrokeOffLine}
use Rattle.eid_step.proofs.Lines.{sound_running, planned_power}
use Rattle.eid_run.specs.Runs.{journal, is_plan, IsFrontOfTrace, RanLines, DidSomeLines, Outside, losses, Counts, Stretch, stretch, longer, IsInStretch, IsAhead, IsAheadIn}
use Rattle.eid_run.proofs.SoFar.{IsRunSoFar}

pub some_of : {A : Type 0} (o : Option A) → IsSome o → (x : A) × (o ≡ Some x)
some_of None some = absurd (cc)
some_of (Some x) some = (x, refl)

-- cells that may hold a record stand for one
pub holds_some : (p : Option PlainEffect) (full : FullRecord) (holds : Option FullRecord) → MayHold p full holds → IsSome holds
holds_some None full holds is = rw is refl
holds_some (Some effect) full holds (inl is) = rw is refl
holds_some (Some effect) full holds (inr is) = rw is refl

-- ---- where planned cuts strike

-- a moment more in a stretch
ahead_in : (free struck : Bool) (m : PlainMoment) (s : Stretch) (planned planned_now : ℕ) → (s.cuts == 0) ≡ free → IsAheadIn s planned → Spends planned planned_now m.finished (once (is_power_on m.input)) struck
    → IsAheadIn (longer struck m s) planned_now
ahead_in true false m s planned now is ahead spends =
    let none : s.cuts ≡ 0 = eqb-true s.cuts 0 is in
    let waits = ahead.waits none in
    let later = spends.ahead waits.0 refl in
    rw is (record {
      is = record { once = omega arith; not_before = omega (arith, waits.1, later.0, later.1); not_after = λ cut. absurd (omega (arith, cut)) };
      waits = λ still. (later.0, omega (arith, waits.1, later.1), omega (arith, waits.2, later.2));
      struck = λ cut. absurd (omega (arith, cut));
    })
ahead_in true true m s planned now is ahead spends =
    let none : s.cuts ≡ 0 = eqb-true s.cuts 0 is in
    let waits = ahead.waits none in
    let cut = spends.strikes waits.0 refl in
    rw is (record {
      is = record { once = omega arith; not_before = omega (arith, waits.1, cut.1); not_after = λ some. omega (arith, waits.2, cut.2) };
      waits = λ still. absurd (omega (arith, still));
      struck = λ some. cut.0;
    })
ahead_in false struck m s planned now is ahead spends =
    let some : 0 < s.cuts = grind (arith, nat_tests) in
    let gone = spends.unplanned (ahead.struck some) in
    rw (is, gone.1) (record {
      is = record { once = omega (arith, ahead.is.once); not_before = ahead.is.not_before; not_after = λ cut. ahead.is.not_after (omega (arith, some)) };
      waits = λ still. absurd (omega (arith, some, still));
      struck = λ cut. gone.0;
    })

ahead_more : (o : Option Stretch) (struck : Bool) (m : PlainMoment) (planned planned_now : ℕ) → IsAhead o planned → Spends planned planned_now m.finished (once (is_power_on m.input)) struck
    → IsInStretch (option_map (longer struck m) o) struck × IsAhead (option_map (longer struck m) o) planned_now
ahead_more None struck m planned now ahead spends = let gone = spends.unplanned ahead in (gone.1, gone.0)
ahead_more (Some s) struck m planned now ahead spends =
    let later = ahead_in (s.cuts == 0) struck m s planned now refl ahead spends in
    (later.is, later)

-- a plan begins a stretch
ahead_planned : (none : Bool) (write : ℕ) (before : Option Stretch) (device : Device) → (write == 0) ≡ none → device.told ≡ true → device.cuts + 1 < 2 ^ 64 → IsAhead before device.planned
    → IsAhead (if write == 0 then before else Some (record { write = write; commits = 0; power_ons = 0; cuts = 0 })) (planned_by write device).planned
ahead_planned true write before device is told few ahead = rw is ahead
ahead_planned false write before device is told few ahead =
    let some : 0 < write = grind (arith, nat_tests) in
    let counts : nat_lt device.cuts (2 ^ 64 - 1) ≡ true = grind (arith, nat_tests) in
    rw (is, told, counts) (record {
      is = record { once = omega arith; not_before = omega (arith, some); not_after = λ cut. absurd (omega (arith, cut)) };
      waits = λ still. (some, omega arith, omega arith);
      struck = λ cut. absurd (omega (arith, cut));
    })

-- ---- runs

later_of : (cut : Bool) (before now : ℕ) → CountedBy cut before now → before ≤ now
later_of true before now counted = counted.0
later_of false before now counted = omega (arith, counted)

rose_of : (cut : Bool) (before now : ℕ) → CountedBy cut before now → cut ≡ true → Rose before now
rose_of true before now counted is = counted.1
rose_of false before now counted is = absurd (cc)

-- counts never fall
later_all : (entry : ℕ) (happened : List LineEffect) (exit : ℕ) → Counts entry happened exit → entry ≤ exit
later_all entry [] exit counts = omega (arith, counts)
later_all entry (Did m ∷ before) exit counts =
    let earlier = later_all entry before counts.0 counts.1.0 in
    let last = later_of (lost m (journal before)) counts.0 exit counts.1.1 in
    omega (arith, earlier, last)
later_all entry (Planned write tear ∷ before) exit counts = later_all entry before exit counts

-- each cut of the power is counted
counted_one : (cut : Bool) (entry before now cuts : ℕ) → CountedBy cut before now → min (entry + cuts) (2 ^ 64 - 1) ≤ before → min (entry + (once cut + cuts)) (2 ^ 64 - 1) ≤ now
counted_one true entry before now cuts counted earlier = let up = counted.1 in omega (arith, up, earlier)
counted_one false entry before now cuts counted earlier = omega (arith, counted, earlier)

counted_all : (entry : ℕ) (happened : List LineEffect) (exit : ℕ) → Counts entry happened exit → min (entry + losses (journal happened)) (2 ^ 64 - 1) ≤ exit
counted_all entry [] exit counts = omega (arith, counts)
counted_all entry (Did m ∷ before) exit counts = counted_one (lost m (journal before)) entry counts.0 exit (losses (journal before)) counts.1.1 (counted_all entry before counts.0 counts.1.0)
counted_all entry (Planned write tear ∷ before) exit counts = counted_all entry before exit counts

-- a line has one cut at most
few_losses : (happened : List LineEffect) → losses (journal happened) ≤ length happened
few_losses [] = omega arith
few_losses (Did m ∷ before) = by (lost m (journal before)) (few_losses before) where
  by : (cut : Bool) → losses (journal before) ≤ length before → once cut + losses (journal before) ≤ suc (length before)
  by true few = omega (arith, few)
  by false few = omega (arith, few)
few_losses (Planned write tear ∷ before) = let few = few_losses before in omega (arith, few)

-- a chip that is off does not run
alive_on : (running : Option RunningView) (power : Bool) → is_some running ≡ power → power ≡ false → is_none running ≡ true
alive_on None power is off = refl
alive_on (Some running) power is off = absurd (cc)

-- where the chip is on, its device has power
powered_on : (s : Scene) (moments : List PlainMoment) (opening : FullRecord) → Fits s opening moments → (is_off s.chip ≡ true → s.device.has_power ≡ false) → s.device.has_power ≡ on moments
powered_on s moments opening fits dark = by s.chip.running refl where
  by : (running : Option RunningView) → s.chip.running ≡ running → s.device.has_power ≡ on moments
  by None is = dark (ap is_none is) ∙ sym (ap is_some is) ∙ fits.powered
  by (Some running) is =
      let sound : IsSoundRunning (Some running) s.device s.cells = subst (λ (l : Option RunningView). IsSoundRunning l s.device s.cells) is fits.sound in
      powered running.store s.device s.cells sound ∙ sym (ap is_some is) ∙ fits.powered

rose_either : (a b c : ℕ) → a ≤ b → b ≤ c → (Rose a c → ⊥) → Rose b c → ⊥
rose_either a b c ab bc still rose = still (omega (arith, ab, bc, rose))

rose_first : (a b c : ℕ) → a ≤ b → b ≤ c → (Rose a c → ⊥) → Rose a b → ⊥
rose_first a b c ab bc still rose = still (omega (arith, ab, bc, rose))

not_true : (b : Bool) → (b ≡ true → ⊥) → b ≡ false
not_true true f = absurd (f refl)
not_true false f = refl

or_parts : (a b : Bool) → (a || b) ≡ false → (a ≡ false) × (b ≡ false)
or_parts true b e = absurd (cc)
or_parts false b e = (refl, e)

-- where the count did not rise there was no cut
steady_all : (entry : ℕ) (happened : List LineEffect) (exit : ℕ) → Counts entry happened exit → (Rose entry exit → ⊥) → AreSteady (journal happened)
steady_all entry [] exit counts still = tt
steady_all entry (Did m ∷ before) exit counts still =
    let earlier = later_all entry before counts.0 counts.1.0 in
    let last = later_of (lost m (journal before)) counts.0 exit counts.1.1 in (
      steady_all entry before counts.0 counts.1.0 (rose_first entry counts.0 exit earlier last still),
      not_true (lost m (journal before)) (λ cut. rose_either entry counts.0 exit earlier last still (rose_of (lost m (journal before)) counts.0 exit counts.1.1 cut)),
    )
steady_all entry (Planned write tear ∷ before) exit counts still = steady_all entry before exit counts still

plan_is : (h : LineEffect) (line : ScriptLine) → line_of h ≡ line → is_plan h ≡ is_cut_line line
plan_is (Did m) line is = by m.input is where
  by : (e : Event) → line_for e ≡ line → false ≡ is_cut_line line
  by (PoweredOn found) is = rw (← is) refl
  by PoweredOff is = rw (← is) refl
  by (Received bytes) is = rw (← is) refl
plan_is (Planned write tear) line is = rw (← is) refl

-- a plan leaves what a scene fits
planned_fits : (old new : Scene) (opening : FullRecord) (moments : List PlainMoment) (write : ℕ) → new ≡ record old { device = planned_by write old.device } → Fits old opening moments → Fits new opening moments
planned_fits old new opening moments write is fits = rw is (record {
  powered = fits.powered;
  sound = sound_running old.chip.running old.device (planned_by write old.device) old.cells (planned_power write old.device) fits.sound;
  state = fits.state;
  standing = fits.standing;
})

-- a line more, by what it made
more : (h : LineEffect) (opening : FullRecord) (start old new : Scene) (log_0 log log_now : List Ask) (lines : List ScriptLine) (line : ScriptLine) (first before now : SinkSeen) → before.tells ≡ first.tells → IsRunSoFar opening start old log_0 log lines first before
    → IsLine old new log log_now line h → Keeps old new line → (IsTrue before.tells → Grew before.written now.written (text_of h)) → IsRunSoFar opening start new log_0 log_now (lines ++ line ∷ []) first now
more (Did m) opening start old new log_0 log log_now lines line first before now tells run made keeps written =
    let step = made.step opening (journal run.happened) run.fits in
    let alive : is_some old.chip.running ≡ on (journal run.happened) = run.fits.powered in
    let lost_is : was_cut (is_some old.chip.running) (Did m) ≡ lost m (journal run.happened) = rw alive refl in
    let plain : is_cut_line line ≡ false = sym (plan_is (Did m) line made.carried) in
    record {
      happened = Did m ∷ run.happened;
      fits = step.1;
      legal = (step.0, run.legal);
      counts = (old.device.cuts, (run.counts, subst (λ (b : Bool). CountedBy b old.device.cuts new.device.cuts) lost_is made.counts));
      exact = λ told.
          let one = subst (λ (b : Bool). new.device.cuts ≡ old.device.cuts + once b) lost_is (made.exact (run.same_told ∙ told)) in
          let earlier = run.exact told in
          omega (arith, one, earlier);
      unplanned = λ told none unplanned.
          let earlier = run.unplanned told none unplanned in
          let told_now : IsTrue old.device.told = run.same_told ∙ told in
          ((earlier.0, sym lost_is ∙ made.unplanned told_now earlier.1), keeps.unplanned told_now plain earlier.1);
      strikes = λ told none few.
          let earlier = run.strikes told none (omega (arith, few)) in
          let spends = subst (λ (b : Bool). Spends old.device.planned new.device.planned m.finished (once (is_power_on m.input)) b) lost_is (made.spends (run.same_told ∙ told)) in
          let later = ahead_more (stretch run.happened) (lost m (journal run.happened)) m old.device.planned new.device.planned earlier.1 spends in
          ((later.0, earlier.0), later.1);
      same_told = keeps.told ∙ run.same_told;
      dark = λ off. keeps.dark (run.dark off);
      carried = rw (run.carried, made.carried) refl;
      logged = made.logged ∙ ap (λ (l : List Ask). l ++ m.asks) run.logged ∙ append_assoc log_0 (asked (journal run.happened)) m.asks;
      written = λ told. rw (written (rw tells told), run.written told) (append_assoc first.written (trace (journal run.happened)) (text m));
    }
more (Planned write tear) opening start old new log_0 log log_now lines line first before now tells run made keeps written = record {
  happened = Planned write tear ∷ run.happened;
  fits = planned_fits old new opening (journal run.happened) write made.step run.fits;
  legal = run.legal;
  counts = subst (λ (n : ℕ). Counts start.device.cuts run.happened n) (sym made.counts) run.counts;
  exact = λ told. made.counts ∙ run.exact told;
  unplanned = λ told none unplanned. absurd (cc);
  strikes = λ told none few.
      let earlier = run.strikes told none (omega (arith, few)) in
      let cuts = run.exact told in
      let many = few_losses run.happened in
      (earlier.0, rw made.step (ahead_planned (write == 0) write (stretch run.happened) old.device refl (run.same_told ∙ told) (omega (arith, few, cuts, many)) earlier.1));
  same_told = keeps.told ∙ run.same_told;
  dark = λ off. keeps.dark (run.dark off);
  carried = rw (run.carried, made.carried) refl;
  logged = made.logged ∙ append-nil log ∙ run.logged;
  written = λ told. written (rw tells told) ∙ append-nil before.written ∙ run.written told;
}

pub ran_more : (opening : FullRecord) (start old new : Scene) (log_0 log log_now : List Ask) (lines : List ScriptLine) (line : ScriptLine) (first before now : SinkSeen) → before.tells ≡ first.tells → IsRunSoFar opening start old log_0 log lines first before
    → DidLine old new log log_now line before now → Keeps old new line → IsRunSoFar opening start new log_0 log_now (lines ++ line ∷ []) first now
ran_more opening start old new log_0 log log_now lines line first before now tells run did keeps = more did.happened opening start old new log_0 log log_now lines line first before now tells run did.made keeps did.written

pub ran_happened : (opening : FullRecord) (start old new : Scene) (log_0 log log_now : List Ask) (lines : List ScriptLine) (line : ScriptLine) (first before now : SinkSeen) (tells : before.tells ≡ first.tells) (run : IsRunSoFar opening start old log_0 log lines first before)
    (did : DidLine old new log log_now line before now) (keeps : Keeps old new line) → (ran_more opening start old new log_0 log log_now lines line first before now tells run did keeps).happened ≡ did.happened ∷ run.happened
unfolding ran_more more
ran_happened opening start old new log_0 log log_now lines line first before now tells run did keeps = by did.happened did.made did.written where
  by : (h : LineEffect) (made : IsLine old new log log_now line h) (written : IsTrue before.tells → Grew before.written now.written (text_of h)) → (more h opening start old new log_0 log log_now lines line first before now tells run made keeps written).happened ≡ h ∷ run.happened
  by (Did m) made written = refl
  by (Planned write tear) made written = refl

whole_front : (moments : List PlainMoment) → IsFrontOfTrace (trace moments) moments
whole_front [] = refl
whole_front (m ∷ before) = (text m, ([], append-nil (text m)), refl)

-- what the lines did so far, seen from outside
pub ran_lines : (opening : FullRecord) (chip chip_now : ChipView) (old new : Outside) (lines : List ScriptLine) (before now : SinkSeen) (run : IsRunSoFar opening (scene chip old.device old.cells) (scene chip_now new.device new.cells) old.copro.log new.copro.log lines before now)
    → new.copro.told ≡ old.copro.told → slice_index new.cells 0 ≡ slice_index old.cells 0 → RanLines opening run.happened old new
ran_lines opening chip chip_now old new lines before now run told layout = record {
  legal = run.legal;
  counts = run.counts;
  counted = counted_all old.device.cuts run.happened new.device.cuts run.counts;
  exact = run.exact;
  steady = steady_all old.device.cuts run.happened new.device.cuts run.counts;
  unplanned = λ is none unplanned. (run.unplanned is none unplanned).0;
  none_planned = λ is none unplanned. (run.unplanned is none unplanned).1;
  strikes = λ told none few. (run.strikes told none few).0;
  ahead = λ told none few. (run.strikes told none few).1;
  only = λ source answered steady. only_journal source opening (journal run.happened) run.legal steady answered;
  logged = run.logged;
  told = told;
  cells = run.fits.standing;
  layout = layout;
  power = λ off. powered_on (scene chip_now new.device new.cells) (journal run.happened) opening run.fits (run.dark off);
}

-- a line broke off
pub broke_off : (opening : FullRecord) (chip chip_was chip_now : ChipView) (old was new : Outside) (lines : List ScriptLine) (line : ScriptLine) (rest whole : List ScriptLine) → lines ++ line ∷ rest ≡ whole → was.sink.tells ≡ old.sink.tells → new.copro.told ≡ old.copro.told
    → slice_index was.cells 0 ≡ slice_index old.cells 0 → IsRunSoFar opening (scene chip old.device old.cells) (scene chip_was was.device was.cells) old.copro.log was.copro.log lines old.sink was.sink
    → BrokeOffLine (scene chip_was was.device was.cells) (scene chip_now new.device new.cells) was.copro.log new.copro.log line was.sink new.sink → Keeps (scene chip_was was.device was.cells) (scene chip_now new.device new.cells) line → DidSomeLines opening whole old new
unfolding more
broke_off opening chip chip_was chip_now old was new lines line rest whole parts tells told layout run (inl same) keeps =
    let start = scene chip old.device old.cells in
    let here = subst (λ (x : Scene). IsRunSoFar opening start x old.copro.log was.copro.log lines old.sink was.sink) (sym same.0) run in
    let at = subst (λ (l : List Ask). IsRunSoFar opening start (scene chip_now new.device new.cells) old.copro.log l lines old.sink was.sink) (sym same.1) here in
    record {
      happened = at.happened;
      ran = ran_lines opening chip chip_now old new lines old.sink was.sink at told (keeps.layout ∙ layout);
      carried = (line ∷ rest, rw at.carried parts);
      written = λ tells_so. (trace (journal at.happened), whole_front (journal at.happened), same.2 (rw tells tells_so) ∙ at.written tells_so);
    }
broke_off opening chip chip_was chip_now old was new lines line rest whole parts tells told layout run (inr part) keeps =
    let at = more (Did part.moment) opening (scene chip old.device old.cells) (scene chip_was was.device was.cells) (scene chip_now new.device new.cells) old.copro.log was.copro.log new.copro.log lines line
    (record old.sink { tells = false }) (record was.sink { tells = false }) (record new.sink { tells = false }) refl
    (record { happened = run.happened; fits = run.fits; legal = run.legal; counts = run.counts; exact = run.exact; unplanned = run.unplanned; strikes = run.strikes; same_told = run.same_told; dark = run.dark; carried = run.carried; logged = run.logged; written = λ never. absurd (cc) })
    part.made keeps (λ never. absurd (cc)) in
    record {
      happened = at.happened;
      ran = ran_lines opening chip chip_now old new (lines ++ line ∷ []) (record old.sink { tells = false }) (record new.sink { tells = false }) at told (keeps.layout ∙ layout);
      carried = (rest, rw at.carried (append_assoc lines (line ∷ []) rest ∙ parts));
      written = λ tells_so.
          let grew = part.written (rw tells tells_so) in
          (trace (journal run.happened) ++ grew.0, (grew.0, grew.1, refl), grew.2 ∙ ap (λ (w : List ℕ). w ++ grew.0) (run.written tells_so) ∙ append_assoc old.sink.written (trace (journal run.happened)) grew.0);
    }

-- one line more was taken
pub taken_more : (lines : List Line) (i : ℕ) (line : Line) → i < length lines → line ≡ get_or lines i line → map plain_line (take (i + 1) lines) ≡ map plain_line (take i lines) ++ plain_line line ∷ []
taken_more lines i line within is = rw (take_more lines i line within, ← is, map-append) refl

-- the lines taken, this one, and those behind it are all
pub taken_apart : (lines : List Line) (i : ℕ) (line : Line) → i < length lines → line ≡ get_or lines i line → map plain_line (take i lines) ++ plain_line line ∷ map plain_line (drop (i + 1) lines) ≡ map plain_line lines
taken_apart lines i line within is =
    let front : map plain_line (take (i + 1) lines) ++ map plain_line (drop (i + 1) lines) ≡ map plain_line lines =
    sym (map-append plain_line (take (i + 1) lines) (drop (i + 1) lines)) ∙ ap (map plain_line) (take-append-drop (i + 1) lines) in
    sym (append_assoc (map plain_line (take i lines)) (plain_line line ∷ []) (map plain_line (drop (i + 1) lines)))
    ∙ ap (λ (l : List ScriptLine). l ++ map plain_line (drop (i + 1) lines)) (sym (taken_more lines i line within is)) ∙ front

pub ran_taken : (opening : FullRecord) (start old new : Scene) (log_0 log log_now : List Ask) (lines : List Line) (i : ℕ) (line : Line) (first before now : SinkSeen) → i < length lines → line ≡ get_or lines i line → before.tells ≡ first.tells
    → IsRunSoFar opening start old log_0 log (map plain_line (take i lines)) first before → DidLine old new log log_now (plain_line line) before now → Keeps old new (plain_line line) → IsRunSoFar opening start new log_0 log_now (map plain_line (take (i + 1) lines)) first now
ran_taken opening start old new log_0 log log_now lines i line first before now within is tells run did keeps =
    subst (λ (l : List ScriptLine). IsRunSoFar opening start new log_0 log_now l first now) (sym (taken_more lines i line within is))
    (ran_more opening start old new log_0 log log_now (map plain_line (take i lines)) (plain_line line) first before now tells run did keeps)

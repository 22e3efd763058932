-- What the run of a script ended in, and what it did: for the commands that read an image and a script,
-- and then perhaps more.
use Rattle.std.proofs.Common.{◌≡◌, ℕ, ◌+◌, ◌^◌, ◌<◌, ◌≤◌, IsTrue, List, [], ◌∷◌, ◌++◌, length, length-append, Option, Some, Ok, refl, sym, ap, ◌∙◌, subst, arith}
use Rattle.std.specs.Prelude.{IsSome}
use Rattle.eid_base.specs.declared.codes.RunError.{RunError}
use Rattle.eid_base.specs.declared.codes.RunError.TheVariants as run
use Rattle.eid_base.specs.Faults.{Rose}
use Rattle.eid_base.specs.Seen.{FolderSeen, SinkSeen, SameFiles, SameOthers}
use Rattle.eid_record.specs.Plain.{FullRecord}
use Rattle.eid_store.specs.Stands.{stands}
use Rattle.eid_copro.specs.Model.{model_answer}
use Rattle.eid_copro.specs.Script.{script_answer}
use Rattle.eid_copro.specs.Told.{Source, Told, Listed, KeepsTo}
use Rattle.eid_copro.specs.declared.ask.Answer.{Answer}
use Rattle.eid_copro.specs.declared.ask.Ask.{Ask}
use Rattle.eid_copro.specs.Seen.{CoproSeen}
use Rattle.eid_cells.specs.Device.{Device}
use Rattle.eid_model.specs.Moments.{asked}
use Rattle.eid_model.specs.Ledger.{kept, pending, MayHold}
use Rattle.eid_script.specs.Scripts.{ScriptLine}
use Rattle.eid_step.specs.Effects.{LineEffect, line_of}
use Rattle.eid_run.specs.Runs.{lines_of, journal, outside, resting, DidLines, DidSomeLines}
use Rattle.eid_run.specs.Talk.{HasSource}
use Rattle.eid_run.proofs.Meeting.{answers_from}
use Rattle.eid_inputs.specs.declared.exit.Exit.{Exit}
use Rattle.eid_inputs.specs.declared.exit.Exit.TheVariants.{Done}
use Rattle.eid.specs.Commands.{Command, Run, Replay}
use Rattle.eid_inputs.specs.Storing.{IsStored}
use Rattle.eid_inputs.specs.Exits.{exit_broken}
use Rattle.eid_inputs.specs.Images.{record_of}
use Rattle.eid_inputs.specs.Inputs.{image_in, script_in, answers_in}
use Rattle.eid.specs.Expected.{unless_refused, expected}
use Rattle.eid_inputs.specs.Loads.{IsRefused}
use Rattle.eid.specs.Run.{Setup, IsGiven, RanWhole, RunFinished, RunBrokeOff, RunNotStored}
use Rattle.eid.specs.Ends.{IsEndOfRun}
use Rattle.eid.specs.Works.{Meets}
use Rattle.eid.proofs.Endings.{Concludes, after_breaking, after_storing}
use Rattle.eid_inputs.proofs.Reading.{image_of_cells, record_of_cells, record_long, some_of}
use Rattle.eid.proofs.Refusals.{same_twice, refused_later}

-- The command reads an image and then a script, and what it ends in where these are good.
pub record ReadsBoth (c : Command) (image script_name : List ℕ) (files : List ℕ → Option (List ℕ)) (rest : Exit) : Type 0 where
  pub is : expected c files ≡ unless_refused (image_in (files image)) (unless_refused (script_in (files script_name)) rest)

pub run_reads : (image script_name : List ℕ) (start : ℕ) (files : List ℕ → Option (List ℕ)) → ReadsBoth (Run image script_name start) image script_name files Done
unfolding expected
run_reads image script_name start files = record { is = refl }

pub replay_reads : (image script_name answers_name : List ℕ) (files : List ℕ → Option (List ℕ)) → ReadsBoth (Replay image script_name answers_name) image script_name files (unless_refused (answers_in (files answers_name)) Done)
unfolding expected
replay_reads image script_name answers_name files = record { is = refl }

expected_rest : (c : Command) (image script_name : List ℕ) (files : List ℕ → Option (List ℕ)) (rest : Exit) (opening : FullRecord) (lines : List ScriptLine) → ReadsBoth c image script_name files rest → image_in (files image) ≡ Ok opening → script_in (files script_name) ≡ Ok lines → expected c files ≡ rest
expected_rest c image script_name files rest opening lines reads stood is = rw (stood, is) at reads.is

-- an image that was read: cells that stand for a record
pub record Opened (image : List ℕ) (old middle : FolderSeen) (opening : FullRecord) (cells : List ℕ) : Type 0 where
  pub is_record : stands cells ≡ Some opening
  pub is_image : record_of cells ≡ Some opening
  pub stood : IsTrue old.tells → image_in (old.file image) ≡ Ok opening
  pub held : IsTrue old.tells → old.file image ≡ Some cells
  pub same : SameFiles old middle
  pub later : old.faults ≤ middle.faults

pub opened : (image : List ℕ) (old middle : FolderSeen) (cells : List ℕ) → (length cells ≡ 65536) × IsSome (stands cells) → (IsTrue old.tells → old.file image ≡ Some cells) → SameFiles old middle → old.faults ≤ middle.faults → (opening : FullRecord) × Opened image old middle opening cells
opened image old middle cells right held same later =
    let found = some_of (stands cells) right.1 in (
      found.0,
      record {
        is_record = found.1;
        is_image = record_of_cells cells found.0 right.0 found.1;
        stood = λ told. ap image_in (held told) ∙ image_of_cells cells found.0 right.0 found.1;
        held = held;
        same = same;
        later = later;
      },
    )

-- and another file was read after it
pub read_after : (image : List ℕ) (old middle new : FolderSeen) (opening : FullRecord) (cells : List ℕ) → Opened image old middle opening cells → SameFiles middle new → middle.faults ≤ new.faults → Opened image old new opening cells
read_after image old middle new opening cells o same later = record {
  is_record = o.is_record;
  is_image = o.is_image;
  stood = o.stood;
  held = o.held;
  same = same_twice old middle new o.same same;
  later = omega (arith, o.later, later);
}

-- the answers were refused
pub answers_refused : (image script_name answers_name : List ℕ) (old middle new : FolderSeen) (sink : SinkSeen) (opening : FullRecord) (cells : List ℕ) (lines : List ScriptLine) (e : Exit) → Opened image old middle opening cells → (IsTrue old.tells → script_in (old.file script_name) ≡ Ok lines) → SameFiles middle new → IsRefused middle.tells (answers_in (middle.file answers_name)) (Rose middle.faults new.faults) e → Meets (Replay image script_name answers_name) old new sink sink e
answers_refused image script_name answers_name old middle new sink opening cells lines e o read third refusal = refused_later (Replay image script_name answers_name) old middle new sink _ e o.same o.later third refusal
    (λ x told is. expected_rest (Replay image script_name answers_name) image script_name old.file _ opening lines (replay_reads image script_name answers_name old.file) (o.stood told) (read told) ∙ ap (λ r. unless_refused r Done) (rw (o.same.files told answers_name) at is))

-- the scripted coprocessor has its answers from its list
pub script_source : (answers : List Answer) (told : Told) → told ≡ Listed answers → HasSource told (script_answer answers)
script_source answers told is = λ log keeps. rw is at keeps

-- each line made one thing
lines_long : (happened : List LineEffect) → length (lines_of happened) ≡ length happened
lines_long [] = refl
lines_long (h ∷ before) =
    let size : length (lines_of before ++ line_of h ∷ []) ≡ length (lines_of before) + 1 = length-append (lines_of before) (line_of h ∷ []) in
    omega (arith, size, lines_long before)

-- the script ran to its end
pub ran_whole : (source : Source) (s : Setup) (copro copro_now : CoproSeen) (device : Device) (new_cells : List ℕ) (before now : SinkSeen) → HasSource copro.told source → copro.log ≡ [] → KeepsTo copro_now.told copro_now.log → length s.lines < 2 ^ 64
    → DidLines s.opening s.lines (outside resting s.cells copro before) (outside device new_cells copro_now now) → now.tells ≡ before.tells → RanWhole source s new_cells before now
ran_whole source s copro copro_now device new_cells before now has unasked keeps few did tells = record {
  copro = copro;
  unasked = unasked;
  copro_now = copro_now;
  device = device;
  did = did;
  strikes = did.ran.strikes refl refl (omega (arith, few, lines_long did.happened, ap (λ (l : List ScriptLine). length l) did.carried));
  told = answers_from source copro.told copro_now.told copro_now.log (journal did.happened) has did.ran.told keeps (did.ran.logged ∙ ap (λ (l : List Ask). l ++ asked (journal did.happened)) unasked);
  tells = tells;
}

-- the run broke off
pub broke_off : (image : List ℕ) (source : Source) (s : Setup) (old folder : FolderSeen) (copro copro_now : CoproSeen) (device : Device) (cells : List ℕ) (before now : SinkSeen) (error : RunError) → SameFiles old folder → HasSource copro.told source → copro.log ≡ [] → KeepsTo copro_now.told copro_now.log → length s.lines < 2 ^ 64
    → DidSomeLines s.opening s.lines (outside resting s.cells copro before) (outside device cells copro_now now) → now.tells ≡ before.tells → (error ≡ run.SinkFault → Rose before.faults now.faults) → IsEndOfRun image source s old folder folder before now (exit_broken error)
broke_off image source s old folder copro copro_now device cells before now error same has unasked keeps few did tells rose = after_breaking (RunFinished image source s old folder before now) (RunBrokeOff source s old folder before now) (RunNotStored image source s old folder before now) (Rose folder.faults folder.faults) (Rose before.faults now.faults) error end rose
  where
    end : RunBrokeOff source s old folder before now
    end = record {
      copro = copro;
      unasked = unasked;
      copro_now = copro_now;
      device = device;
      cells = cells;
      did = did;
      strikes = did.ran.strikes refl refl (omega (arith, few, lines_long did.happened, ap (λ (l : List ScriptLine). length l) did.carried.1, length-append (lines_of did.happened) did.carried.0));
      told = answers_from source copro.told copro_now.told copro_now.log (journal did.happened) has did.ran.told keeps (did.ran.logged ∙ ap (λ (l : List Ask). l ++ asked (journal did.happened)) unasked);
      tells = tells;
      files = same;
    }

-- all was done
pub all_done : (image : List ℕ) (source : Source) (s : Setup) (old new : FolderSeen) (before now : SinkSeen) (new_cells : List ℕ) → RanWhole source s new_cells before now → length new_cells ≡ 65536 → (IsTrue old.tells → new.file image ≡ Some new_cells) → SameOthers image old new → RunFinished image source s old new before now
all_done image source s old new before now new_cells ran long stored others = record {
  new_cells = new_cells;
  ran = ran;
  steady = λ plain. ran.did.ran.unplanned refl refl plain;
  only = λ steady. ran.did.ran.only source ran.told steady;
  stored = stored;
  stands = subst (λ (o : Option FullRecord). MayHold (pending s.opening (journal ran.did.happened)) (kept s.opening (journal ran.did.happened)) o) (sym (record_long new_cells long)) ran.did.ran.cells;
  layout = ran.did.ran.layout;
  others = others;
}

-- the script ran to its end, and then the image was stored or not
pub ran_and_stored : (image : List ℕ) (source : Source) (s : Setup) (old middle new : FolderSeen) (before now : SinkSeen) (new_cells : List ℕ) (e : Exit) → SameFiles old middle → RanWhole source s new_cells before now → length new_cells ≡ 65536 → IsStored image new_cells middle new e → IsEndOfRun image source s old middle new before now e
ran_and_stored image source s old middle new before now new_cells e same ran long stored = after_storing (RunFinished image source s old new before now) (RunBrokeOff source s old new before now) (RunNotStored image source s old new before now) (Rose before.faults now.faults) image new_cells old middle new e same
    (λ whole others. all_done image source s old new before now new_cells ran long whole others)
    (λ left. record { new_cells = new_cells; ran = ran; left = left.0; others = left.1 })
    stored

-- what each command does by the end of its run
abbrev pub ConcludesRun : (c : Command) (image : List ℕ) (source : Source) (s : Setup) (old new : FolderSeen) (before now : SinkSeen) → Type 0
ConcludesRun c image source s old new before now = Concludes c (RunFinished image source s old new before now) (RunBrokeOff source s old new before now) (RunNotStored image source s old new before now) old new before now

pub run_ends : (image script_name : List ℕ) (start : ℕ) (s : Setup) (old new : FolderSeen) (before now : SinkSeen) → IsGiven image script_name old s → ConcludesRun (Run image script_name start) image (model_answer start) s old new before now
run_ends image script_name start s old new before now given = record {
  due = λ told. expected_rest (Run image script_name start) image script_name old.file _ s.opening s.lines (run_reads image script_name start old.file) (given.stood told) (given.read told);
  all = λ f. (s, given, f);
  part = λ b. (s, given, b);
  unstored = λ n. (s, given, n);
}

pub replay_ends : (image script_name answers_name : List ℕ) (s : Setup) (answers : List Answer) (old new : FolderSeen) (before now : SinkSeen) → IsGiven image script_name old s → (IsTrue old.tells → answers_in (old.file answers_name) ≡ Ok answers) → ConcludesRun (Replay image script_name answers_name) image (script_answer answers) s old new before now
replay_ends image script_name answers_name s answers old new before now given listed = record {
  due = λ told. expected_rest (Replay image script_name answers_name) image script_name old.file _ s.opening s.lines (replay_reads image script_name answers_name old.file) (given.stood told) (given.read told) ∙ ap (λ r. unless_refused r Done) (listed told);
  all = λ f. (s, given, (answers, listed, f));
  part = λ b. (s, given, (answers, listed, b));
  unstored = λ n. (s, given, (answers, listed, n));
}

-- what was read of a folder with the same files
pub answers_back : (old middle : FolderSeen) (name : List ℕ) (answers : List Answer) → SameFiles old middle → (IsTrue middle.tells → answers_in (middle.file name) ≡ Ok answers) → IsTrue old.tells → answers_in (old.file name) ≡ Ok answers
answers_back old middle name answers same read = λ told. rw (same.files told name) at (read (rw same.tells told))

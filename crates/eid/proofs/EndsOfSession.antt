-- What the session of a terminal with a chip ended in, and what it did.
use Rattle.std.proofs.Common.{◌≡◌, ℕ, ◌≤◌, IsTrue, List, [], ◌++◌, length, Option, Some, Ok, refl, ap, ◌∙◌, subst}
use Rattle.eid_base.specs.declared.codes.RunError.{RunError}
use Rattle.eid_base.specs.declared.codes.RunError.TheVariants as run
use Rattle.eid_base.specs.Faults.{Rose}
use Rattle.eid_base.specs.Seen.{FolderSeen, SinkSeen, SameFiles, SameOthers}
use Rattle.eid_cells.specs.Device.{Device}
use Rattle.eid_copro.specs.declared.ask.Ask.{Ask}
use Rattle.eid_copro.specs.Model.{model_answer}
use Rattle.eid_copro.specs.Told.{KeepsTo}
use Rattle.eid_model.proofs.Journals.{nothing_pending}
use Rattle.eid_model.specs.Ledger.{kept, MayHold}
use Rattle.eid_model.specs.Moments.{asked}
use Rattle.eid_record.specs.Plain.{FullRecord, PlainEffect}
use Rattle.eid_run.specs.Meetings.{Coprocessors, Meeting, MetWhole, inverted}
use Rattle.eid_run.specs.Runs.{journal, outside, resting}
use Rattle.eid_run.specs.Sessions.{DidPartOfSession}
use Rattle.eid_run.specs.Talk.{HasSource}
use Rattle.eid_run.proofs.Meeting.{answers_from, asks_from, of_session}
use Rattle.eid_run.proofs.Promising.{met_promised}
use Rattle.eid_store.specs.Stands.{stands}
use Rattle.eid_store.proofs.Laws.{complete}
use Rattle.eid_terminal.specs.Plans.{HasSizes, IsFit, PlainPlan}
use Rattle.eid_inputs.specs.declared.exit.Exit.{Exit}
use Rattle.eid_inputs.specs.declared.exit.Exit.TheVariants.{Done}
use Rattle.eid.specs.Commands.{Session}
use Rattle.eid.specs.Ends.{IsEndOfSession}
use Rattle.eid_inputs.specs.Storing.{IsStored}
use Rattle.eid_inputs.specs.Exits.{exit_broken}
use Rattle.eid_inputs.specs.Inputs.{image_in, plan_in}
use Rattle.eid.specs.Expected.{expected, unless_refused}
use Rattle.eid.specs.Session.{IsMeeting, SessionBrokeOff, SessionFinished, SessionNotStored}
use Rattle.eid.specs.Works.{Meets}
use Rattle.eid.proofs.Endings.{after_breaking, after_storing, meets_by_end}
use Rattle.eid_inputs.proofs.Reading.{record_long}

-- what it ends in, by its inputs
pub session_reads : (image terminal : List ℕ) (start : ℕ) (files : List ℕ → Option (List ℕ)) → expected (Session image terminal start) files ≡ unless_refused (image_in (files image)) (unless_refused (plan_in (files terminal)) Done)
unfolding expected
session_reads image terminal start files = refl

expected_done : (image terminal : List ℕ) (start : ℕ) (files : List ℕ → Option (List ℕ)) (opening : FullRecord) (plan : PlainPlan) → image_in (files image) ≡ Ok opening → plan_in (files terminal) ≡ Ok plan → expected (Session image terminal start) files ≡ Done
unfolding expected
expected_done image terminal start files opening plan stood is = rw (stood, is) refl

-- ---- the ends

-- the session broke off
pub broke_off : (image : List ℕ) (start : ℕ) (s : Meeting) (old folder : FolderSeen) (copros : Coprocessors) (device : Device) (cells : List ℕ) (before now : SinkSeen) (error : RunError) → SameFiles old folder → HasSource copros.chip.told (model_answer start) → HasSource copros.terminal.told (model_answer (inverted start)) → copros.chip.log ≡ [] → copros.terminal.log ≡ [] → KeepsTo copros.chip_now.told copros.chip_now.log → KeepsTo copros.terminal_now.told copros.terminal_now.log
    → DidPartOfSession s.plan s.opening (outside resting s.cells copros.chip before) (outside device cells copros.chip_now now) copros.terminal copros.terminal_now → now.tells ≡ before.tells → (error ≡ run.SinkFault → Rose before.faults now.faults) → IsEndOfSession image start s old folder folder before now (exit_broken error)
broke_off image start s old folder copros device cells before now error same chip_has terminal_has chip_unasked terminal_unasked chip_keeps terminal_keeps did tells rose = after_breaking (SessionFinished image start s old folder before now) (SessionBrokeOff start s old folder before now) (SessionNotStored image start s old folder before now) (Rose folder.faults folder.faults) (Rose before.faults now.faults) error end rose
  where
    end : SessionBrokeOff start s old folder before now
    end = let talk = did.conversed in record {
      copros = copros;
      chip_unasked = chip_unasked;
      terminal_unasked = terminal_unasked;
      device = device;
      cells = cells;
      did = did;
      chip_told = answers_from (model_answer start) copros.chip.told copros.chip_now.told copros.chip_now.log (journal talk.happened) chip_has talk.ran.told chip_keeps (talk.ran.logged ∙ ap (λ (l : List Ask). l ++ asked (journal talk.happened)) chip_unasked);
      terminal_told = asks_from (model_answer (inverted start)) copros.terminal.told copros.terminal_now.told copros.terminal_now.log talk.asks terminal_has talk.same_told terminal_keeps (talk.logged ∙ ap (λ (l : List Ask). l ++ talk.asks) terminal_unasked);
      steady = talk.ran.unplanned refl refl (of_session talk.happened talk.undone _ talk.carried);
      tells = tells;
      files = same;
    }

-- all was done
pub all_done : (image : List ℕ) (start : ℕ) (s : Meeting) (old new : FolderSeen) (before now : SinkSeen) (new_cells : List ℕ) → MetWhole start s new_cells before now → IsFit s.plan → HasSizes s.plan → length s.cells ≡ 65536 → stands s.cells ≡ Some s.opening → length new_cells ≡ 65536 → (IsTrue old.tells → new.file image ≡ Some new_cells) → SameOthers image old new → SessionFinished image start s old new before now
all_done image start s old new before now new_cells met fit sizes size stood long stored others =
    let talk = met.did.conversed in record {
      new_cells = new_cells;
      met = met;
      only = talk.ran.only (model_answer start) met.chip_told met.steady;
      promised = met_promised start s new_cells before now met fit sizes (complete s.cells s.opening size stood).valid;
      stored = stored;
      stands = record_long new_cells long ∙ subst (λ (p : Option PlainEffect). MayHold p (kept s.opening (journal talk.happened)) (stands new_cells)) (nothing_pending s.opening (journal talk.happened) met.steady) talk.ran.cells;
      layout = talk.ran.layout;
      others = others;
    }

-- the session came to its end, and then the image was stored or not
pub met_and_stored : (image : List ℕ) (start : ℕ) (s : Meeting) (old middle new : FolderSeen) (before now : SinkSeen) (new_cells : List ℕ) (e : Exit) → SameFiles old middle → MetWhole start s new_cells before now → IsFit s.plan → HasSizes s.plan → length s.cells ≡ 65536 → stands s.cells ≡ Some s.opening → length new_cells ≡ 65536 → IsStored image new_cells middle new e → IsEndOfSession image start s old middle new before now e
met_and_stored image start s old middle new before now new_cells e same met fit sizes size stood long stored = after_storing (SessionFinished image start s old new before now) (SessionBrokeOff start s old new before now) (SessionNotStored image start s old new before now) (Rose before.faults now.faults) image new_cells old middle new e same
    (λ whole others. all_done image start s old new before now new_cells met fit sizes size stood long whole others)
    (λ left. record { new_cells = new_cells; met = met; left = left.0; others = left.1 })
    stored

-- the command meets what it promises, by how its session ended
pub session_meets : (image terminal : List ℕ) (start : ℕ) (s : Meeting) (old middle new : FolderSeen) (before now : SinkSeen) (e : Exit) → IsMeeting image terminal old s → old.faults ≤ middle.faults → IsEndOfSession image start s old middle new before now e → Meets (Session image terminal start) old new before now e
session_meets image terminal start s old middle new before now e given later end = meets_by_end (Session image terminal start) (SessionFinished image start s old new before now) (SessionBrokeOff start s old new before now) (SessionNotStored image start s old new before now) old new middle.faults before now e
    (record {
      due = λ told. expected_done image terminal start old.file s.opening s.plan (given.stood told) (given.read told);
      all = λ f. (s, given, f);
      part = λ b. (s, given, b);
      unstored = λ n. (s, given, n);
    })
    later
    end

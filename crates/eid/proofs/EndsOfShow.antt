-- What the showing of an image ended in, and what it did.
use Rattle.std.proofs.Common.{◌≡◌, ◌≢◌, ℕ, IsTrue, List, length, slice_index, Option, Some, Ok, Err, refl, inl, inr}
use Rattle.std.specs.Prelude.{IsSome}
use Rattle.eid_base.specs.declared.outside.IoError.{IoError}
use Rattle.eid_base.specs.declared.outside.IoError.TheVariants as io
use Rattle.eid_base.specs.Faults.{Rose}
use Rattle.eid_base.specs.Seen.{FolderSeen, SinkSeen, SameFiles, Grew, GrewByPart}
use Rattle.eid_record.specs.Plain.{FullRecord}
use Rattle.eid_store.specs.Stands.{stands}
use Rattle.eid_perso.specs.Show.{shown}
use Rattle.eid_inputs.specs.declared.exit.Exit.{Exit}
use Rattle.eid_inputs.specs.declared.exit.Exit.TheVariants.{Done}
use Rattle.eid.specs.Commands.{Show}
use Rattle.eid_inputs.specs.Exits.{exit_not_printed}
use Rattle.eid_inputs.specs.Inputs.{image_in}
use Rattle.eid.specs.Expected.{expected}
use Rattle.eid_inputs.specs.Loads.{IsRefused}
use Rattle.eid.specs.Show.{IsTextOf, ShowBrokeOff}
use Rattle.eid.specs.Works.{Meets}
use Rattle.eid_inputs.proofs.Reading.{image_read, record_of_cells, some_of}
use Rattle.eid.proofs.Refusals.{refused}

expected_image : (image_name : List ℕ) (files : List ℕ → Option (List ℕ)) (x : Exit) → image_in (files image_name) ≡ Err x → expected (Show image_name) files ≡ x
unfolding expected
expected_image image_name files x is = rw is refl

expected_shown : (image_name : List ℕ) (files : List ℕ → Option (List ℕ)) (full : FullRecord) → image_in (files image_name) ≡ Ok full → expected (Show image_name) files ≡ Done
unfolding expected
expected_shown image_name files full is = rw is refl

-- the image was refused
pub image_refused : (image_name : List ℕ) (old new : FolderSeen) (sink : SinkSeen) (e : Exit) → SameFiles old new → IsRefused old.tells (image_in (old.file image_name)) (Rose old.faults new.faults) e → Meets (Show image_name) old new sink sink e
image_refused image_name old new sink e same refusal = refused (Show image_name) old new sink _ e same refusal (λ x is. expected_image image_name old.file x is)

-- the text that shows the image
pub text_is : (image_name : List ℕ) (old : FolderSeen) (cells text : List ℕ) → (length cells ≡ 65536) × IsSome (stands cells) → (IsTrue old.tells → old.file image_name ≡ Some cells) → ((full : FullRecord) → stands cells ≡ Some full → text ≡ shown (slice_index cells 0) full.fields) → IsTextOf image_name old text
text_is image_name old cells text right held shows =
    let found = some_of (stands cells) right.1 in
    record { cells = cells; full = found.0; held = held; stands = record_of_cells cells found.0 right.0 found.1; is = shows found.0 found.1 }

-- the text was printed
pub show_done : (image_name : List ℕ) (old new : FolderSeen) (before now : SinkSeen) (text : List ℕ) → IsTextOf image_name old text → SameFiles old new → now.tells ≡ before.tells → (IsTrue before.tells → Grew before.written now.written text) → Meets (Show image_name) old new before now Done
show_done image_name old new before now text is same tells written = record {
  reason = λ told. expected_shown image_name old.file is.full (image_read (old.file image_name) is.cells is.full (is.held told) is.stands);
  end = record { text = text; shows = is; files = same; tells = tells; written = written };
}

-- the printing broke off
pub show_broke_off : (image_name : List ℕ) (old new : FolderSeen) (before now : SinkSeen) (text : List ℕ) (error : IoError) → IsTextOf image_name old text → SameFiles old new → now.tells ≡ before.tells → (IsTrue before.tells → GrewByPart before.written now.written text) → error ≢ io.Absent → (error ≡ io.Fault → Rose before.faults now.faults) → Meets (Show image_name) old new before now (exit_not_printed error)
show_broke_off image_name old new before now text error is same tells written there rose = at error there rose
  where
    end : ShowBrokeOff image_name old new before now
    end = record { text = text; shows = is; files = same; tells = tells; written = written }

    at : (e : IoError) → e ≢ io.Absent → (e ≡ io.Fault → Rose before.faults now.faults) → Meets (Show image_name) old new before now (exit_not_printed e)
    at io.Absent there rose = absurd (there refl)
    at io.Fault there rose = record { reason = rose refl; end = end }
    at io.NoMemory there rose = record { reason = tt; end = inr (inl end) }

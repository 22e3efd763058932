-- What the making of an image ended in, and what it did.
use Rattle.std.proofs.Common.{◌≡◌, ℕ, ◌≤◌, IsTrue, List, length, Option, Some, Ok, Err, refl}
use Rattle.eid_base.specs.Faults.{Rose}
use Rattle.eid_base.specs.Seen.{FolderSeen, SinkSeen, SameFiles}
use Rattle.eid_store.specs.Stands.{stands}
use Rattle.eid_perso.specs.Config.{PlainConfig, full_record}
use Rattle.eid_perso.specs.Image.{image}
use Rattle.eid_inputs.specs.declared.exit.Exit.{Exit}
use Rattle.eid_inputs.specs.declared.exit.Exit.TheVariants.{Done}
use Rattle.eid.specs.Commands.{Make}
use Rattle.eid_inputs.specs.Storing.{IsStored}
use Rattle.eid_inputs.specs.Inputs.{config_in}
use Rattle.eid.specs.Expected.{expected}
use Rattle.eid_inputs.specs.Loads.{IsRefused}
use Rattle.eid.specs.Make.{IsImageOf, MakeFinished, MakeNotStored}
use Rattle.eid.specs.Works.{Meets}
use Rattle.eid.proofs.Endings.{after_storing, meets_by_end}
use Rattle.eid_inputs.proofs.Reading.{record_of_cells}
use Rattle.eid.proofs.Refusals.{wrote_nothing, refused}

expected_config : (config_name image_name : List ℕ) (files : List ℕ → Option (List ℕ)) (x : Exit) → config_in (files config_name) ≡ Err x → expected (Make config_name image_name) files ≡ x
unfolding expected
expected_config config_name image_name files x is = rw is refl

expected_made : (config_name image_name : List ℕ) (files : List ℕ → Option (List ℕ)) (config : PlainConfig) → config_in (files config_name) ≡ Ok config → expected (Make config_name image_name) files ≡ Done
unfolding expected
expected_made config_name image_name files config is = rw is refl

-- the configuration was refused
pub config_refused : (config_name image_name : List ℕ) (old new : FolderSeen) (sink : SinkSeen) (e : Exit) → SameFiles old new → IsRefused old.tells (config_in (old.file config_name)) (Rose old.faults new.faults) e → Meets (Make config_name image_name) old new sink sink e
config_refused config_name image_name old new sink e same refusal = refused (Make config_name image_name) old new sink _ e same refusal (λ x is. expected_config config_name image_name old.file x is)

-- the cells of the image that the configuration asks for
pub made : (config_name : List ℕ) (old : FolderSeen) (config : PlainConfig) (cells : List ℕ) → (IsTrue old.tells → config_in (old.file config_name) ≡ Ok config) → cells ≡ image config → length cells ≡ 65536 → stands cells ≡ Some (full_record config) → IsImageOf config_name old cells
made config_name old config cells read is long stood = record { config = config; read = read; is = is; stands = record_of_cells cells (full_record config) long stood }

-- what the command meets, by what came of storing the image
pub make_meets : (config_name image_name : List ℕ) (old middle new : FolderSeen) (sink : SinkSeen) (cells : List ℕ) (e : Exit) → IsImageOf config_name old cells → SameFiles old middle → old.faults ≤ middle.faults → IsStored image_name cells middle new e → Meets (Make config_name image_name) old new sink sink e
make_meets config_name image_name old middle new sink cells e is same later stored = meets_by_end (Make config_name image_name) (MakeFinished config_name image_name old new sink sink) ⊥ (MakeNotStored config_name image_name old new sink sink) old new middle.faults sink sink e
    (record { due = λ told. expected_made config_name image_name old.file is.config (is.read told); all = λ f. f; part = λ b. b; unstored = λ n. n })
    later
    (after_storing (MakeFinished config_name image_name old new sink sink) ⊥ (MakeNotStored config_name image_name old new sink sink) (Rose sink.faults sink.faults) image_name cells old middle new e same
    (λ whole others. record { cells = cells; made = is; silent = wrote_nothing sink; stored = whole; others = others })
    (λ left. record { cells = cells; made = is; silent = wrote_nothing sink; left = left.0; others = left.1 })
    stored)

-- What the making of a test certificate ended in, and what it did.
use Rattle.std.proofs.Common.{◌≡◌, ℕ, ◌≤◌, IsTrue, List, Option, Ok, Err, refl}
use Rattle.eid_base.specs.Faults.{Rose}
use Rattle.eid_base.specs.Seen.{FolderSeen, SinkSeen, SameFiles}
use Rattle.eid_cvc.specs.Certificates.{IsCertificate}
use Rattle.eid_cvc.specs.Writing.{certificate_with, written_certificate}
use Rattle.eid_perso.specs.Kit.{PlainKit}
use Rattle.eid_inputs.specs.declared.exit.Exit.{Exit}
use Rattle.eid_inputs.specs.declared.exit.Exit.TheVariants.{Done}
use Rattle.eid.specs.Commands.{Kit}
use Rattle.eid_inputs.specs.Storing.{IsStored}
use Rattle.eid_inputs.specs.Inputs.{kit_in}
use Rattle.eid.specs.Expected.{expected}
use Rattle.eid.specs.Kit.{IsCertificateOf, KitFinished, KitNotStored, kit_signature}
use Rattle.eid_inputs.specs.Loads.{IsRefused}
use Rattle.eid.specs.Works.{Meets}
use Rattle.eid.proofs.Endings.{after_storing, meets_by_end}
use Rattle.eid.proofs.Refusals.{wrote_nothing, refused}

expected_config : (config_name file_name : List ℕ) (files : List ℕ → Option (List ℕ)) (x : Exit) → kit_in (files config_name) ≡ Err x → expected (Kit config_name file_name) files ≡ x
unfolding expected
expected_config config_name file_name files x is = rw is refl

expected_made : (config_name file_name : List ℕ) (files : List ℕ → Option (List ℕ)) (kit : PlainKit) → kit_in (files config_name) ≡ Ok kit → expected (Kit config_name file_name) files ≡ Done
unfolding expected
expected_made config_name file_name files kit is = rw is refl

-- the configuration was refused
pub config_refused : (config_name file_name : List ℕ) (old new : FolderSeen) (sink : SinkSeen) (e : Exit) → SameFiles old new → IsRefused old.tells (kit_in (old.file config_name)) (Rose old.faults new.faults) e → Meets (Kit config_name file_name) old new sink sink e
config_refused config_name file_name old new sink e same refusal = refused (Kit config_name file_name) old new sink _ e same refusal (λ x is. expected_config config_name file_name old.file x is)

-- the certificate that the configuration asks for
pub made : (config_name : List ℕ) (old : FolderSeen) (kit : PlainKit) (bytes : List ℕ) → (IsTrue old.tells → kit_in (old.file config_name) ≡ Ok kit) → bytes ≡ written_certificate kit.body (kit_signature kit) → IsCertificate bytes (certificate_with kit.body (kit_signature kit)) → IsCertificateOf config_name old bytes
made config_name old kit bytes read is reads = record { kit = kit; read = read; is = is; reads = reads }

-- what the command meets, by what came of storing the certificate
pub kit_meets : (config_name file_name : List ℕ) (old middle new : FolderSeen) (sink : SinkSeen) (bytes : List ℕ) (e : Exit) → IsCertificateOf config_name old bytes → SameFiles old middle → old.faults ≤ middle.faults → IsStored file_name bytes middle new e → Meets (Kit config_name file_name) old new sink sink e
kit_meets config_name file_name old middle new sink bytes e is same later stored = meets_by_end (Kit config_name file_name) (KitFinished config_name file_name old new sink sink) ⊥ (KitNotStored config_name file_name old new sink sink) old new middle.faults sink sink e
    (record { due = λ told. expected_made config_name file_name old.file is.kit (is.read told); all = λ f. f; part = λ b. b; unstored = λ n. n })
    later
    (after_storing (KitFinished config_name file_name old new sink sink) ⊥ (KitNotStored config_name file_name old new sink sink) (Rose sink.faults sink.faults) file_name bytes old middle new e same
    (λ whole others. record { bytes = bytes; made = is; silent = wrote_nothing sink; stored = whole; others = others })
    (λ left. record { bytes = bytes; made = is; silent = wrote_nothing sink; left = left.0; others = left.1 })
    stored)

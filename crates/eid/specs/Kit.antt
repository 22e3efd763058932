-- What the making of a test certificate does. This project's own.
use Rattle.std.specs.Prelude.{◌≡◌, ℕ, IsTrue, List, Some, Ok}
use Rattle.sha2.specs.Sha256.{sha256}
use Rattle.eid_base.specs.Seen.{FolderSeen, SinkSeen, SameOthers, IsLeftBy}
use Rattle.eid_copro.specs.Model.{signature_of}
use Rattle.eid_copro.specs.Numbers.{public_of}
use Rattle.eid_cvc.specs.Certificates.{IsCertificate}
use Rattle.eid_cvc.specs.Writing.{certificate_with, written_body, written_certificate}
use Rattle.eid_perso.specs.Kit.{PlainKit}
use Rattle.eid_inputs.specs.Inputs.{kit_in}
use Rattle.eid.specs.Sinks.{WroteNothing}

-- the signature of the signer over the SHA-256 of the object 7F4E, as the model coprocessor gives it
abbrev pub kit_signature : PlainKit → List ℕ
kit_signature kit = signature_of (public_of kit.signer) (sha256 (written_body kit.body))

-- the certificate that a configuration asks for
pub record IsCertificateOf (config_name : List ℕ) (old : FolderSeen) (bytes : List ℕ) : Type 0 where
  pub kit : PlainKit
  pub read : IsTrue old.tells → kit_in (old.file config_name) ≡ Ok kit
  pub is : bytes ≡ written_certificate kit.body (kit_signature kit)
  pub reads : IsCertificate bytes (certificate_with kit.body (kit_signature kit))

-- the certificate was stored, no other name changed, and nothing was printed
pub record KitFinished (config_name file_name : List ℕ) (old new : FolderSeen) (before now : SinkSeen) : Type 0 where
  pub bytes : List ℕ
  pub made : IsCertificateOf config_name old bytes
  pub silent : WroteNothing before now
  pub stored : IsTrue old.tells → new.file file_name ≡ Some bytes
  pub others : SameOthers file_name old new

-- the certificate was made, and not stored: its file is absent, old, or a front of the bytes
pub record KitNotStored (config_name file_name : List ℕ) (old new : FolderSeen) (before now : SinkSeen) : Type 0 where
  pub bytes : List ℕ
  pub made : IsCertificateOf config_name old bytes
  pub silent : WroteNothing before now
  pub left : IsTrue old.tells → IsLeftBy (old.file file_name) (new.file file_name) bytes
  pub others : SameOthers file_name old new

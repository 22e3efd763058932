-- What comes of the issuing of a test certificate. This project's own.
use Rattle.std.specs.Prelude.{◌≡◌, ℕ, List, Result, Ok, Err}
use Rattle.std.specs.declared.alloc.Global.{Global}
use Rattle.std.specs.Prelude.{Vec}
use Rattle.eid_copro.specs.Asked.{Asked}
use Rattle.eid_copro.specs.Seen.{CoproSeen}
use Rattle.eid_copro.specs.declared.ask.Answer.TheVariants as answers
use Rattle.eid_cvc.specs.Certificates.{IsCertificate}
use Rattle.eid_cvc.specs.Writing.{certificate_with, written_certificate}
use Rattle.eid_perso.specs.declared.kit.KitError.{KitError}
use Rattle.eid_perso.specs.declared.kit.KitError.TheVariants.{Fault, NoMemory}
use Rattle.eid_perso.specs.Kit.{PlainKit, kit_question}

-- the coprocessor was asked for the signature alone, and the bytes are the certificate with it, which is read again
pub record IsIssued (k : PlainKit) (old new : CoproSeen) (bytes : List ℕ) : Type 0 where
  pub signature : List ℕ
  pub asked : Asked old new (kit_question k) (answers.Signed signature)
  pub is : bytes ≡ written_certificate k.body signature
  pub reads : IsCertificate bytes (certificate_with k.body signature)

-- by what the call answered: the certificate, a fault where the signature was answered by one, or that memory for the
-- certificate was wanting
abbrev pub IsKit : PlainKit → CoproSeen → CoproSeen → Result (Vec ℕ Global) KitError → Type 0
IsKit k old new (Ok bytes) = IsIssued k old new bytes.items
IsKit k old new (Err Fault) = Asked old new (kit_question k) answers.Fault
IsKit k old new (Err NoMemory) = (signature : List ℕ) × Asked old new (kit_question k) (answers.Signed signature)

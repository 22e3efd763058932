-- The certificates of the generated sessions.
use Rattle.std.proofs.Common.{◌≡◌, ℕ, ◌+◌, List, length, Option, Some, Result, Ok, Err, refl, ap, ◌∙◌, subst, arith, length-append}
use Rattle.std.specs.Prelude.{IfOk, IsSome, Vec}
use Rattle.std.specs.declared.alloc.Global.{Global}
use Rattle.sha2.specs.Sha256.{sha256}
use Rattle.eid_copro.specs.Asked.{Asked}
use Rattle.eid_copro.specs.Model.{answer_with, signature_of}
use Rattle.eid_copro.specs.Numbers.{public_of}
use Rattle.eid_copro.specs.Seen.{CoproSeen}
use Rattle.eid_copro.specs.Told.{Told, Start, IsAsTold}
use Rattle.eid_copro.specs.declared.ask.Answer.TheVariants as answers
use Rattle.eid_cvc.specs.CertificateIn.{certificate_in}
use Rattle.eid_cvc.specs.Certificates.{IsCertificate, PlainBody, PlainCertificate}
use Rattle.eid_cvc.specs.Writing.{certificate_with, written_body, written_certificate}
use Rattle.eid_cvc.proofs.CertificateFacts.{certificate_in-exact}
use Rattle.eid_cvc.proofs.Sizes.{body_size, two_bytes}
use Rattle.eid_tlv.specs.Objects.{object}
use Rattle.eid_perso.specs.declared.kit.KitError.{KitError}
use Rattle.eid_perso.specs.declared.kit.KitError.TheVariants.{Fault, NoMemory}
use Rattle.eid_perso.specs.Issuing.{IsKit}
use Rattle.eid_perso.specs.Kit.{PlainKit, kit_question}
use Rattle.eid_terminal.specs.Plans.{IsSendable}
use Rattle.eid_workload.specs.Generated.{certificate_of}

-- ---- the signature that the model gives

one_signature : (s t : List ℕ) → answers.Signed s ≡ answers.Signed t → s ≡ t
one_signature s t same = cc

signed : (kit : PlainKit) (old new : CoproSeen) (signature : List ℕ) → old.told ≡ Start 0 → Asked old new (kit_question kit) (answers.Signed signature)
    → signature ≡ signature_of (public_of kit.signer) (sha256 (written_body kit.body))
unfolding answer_with
signed kit old new signature told asked =
    one_signature _ _ (subst (λ (t : Told). IsAsTold t old.log (kit_question kit) (answers.Signed signature)) told asked.as_told)

pub bytes_are : (r : Result (Vec ℕ Global) KitError) (kit : PlainKit) (old new : CoproSeen) → old.told ≡ Start 0 → IsKit kit old new r
    → IfOk r (λ bytes. bytes.items ≡ certificate_of kit)
unfolding certificate_of
bytes_are (Ok bytes) kit old new told is = is.is ∙ ap (written_certificate kit.body) (signed kit old new is.signature told is.asked)
bytes_are (Err Fault) kit old new told is = tt
bytes_are (Err NoMemory) kit old new told is = tt

-- ---- a certificate that is written can be sent

found : (o : Option PlainCertificate) (c : PlainCertificate) → o ≡ Some c → IsSome o
found o c is = rw is refl

sendable : (bytes : List ℕ) (b : PlainBody) (signature : List ℕ) → IsCertificate bytes (certificate_with b signature) → IsSendable bytes
sendable bytes b signature is =
    let size : length bytes ≡ length (written_body b) + length (object 0x5F37 signature) = ap length is.spelled ∙ length-append (written_body b) (object 0x5F37 signature) in
    let body = body_size b is.valid in
    let signed_size = two_bytes 0x5F37 signature 64 (omega (arith, is.signature)) (omega arith) in
    record {
      short = omega (arith, size, body, signed_size);
      reads = found (certificate_in bytes) (certificate_with b signature) ((certificate_in-exact bytes (certificate_with b signature)).1 is);
    }

pub is_sendable : (r : Result (Vec ℕ Global) KitError) (kit : PlainKit) (old new : CoproSeen) → IsKit kit old new r → IfOk r (λ bytes. IsSendable bytes.items)
is_sendable (Ok bytes) kit old new is = sendable bytes.items kit.body is.signature is.reads
is_sendable (Err Fault) kit old new is = tt
is_sendable (Err NoMemory) kit old new is = tt

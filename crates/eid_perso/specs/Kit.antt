-- Test certificates: what their configuration says, and how they are signed. This project's own.
use Rattle.std.specs.Prelude.{ℕ, List}
use Rattle.sha2.specs.Sha256.{sha256}
use Rattle.eid_copro.specs.declared.ask.Question.{Question}
use Rattle.eid_copro.specs.declared.ask.Question.TheVariants as questions
use Rattle.eid_cvc.specs.Certificates.{PlainBody}
use Rattle.eid_cvc.specs.View.{body_view}
use Rattle.eid_cvc.specs.Writing.{written_body}
use Rattle.eid_perso.specs.declared.kit.KitPlan.{KitPlan}

-- what the certificate says, and the secret that signs it
pub record PlainKit : Type 0 where
  pub body : PlainBody
  pub signer : List ℕ

abbrev pub kit_view : KitPlan → PlainKit
kit_view k = record { body = body_view k.body; signer = k.signer }

-- the signer signs the SHA-256 of the object 7F4E whole
abbrev pub kit_question : PlainKit → Question
kit_question k = questions.Sign k.signer (sha256 (written_body k.body))

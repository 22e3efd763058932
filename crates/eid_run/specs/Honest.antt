-- Honest plans: those that a chip with this record is sure to let through, where both sides have model coprocessors and these
-- find points. This project's own.
use Rattle.std.specs.Prelude.{◌≡◌, ℕ, ◌+◌, ◌≤◌, List, [], ◌∷◌, length, Option, Some, None, is_some, IfSome, IsSome, Ok}
use Rattle.sha2.specs.Sha256.{sha256}
use Rattle.eid_copro.specs.Model.{signature_of}
use Rattle.eid_copro.specs.Numbers.{public_of}
use Rattle.eid_cvc.specs.CertificateIn.{certificate_in}
use Rattle.eid_cvc.specs.Certificates.{PlainCertificate}
use Rattle.eid_cvc.specs.Chains.{PlainChain, PlainParty, no_chain}
use Rattle.eid_model.specs.Ledger.{all_committed}
use Rattle.eid_model.specs.Rules.{LAST_NUMBER, one_effect}
use Rattle.eid_password.specs.Passwords.{digits_of, start_refusal}
use Rattle.eid_record.specs.Plain.{FullRecord}
use Rattle.eid_terminal.specs.Authentication.{last_holder}
use Rattle.eid_terminal.specs.Plans.{PlainPlan}
use Rattle.eid_trust.specs.Trust.{PlainAccepted, accept_given}

-- The bytes are a certificate that the chip accepts behind these: its issuer's key is known, no rule refuses it, and its
-- signature is the one that the model coprocessor gives.
pub record IsAccepted (kept : FullRecord) (chain : PlainChain) (bytes : List ℕ) (accepted : PlainAccepted) : Type 0 where
  pub certificate : PlainCertificate
  pub reads : certificate_in bytes ≡ Some certificate
  pub given : accept_given kept.fields chain certificate.body.issuer certificate.body ≡ Ok accepted
  pub signed : certificate.signature ≡ signature_of accepted.key (sha256 certificate.whole)

-- one after the other, they are accepted; in the end this record is kept, and the chain is this
abbrev pub AreAccepted : FullRecord → PlainChain → List (List ℕ) → FullRecord → PlainChain → Type 0
AreAccepted kept chain [] kept_then chain_then = (kept_then ≡ kept) × (chain_then ≡ chain)
AreAccepted kept chain (bytes ∷ later) kept_then chain_then =
    (accepted : PlainAccepted) × (IsAccepted kept chain bytes accepted
    × AreAccepted (all_committed (one_effect accepted.advance) kept) accepted.chain later kept_then chain_then)

-- The holder gives a template; the certificates are accepted one after the other, and leave this chain. The last one is a
-- terminal's: the chain ends in the terminal of its name, whose key is that of the plan's secret. The plan has the chip's key.
pub record IsCertified (plan : PlainPlan) (kept : FullRecord) (chain : PlainChain) : Type 0 where
  pub template : IsSome plan.template
  pub kept_then : FullRecord
  pub accepted : AreAccepted kept no_chain plan.certificates kept_then chain
  pub terminal : PlainParty
  pub ends : chain.terminal ≡ Some terminal
  pub named : terminal.name ≡ last_holder plan.certificates
  pub terminal_key : terminal.key ≡ public_of plan.terminal_secret
  pub chip_key : plan.chip_key ≡ public_of kept.fields.ca_secret

-- where there are certificates they leave a chain, and else there is none
abbrev pub IsCertifiedBy : PlainPlan → FullRecord → List (List ℕ) → Option PlainChain → Type 0
IsCertifiedBy plan kept [] None = Unit {0}
IsCertifiedBy plan kept [] (Some chain) = ⊥
IsCertifiedBy plan kept (first ∷ later) None = ⊥
IsCertifiedBy plan kept (first ∷ later) (Some chain) = IsCertified plan kept chain

-- The digits are those of the record; a PACE with the password may begin, where one with the card access number comes
-- before it, or none; the certificates are right; and there is room for all commits.
pub record IsHonest (plan : PlainPlan) (kept : FullRecord) : Type 0 where
  pub can_first : IfSome plan.can_first (λ digits. digits ≡ kept.fields.can)
  pub value : plan.value ≡ digits_of kept.fields plan.password
  pub begins : start_refusal kept.fields plan.password (is_some plan.can_first) ≡ None
  pub chain : Option PlainChain
  pub certified : IsCertifiedBy plan kept plan.certificates chain
  pub room : kept.fields.number + 2 + length plan.certificates ≤ LAST_NUMBER

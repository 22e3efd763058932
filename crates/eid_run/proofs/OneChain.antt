-- The certificates of an honest plan leave one chain.
use Rattle.std.proofs.Common.{◌≡◌, ℕ, List, [], ◌∷◌, Option, Some, None, Ok, refl, sym, ap, ◌∙◌, subst}
use Rattle.std.proofs.lemmas.Option.{same_Some}
use Rattle.eid_cvc.specs.Certificates.{PlainCertificate}
use Rattle.eid_cvc.specs.Chains.{PlainChain, no_chain}
use Rattle.eid_model.specs.Ledger.{all_committed}
use Rattle.eid_model.specs.Rules.{one_effect}
use Rattle.eid_record.specs.Plain.{FullRecord}
use Rattle.eid_terminal.specs.Plans.{PlainPlan}
use Rattle.eid_trust.specs.Trust.{PlainAccepted, accept_given}
use Rattle.eid_run.specs.Honest.{AreAccepted, IsAccepted, IsCertifiedBy}

-- the bytes are accepted in one way
accepted_alike : (kept : FullRecord) (chain : PlainChain) (bytes : List ℕ) (one other : PlainAccepted) → IsAccepted kept chain bytes one → IsAccepted kept chain bytes other → one ≡ other
accepted_alike kept chain bytes one other p q =
    let same : p.certificate ≡ q.certificate = same_Some p.certificate q.certificate (sym p.reads ∙ q.reads) in
    let given : accept_given kept.fields chain p.certificate.body.issuer p.certificate.body ≡ Ok other =
    ap (λ (c : PlainCertificate). accept_given kept.fields chain c.body.issuer c.body) same ∙ q.given in
    let both : Ok one ≡ Ok other = sym p.given ∙ given in
    cc

chains_alike : (kept : FullRecord) (chain : PlainChain) (certificates : List (List ℕ)) (kept_then kept_too : FullRecord) (one other : PlainChain) → AreAccepted kept chain certificates kept_then one → AreAccepted kept chain certificates kept_too other → one ≡ other
chains_alike kept chain [] kept_then kept_too one other p q = p.1 ∙ sym q.1
chains_alike kept chain (bytes ∷ later) kept_then kept_too one other p q =
    let same : p.0 ≡ q.0 = accepted_alike kept chain bytes p.0 q.0 p.1.0 q.1.0 in
    chains_alike (all_committed (one_effect p.0.advance) kept) p.0.chain later kept_then kept_too one other p.1.1
    (subst (λ (a : PlainAccepted). AreAccepted (all_committed (one_effect a.advance) kept) a.chain later kept_too other) (sym same) q.1.1)

pub one_chain : (plan : PlainPlan) (kept : FullRecord) (certificates : List (List ℕ)) (one other : Option PlainChain) → IsCertifiedBy plan kept certificates one → IsCertifiedBy plan kept certificates other → one ≡ other
one_chain plan kept [] None None p q = refl
one_chain plan kept [] None (Some chain) p q = absurd q
one_chain plan kept [] (Some chain) other p q = absurd p
one_chain plan kept (first ∷ later) None other p q = absurd p
one_chain plan kept (first ∷ later) (Some chain) None p q = absurd q
one_chain plan kept (first ∷ later) (Some chain) (Some other) p q = ap Some (chains_alike kept no_chain plan.certificates p.kept_then q.kept_then chain other p.accepted q.accepted)

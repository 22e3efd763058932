-- The certificate chain of terminal authentication: who signs under a name, when a certificate is accepted, and what it
-- changes (BSI TR-03110-3).
use Rattle.std.specs.Prelude.{ℕ, Bool, true, false, ◌&&◌, ◌||◌, not, nat_le, nat_lt, List, [], ◌∷◌, Option, Some, None, option_map, Result, Ok, Err, if◌then◌else◌}
use Rattle.std.specs.Option.{option_or}
use Rattle.std.specs.Str.{bytes_eq}
use Rattle.eid_base.specs.Rules.{issuer_rule, role_rule, link_rule, expiry_rule}
use Rattle.eid_bits.specs.Date.{number_of}
use Rattle.eid_bits.specs.Rights.{role_of}
use Rattle.eid_bits.specs.declared.template.Role.{Role}
use Rattle.eid_bits.specs.declared.template.Role.TheVariants.{Cvca, Domestic, Foreign, Terminal}
use Rattle.eid_record.specs.Plain.{PlainTrustPoint, PlainRecord, PlainEffect, Advance}
use Rattle.eid_cvc.specs.Certificates.{PlainBody}
use Rattle.eid_cvc.specs.Chains.{PlainParty, PlainChain}

-- ---- who signs

-- Who is known under a name: a trust point, or the document verifier accepted last.
pub data Signer : Type 0 where
  OfPoint : (point : PlainTrustPoint) → Signer
  OfVerifier : (verifier : PlainParty) → Signer

-- the trust point, where it has this name
abbrev pub if_named : List ℕ → Option PlainTrustPoint → Option PlainTrustPoint
if_named name None = None
if_named name (Some point) = if bytes_eq point.name name then Some point else None

-- the trust point of this name, the current one before the previous
abbrev pub point_named : PlainRecord → List ℕ → Option PlainTrustPoint
point_named kept name = option_or (if_named name (Some kept.current)) (if_named name kept.previous)

-- the document verifier, where it has this name
abbrev pub verifier_named : Option PlainParty → List ℕ → Option PlainParty
verifier_named None name = None
verifier_named (Some verifier) name = if bytes_eq verifier.name name then Some verifier else None

-- a name is looked up among the trust points first
abbrev pub signer_of : PlainRecord → PlainChain → List ℕ → Option Signer
signer_of kept chain name =
    option_or (option_map OfPoint (point_named kept name)) (option_map OfVerifier (verifier_named chain.verifier name))

abbrev pub key_of : Signer → List ℕ
key_of (OfPoint point) = point.key
key_of (OfVerifier verifier) = verifier.key

-- ---- when a certificate is accepted, once its signature is right

-- a link certificate is one of a country verifying certification authority
abbrev pub is_link_role : Role → Bool
is_link_role Cvca = true
is_link_role Domestic = false
is_link_role Foreign = false
is_link_role Terminal = false

abbrev pub is_link : PlainBody → Bool
is_link c = is_link_role (role_of c.template)

abbrev pub is_verifier_role : Role → Bool
is_verifier_role Cvca = false
is_verifier_role Domestic = true
is_verifier_role Foreign = true
is_verifier_role Terminal = false

abbrev pub is_terminal_role : Role → Bool
is_terminal_role Cvca = false
is_terminal_role Domestic = false
is_terminal_role Foreign = false
is_terminal_role Terminal = true

abbrev pub is_issued_by : List ℕ → PlainBody → Bool
is_issued_by selected c = bytes_eq c.issuer selected

abbrev pub may_sign : Option Signer → Role → Bool
may_sign None role = false
may_sign (Some (OfPoint point)) role = is_link_role role || is_verifier_role role
may_sign (Some (OfVerifier verifier)) role = is_terminal_role role

abbrev pub is_of_current : PlainRecord → PlainBody → Bool
is_of_current kept c = bytes_eq kept.current.name c.issuer || bytes_eq kept.current.name c.holder

-- the last day of the certificate is not before the chip's date
abbrev pub is_in_date : PlainRecord → PlainBody → Bool
is_in_date kept c = nat_le (number_of kept.date) (number_of c.expiry)

-- the first rule that fails
abbrev pub refusal : PlainRecord → PlainChain → (selected : List ℕ) → PlainBody → Option ℕ
refusal kept chain selected c =
    if not (is_issued_by selected c) then Some issuer_rule
    else if not (may_sign (signer_of kept chain c.issuer) (role_of c.template)) then Some role_rule
    else if is_link c && not (is_of_current kept c) then Some link_rule
    else if not (is_link c) && not (is_in_date kept c) then Some expiry_rule
    else None

-- ---- what an accepted certificate changes

abbrev pub party_of : PlainBody → PlainParty
party_of c = record { name = c.holder; template = c.template; key = c.key }

-- no sector key is known
abbrev pub no_sectors : List (Option (List ℕ))
no_sectors = None ∷ None ∷ []

-- a document verifier begins a chain under its trust point, a terminal ends it, and a link leaves it as it is
abbrev pub chain_with : Role → PlainRecord → PlainChain → PlainBody → PlainChain
chain_with Cvca kept chain c = chain
chain_with Domestic kept chain c = record {
  root = option_map (λ point. point.template) (point_named kept c.issuer);
  verifier = Some (party_of c);
  terminal = None;
  sectors = no_sectors;
}
chain_with Foreign kept chain c = record {
  root = option_map (λ point. point.template) (point_named kept c.issuer);
  verifier = Some (party_of c);
  terminal = None;
  sectors = no_sectors;
}
chain_with Terminal kept chain c = record chain { terminal = Some (party_of c); sectors = c.sectors }

abbrev pub chain_after : PlainRecord → PlainChain → PlainBody → PlainChain
chain_after kept chain c = chain_with (role_of c.template) kept chain c

-- the document verifier is an official domestic one
abbrev pub is_domestic_role : Role → Bool
is_domestic_role Cvca = false
is_domestic_role Domestic = true
is_domestic_role Foreign = false
is_domestic_role Terminal = false

abbrev pub is_domestic : Option PlainParty → Bool
is_domestic None = false
is_domestic (Some verifier) = is_domestic_role (role_of verifier.template)

-- the certificate's effective date is trusted: that of a terminal only under an official domestic document verifier
abbrev pub tells_date : Role → PlainChain → Bool
tells_date Cvca chain = true
tells_date Domestic chain = true
tells_date Foreign chain = true
tells_date Terminal chain = is_domestic chain.verifier

-- of two dates the later one
abbrev pub later_date : List ℕ → List ℕ → List ℕ
later_date a b = if nat_lt (number_of a) (number_of b) then b else a

-- the chip's date becomes a later one
abbrev pub moves_date : PlainRecord → PlainChain → PlainBody → Bool
moves_date kept chain c = tells_date (role_of c.template) chain && nat_lt (number_of kept.date) (number_of c.effective)

-- a link to another name is a new trust point
abbrev pub moves_point : PlainRecord → PlainBody → Bool
moves_point kept c = is_link c && not (bytes_eq kept.current.name c.holder)

abbrev pub point_of : PlainBody → PlainTrustPoint
point_of c = record { name = c.holder; template = c.template; key = c.key }

-- what is committed: the date, the current trust point and the previous one, where one of them changes
abbrev pub advance : PlainRecord → PlainChain → PlainBody → Option PlainEffect
advance kept chain c =
    if moves_date kept chain c || moves_point kept c
    then Some (Advance
    (if moves_date kept chain c then c.effective else kept.date)
    (if moves_point kept c then point_of c else kept.current)
    (if moves_point kept c then Some kept.current else kept.previous))
    else None

-- ---- the whole

-- What follows from a certificate that is accepted: the signer's key, the chain after it, and what is committed.
pub record PlainAccepted : Type 0 where
  pub key : List ℕ
  pub chain : PlainChain
  pub advance : Option PlainEffect

-- the signer where no rule fails; without a signer the rule about roles is one that fails
abbrev pub judged_by : Option Signer → Option ℕ → Result Signer ℕ
judged_by None None = Err role_rule
judged_by None (Some rule) = Err rule
judged_by (Some signer) None = Ok signer
judged_by (Some signer) (Some rule) = Err rule

-- what follows where this signer signed it, or the rule that failed
abbrev pub accepted_by : Result Signer ℕ → PlainRecord → PlainChain → PlainBody → Result PlainAccepted ℕ
accepted_by (Err rule) kept chain c = Err rule
accepted_by (Ok signer) kept chain c =
    Ok (record { key = key_of signer; chain = chain_after kept chain c; advance = advance kept chain c })

-- what follows from the certificate, or the first rule that fails
abbrev pub accept_given : PlainRecord → PlainChain → (selected : List ℕ) → PlainBody → Result PlainAccepted ℕ
accept_given kept chain selected c =
    accepted_by (judged_by (signer_of kept chain c.issuer) (refusal kept chain selected c)) kept chain c

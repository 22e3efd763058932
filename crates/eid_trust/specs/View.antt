-- What contracts see of an accepted certificate, and of who signs.
use Rattle.std.specs.Prelude.{ℕ, option_map, Result, Ok, Err}
use Rattle.eid_base.specs.declared.codes.Rule.{Rule}
use Rattle.eid_cvc.specs.Chains.{party_view, chain_view}
use Rattle.eid_record.specs.EffectView.{effect_view}
use Rattle.eid_record.specs.View.{trust_point_view}
use Rattle.eid_trust.specs.Trust.{Signer, OfPoint, OfVerifier, PlainAccepted}
use Rattle.eid_trust.specs.declared.accepting.Accepted.{Accepted}
use Rattle.eid_trust.specs.declared.signing.Authority.{Authority}
use Rattle.eid_trust.specs.declared.signing.Authority.TheVariants.{Point, Verifier}

-- who signs
abbrev pub signer_view : Authority → Signer
signer_view (Point point) = OfPoint (trust_point_view point.now)
signer_view (Verifier verifier) = OfVerifier (party_view verifier.now)

abbrev pub accepted_view : Accepted → PlainAccepted
accepted_view a = record { key = a.key; chain = chain_view a.chain; advance = option_map effect_view a.advance }

-- what follows from the certificate, or the number of the rule
abbrev pub accepted : Result Accepted Rule → Result PlainAccepted ℕ
accepted (Ok a) = Ok (accepted_view a)
accepted (Err rule) = Err rule.0

-- the signer, or the number of the rule
abbrev pub judged : Result Authority Rule → Result Signer ℕ
judged (Ok signer) = Ok (signer_view signer)
judged (Err rule) = Err rule.0

-- What is committed can be committed: each trust point has a name, and a key that begins with 04.
use Rattle.std.proofs.Common.{◌≡◌, ℕ, Bool, true, false, cond, List, Option, Some, None, IfSome, ◌∙◌, ap, subst, sym, arith, ◌||◌}
use Rattle.std.specs.Option.{ForSome, option_map}
use Rattle.std.proofs.lemmas.Bool.Decides.{nat_tests}
use Rattle.std.proofs.lemmas.Option.{slice_get-get_or}
use Rattle.eid_cvc.specs.Certificates.{PlainBody, IsBody}
use Rattle.eid_cvc.specs.Chains.{PlainChain}
use Rattle.eid_record.specs.Effect.{IsNamed, CanApply}
use Rattle.eid_record.specs.EffectView.{effect_view}
use Rattle.eid_record.specs.Plain.{PlainTrustPoint, PlainRecord, PlainEffect, Advance}
use Rattle.eid_record.specs.Valid.{IsTrustPoint, IsValid}
use Rattle.eid_record.specs.declared.effect.Effect.{Effect}
use Rattle.eid_trust.specs.Trust.{point_of, moves_date, moves_point, advance}

-- a trust point of a valid record
named : (point : PlainTrustPoint) → IsTrustPoint point → IsNamed point
named point valid = record { named = grind (arith, nat_tests, valid.named); uncompressed = valid.uncompressed }

named_if : (point : Option PlainTrustPoint) → ForSome point IsTrustPoint → ForSome point IsNamed
named_if point valid x is = named x (valid x is)

named_some : (point : PlainTrustPoint) → IsTrustPoint point → ForSome (Some point) IsNamed
named_some point valid x is = let same : point ≡ x = cc in subst IsNamed same (named point valid)

-- the holder of a certificate
holder_named : (c : PlainBody) → IsBody c → IsNamed (point_of c)
holder_named c body = record {
  named = body.holder.0;
  uncompressed = slice_get-get_or c.key 0 0 (omega (arith, body.key.size)) ∙ ap Some body.key.form;
}

-- the points, by whether there is a new one
points_fit : (moves : Bool) (r : PlainRecord) (c : PlainBody) (date : List ℕ) → IsBody c → IsValid r
    → CanApply (Advance date (cond moves (point_of c) r.current) (cond moves (Some r.current) r.previous)) r
points_fit true r c date body valid = (holder_named c body, named_some r.current valid.current)
points_fit false r c date body valid = (named r.current valid.current, named_if r.previous valid.previous)

where_changed : (changes : Bool) (effect : PlainEffect) (r : PlainRecord) → CanApply effect r
    → IfSome (cond changes (Some effect) None) (λ e. CanApply e r)
where_changed true effect r fits = fits
where_changed false effect r fits = tt

advance_fits : (r : PlainRecord) (chain : PlainChain) (c : PlainBody) → IsBody c → IsValid r
    → IfSome (advance r chain c) (λ e. CanApply e r)
advance_fits r chain c body valid =
    where_changed (moves_date r chain c || moves_point r c) _ r
    (points_fit (moves_point r c) r c (cond (moves_date r chain c) c.effective r.date) body valid)

-- the same of the code's effect
pub effect_fits : (effect : Option Effect) (r : PlainRecord) (chain : PlainChain) (c : PlainBody)
    → option_map effect_view effect ≡ advance r chain c → IsBody c → IsValid r → IfSome effect (λ e. CanApply (effect_view e) r)
effect_fits None r chain c is body valid = tt
effect_fits (Some effect) r chain c is body valid =
    subst (λ (e : Option PlainEffect). IfSome e (λ e. CanApply e r)) (sym is) (advance_fits r chain c body valid)

-- How the course of a plan begins, and goes on behind PACE.
use Rattle.std.proofs.Common.{◌≡◌, ℕ, true, false, List, [], ◌∷◌, length, Option, Some, None, refl, ap, ◌∙◌, arith}
use Rattle.std.specs.Prelude.{◌==◌, map, Vec}
use Rattle.std.specs.declared.alloc.Global.{Global}
use Rattle.std.proofs.lemmas.Bool.Decides.{Decides-eqb}
use Rattle.eid_sm.specs.Keys.{ChannelState}
use Rattle.eid_terminal.specs.declared.state.Round.TheVariants as rounds
use Rattle.eid_terminal.specs.Authentication.{authenticate_chip, imports, select}
use Rattle.eid_terminal.specs.Exchanges.{exchange}
use Rattle.eid_terminal.specs.Pace.{pace}
use Rattle.eid_terminal.specs.Plans.{PlainPlan, certificate_bytes}
use Rattle.eid_terminal.specs.Requests.{requests}
use Rattle.eid_terminal.specs.Terminals.{behind_pace, can_terms, certified, course, terms_of, with_can, with_password}
use Rattle.eid_terminal.specs.View.{opened_after}
use Rattle.eid_terminal.proofs.Calm.{calm_pace}
use Rattle.eid_terminal.proofs.Coming.{fails}

pub none_there : (list : List (Vec ℕ Global)) → (length list == 0) ≡ true → map certificate_bytes list ≡ []
none_there [] h = refl
none_there (first ∷ rest) h = let e : length (first ∷ rest) ≡ 0 = (Decides-eqb (length (first ∷ rest)) 0).0 h in absurd (omega arith)

pub some_there : (list : List (Vec ℕ Global)) → (length list == 0) ≡ false → map certificate_bytes list ≡ [] → ⊥
some_there [] h e = cc
some_there (first ∷ rest) h e = cc

module _ (plan : PlainPlan) where
  pub password_comes : (channel : Option ChannelState) → with_password plan channel ≡ pace (terms_of plan) (opened_after plan rounds.Password) channel
  unfolding with_password
  password_comes channel = refl

  pub begins_with_can : (digits : List ℕ) → plan.can_first ≡ Some digits → course plan ≡ pace (can_terms digits) (opened_after plan rounds.Can) None
  unfolding course
  begins_with_can digits there = ap (with_can plan) there

  pub begins_with_password : plan.can_first ≡ None → course plan ≡ pace (terms_of plan) (opened_after plan rounds.Password) None
  unfolding course
  begins_with_password none = ap (with_can plan) none ∙ password_comes None

  pub without_certificates : (channel : Option ChannelState) (identity : List ℕ) → plan.certificates ≡ []
      → behind_pace plan channel identity ≡ requests plan 0 plan.requests channel
  unfolding behind_pace
  without_certificates channel identity none = ap (λ (certificates : List (List ℕ)). certified plan identity certificates channel) none

  pub with_certificates : (channel : Option ChannelState) (identity : List ℕ) → (plan.certificates ≡ [] → ⊥)
      → behind_pace plan channel identity ≡ imports plan identity plan.certificates channel
  unfolding behind_pace
  with_certificates channel identity some = by plan.certificates some where
    by : (certificates : List (List ℕ)) → (certificates ≡ [] → ⊥) → certified plan identity certificates channel ≡ imports plan identity certificates channel
    by [] some = absurd (some refl)
    by (certificate ∷ later) some = refl

  pub calm_password : (channel : Option ChannelState) → fails (with_password plan channel) ≡ false
  unfolding with_password
  calm_password channel = calm_pace (terms_of plan) (behind_pace plan) channel

  pub calm_start : fails (course plan) ≡ false
  unfolding course
  calm_start = by plan.can_first where
    by : (can : Option (List ℕ)) → fails (with_can plan can) ≡ false
    by None = calm_password None
    by (Some digits) = calm_pace (can_terms digits) (λ channel identity. with_password plan channel) None

pub calm_chip : (plan : PlainPlan) (secret point : List ℕ) (channel : Option ChannelState) → fails (authenticate_chip plan secret point channel) ≡ false
unfolding authenticate_chip exchange
calm_chip plan secret point channel = refl

pub calm_select : (plan : PlainPlan) (channel : Option ChannelState) → fails (select plan channel) ≡ false
unfolding select exchange
calm_select plan channel = refl

-- The rules of a moment that compared a token, and of one that was carried out: those before its proof hold.
use Rattle.std.proofs.Common.{◌≡◌, ℕ, zero, suc, Bool, true, false, ◌==◌, ◌&&◌, ◌||◌, not, List, [], ◌∷◌, ◌++◌, Option, Some, None, refl, sym, ap, ◌∙◌}
use Rattle.std.specs.Prelude.{IfSome, is_none, if◌then◌else◌}
use Rattle.std.specs.List.{list_all, slice_get}
use Rattle.std.proofs.lemmas.Bool.{and_parts, not-true}
use Rattle.eid_password.specs.Passwords.{has_try}
use Rattle.eid_model.specs.declared.kind.Kind.TheVariants.{EncryptedNonce, MutualAuthentication}
use Rattle.eid_model.specs.Bodies.{data_in}
use Rattle.eid_model.specs.Rules.{Situation, RuleRow, answer_rules, commit_rules, proof_rules, concerns, first_failed, starts_pin, is_token, to_commit}
use Rattle.eid_model.specs.Answers.{outcome, outcome_by, due, rules_before}

-- the number tells that nothing failed, or nothing but the proof
abbrev pub is_compared : ℕ → Bool
is_compared rule = rule == 0 || rule == 55

-- none of these rules has such a number
abbrev are_others : List RuleRow → Bool
are_others rows = list_all (λ row. not (is_compared row.number)) rows

-- these rules hold, and the first failed rule is of the others
abbrev ArePassed : List RuleRow → List RuleRow → Situation → Type 0
ArePassed rows more s = (first_failed rows s ≡ None) × (first_failed (rows ++ more) s ≡ first_failed more s)

passed_at : (b : Bool) (row : RuleRow) (rows more : List RuleRow) (s : Situation) → not (is_compared row.number) ≡ true
    → (is_compared (outcome_by (first_failed (rows ++ more) s) s).rule ≡ true → ArePassed rows more s)
    → is_compared (outcome_by (if b then Some row else first_failed (rows ++ more) s) s).rule ≡ true
    → ((if b then Some row else first_failed rows s) ≡ None) × ((if b then Some row else first_failed (rows ++ more) s) ≡ first_failed more s)
passed_at true row rows more s other later e = absurd (let no : is_compared row.number ≡ false = not-true (is_compared row.number) other in cc)
passed_at false row rows more s other later e = later e

passed : (rows more : List RuleRow) (s : Situation) → are_others rows ≡ true → is_compared (outcome_by (first_failed (rows ++ more) s) s).rule ≡ true
    → ArePassed rows more s
passed [] more s others e = (refl, refl)
passed (row ∷ rows) more s others e =
    let both = and_parts (not (is_compared row.number)) (are_others rows) others in
    passed_at (concerns row.kinds s.kind && not (row.holds s)) row rows more s both.0 (passed rows more s both.1) e

-- all rules but those on proofs
abbrev pub rules_unproved : List RuleRow
rules_unproved = rules_before ++ answer_rules ++ commit_rules

-- where nothing failed, or nothing but the proof, the other rules hold
pub unproved_hold : (s : Situation) → is_compared (outcome s).rule ≡ true
    → (first_failed rules_unproved s ≡ None) × ((outcome s).rule ≡ (outcome_by (first_failed proof_rules s) s).rule)
unfolding outcome
unproved_hold s e =
    let both = passed rules_unproved proof_rules s refl e in
    (both.0, ap (λ (o : Option RuleRow). (outcome_by o s).rule) both.1)

-- and all that the kind commits is due
pub compared_due : (s : Situation) → is_compared (outcome s).rule ≡ true → due s ≡ to_commit s.kind s
unfolding due
compared_due s e = ap (λ (o : Option RuleRow). if is_none o then to_commit s.kind s else []) (unproved_hold s e).0

-- a command that is refused for its token had a wrong one
wrong_at : (concerned right : Bool) (row : RuleRow) (s : Situation)
    → ((outcome_by (if concerned && not right then Some row else None) s).rule == 55) ≡ true → right ≡ false
wrong_at true true row s e = absurd (cc)
wrong_at true false row s e = refl
wrong_at false right row s e = absurd (cc)

pub token_wrong : (s : Situation) → is_compared (outcome s).rule ≡ true → ((outcome s).rule == 55) ≡ true
    → is_token (data_in s.command.body) s.state.phase ≡ false
token_wrong s e refused =
    let by_proof : ((outcome_by (first_failed proof_rules s) s).rule == 55) ≡ true = sym (ap (λ (n : ℕ). n == 55) (unproved_hold s e).1) ∙ refused in
    wrong_at (concerns (MutualAuthentication ∷ []) s.kind) (is_token (data_in s.command.body) s.state.phase) _ s by_proof

-- each rule that concerns the kind holds, where none fails
abbrev pub HoldsIn : Situation → RuleRow → Type 0
HoldsIn s row = (concerns row.kinds s.kind && not (row.holds s)) ≡ false

row_none : (b : Bool) (row : RuleRow) (later : Option RuleRow) → (if b then Some row else later) ≡ None → (b ≡ false) × (later ≡ None)
row_none true row later e = absurd (cc)
row_none false row later e = (refl, e)

pub each_holds : (n : ℕ) (rows : List RuleRow) (s : Situation) → first_failed rows s ≡ None → IfSome (slice_get rows n) (HoldsIn s)
each_holds n [] s e = tt
each_holds zero (row ∷ rows) s e = (row_none (concerns row.kinds s.kind && not (row.holds s)) row (first_failed rows s) e).0
each_holds (suc n) (row ∷ rows) s e = each_holds n rows s (row_none (concerns row.kinds s.kind && not (row.holds s)) row (first_failed rows s) e).1

tried_at : (concerned starts tries : Bool) → concerned ≡ true → starts ≡ true → (concerned && not (not starts || tries)) ≡ false → tries ≡ true
tried_at true true true c p e = refl
tried_at true true false c p e = absurd (cc)
tried_at true false tries c p e = absurd (cc)
tried_at false starts tries c p e = absurd (cc)

-- PACE with the PIN began only where a try was left: that is the rule behind fifteen others
pub try_held : (s : Situation) → s.kind ≡ Some EncryptedNonce → is_compared (outcome s).rule ≡ true → starts_pin s.state.phase ≡ true
    → has_try s.kept.fields ≡ true
try_held s kind e starts =
    tried_at (concerns (EncryptedNonce ∷ []) s.kind) (starts_pin s.state.phase) (has_try s.kept.fields) (ap (concerns (EncryptedNonce ∷ [])) kind) starts
    (each_holds 15 rules_unproved s (unproved_hold s e).0)

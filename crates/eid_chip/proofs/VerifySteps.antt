-- A VERIFY of auxiliary data: what refuses it, and that it fails no rule else.
use Rattle.std.proofs.Common.{◌≡◌, ap, List, [], ◌++◌, ℕ, Option, None, Some, refl}
use Rattle.std.specs.Prelude.{slice_index_or, unwrap_or}
use Rattle.eid_apdu.specs.Command.{PlainCommand}
use Rattle.eid_aux.specs.declared.compared.Compared.{Compared}
use Rattle.eid_aux.specs.declared.compared.Compared.TheVariants.{Yes, No, NoReference}
use Rattle.eid_record.specs.Plain.{FullRecord, PlainRecord}
use Rattle.eid_model.specs.declared.comparison.Comparison.{Comparison}
use Rattle.eid_model.specs.declared.comparison.Comparison.TheVariants.{Age, Validity, Community}
use Rattle.eid_model.specs.declared.kind.Kind.TheVariants.{VerifyAuxiliary}
use Rattle.eid_model.specs.Auxiliary.{compared_to, comparison_in, reference_file, sent_by}
use Rattle.eid_model.specs.Runs.{entered, claimed}
use Rattle.eid_model.specs.Rules.{answer_rules, commit_rules, first_failed, kind_rules, proof_rules}
use Rattle.eid_model.specs.Sessions.{State}
use Rattle.eid_chip.specs.Granting.{comparing_refused, refusal_of, sent_refused, verdict_refused}
use Rattle.eid_chip.specs.Steps.{PlainRefusal, known, refusal_by}
use Rattle.eid_chip.specs.Transitions.{state_carried_out, state_refused}
use Rattle.eid_chip.proofs.RightSteps.{MayCompare, comparing_served}

pub verify_unformed : (kept : FullRecord) (old : State) (c : PlainCommand) → comparison_in c.body ≡ None → refusal_by kind_rules (known VerifyAuxiliary kept old c []) ≡ refusal_of 10 0x6A80
verify_unformed kept old c formed = rw formed refl

-- what is stored for the comparison
abbrev pub stored_for : FullRecord → Comparison → Option (List ℕ)
stored_for kept comparison = slice_index_or kept.files (reference_file comparison) None

pub compared_fails : (kept : FullRecord) (old : State) (c : PlainCommand) (comparison : Comparison) (refused : PlainRefusal) → comparison_in c.body ≡ Some comparison → comparing_refused old comparison ≡ None
    → sent_refused comparison (stored_for kept comparison) (sent_by old.terminal comparison) ≡ Some refused → refusal_by kind_rules (known VerifyAuxiliary kept old c []) ≡ Some refused
compared_fails kept old c comparison refused formed served e = by (sent_by old.terminal comparison) refl e where
  may : MayCompare old comparison
  may = comparing_served old comparison served

  told : (sent : List ℕ) (compared : Compared) → sent_by old.terminal comparison ≡ Some sent → compared_to comparison (stored_for kept comparison) sent ≡ compared → verdict_refused compared ≡ Some refused
      → refusal_by kind_rules (known VerifyAuxiliary kept old c []) ≡ Some refused
  told sent Yes is compared so = absurd (cc)
  told sent No is compared so = rw (formed, is, compared, may.pace, may.terminal, may.holder, may.granted, may.selected, may.chip) so
  told sent NoReference is compared so = rw (formed, is, compared, may.pace, may.terminal, may.holder, may.granted, may.selected, may.chip) so

  by : (sent : Option (List ℕ)) → sent_by old.terminal comparison ≡ sent → sent_refused comparison (stored_for kept comparison) sent ≡ Some refused → refusal_by kind_rules (known VerifyAuxiliary kept old c []) ≡ Some refused
  by None is so = rw (formed, is, may.pace, may.terminal, may.holder, may.granted, may.selected, may.chip) so
  by (Some sent) is so = told sent (compared_to comparison (stored_for kept comparison) sent) is refl so

pub compared_passes : (kept : FullRecord) (old : State) (c : PlainCommand) (comparison : Comparison) → comparison_in c.body ≡ Some comparison → comparing_refused old comparison ≡ None
    → sent_refused comparison (stored_for kept comparison) (sent_by old.terminal comparison) ≡ None → first_failed (kind_rules ++ answer_rules ++ commit_rules ++ proof_rules) (known VerifyAuxiliary kept old c []) ≡ None
compared_passes kept old c comparison formed served e = by (sent_by old.terminal comparison) refl e where
  may : MayCompare old comparison
  may = comparing_served old comparison served

  told : (sent : List ℕ) (compared : Compared) → sent_by old.terminal comparison ≡ Some sent → compared_to comparison (stored_for kept comparison) sent ≡ compared → verdict_refused compared ≡ None
      → first_failed (kind_rules ++ answer_rules ++ commit_rules ++ proof_rules) (known VerifyAuxiliary kept old c []) ≡ None
  told sent Yes is compared so = rw (formed, is, compared, may.pace, may.terminal, may.holder, may.granted, may.selected, may.chip) refl
  told sent No is compared so = absurd (cc)
  told sent NoReference is compared so = absurd (cc)

  by : (sent : Option (List ℕ)) → sent_by old.terminal comparison ≡ sent → sent_refused comparison (stored_for kept comparison) sent ≡ None
      → first_failed (kind_rules ++ answer_rules ++ commit_rules ++ proof_rules) (known VerifyAuxiliary kept old c []) ≡ None
  by None is so = absurd (cc)
  by (Some sent) is so = told sent (compared_to comparison (stored_for kept comparison) sent) is refl so

pub verify_leaves : (kept : PlainRecord) (old : State) (c : PlainCommand) → state_refused old ≡ state_carried_out kept VerifyAuxiliary c [] old
unfolding entered claimed
verify_leaves kept old c = refl

-- an absent file is no reference, and an empty one is none either
compared_empty : (comparison : Comparison) (sent : List ℕ) → compared_to comparison (Some []) sent ≡ compared_to comparison None sent
compared_empty Age sent = refl
compared_empty Validity sent = refl
compared_empty Community sent = refl

pub absent_as_empty : (comparison : Comparison) (stored sent : Option (List ℕ)) → sent_refused comparison (Some (unwrap_or stored [])) sent ≡ sent_refused comparison stored sent
absent_as_empty comparison (Some stored) sent = refl
absent_as_empty comparison None None = refl
absent_as_empty comparison None (Some sent) = ap verdict_refused (compared_empty comparison sent)

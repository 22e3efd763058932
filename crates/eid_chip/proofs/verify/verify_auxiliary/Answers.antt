-- A comparison is refused by the first failed rule, or carried out.
use Rattle.std.proofs.Common.{◌∙◌, ap, sym, refl}
use Rattle.std.specs.Prelude.{option_map}
use Rattle.eid_apdu.specs.Answer.{plain_reply}
use Rattle.eid_apdu.specs.Command.{plain_command}
use Rattle.eid_base.specs.declared.codes.Rule.{Rule}
use Rattle.eid_model.specs.Auxiliary.{sent_by}
use Rattle.eid_model.specs.declared.kind.Kind.TheVariants.{VerifyAuxiliary}
use Rattle.eid_chip.specs.Endings.{reacted}
use Rattle.eid_chip.specs.Granting.{comparing_refused, sent_refused}
use Rattle.eid_chip.specs.Held.{held}
use Rattle.eid_chip.specs.States.{state}
use Rattle.eid_chip.specs.Steps.{refusal}
use Rattle.eid_chip.specs.Transitions.{two_messages_later}
use Rattle.eid_chip.proofs.CarriedOut.{carried, idle_state}
use Rattle.eid_chip.proofs.Outcomes.{kind_refused}
use Rattle.eid_chip.proofs.RightSteps.{comparing_at, comparing_fails, comparing_rules, passed_is, refused_is, sent_rules}
use Rattle.eid_chip.proofs.VerifySteps.{compared_fails, compared_passes, stored_for, verify_leaves}
use Rattle.eid_chip.proofs.verify.verify_auxiliary.Goals as goal

pub returns-in-Err-clause-told : goal.returns-in-Err-clause-told
returns-in-Err-clause-told g c = λ channel.
    let kept = held (g.E.Eeprom.cells c.args.cells.now) in
    let old = state c.args.session.now channel in
    let command = plain_command c.args.c.now in
    let so = refused_is c.check_comparison.result c.in-Err.refusal (comparing_refused old c.in-Some.comparison) (c.check_comparison.ensures ∙ comparing_at c.args.session.now channel c.in-Some.comparison) c.in-Err.is in
    let r = c.refused-in-Err in
    (kind_refused VerifyAuxiliary kept old command (refusal c.in-Err.refusal) (reacted r.result r.new.session) (plain_reply r.new.reply)
    (comparing_fails kept old command c.in-Some.comparison (refusal c.in-Err.refusal) (sym c.in-Some.ensures) so.0) (so.1 (comparing_rules old c.in-Some.comparison))
    (ap (λ (x : Rule). x.0) r.ensures.rule) r.ensures.reply (r.ensures.left channel)).1

pub returns-in-Err-compare_kept-clause-told : goal.returns-in-Err-compare_kept-clause-told
returns-in-Err-compare_kept-clause-told g c = λ channel.
    let kept = held (g.E.Eeprom.cells c.args.cells.now) in
    let old = state c.args.session.now channel in
    let command = plain_command c.args.c.now in
    let served = passed_is c.check_comparison.result c.in_default-check_comparison.field-0 (comparing_refused old c.in-Some.comparison) (c.check_comparison.ensures ∙ comparing_at c.args.session.now channel c.in-Some.comparison) c.in_default-check_comparison.is in
    let refused = c.in-Err-compare_kept.refusal in
    let so = refused_is c.compare_kept.result refused (sent_refused c.in-Some.comparison (stored_for kept c.in-Some.comparison) (sent_by old.terminal c.in-Some.comparison)) c.compare_kept.ensures c.in-Err-compare_kept.is in
    let r = c.refused-in-Err-compare_kept in
    (kind_refused VerifyAuxiliary kept old command (refusal refused) (reacted r.result r.new.session) (plain_reply r.new.reply)
    (compared_fails kept old command c.in-Some.comparison (refusal refused) (sym c.in-Some.ensures) served so.0) (so.1 (sent_rules c.in-Some.comparison (stored_for kept c.in-Some.comparison) (sent_by old.terminal c.in-Some.comparison)))
    (ap (λ (x : Rule). x.0) r.ensures.rule) r.ensures.reply (r.ensures.left channel)).1

pub returns-clause-told : goal.returns-clause-told
returns-clause-told g c = λ channel.
    let kept = held (g.E.Eeprom.cells c.args.cells.now) in
    let old = state c.args.session.now channel in
    let command = plain_command c.args.c.now in
    let served = passed_is c.check_comparison.result c.in_default-check_comparison.field-0 (comparing_refused old c.in-Some.comparison) (c.check_comparison.ensures ∙ comparing_at c.args.session.now channel c.in-Some.comparison) c.in_default-check_comparison.is in
    let yes = passed_is c.compare_kept.result c.in_default-compare_kept.field-0 (sent_refused c.in-Some.comparison (stored_for kept c.in-Some.comparison) (sent_by old.terminal c.in-Some.comparison)) c.compare_kept.ensures c.in_default-compare_kept.is in
    let passes = compared_passes kept old command c.in-Some.comparison (sym c.in-Some.ensures) served yes in
    let out = c.carried_out.ensures.did in
    let later = option_map two_messages_later channel in
    carried VerifyAuxiliary kept old command (reacted c.carried_out.result c.end_run.new.self) (plain_reply c.carried_out.new.reply) refl passes out.0 out.2 out.1
    (idle_state c.end_run.new.self c.args.session.now.memory later c.end_run.ensures.idle.0 c.end_run.ensures.idle.1 c.end_run.ensures.memory ∙ verify_leaves kept.fields old command)

-- The selection is refused by the first failed rule, or carried out.
use Rattle.std.proofs.Common.{ap, refl, sym, ◌∙◌}
use Rattle.std.specs.Prelude.{option_map}
use Rattle.eid_apdu.specs.Answer.{plain_reply}
use Rattle.eid_apdu.specs.Command.{plain_command}
use Rattle.eid_base.specs.declared.codes.Rule.{Rule}
use Rattle.eid_model.specs.declared.kind.Kind.TheVariants.{SelectRestrictedIdentification}
use Rattle.eid_chip.specs.Endings.{reacted}
use Rattle.eid_chip.specs.Granting.{identification_refused}
use Rattle.eid_chip.specs.States.{state}
use Rattle.eid_chip.specs.Steps.{refusal}
use Rattle.eid_chip.specs.Transitions.{two_messages_later}
use Rattle.eid_chip.specs.declared.session.Session.{Session}
use Rattle.eid_chip.proofs.CarriedOut.{carried}
use Rattle.eid_chip.proofs.Outcomes.{kind_refused}
use Rattle.eid_chip.proofs.RightSteps.{identification_at, identification_fails, identification_rules, passed_is, refused_is}
use Rattle.eid_chip.proofs.SectorSteps.{selection_leaves, selection_passes}
use Rattle.eid_chip.proofs.restricted_identification.select_restricted_identification.Goals as goal

pub returns-in-Err-clause-told : goal.returns-in-Err-clause-told
returns-in-Err-clause-told c = λ kept channel.
    let old = state c.args.session.now channel in
    let command = plain_command c.args.c.now in
    let named = sym c.names_restricted_identification.ensures ∙ c.if-not-names_restricted_identification.false in
    let so = refused_is c.check_identification.result c.in-Err.refusal (identification_refused old) (c.check_identification.ensures ∙ identification_at c.args.session.now channel) c.in-Err.is in
    let r = c.refused-in-Err in
    (kind_refused SelectRestrictedIdentification kept old command (refusal c.in-Err.refusal) (reacted r.result r.new.session) (plain_reply r.new.reply)
    (identification_fails kept old command (refusal c.in-Err.refusal) named so.0) (so.1 (identification_rules old))
    (ap (λ (x : Rule). x.0) r.ensures.rule) r.ensures.reply (r.ensures.left channel)).1

pub returns-clause-told : goal.returns-clause-told
returns-clause-told c = λ kept channel.
    let old = state c.args.session.now channel in
    let command = plain_command c.args.c.now in
    let named = sym c.names_restricted_identification.ensures ∙ c.if-not-names_restricted_identification.false in
    let served = passed_is c.check_identification.result c.in_default.field-0 (identification_refused old) (c.check_identification.ensures ∙ identification_at c.args.session.now channel) c.in_default.is in
    let out = c.carried_out.ensures.did in
    carried SelectRestrictedIdentification kept old command (reacted c.carried_out.result c.go_on.new.self) (plain_reply c.carried_out.new.reply) refl (selection_passes kept old command named served) out.0 out.2 out.1
    (ap (λ (s : Session). state s (option_map two_messages_later channel)) c.go_on.ensures ∙ selection_leaves kept old command)

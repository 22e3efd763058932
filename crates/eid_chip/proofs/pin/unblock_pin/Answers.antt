-- An unblocking is refused by the first failed rule, or committed.
use Rattle.std.proofs.Common.{◌∙◌, [], refl, ap, sym}
use Rattle.eid_apdu.specs.Command.{plain_command}
use Rattle.eid_base.specs.declared.codes.Rule.{Rule}
use Rattle.eid_copro.proofs.Asking.{not_asked}
use Rattle.eid_record.specs.Plain.{PlainRecord}
use Rattle.eid_model.specs.declared.kind.Kind.TheVariants.{UnblockPin}
use Rattle.eid_chip.specs.Endings.{reacted}
use Rattle.eid_chip.specs.Granting.{unblocking_refused}
use Rattle.eid_chip.specs.Held.{held}
use Rattle.eid_chip.specs.States.{state}
use Rattle.eid_chip.specs.Steps.{refusal}
use Rattle.eid_chip.proofs.HeldFiles.{held_fields}
use Rattle.eid_chip.proofs.Outcomes.{refused_unasked}
use Rattle.eid_chip.proofs.Management.{unblock_fails, unblock_unformed, unblocks}
use Rattle.eid_chip.proofs.RightSteps.{unblocking_at, unblocking_rules, passed_is, refused_is}
use Rattle.eid_chip.proofs.pin.unblock_pin.Goals as goal

pub returns-then-not-is_empty-clause-performed : goal.returns-then-not-is_empty-clause-performed
returns-then-not-is_empty-clause-performed g c = λ copro.
    let command = plain_command c.args.c.now in
    let r = c.refused in
    refused_unasked UnblockPin c.args.session.now command (record { rule = 10; status = 0x6A80 }) _ (reacted r.result r.new.session) _ copro _ _ _ c.requires.fits (c.uncommitted.ensures.ended _)
    (λ channel. (unblock_unformed (held (g.E.Eeprom.cells c.args.cells.now)) (state c.args.session.now channel) command (sym c.if-not-is_empty.ensures), refl))
    (ap (λ (x : Rule). x.0) r.ensures.rule) r.ensures.reply r.ensures.left

pub returns-in-Err-clause-performed : goal.returns-in-Err-clause-performed
returns-in-Err-clause-performed g c = λ copro.
    let command = plain_command c.args.c.now in
    let r = c.refused-in-Err in
    let kept = held (g.E.Eeprom.cells c.args.cells.now) in
    let left = ap (λ (r : PlainRecord). r.unblocks) (held_fields c.args.store.now (g.E.Eeprom.device c.args.cells.now) (g.E.Eeprom.cells c.args.cells.now) c.requires.fits ∙ sym c.kept.ensures) in
    refused_unasked UnblockPin c.args.session.now command (refusal c.in-Err.refusal) _ (reacted r.result r.new.session) _ copro _ _ _ c.requires.fits (c.uncommitted-in-Err.ensures.ended _)
    (λ channel. let old = state c.args.session.now channel in
    let so = refused_is c.check_unblocking.result c.in-Err.refusal (unblocking_refused old kept.fields.unblocks) (c.check_unblocking.ensures ∙ unblocking_at c.args.session.now channel _ ∙ ap (unblocking_refused old) (sym left)) c.in-Err.is in
    (unblock_fails kept old command (refusal c.in-Err.refusal) (sym c.if-not-is_empty.ensures) so.0, so.1 (unblocking_rules old kept.fields.unblocks)))
    (ap (λ (x : Rule). x.0) r.ensures.rule) r.ensures.reply r.ensures.left

pub returns-clause-performed : goal.returns-clause-performed
returns-clause-performed g c = λ copro.
    let command = plain_command c.args.c.now in
    let kept = held (g.E.Eeprom.cells c.args.cells.now) in
    let left = ap (λ (r : PlainRecord). r.unblocks) (held_fields c.args.store.now (g.E.Eeprom.device c.args.cells.now) (g.E.Eeprom.cells c.args.cells.now) c.requires.fits ∙ sym c.kept.ensures) in
    record {
      asks = [];
      were_asked = not_asked copro;
      ended = λ channel. let old = state c.args.session.now channel in
          let served = passed_is c.check_unblocking.result c.in_default.field-0 (unblocking_refused old kept.fields.unblocks) (c.check_unblocking.ensures ∙ unblocking_at c.args.session.now channel _ ∙ ap (unblocking_refused old) (sym left)) c.in_default.is in
          c.commit_one.ensures.ended copro copro channel UnblockPin command [] (unblocks kept old command c.was_with_puk-by_puk.result (sym c.if-not-is_empty.ensures) served c.was_with_puk-by_puk.ensures);
      layout = c.commit_one.ensures.layout;
    }

-- To make the PIN active, or not, is refused by the first failed rule, or committed.
use Rattle.std.proofs.Common.{◌∙◌, [], refl, ap, sym}
use Rattle.eid_apdu.specs.Command.{plain_command}
use Rattle.eid_base.specs.declared.codes.Rule.{Rule}
use Rattle.eid_copro.proofs.Asking.{not_asked}
use Rattle.eid_chip.specs.Endings.{reacted}
use Rattle.eid_chip.specs.Granting.{activation, manager_refused}
use Rattle.eid_chip.specs.Held.{held}
use Rattle.eid_chip.specs.States.{state}
use Rattle.eid_chip.specs.Steps.{refusal}
use Rattle.eid_chip.proofs.Outcomes.{refused_unasked}
use Rattle.eid_chip.proofs.Management.{activates, activation_unformed}
use Rattle.eid_chip.proofs.RightSteps.{activation_fails, manager_at, manager_rules, passed_is, refused_is}
use Rattle.eid_chip.proofs.pin.set_active.Goals as goal

pub returns-then-not-is_empty-clause-performed : goal.returns-then-not-is_empty-clause-performed
returns-then-not-is_empty-clause-performed g c = λ copro.
    let command = plain_command c.args.c.now in
    let r = c.refused in
    refused_unasked (activation c.args.active) c.args.session.now command (record { rule = 10; status = 0x6A80 }) _ (reacted r.result r.new.session) _ copro _ _ _ c.requires.fits (c.uncommitted.ensures.ended _)
    (λ channel. (activation_unformed c.args.active (held (g.E.Eeprom.cells c.args.cells.now)) (state c.args.session.now channel) command (sym c.if-not-is_empty.ensures), refl))
    (ap (λ (x : Rule). x.0) r.ensures.rule) r.ensures.reply r.ensures.left

pub returns-in-Err-clause-performed : goal.returns-in-Err-clause-performed
returns-in-Err-clause-performed g c = λ copro.
    let command = plain_command c.args.c.now in
    let r = c.refused-in-Err in
    let kept = held (g.E.Eeprom.cells c.args.cells.now) in
    refused_unasked (activation c.args.active) c.args.session.now command (refusal c.in-Err.refusal) _ (reacted r.result r.new.session) _ copro _ _ _ c.requires.fits (c.uncommitted-in-Err.ensures.ended _)
    (λ channel. let old = state c.args.session.now channel in
    let so = refused_is c.check_manager.result c.in-Err.refusal (manager_refused old) (c.check_manager.ensures ∙ manager_at c.args.session.now channel) c.in-Err.is in
    (activation_fails c.args.active kept old command (refusal c.in-Err.refusal) (sym c.if-not-is_empty.ensures) so.0, so.1 (manager_rules old)))
    (ap (λ (x : Rule). x.0) r.ensures.rule) r.ensures.reply r.ensures.left

pub returns-clause-performed : goal.returns-clause-performed
returns-clause-performed g c = λ copro.
    let command = plain_command c.args.c.now in
    let kept = held (g.E.Eeprom.cells c.args.cells.now) in
    record {
      asks = [];
      were_asked = not_asked copro;
      ended = λ channel. let old = state c.args.session.now channel in
          let served = passed_is c.check_manager.result c.in_default.field-0 (manager_refused old) (c.check_manager.ensures ∙ manager_at c.args.session.now channel) c.in_default.is in
          c.commit_one.ensures.ended copro copro channel (activation c.args.active) command [] (activates c.args.active kept old command (sym c.if-not-is_empty.ensures) served);
      layout = c.commit_one.ensures.layout;
    }

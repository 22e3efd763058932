-- A new CAN is refused by the first failed rule, or committed.
use Rattle.std.proofs.Common.{◌∙◌, [], refl, ap}
use Rattle.eid_apdu.specs.Command.{plain_command}
use Rattle.eid_base.specs.declared.codes.Rule.{Rule}
use Rattle.eid_copro.proofs.Asking.{not_asked}
use Rattle.eid_model.specs.declared.kind.Kind.TheVariants.{ChangeCan}
use Rattle.eid_chip.specs.Endings.{reacted}
use Rattle.eid_chip.specs.Granting.{manager_refused}
use Rattle.eid_chip.specs.Held.{held}
use Rattle.eid_chip.specs.States.{state}
use Rattle.eid_chip.specs.Steps.{refusal}
use Rattle.eid_chip.proofs.Outcomes.{refused_unasked}
use Rattle.eid_chip.proofs.Management.{can_unformed, changes_can}
use Rattle.eid_chip.proofs.RightSteps.{can_fails, manager_at, manager_rules, passed_is, refused_is}
use Rattle.eid_chip.proofs.pin.change_can.Goals as goal

pub returns-in_default-clause-performed : goal.returns-in_default-clause-performed
returns-in_default-clause-performed g c = λ copro.
    let command = plain_command c.args.c.now in
    let r = c.refused in
    refused_unasked ChangeCan c.args.session.now command (record { rule = 10; status = 0x6A80 }) _ (reacted r.result r.new.session) _ copro _ _ _ c.requires.fits (c.uncommitted.ensures.ended _)
    (λ channel. (can_unformed (held (g.E.Eeprom.cells c.args.cells.now)) (state c.args.session.now channel) command c.in_default.ensures.none, refl))
    (ap (λ (x : Rule). x.0) r.ensures.rule) r.ensures.reply r.ensures.left

pub returns-in-Err-clause-performed : goal.returns-in-Err-clause-performed
returns-in-Err-clause-performed g c = λ copro.
    let command = plain_command c.args.c.now in
    let r = c.refused-in-Err in
    let kept = held (g.E.Eeprom.cells c.args.cells.now) in
    refused_unasked ChangeCan c.args.session.now command (refusal c.in-Err.refusal) _ (reacted r.result r.new.session) _ copro _ _ _ c.requires.fits (c.uncommitted-in-Err.ensures.ended _)
    (λ channel. let old = state c.args.session.now channel in
    let so = refused_is c.check_manager.result c.in-Err.refusal (manager_refused old) (c.check_manager.ensures ∙ manager_at c.args.session.now channel) c.in-Err.is in
    (can_fails kept old command (refusal c.in-Err.refusal) c.in-Some.ensures.found.2 so.0, so.1 (manager_rules old)))
    (ap (λ (x : Rule). x.0) r.ensures.rule) r.ensures.reply r.ensures.left

pub returns-clause-performed : goal.returns-clause-performed
returns-clause-performed g c = λ copro.
    let command = plain_command c.args.c.now in
    let kept = held (g.E.Eeprom.cells c.args.cells.now) in
    record {
      asks = [];
      were_asked = not_asked copro;
      ended = λ channel. let old = state c.args.session.now channel in
          let served = passed_is c.check_manager.result c.in_default-check_manager.field-0 (manager_refused old) (c.check_manager.ensures ∙ manager_at c.args.session.now channel) c.in_default-check_manager.is in
          c.commit_one.ensures.ended copro copro channel ChangeCan command [] (changes_can kept old command c.in-Some.can c.in-Some.ensures.found.2 served c.in-Some.ensures.found.0);
      layout = c.commit_one.ensures.layout;
    }

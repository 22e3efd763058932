-- Carried out: a protocol of chip authentication is chosen, for the terminal that is known.
use Rattle.std.proofs.Common.{◌≡◌, true, Some, ap, sym, refl, ◌∙◌}
use Rattle.std.specs.Prelude.{is_some, option_map}
use Rattle.eid_apdu.specs.Command.{plain_command}
use Rattle.eid_apdu.specs.Answer.{plain_reply}
use Rattle.eid_ca.specs.View.{chosen_view}
use Rattle.eid_cvc.specs.Chains.{known_view}
use Rattle.eid_model.specs.declared.kind.Kind.TheVariants.{SelectChipAuthentication}
use Rattle.eid_chip.specs.Endings.{reacted}
use Rattle.eid_chip.specs.States.{memory, state}
use Rattle.eid_chip.specs.Transitions.{two_messages_later}
use Rattle.eid_chip.specs.declared.session.Session.{Session}
use Rattle.eid_chip.proofs.CarriedOut.{carried}
use Rattle.eid_chip.proofs.ChipSteps.{selection_leaves, selection_passes}
use Rattle.eid_chip.proofs.Selections.{some_after}
use Rattle.eid_chip.proofs.chip_authentication.select_chip_authentication.Goals as goal

pub returns-in-Ok-clause-told : goal.returns-in-Ok-clause-told
returns-in-Ok-clause-told c = λ kept channel.
    let old = state c.args.session.now channel in
    let command = plain_command c.args.c.now in
    let there : old.terminal ≡ Some (known_view c.in-Some.terminal) = ap (option_map known_view) c.in-Some.is in
    let pace : is_some old.pace ≡ true = some_after memory c.args.session.now.memory.pace ∙ c.if-is_none.ensures in
    let passes = selection_passes kept old command (sym c.if-not-names_chip_authentication.ensures) pace (rw there refl) c.if-session.false in
    let out = c.carried_out.ensures.did in
    carried SelectChipAuthentication kept old command (reacted c.carried_out.result c.authenticate.new.self) (plain_reply c.carried_out.new.reply) refl passes out.0 out.2 out.1
    (ap (λ (s : Session). state s (option_map two_messages_later channel)) c.authenticate.ensures ∙ selection_leaves kept old command (known_view c.in-Some.terminal) (chosen_view c.in-Ok.chosen) there c.in-Ok.ensures)
